-- Truths and what is chosen by them. For two truths std has `and_parts`, `and_from`, `or_cases`, `or_parts`.
use Rattle.std.proofs.Common.{◌≡◌, Bool, true, false, not, ◌&&◌, ◌||◌, cond, inl, inr, ◌⊎◌, refl}
use Rattle.std.proofs.lemmas.Bool.{and_parts, and_from}

pub three : (a b c : Bool) → (a && b && c) ≡ true → (a ≡ true) × (b ≡ true) × (c ≡ true)
three true b c e = let rest = and_parts b c e in (refl, rest.0, rest.1)
three false b c e = absurd (let f : false ≡ true = e in cc)

pub four : (a b c d : Bool) → (a && b && c && d) ≡ true → (a ≡ true) × (b ≡ true) × (c ≡ true) × (d ≡ true)
four true b c d e = let rest = three b c d e in (refl, rest.0, rest.1, rest.2)
four false b c d e = absurd (let f : false ≡ true = e in cc)

pub three_true : (a b c : Bool) → a ≡ true → b ≡ true → c ≡ true → (a && b && c) ≡ true
three_true true b c e f g = and_from b c f g
three_true false b c e f g = absurd (let h : false ≡ true = e in cc)

pub true_is_not_false : (b : Bool) → b ≡ true → b ≡ false → ⊥
true_is_not_false b p q = cc

-- "a where b": what holds wherever b does
pub holds_where : (a b : Bool) → (a || not b) ≡ true → b ≡ true → a ≡ true
holds_where true b e where_b = refl
holds_where false true e where_b = e
holds_where false false e where_b = where_b

pub good_where : (a b : Bool) → (b ≡ true → a ≡ true) → (a || not b) ≡ true
good_where true b h = refl
good_where false true h = h refl
good_where false false h = refl

-- which side was chosen
pub choice : {A : Type 0} (b : Bool) (x y z : A) → cond b x y ≡ z → ((b ≡ true) × (x ≡ z)) ⊎ ((b ≡ false) × (y ≡ z))
choice true x y z e = inl (refl, e)
choice false x y z e = inr (refl, e)
