-- The names of classes are those of the least equivalence.
use Rattle.std.proofs.Common.{◌≡◌, ℕ, zero, suc, ◌==◌, nat_lt, ◌⊎◌, inl, inr, Bool, true, false, List, [], ◌∷◌, ◌++◌, Contains, refl, sym, ap, subst, ◌∙◌, arith, append_assoc, append-nil, eqb-true, if◌then◌else◌}
use Rattle.std.specs.List.{AllZip}
use Rattle.std.specs.Cmp.Lexicographic.{pointwise}
use Rattle.std.proofs.lemmas.Bool.{and_parts, and_from}
use Rattle.std.proofs.lemmas.List.Elements.{Contains-append_left, Contains-append_right, Contains-append_cases}
use Rattle.df_lemmas.proofs.Alls.{none_there}
use Rattle.df_lemmas.proofs.Numbers.{equal_self}
use Rattle.df_form.specs.declared.log.Pair.{Pair}
use Rattle.df_rules.specs.Classes.{InOneClass, named, itself, turned, through, alone, lower, higher, joined, joined_all, is_together}
use Rattle.df_rules.specs.CongruenceLine.{members}

-- an equivalence that has the pairs has their classes
pub least : {A : Type 0} (f : ℕ → A) (pairs : List Pair) → ((pair : Pair) → Contains pairs pair → f pair.left ≡ f pair.right) → (a b : ℕ) → InOneClass pairs a b → f a ≡ f b
least f pairs all a b (named {pair} there) = all pair there
least f pairs all a b itself = refl
least f pairs all a b (turned h) = sym (least f pairs all b a h)
least f pairs all a b (through {b = m} h k) = least f pairs all a m h ∙ least f pairs all m b k

pub wider : (few many : List Pair) → ((pair : Pair) → Contains few pair → Contains many pair) → (a b : ℕ) → InOneClass few a b → InOneClass many a b
wider few many more a b (named {pair} there) = named (more pair there)
wider few many more a b itself = itself
wider few many more a b (turned h) = turned (wider few many more b a h)
wider few many more a b (through {b = m} h k) = through (wider few many more a m h) (wider few many more m b k)

same_class : (pairs : List Pair) (a b : ℕ) → a ≡ b → InOneClass pairs a b
same_class pairs a b e = subst (InOneClass pairs a) e itself

-- the names of the classes of these pairs
pub record AreNames (class : ℕ → ℕ) (pairs : List Pair) : Type 0 where
  pub together : (a b : ℕ) → class a ≡ class b → InOneClass pairs a b
  pub pairs_are : (pair : Pair) → Contains pairs pair → class pair.left ≡ class pair.right

pub names_of : (class : ℕ → ℕ) (pairs : List Pair) → AreNames class pairs → (a b : ℕ) → InOneClass pairs a b → class a ≡ class b
names_of class pairs are = least class pairs are.pairs_are

pub alone_are : AreNames alone []
alone_are = record { together = same_class []; pairs_are = λ pair there. absurd (none_there pair there) }

module _ (class : ℕ → ℕ) (pairs : List Pair) (are : AreNames class pairs) (pair : Pair) where
  abbrev more : List Pair
  more = pairs ++ pair ∷ []

  abbrev high : ℕ
  high = higher (class pair.left) (class pair.right)

  abbrev low : ℕ
  low = lower (class pair.left) (class pair.right)

  kept : (a b : ℕ) → class a ≡ class b → InOneClass more a b
  kept a b e = wider pairs more (λ q there. Contains-append_left pairs (pair ∷ []) q there) a b (are.together a b e)

  added : InOneClass more pair.left pair.right
  added = named (Contains-append_right pairs (pair ∷ []) pair (0, omega arith, refl))

  -- the two names, in one order or the other
  ends : ((high ≡ class pair.right) × (low ≡ class pair.left)) ⊎ ((high ≡ class pair.left) × (low ≡ class pair.right))
  ends = by (nat_lt (class pair.left) (class pair.right)) refl
    where
      by : (b : Bool) → nat_lt (class pair.left) (class pair.right) ≡ b → ((high ≡ class pair.right) × (low ≡ class pair.left)) ⊎ ((high ≡ class pair.left) × (low ≡ class pair.right))
      by true e = inl (ap (λ b. if b then class pair.right else class pair.left) e, ap (λ b. if b then class pair.left else class pair.right) e)
      by false e = inr (ap (λ b. if b then class pair.right else class pair.left) e, ap (λ b. if b then class pair.left else class pair.right) e)

  bridge : (a b : ℕ) → class a ≡ high → class b ≡ low → InOneClass more a b
  bridge a b p q = by ends
    where
      by : ((high ≡ class pair.right) × (low ≡ class pair.left)) ⊎ ((high ≡ class pair.left) × (low ≡ class pair.right)) → InOneClass more a b
      by (inl e) = through (kept a pair.right (p ∙ e.0)) (through (turned added) (kept pair.left b (sym e.1 ∙ sym q)))
      by (inr e) = through (kept a pair.left (p ∙ e.0)) (through added (kept pair.right b (sym e.1 ∙ sym q)))

  abbrev new : ℕ → ℕ
  new = joined class pair

  abbrev chosen_by : Bool → ℕ → ℕ
  chosen_by b n = if b then low else class n

  apart_or : (a b : ℕ) (p q : Bool) → (class a == high) ≡ p → (class b == high) ≡ q → chosen_by p a ≡ chosen_by q b → InOneClass more a b
  apart_or a b true true e f same = kept a b (eqb-true (class a) high e ∙ sym (eqb-true (class b) high f))
  apart_or a b true false e f same = bridge a b (eqb-true (class a) high e) (sym same)
  apart_or a b false true e f same = turned (bridge b a (eqb-true (class b) high f) same)
  apart_or a b false false e f same = kept a b same

  lowered : (n : ℕ) → (class n ≡ high) ⊎ (class n ≡ low) → new n ≡ low
  lowered n (inl e) = ap (λ b. chosen_by b n) (ap (λ k. k == high) e ∙ equal_self high)
  lowered n (inr e) = by (class n == high) refl
    where
      by : (b : Bool) → (class n == high) ≡ b → chosen_by b n ≡ low
      by true f = refl
      by false f = e

  both : (new pair.left ≡ low) × (new pair.right ≡ low)
  both = by ends
    where
      by : ((high ≡ class pair.right) × (low ≡ class pair.left)) ⊎ ((high ≡ class pair.left) × (low ≡ class pair.right)) → (new pair.left ≡ low) × (new pair.right ≡ low)
      by (inl e) = (lowered pair.left (inr (sym e.1)), lowered pair.right (inl (sym e.0)))
      by (inr e) = (lowered pair.left (inl (sym e.0)), lowered pair.right (inr (sym e.1)))

  pub joined_are : AreNames new more
  joined_are = record {
    together = λ a b. apart_or a b (class a == high) (class b == high) refl refl;
    pairs_are = λ q there. by q (Contains-append_cases pairs (pair ∷ []) q there);
  }
    where
      by : (q : Pair) → Contains pairs q ⊎ Contains (pair ∷ []) q → new q.left ≡ new q.right
      by q (inl old) = ap (λ k. if k == high then low else k) (are.pairs_are q old)
      by q (inr (zero, lt, e)) = subst (λ (p : Pair). new p.left ≡ new p.right) e (both.0 ∙ sym both.1)
      by q (inr (suc k, lt, e)) = absurd (omega (arith, lt))

pub joined_all_are : (class : ℕ → ℕ) (before pairs : List Pair) → AreNames class before → AreNames (joined_all class pairs) (before ++ pairs)
joined_all_are class before [] are = subst (AreNames class) (sym (append-nil before)) are
joined_all_are class before (pair ∷ others) are =
    subst (AreNames (joined_all (joined class pair) others)) (append_assoc before (pair ∷ []) others) (joined_all_are (joined class pair) (before ++ pair ∷ []) others (joined_are class before are pair))

-- arguments place by place
pub zipped : (class : ℕ → ℕ) (pairs : List Pair) → AreNames class pairs → (xs ys : List ℕ) → pointwise (is_together class) xs ys ≡ true → AllZip (InOneClass pairs) xs ys
zipped class pairs are [] [] e = tt
zipped class pairs are [] (y ∷ ys) e = absurd cc
zipped class pairs are (x ∷ xs) [] e = absurd cc
zipped class pairs are (x ∷ xs) (y ∷ ys) e =
    let parts = and_parts (is_together class x y) (pointwise (is_together class) xs ys) e in
    (are.together x y (eqb-true (class x) (class y) parts.0), zipped class pairs are xs ys parts.1)

pub is_same : (class : ℕ → ℕ) (a b : ℕ) → class a ≡ class b → is_together class a b ≡ true
is_same class a b e = ap (λ k. k == class b) e ∙ equal_self (class b)

pub unzipped : (class : ℕ → ℕ) (pairs : List Pair) → AreNames class pairs → (xs ys : List ℕ) → AllZip (InOneClass pairs) xs ys → pointwise (is_together class) xs ys ≡ true
unzipped class pairs are [] [] all = refl
unzipped class pairs are [] (y ∷ ys) all = absurd all
unzipped class pairs are (x ∷ xs) [] all = absurd all
unzipped class pairs are (x ∷ xs) (y ∷ ys) all =
    and_from (is_together class x y) (pointwise (is_together class) xs ys) (is_same class x y (names_of class pairs are x y all.0)) (unzipped class pairs are xs ys all.1)

-- nodes in one class are one, or stand in pairs
pair_members : (pairs : List Pair) (pair : Pair) → Contains pairs pair → Contains (members pairs) pair.left × Contains (members pairs) pair.right
pair_members [] pair there = absurd (none_there pair there)
pair_members (first ∷ others) pair (zero, lt, e) = ((0, omega arith, ap (λ (p : Pair). p.left) e), (1, omega arith, ap (λ (p : Pair). p.right) e))
pair_members (first ∷ others) pair (suc k, lt, e) =
    let rest = pair_members others pair (k, omega (arith, lt), e) in
    (Contains-append_right (first.left ∷ first.right ∷ []) (members others) pair.left rest.0, Contains-append_right (first.left ∷ first.right ∷ []) (members others) pair.right rest.1)

abbrev pub OneOrBoth : List Pair → ℕ → ℕ → Type 0
OneOrBoth pairs a b = (a ≡ b) ⊎ (Contains (members pairs) a × Contains (members pairs) b)

pub one_or_both : (pairs : List Pair) (a b : ℕ) → InOneClass pairs a b → OneOrBoth pairs a b
one_or_both pairs a b (named {pair} there) = inr (pair_members pairs pair there)
one_or_both pairs a b itself = inl refl
one_or_both pairs a b (turned h) = back (one_or_both pairs b a h)
  where
    back : OneOrBoth pairs b a → OneOrBoth pairs a b
    back (inl e) = inl (sym e)
    back (inr e) = inr (e.1, e.0)
one_or_both pairs a b (through {b = m} h k) = on (one_or_both pairs a m h) (one_or_both pairs m b k)
  where
    on : OneOrBoth pairs a m → OneOrBoth pairs m b → OneOrBoth pairs a b
    on (inl e) (inl f) = inl (e ∙ f)
    on (inl e) (inr f) = inr (subst (Contains (members pairs)) (sym e) f.0, f.1)
    on (inr e) (inl f) = inr (e.0, subst (Contains (members pairs)) f e.1)
    on (inr e) (inr f) = inr (e.0, f.1)
