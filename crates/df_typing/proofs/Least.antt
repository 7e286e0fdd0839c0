-- The least of what is broken, found one after another.
use Rattle.std.proofs.Common.{◌≡◌, ◌<◌, ◌⊎◌, ℕ, Bool, true, false, nat_lt, ◌==◌, ◌&&◌, ◌||◌, if◌then◌else◌, List, [], ◌∷◌, Option, Some, None, refl, sym, subst, ◌∙◌, inl, inr, arith}
use Rattle.std.proofs.lemmas.Option.{same_Some}
use Rattle.std.specs.List.{AllByRecursion}
use Rattle.df_typing.specs.Rules.{holds}
use Rattle.df_typing.specs.Asks.{Placed}
use Rattle.df_typing.specs.Least.{Fault, rank, precedes, comes_before, fault_of, IsFault, IsLeast, better, told}

first_cases : (x y : ℕ) (b : Bool) → (nat_lt x y || ((x == y) && b)) ≡ true → (x < y) ⊎ ((x ≡ y) × (b ≡ true))
first_cases x y b e = grind arith

less : (x y : ℕ) (b : Bool) → x < y → (nat_lt x y || ((x == y) && b)) ≡ true
less x y b lt = grind arith

equal : (x y : ℕ) (b : Bool) → x ≡ y → b ≡ true → (nat_lt x y || ((x == y) && b)) ≡ true
equal x y b e h = grind arith

irreflexive : (xs : List ℕ) → precedes xs xs ≡ true → ⊥
irreflexive [] e = cc
irreflexive (x ∷ xs) e = elim (first_cases x x (precedes xs xs) e) [ inl lt ↦ omega arith | inr h ↦ irreflexive xs h.1 ]

transitive : (xs ys zs : List ℕ) → precedes xs ys ≡ true → precedes ys zs ≡ true → precedes xs zs ≡ true
transitive [] ys [] e f = absurd (elim ys as (λ ys. precedes ys [] ≡ true → ⊥) [ [] ↦ λ h. cc | y ∷ ys ↦ λ h. cc ] f)
transitive [] ys (z ∷ zs) e f = refl
transitive (x ∷ xs) [] zs e f = absurd cc
transitive (x ∷ xs) (y ∷ ys) [] e f = f
transitive (x ∷ xs) (y ∷ ys) (z ∷ zs) e f = next (transitive xs ys zs) (first_cases x y (precedes xs ys) e) (first_cases y z (precedes ys zs) f)
  where
    next : (precedes xs ys ≡ true → precedes ys zs ≡ true → precedes xs zs ≡ true) → (x < y) ⊎ ((x ≡ y) × (precedes xs ys ≡ true)) → (y < z) ⊎ ((y ≡ z) × (precedes ys zs ≡ true)) → precedes (x ∷ xs) (z ∷ zs) ≡ true
    next go (inl a) (inl b) = less x z _ (omega arith)
    next go (inl a) (inr b) = less x z _ (omega (arith, b.0))
    next go (inr a) (inl b) = less x z _ (omega (arith, a.0))
    next go (inr a) (inr b) = equal x z _ (a.0 ∙ b.0) (go a.1 b.1)

-- what is before another is before a third, or the third is before that
either_way : (xs ys zs : List ℕ) → precedes xs zs ≡ true → (precedes xs ys ≡ true) ⊎ (precedes ys zs ≡ true)
either_way [] [] zs e = inr e
either_way [] (y ∷ ys) zs e = inl refl
either_way (x ∷ xs) ys [] e = absurd cc
either_way (x ∷ xs) [] (z ∷ zs) e = inr refl
either_way (x ∷ xs) (y ∷ ys) (z ∷ zs) e = next (either_way xs ys zs) (first_cases x z (precedes xs zs) e) (cases x y)
  where
    cases : (x y : ℕ) → (x < y) ⊎ ((x ≡ y) ⊎ (y < x))
    cases x y = grind arith

    beside : (x ≡ y) → (x ≡ z) → (precedes xs ys ≡ true) ⊎ (precedes ys zs ≡ true) → (precedes (x ∷ xs) (y ∷ ys) ≡ true) ⊎ (precedes (y ∷ ys) (z ∷ zs) ≡ true)
    beside e f (inl h) = inl (equal x y _ e h)
    beside e f (inr h) = inr (equal y z _ (sym e ∙ f) h)

    next : (precedes xs zs ≡ true → (precedes xs ys ≡ true) ⊎ (precedes ys zs ≡ true)) → (x < z) ⊎ ((x ≡ z) × (precedes xs zs ≡ true)) → (x < y) ⊎ ((x ≡ y) ⊎ (y < x)) → (precedes (x ∷ xs) (y ∷ ys) ≡ true) ⊎ (precedes (y ∷ ys) (z ∷ zs) ≡ true)
    next go h (inl lt) = inl (less x y _ lt)
    next go (inl h) (inr (inl e)) = inr (less y z _ (omega (arith, e)))
    next go (inl h) (inr (inr lt)) = inr (less y z _ (omega arith))
    next go (inr h) (inr (inl e)) = beside e h.0 (go h.1)
    next go (inr h) (inr (inr lt)) = inr (less y z _ (omega (arith, h.0)))

is_not : (b : Bool) → (b ≡ true → ⊥) → b ≡ false
is_not true h = absurd (h refl)
is_not false h = refl

-- what is found is the best so far or among what follows, and nothing of either comes before it
record IsFound (best : Option Fault) (asked : List Placed) (fault : Fault) : Type 0 where
  broken : IsFault asked fault ⊎ (best ≡ Some fault)
  least : (other : Fault) → IsFault asked other → comes_before other fault ≡ false
  before : (other : Fault) → best ≡ Some other → comes_before other fault ≡ false

goes_on : (best : Option Fault) (placed : Placed) (rest : List Placed) (fault : Fault) → holds placed.ask ≡ false
    → IsFound (better best (fault_of placed)) rest fault → IsFound best (placed ∷ rest) fault
goes_on None placed rest fault wrong found = record {
  broken = elim found.broken [ inl h ↦ inl (inr h) | inr h ↦ inl (inl (wrong, same_Some _ _ h)) ];
  least = λ other h. elim h [ inl h ↦ subst (λ x. comes_before x fault ≡ false) h.1 (found.before _ refl) | inr h ↦ found.least other h ];
  before = λ other h. absurd cc;
}
goes_on (Some best) placed rest fault wrong found = chosen (comes_before (fault_of placed) best) refl found
  where
    chosen : (b : Bool) → comes_before (fault_of placed) best ≡ b → IsFound (if b then Some (fault_of placed) else Some best) rest fault → IsFound (Some best) (placed ∷ rest) fault
    chosen true e found = record {
      broken = elim found.broken [ inl h ↦ inl (inr h) | inr h ↦ inl (inl (wrong, same_Some _ _ h)) ];
      least = λ other h. elim h [ inl h ↦ subst (λ x. comes_before x fault ≡ false) h.1 (found.before _ refl) | inr h ↦ found.least other h ];
      before = λ other h. subst (λ x. comes_before x fault ≡ false) (same_Some _ _ h)
          (is_not _ (λ f. let g : comes_before (fault_of placed) fault ≡ true = transitive (rank (fault_of placed)) (rank best) (rank fault) e f in
          let n : comes_before (fault_of placed) fault ≡ false = found.before _ refl in cc));
    }
    chosen false e found = record {
      broken = elim found.broken [ inl h ↦ inl (inr h) | inr h ↦ inr h ];
      least = λ other h. elim h [
        | inl h ↦ subst (λ x. comes_before x fault ≡ false) h.1
            (is_not _ (λ f. let n : comes_before best fault ≡ false = found.before _ refl in
            elim (either_way (rank (fault_of placed)) (rank best) (rank fault) f) [ inl g ↦ cc | inr g ↦ cc ]))
        | inr h ↦ found.least other h
      ];
      before = λ other h. found.before other h;
    }

passes : (best : Option Fault) (placed : Placed) (rest : List Placed) (fault : Fault) → holds placed.ask ≡ true → IsFound best rest fault → IsFound best (placed ∷ rest) fault
passes best placed rest fault right found = record {
  broken = elim found.broken [ inl h ↦ inl (inr h) | inr h ↦ inr h ];
  least = λ other h. elim h [ inl h ↦ absurd (let wrong = h.0 in cc) | inr h ↦ found.least other h ];
  before = found.before;
}

found_by : (best : Option Fault) (asked : List Placed) (fault : Fault) → told best asked ≡ Some fault → IsFound best asked fault
found_by best [] fault e = record {
  broken = inr e;
  least = λ other h. absurd h;
  before = λ other h. is_not _ (λ f. irreflexive (rank fault) (subst (λ x. comes_before x fault ≡ true) (same_Some _ _ (sym h ∙ e)) f));
}
found_by best (placed ∷ rest) fault e = tested (λ best. found_by best rest fault) (holds placed.ask) refl e
  where
    tested : ((best : Option Fault) → told best rest ≡ Some fault → IsFound best rest fault) → (b : Bool) → holds placed.ask ≡ b → told (if b then best else better best (fault_of placed)) rest ≡ Some fault → IsFound best (placed ∷ rest) fault
    tested go true h e = passes best placed rest fault h (go best e)
    tested go false h e = goes_on best placed rest fault h (go _ e)

pub told_is_least : (asked : List Placed) (fault : Fault) → told None asked ≡ Some fault → IsLeast asked fault
told_is_least asked fault e =
    let found = found_by None asked fault e in
    record { broken = elim found.broken [ inl h ↦ h | inr h ↦ absurd cc ]; least = found.least }

-- where nothing is told, all that is asked holds
pub all_hold : (best : Option Fault) (asked : List Placed) → told best asked ≡ None → (best ≡ None) × AllByRecursion (λ (placed : Placed). holds placed.ask ≡ true) asked
all_hold best [] e = (e, tt)
all_hold best (placed ∷ rest) e = tested (λ best. all_hold best rest) best (holds placed.ask) refl e
  where
    never : (best : Option Fault) (fault : Fault) → better best fault ≡ None → ⊥
    never None fault e = cc
    never (Some one) fault e = elim (comes_before fault one) as (λ b. (if b then Some fault else Some one) ≡ None → ⊥) [ true ↦ λ h. cc | false ↦ λ h. cc ] e

    tested : ((best : Option Fault) → told best rest ≡ None → (best ≡ None) × AllByRecursion (λ (placed : Placed). holds placed.ask ≡ true) rest)
        → (best : Option Fault) (b : Bool) → holds placed.ask ≡ b → told (if b then best else better best (fault_of placed)) rest ≡ None
        → (best ≡ None) × AllByRecursion (λ (placed : Placed). holds placed.ask ≡ true) (placed ∷ rest)
    tested go best true h e = let others = go best e in (others.0, (h, others.1))
    tested go best false h e = absurd (never best (fault_of placed) (go _ e).0)

pub none_broken : (asked : List Placed) (fault : Fault) → AllByRecursion (λ (placed : Placed). holds placed.ask ≡ true) asked → IsFault asked fault → ⊥
none_broken [] fault all h = h
none_broken (placed ∷ rest) fault all (inl h) = let right = all.0 in let wrong = h.0 in cc
none_broken (placed ∷ rest) fault all (inr h) = none_broken rest fault all.1 h
