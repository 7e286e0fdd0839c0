-- More literals and more nodes keep what is equal, and what is contradicted.
use Rattle.std.proofs.Common.{◌≡◌, ℕ, zero, suc, ℤ, Bool, true, false, List, [], ◌∷◌, ◌++◌, map, take, drop, length, Contains, Option, None, Some, slice_get, refl, sym, ap, subst, ◌∙◌, arith, if◌then◌else◌}
use Rattle.std.specs.List.{filter_map, cons_option}
use Rattle.std.specs.Option.{option_and_then}
use Rattle.std.proofs.lemmas.List.{take-append-drop}
use Rattle.std.proofs.lemmas.List.Elements.{Contains-append_right}
use Rattle.df_lemmas.proofs.Alls.{none_there}
use Rattle.df_lemmas.proofs.Options.{then_some}
use Rattle.df_form.specs.declared.log.Lit.{Lit}
use Rattle.df_form.specs.declared.log.Pair.{Pair}
use Rattle.df_form.specs.Node.{Node}
use Rattle.df_form.specs.Clause.{Clause, yes, no, negation}
use Rattle.df_form.proofs.Values.{Grows, grown_get}
use Rattle.df_row.specs.Row.{number_of_op}
use Rattle.df_rules.specs.Congruence.{sides_of, equality, negative_equality, negative_equalities}
use Rattle.df_cong.specs.declared.answer.Reason.{Reason}
use Rattle.df_classes.specs.Equal.{AreEqual, AreAllEqual, named, itself, turned, through, applied, none, both, IsContradicted, equals, opposites, numbers}
use Rattle.df_cong.specs.Theory.{IsReason}
use Rattle.df_cong.specs.Laws.{ContradictionsStay}
use Rattle.df_classes.proofs.Pairs.{AllAmong}
use Rattle.df_cong.proofs.Lines.{lines_are_contradictions}

-- ---- lists

behind : {A : Type 0} (o : Option A) (xs : List A) (x : A) → Contains xs x → Contains (cons_option o xs) x
behind None xs x there = there
behind (Some y) xs x there = Contains-append_right (y ∷ []) xs x there

-- what a member of a list gives is among what the list gives
pub filtered_there : {A B : Type 0} (f : A → Option B) (xs : List A) (x : A) (y : B) → Contains xs x → f x ≡ Some y → Contains (filter_map f xs) y
filtered_there f [] x y there e = absurd (none_there x there)
filtered_there f (z ∷ xs) x y (zero, less, same) e = subst (λ o. Contains (cons_option o (filter_map f xs)) y) (sym (ap f same ∙ e)) (0, omega arith, refl)
filtered_there f (z ∷ xs) x y (suc k, less, same) e = behind (f z) (filter_map f xs) y (filtered_there f xs x y (k, omega (arith, less), same) e)

pub there_filtered : {A B : Type 0} (f : A → Option B) (xs : List A) (y : B) → Contains (filter_map f xs) y → (x : A) × Contains xs x × (f x ≡ Some y)
there_filtered f [] y there = absurd (none_there y there)
there_filtered {A} {B} f (x ∷ xs) y there = by (f x) refl there (there_filtered f xs y)
  where
    later : (z : A) × Contains xs z × (f z ≡ Some y) → (z : A) × Contains (x ∷ xs) z × (f z ≡ Some y)
    later found = (found.0, Contains-append_right (x ∷ []) xs found.0 found.1, found.2)

    by : (o : Option B) → f x ≡ o → Contains (cons_option o (filter_map f xs)) y → (Contains (filter_map f xs) y → (z : A) × Contains xs z × (f z ≡ Some y)) → (z : A) × Contains (x ∷ xs) z × (f z ≡ Some y)
    by None e here rest = later (rest here)
    by (Some z) e (zero, less, same) rest = (x, (0, omega arith, refl), e ∙ ap (λ w. Some w) same)
    by (Some z) e (suc k, less, same) rest = later (rest (k, omega (arith, less), same))

there_mapped : {A B : Type 0} (f : A → B) (xs : List A) (y : B) → Contains (map f xs) y → (x : A) × Contains xs x × (f x ≡ y)
there_mapped f [] y there = absurd (none_there y there)
there_mapped f (x ∷ xs) y (zero, less, same) = (x, (0, omega arith, refl), same)
there_mapped f (x ∷ xs) y (suc k, less, same) = let found = there_mapped f xs y (k, omega (arith, less), same) in (found.0, Contains-append_right (x ∷ []) xs found.0 found.1, found.2)

mapped_there : {A B : Type 0} (f : A → B) (xs : List A) (x : A) → Contains xs x → Contains (map f xs) (f x)
mapped_there f [] x there = absurd (none_there x there)
mapped_there f (z ∷ xs) x (zero, less, same) = (0, omega arith, ap f same)
mapped_there f (z ∷ xs) x (suc k, less, same) = Contains-append_right (f z ∷ []) (map f xs) (f x) (mapped_there f xs x (k, omega (arith, less), same))

abbrev pub AreAmong : List Lit → List Lit → Type 0
AreAmong few many = (l : Lit) → Contains few l → Contains many l

negations_among : (few many : List Lit) → AreAmong few many → AreAmong (map negation few) (map negation many)
negations_among few many among l there =
    let found = there_mapped negation few l there in
    subst (Contains (map negation many)) found.2 (mapped_there negation many found.0 (among found.0 found.1))

-- ---- nodes that stay

module _ (nodes more : List Node) (stay : (n : ℕ) (node : Node) → slice_get nodes n ≡ Some node → slice_get more n ≡ Some node) where
  mutual
    pub equal_grows : (few many : List Pair) → AllAmong few many → (a b : ℕ) → AreEqual nodes few a b → AreEqual more many a b
    equal_grows few many among a b (named {pair} there) = named (among pair there)
    equal_grows few many among a b itself = itself
    equal_grows few many among a b (turned h) = turned (equal_grows few many among b a h)
    equal_grows few many among a b (through {b = m} h k) = through (equal_grows few many among a m h) (equal_grows few many among m b k)
    equal_grows few many among a b (applied {first} {second} left right op all) = applied (stay a first left) (stay b second right) op (all_grow few many among first.parts second.parts all)

    all_grow : (few many : List Pair) → AllAmong few many → (xs ys : List ℕ) → AreAllEqual nodes few xs ys → AreAllEqual more many xs ys
    all_grow few many among xs ys none = none
    all_grow few many among xs ys (both {a} {b} {xs = us} {ys = vs} h rest) = both (equal_grows few many among a b h) (all_grow few many among us vs rest)

  -- what is found at a node
  found_grows : {A : Type 0} (f : Node → Option A) (n : ℕ) (x : A) → option_and_then f (slice_get nodes n) ≡ Some x → option_and_then f (slice_get more n) ≡ Some x
  found_grows f n x e = let found = then_some f (slice_get nodes n) x e in ap (option_and_then f) (stay n found.0 found.1) ∙ found.2

  equality_grows : (n : ℕ) (pair : Pair) → equality nodes n ≡ Some pair → equality more n ≡ Some pair
  equality_grows n pair e = found_grows (λ (node : Node). sides_of node.op node.parts) n pair e

  negative_grows : (l : Lit) (pair : Pair) → negative_equality nodes l ≡ Some pair → negative_equality more l ≡ Some pair
  negative_grows l pair e = by l.positive e
    where
      by : (b : Bool) → (if b then None else equality nodes l.node) ≡ Some pair → (if b then None else equality more l.node) ≡ Some pair
      by true is = absurd cc
      by false is = equality_grows l.node pair is

  equalities_grow : (few many : Clause) → AreAmong few many → AllAmong (negative_equalities nodes few) (negative_equalities more many)
  equalities_grow few many among pair there =
      let found = there_filtered (negative_equality nodes) few pair there in
      filtered_there (negative_equality more) many found.0 pair (among found.0 found.1) (negative_grows found.0 pair found.2)

  pub contradiction_grows : (few many : Clause) → AreAmong few many → IsContradicted nodes few → IsContradicted more many
  contradiction_grows few many among h = by h
    where
      grown : (a b : ℕ) → AreEqual nodes (negative_equalities nodes few) a b → AreEqual more (negative_equalities more many) a b
      grown a b k = equal_grows (negative_equalities nodes few) (negative_equalities more many) (equalities_grow few many among) a b k

      number : (n : ℕ) (k : ℤ) → option_and_then (λ (node : Node). number_of_op node.op) (slice_get nodes n) ≡ Some k → option_and_then (λ (node : Node). number_of_op node.op) (slice_get more n) ≡ Some k
      number n k e = found_grows (λ (node : Node). number_of_op node.op) n k e

      by : IsContradicted nodes few → IsContradicted more many
      by (equals {n} {pair} there is k) = equals (among (yes n) there) (equality_grows n pair is) (grown pair.left pair.right k)
      by (opposites {m} {n} negative positive k) = opposites (among (no m) negative) (among (yes n) positive) (grown m n k)
      by (numbers {m} {n} {j} {k} first second differ e) = numbers (number m j first) (number n k second) differ (grown m n e)

-- ---- what is contradicted stays so

-- where there are more literals
pub contradicted_more_literals : (nodes : List Node) (few many : List Lit) → AreAmong few many → IsContradicted nodes (map negation few) → IsContradicted nodes (map negation many)
contradicted_more_literals nodes few many among h = contradiction_grows nodes nodes (λ n node e. e) (map negation few) (map negation many) (negations_among few many among) h

-- nodes that begin with others
pub begins_grows : (nodes more : List Node) → take (length nodes) more ≡ nodes → Grows nodes more
begins_grows nodes more begins = record { more = drop (length nodes) more; is = sym (take-append-drop (length nodes) more) ∙ ap (λ (ns : List Node). ns ++ drop (length nodes) more) begins }

-- where there are more nodes
pub contradicted_more_nodes : (nodes more : List Node) (clause : Clause) → take (length nodes) more ≡ nodes → IsContradicted nodes clause → IsContradicted more clause
contradicted_more_nodes nodes more clause begins h = contradiction_grows nodes more (grown_get nodes more (begins_grows nodes more begins)) clause clause (λ l there. there) h

pub contradictions_stay : ContradictionsStay
contradictions_stay nodes more few many begins among h = contradicted_more_nodes nodes more (map negation many) begins (contradicted_more_literals nodes few many among h)

-- a reason tells of a contradiction
pub reason_contradicts : (nodes : List Node) (held : List Lit) (reason : Reason) → IsReason nodes held reason → IsContradicted nodes (map negation held)
reason_contradicts nodes held reason is =
    let literals : List Lit = reason.literals.items in
    let contradicted = (lines_are_contradictions nodes (map negation literals) is.line.literals).0 (record { pairs = reason.pairs.items; line = is.line }) in
    contradicted_more_literals nodes literals held is.from_held contradicted
