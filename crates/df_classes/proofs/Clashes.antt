-- Held literals clash exactly where the least congruence contradicts them.
use Rattle.std.proofs.Common.{◌≡◌, ℕ, zero, suc, ℤ, ◌==◌, ◌⊎◌, inl, inr, Bool, true, false, not, ◌&&◌, ◌||◌, List, [], ◌∷◌, ◌++◌, map, Contains, Option, None, Some, refl, sym, ap, subst, ◌∙◌, arith, eqb-true, true≢false, if◌then◌else◌, int_eq}
use Rattle.std.specs.Option.{option_or}
use Rattle.std.specs.List.{list_any}
use Rattle.std.proofs.lemmas.Bool.{and_parts, and_from, or_cases, or_left, or_right, not-true}
use Rattle.std.proofs.lemmas.Bool.Decides.{Decides-int_eq}
use Rattle.std.proofs.lemmas.List.Elements.{Contains-append_right}
use Rattle.df_lemmas.proofs.Alls.{none_there}
use Rattle.df_lemmas.proofs.Numbers.{equal_self}
use Rattle.df_lemmas.proofs.Options.{test_some}
use Rattle.df_form.specs.declared.log.Lit.{Lit}
use Rattle.df_form.specs.declared.log.Pair.{Pair}
use Rattle.df_form.specs.Node.{Node}
use Rattle.df_form.specs.Sorting.{is_formula}
use Rattle.df_form.specs.Clause.{Clause, yes, no, negation, are_literals}
use Rattle.df_form.proofs.Literals.{negated_twice}
use Rattle.df_rules.specs.Classes.{InOneClass}
use Rattle.df_rules.specs.Congruence.{equality, Closes, IsCongruence}
use Rattle.df_rules.specs.Congruence as kern
use Rattle.df_rules.specs.CongruenceLine.{is_paired, has_positive, has_opposites, number_at, number_in, are_different, has_two_numbers}
use Rattle.df_classes.specs.Equal.{AreEqual, IsContradicted, equals, opposites, numbers}
use Rattle.df_classes.specs.HoldingView.{held_equalities}
use Rattle.df_classes.specs.mirror.State.{State, label_of}
use Rattle.df_classes.specs.mirror.Closure.{StandsBut}
use Rattle.df_classes.specs.mirror.Clash.{is_denied, has_denied, clash, AreNumbers}
use Rattle.df_classes.proofs.Labels.{labels_are_exact}
use Rattle.df_classes.proofs.Standing.{standing_labels, labels_together}

-- ---- members of lists

any_there : {A : Type 0} (test : A → Bool) (xs : List A) → list_any test xs ≡ true → (x : A) × Contains xs x × (test x ≡ true)
any_there test [] e = absurd cc
any_there {A} test (x ∷ xs) e = by (or_cases (test x) (list_any test xs) e) (any_there test xs)
  where
    by : (test x ≡ true) ⊎ (list_any test xs ≡ true) → (list_any test xs ≡ true → (y : A) × Contains xs y × (test y ≡ true)) → (y : A) × Contains (x ∷ xs) y × (test y ≡ true)
    by (inl here) rest = (x, (0, omega arith, refl), here)
    by (inr others) rest = let found = rest others in (found.0, Contains-append_right (x ∷ []) xs found.0 found.1, found.2)

pub there_any : {A : Type 0} (test : A → Bool) (xs : List A) (x : A) → Contains xs x → test x ≡ true → list_any test xs ≡ true
there_any test [] x there e = absurd (none_there x there)
there_any test (y ∷ ys) x (zero, less, same) e = or_left (test y) (list_any test ys) (subst (λ z. test z ≡ true) (sym same) e)
there_any test (y ∷ ys) x (suc k, less, same) e = or_right (test y) (list_any test ys) (there_any test ys x (k, omega (arith, less), same) e)

pub mapped_there : (xs : List Lit) (l : Lit) → Contains xs l → Contains (map negation xs) (negation l)
mapped_there [] l there = absurd (none_there l there)
mapped_there (x ∷ xs) l (zero, less, same) = (0, omega arith, ap negation same)
mapped_there (x ∷ xs) l (suc k, less, same) = Contains-append_right (negation x ∷ []) (map negation xs) (negation l) (mapped_there xs l (k, omega (arith, less), same))

pub there_mapped : (xs : List Lit) (l : Lit) → Contains (map negation xs) l → Contains xs (negation l)
there_mapped [] l there = absurd (none_there l there)
there_mapped (x ∷ xs) l (zero, less, same) = (0, omega arith, sym (negated_twice x) ∙ ap negation same)
there_mapped (x ∷ xs) l (suc k, less, same) = Contains-append_right (x ∷ []) xs (negation l) (there_mapped xs l (k, omega (arith, less), same))

is_yes : (l : Lit) → l.positive ≡ true → l ≡ yes l.node
is_yes l e = λ i. record { positive = e i; node = l.node }

is_no : (l : Lit) → l.positive ≡ false → l ≡ no l.node
is_no l e = λ i. record { positive = e i; node = l.node }

pub negations_are : (nodes : List Node) (literals : List Lit) → are_literals nodes literals ≡ true → are_literals nodes (map negation literals) ≡ true
negations_are nodes [] e = refl
negations_are nodes (l ∷ others) e =
    let parts = and_parts (is_formula nodes l.node) (are_literals nodes others) e in and_from (is_formula nodes l.node) (are_literals nodes (map negation others)) parts.0 (negations_are nodes others parts.1)

-- ---- numbers by labels

module _ (nodes : List Node) (label : ℕ → ℕ) where
  number_there : (ns : List ℕ) (c : ℕ) (k : ℤ) → number_in nodes label ns c ≡ Some k → (m : ℕ) × (label m ≡ c) × (number_at nodes m ≡ Some k)
  number_there [] c k e = absurd cc
  number_there (n ∷ others) c k e = by (number_in nodes label others c) refl e (number_there others c k)
    where
      by : (o : Option ℤ) → number_in nodes label others c ≡ o → option_or o (if label n == c then number_at nodes n else None) ≡ Some k → (number_in nodes label others c ≡ Some k → (m : ℕ) × (label m ≡ c) × (number_at nodes m ≡ Some k))
          → (m : ℕ) × (label m ≡ c) × (number_at nodes m ≡ Some k)
      by (Some x) f e go = go (f ∙ e)
      by None f e go = let here = test_some (label n == c) (number_at nodes n) k e in (n, eqb-true (label n) c here.0, here.1)

  pub same_label : (n m : ℕ) → label n ≡ label m → (label n == label m) ≡ true
  same_label n m e = ap (λ (k : ℕ). label n == k) (sym e) ∙ equal_self (label n)

  there_number : (ns : List ℕ) (m : ℕ) (j : ℤ) → Contains ns m → number_at nodes m ≡ Some j → (k : ℤ) × (number_in nodes label ns (label m) ≡ Some k)
  there_number [] m j there e = absurd (none_there m there)
  there_number (n ∷ others) m j (zero, less, same) e = by (number_in nodes label others (label m))
    where
      here : (if label n == label m then number_at nodes n else None) ≡ Some j
      here = ap (λ b. if b then number_at nodes n else None) (same_label n m (ap label same)) ∙ ap (number_at nodes) same ∙ e

      by : (o : Option ℤ) → (k : ℤ) × (option_or o (if label n == label m then number_at nodes n else None) ≡ Some k)
      by (Some x) = (x, refl)
      by None = (j, here)
  there_number (n ∷ others) m j (suc k, less, same) e =
      let rest = there_number others m j (k, omega (arith, less), same) e in
      (rest.0, ap (λ o. option_or o (if label n == label m then number_at nodes n else None)) rest.1)

differ : (a b : Option ℤ) (j k : ℤ) → a ≡ Some j → b ≡ Some k → (j ≡ k → ⊥) → are_different a b ≡ true
differ a b j k e f apart = (λ i. are_different (e i) (f i)) ∙ by (int_eq j k) refl
  where
    by : (v : Bool) → int_eq j k ≡ v → not v ≡ true
    by true g = absurd (apart ((Decides-int_eq j k).0 g))
    by false g = refl

different : (j k : ℤ) → not (int_eq j k) ≡ true → j ≡ k → ⊥
different j k e same = true≢false (sym ((Decides-int_eq j k).1 same) ∙ not-true (int_eq j k) e)

-- ---- a clash closes the line

module _ (nodes : List Node) (held : List Lit) (all : List Pair) (label : ℕ → ℕ) (ns : List ℕ) (together : (a b : ℕ) → label a ≡ label b → InOneClass all a b) where
  abbrev clause : Clause
  clause = map negation held

  denied_closes : has_denied nodes label held ≡ true → Closes nodes clause all
  denied_closes e =
      let found = any_there (is_denied nodes label) held e in
      let l : Lit = found.0 in
      let parts = and_parts (not l.positive) (is_paired label (equality nodes l.node)) found.2 in
      let there : Contains clause (yes l.node) = mapped_there held (no l.node) (subst (Contains held) (is_no l (not-true l.positive parts.0)) found.1) in
      by l.node there (equality nodes l.node) refl parts.1
    where
      by : (n : ℕ) → Contains clause (yes n) → (o : Option Pair) → equality nodes n ≡ o → is_paired label o ≡ true → Closes nodes clause all
      by n there None is e = absurd cc
      by n there (Some pair) is e = kern.equals there is (together pair.left pair.right (eqb-true (label pair.left) (label pair.right) e))

  opposites_close : has_opposites label held ≡ true → Closes nodes clause all
  opposites_close e =
      let found = any_there (λ (l : Lit). not l.positive && has_positive label held (label l.node)) held e in
      let l : Lit = found.0 in
      let parts = and_parts (not l.positive) (has_positive label held (label l.node)) found.2 in
      let other = any_there (λ (m : Lit). m.positive && label m.node == label l.node) held parts.1 in
      let m : Lit = other.0 in
      let its = and_parts m.positive (label m.node == label l.node) other.2 in
      let positive : Contains clause (yes l.node) = mapped_there held (no l.node) (subst (Contains held) (is_no l (not-true l.positive parts.0)) found.1) in
      let negative : Contains clause (no m.node) = mapped_there held (yes m.node) (subst (Contains held) (is_yes m its.0) other.1) in
      kern.opposites negative positive (together m.node l.node (eqb-true (label m.node) (label l.node) its.1))

  numbers_close : has_two_numbers nodes label ns ≡ true → Closes nodes clause all
  numbers_close e =
      let found = any_there (λ n. are_different (number_at nodes n) (number_in nodes label ns (label n))) ns e in
      by found.0 (number_at nodes found.0) (number_in nodes label ns (label found.0)) refl refl found.2
    where
      by : (n : ℕ) (a b : Option ℤ) → number_at nodes n ≡ a → number_in nodes label ns (label n) ≡ b → are_different a b ≡ true → Closes nodes clause all
      by n (Some j) (Some k) is its e =
          let there = number_there nodes label ns (label n) k its in
          kern.numbers is there.2 (different j k e) (together n there.0 (sym there.1))
      by n None b is its e = absurd cc
      by n (Some j) None is its e = absurd cc

  pub clash_closes : clash nodes label ns held ≡ true → Closes nodes clause all
  clash_closes e = by (or_cases (has_denied nodes label held || has_opposites label held) (has_two_numbers nodes label ns) e)
    where
      first : (has_denied nodes label held ≡ true) ⊎ (has_opposites label held ≡ true) → Closes nodes clause all
      first (inl e) = denied_closes e
      first (inr e) = opposites_close e

      by : ((has_denied nodes label held || has_opposites label held) ≡ true) ⊎ (has_two_numbers nodes label ns ≡ true) → Closes nodes clause all
      by (inl e) = first (or_cases (has_denied nodes label held) (has_opposites label held) e)
      by (inr e) = numbers_close e

-- ---- the labels of closed classes

module _ (nodes : List Node) (held : List Lit) (pairs : List Pair) (s : State) (ns : List ℕ) (stands : StandsBut nodes (held_equalities nodes held) pairs s []) where
  abbrev label : ℕ → ℕ
  label = label_of s

  closes_there : clash nodes label ns held ≡ true → Closes nodes (map negation held) (held_equalities nodes held ++ pairs)
  closes_there e = clash_closes nodes held (held_equalities nodes held ++ pairs) (label_of s) ns (labels_together nodes (held_equalities nodes held) pairs s [] stands) e

  pub line_there : are_literals nodes held ≡ true → clash nodes label ns held ≡ true → IsCongruence nodes (map negation held) pairs
  line_there literals e = record { literals = negations_are nodes held literals; congruent = stands.congruent; closes = closes_there e }

  -- ---- and what is contradicted clashes

  one_label : (a b : ℕ) → AreEqual nodes (held_equalities nodes held) a b → label a ≡ label b
  one_label a b h = (labels_are_exact nodes (held_equalities nodes held) label (standing_labels nodes (held_equalities nodes held) pairs s stands) a b).1 h

  contradicted_clashes : AreNumbers nodes ns → IsContradicted nodes (map negation held) → clash nodes label ns held ≡ true
  contradicted_clashes are (equals {n} {pair} there is h) =
      let denied : is_denied nodes label (no n) ≡ true = ap (is_paired label) is ∙ same_label nodes label pair.left pair.right (one_label pair.left pair.right h) in
      or_left (has_denied nodes label held || has_opposites label held) (has_two_numbers nodes label ns)
      (or_left (has_denied nodes label held) (has_opposites label held) (there_any (is_denied nodes label) held (no n) (there_mapped held (yes n) there) denied))
  contradicted_clashes are (opposites {m} {n} negative positive h) =
      let other : has_positive label held (label n) ≡ true =
      there_any (λ (l : Lit). l.positive && label l.node == label n) held (yes m) (there_mapped held (no m) negative) (same_label nodes label m n (one_label m n h)) in
      or_left (has_denied nodes label held || has_opposites label held) (has_two_numbers nodes label ns)
      (or_right (has_denied nodes label held) (has_opposites label held)
      (there_any (λ (l : Lit). not l.positive && has_positive label held (label l.node)) held (no n) (there_mapped held (yes n) positive) other))
  contradicted_clashes are (numbers {m} {n} {j} {k} first second apart h) =
      or_right (has_denied nodes label held || has_opposites label held) (has_two_numbers nodes label ns) (two (there_number nodes label ns m j (are m j first) first))
    where
      at : (a : ℕ) (i : ℤ) → number_at nodes a ≡ Some i → Contains ns a → (x : ℤ) → number_in nodes label ns (label a) ≡ Some x → (i ≡ x → ⊥) → has_two_numbers nodes label ns ≡ true
      at a i is there x its other =
          there_any (λ q. are_different (number_at nodes q) (number_in nodes label ns (label q))) ns a there (differ (number_at nodes a) (number_in nodes label ns (label a)) i x is its other)

      two : (x : ℤ) × (number_in nodes label ns (label m) ≡ Some x) → has_two_numbers nodes label ns ≡ true
      two found = by (int_eq j found.0) refl
        where
          by : (v : Bool) → int_eq j found.0 ≡ v → has_two_numbers nodes label ns ≡ true
          by false e = at m j first (are m j first) found.0 found.1 (λ same. true≢false (sym ((Decides-int_eq j found.0).1 same) ∙ e))
          by true e =
              at n k second (are n k second) found.0 (ap (number_in nodes label ns) (sym (one_label m n h)) ∙ found.1) (λ same. apart ((Decides-int_eq j found.0).0 e ∙ sym same))

  pub quiet : AreNumbers nodes ns → clash nodes label ns held ≡ false → IsContradicted nodes (map negation held) → ⊥
  quiet are e h = true≢false (sym (contradicted_clashes are h) ∙ e)
