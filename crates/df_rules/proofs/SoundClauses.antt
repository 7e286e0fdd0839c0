-- Clauses that hold: one of their literals is true, and stays so when nodes are added.
use Rattle.std.proofs.Common.{◌≡◌, ℕ, zero, suc, ◌⊎◌, inl, inr, Bool, true, false, not, cond, ◌&&◌, ◌||◌, ◌==◌, List, [], ◌∷◌, map, length, Option, Some, None, slice_get, nat_lt, refl, sym, ap, ◌∙◌, subst, ltb-true, eqb-true}
use Rattle.std.specs.Option.{option_and_then, option_map}
use Rattle.std.specs.List.{list_all, list_any, AllByRecursion}
use Rattle.std.proofs.lemmas.Option.{same_Some}
use Rattle.std.proofs.lemmas.Bool.{and_from, or_cases, or_left, or_right, or_parts, and_parts}
use Rattle.df_lemmas.proofs.Lists.{any_weaker}
use Rattle.df_lemmas.proofs.Options.{then_some, map_some, test_some}
use Rattle.df_form.specs.World.{World}
use Rattle.df_meaning.specs.Value.{truth_of, same_truth}
use Rattle.df_form.specs.declared.log.Lit.{Lit}
use Rattle.df_form.specs.declared.node.Sort.TheVariants as sorts
use Rattle.df_form.specs.Node.{Node, same_sort}
use Rattle.df_form.specs.Sorting.{is_formula, sort_at}
use Rattle.df_form.specs.Truth.{Assignment, truth}
use Rattle.df_form.specs.Clause.{Clause, negation, same_literal, is_among, literal_truth, clause_truth, are_literals}
use Rattle.df_rules.specs.Connective.{Added}
use Rattle.df_rules.specs.Propagation.{left, only, is_empty, if_some, propagates, clauses_at, propagation_of, propagation_line}
use Rattle.df_form.proofs.Values.{Grows, grown_below, grown_value, AreSorted}

pub same_truth_is : (a b : Bool) → same_truth a b ≡ true → a ≡ b
same_truth_is true true e = refl
same_truth_is true false e = absurd cc
same_truth_is false true e = absurd cc
same_truth_is false false e = refl

pub same_literal_is : (a b : Lit) → same_literal a b ≡ true → a ≡ b
same_literal_is a b e =
    let parts = and_parts (same_truth a.positive b.positive) (a.node == b.node) e in
    let sign = same_truth_is a.positive b.positive parts.0 in
    let node = eqb-true a.node b.node parts.1 in
    λ i. record { positive = sign i; node = node i }

module _ (test : Lit → Bool) where
  -- every literal passes the test
  abbrev pub AllPass : List Lit → Type 0
  AllPass literals = AllByRecursion (λ l. test l ≡ true) literals

  pub among_passes : (literals : List Lit) (l : Lit) → AllPass literals → is_among literals l ≡ true → test l ≡ true
  among_passes [] l all e = absurd cc
  among_passes (first ∷ others) l all e = next (or_cases (same_literal l first) (is_among others l) e) (among_passes others l all.1)
    where
      next : (same_literal l first ≡ true) ⊎ (is_among others l ≡ true) → (is_among others l ≡ true → test l ≡ true) → test l ≡ true
      next (inl same) rest = subst (λ (m : Lit). test m ≡ true) (sym (same_literal_is l first same)) all.0
      next (inr more) rest = rest more

-- No literal and its negation pass the test. From passing literals and clauses that hold, no clause has none left.
module _ (test : Lit → Bool) (apart : (l : Lit) → test l ≡ true → test (negation l) ≡ true → ⊥) where
  -- a literal of the clause that passes is left
  left_holds : (known : List Lit) (clause : Clause) → AllPass test known → list_any test clause ≡ true → list_any test (left known clause) ≡ true
  left_holds known [] all e = e
  left_holds known (l ∷ others) all e = next (is_among known (negation l)) refl (or_cases (test l) (list_any test others) e) (left_holds known others all)
    where
      next : (b : Bool) → is_among known (negation l) ≡ b → (test l ≡ true) ⊎ (list_any test others ≡ true) → (list_any test others ≡ true → list_any test (left known others) ≡ true)
          → list_any test (cond (not b) (l ∷ left known others) (left known others)) ≡ true
      next true is (inl here) rest = absurd (apart l here (among_passes test known (negation l) all is))
      next true is (inr more) rest = rest more
      next false is (inl here) rest = or_left (test l) (list_any test (left known others)) here
      next false is (inr more) rest = or_right (test l) (list_any test (left known others)) (rest more)

  same_all_pass : (l : Lit) (others : List Lit) → list_all (same_literal l) others ≡ true → list_any test others ≡ true → test l ≡ true
  same_all_pass l [] all e = absurd cc
  same_all_pass l (first ∷ others) all e = next (and_parts (same_literal l first) (list_all (same_literal l) others) all) (or_cases (test first) (list_any test others) e) (same_all_pass l others)
    where
      next : (same_literal l first ≡ true) × (list_all (same_literal l) others ≡ true) → (test first ≡ true) ⊎ (list_any test others ≡ true)
          → (list_all (same_literal l) others ≡ true → list_any test others ≡ true → test l ≡ true) → test l ≡ true
      next parts (inl here) rest = subst (λ (m : Lit). test m ≡ true) (sym (same_literal_is l first parts.0)) here
      next parts (inr more) rest = rest parts.1 more

  only_passes : (literals : List Lit) (l : Lit) → only literals ≡ Some l → list_any test literals ≡ true → test l ≡ true
  only_passes [] l e any = absurd cc
  only_passes (first ∷ others) l e any =
      let parts = test_some (list_all (same_literal first) others) (Some first) l e in
      let is = same_Some first l parts.1 in
      next (or_cases (test first) (list_any test others) any) parts.0 is
    where
      next : (test first ≡ true) ⊎ (list_any test others ≡ true) → list_all (same_literal first) others ≡ true → first ≡ l → test l ≡ true
      next (inl here) all is = subst (λ (m : Lit). test m ≡ true) is here
      next (inr more) all is = subst (λ (m : Lit). test m ≡ true) is (same_all_pass first others all more)

  empty_fails : (literals : List Lit) → is_empty literals ≡ true → list_any test literals ≡ true → ⊥
  empty_fails [] e any = cc
  empty_fails (l ∷ others) e any = cc

  pub none_propagates : (known : List Lit) (clauses : List Clause) → AllPass test known → AllByRecursion (λ clause. list_any test clause ≡ true) clauses → propagates known clauses ≡ true → ⊥
  none_propagates known [] all hold e = cc
  none_propagates known (clause ∷ []) all hold e = empty_fails (left known clause) e (left_holds known clause all hold.0)
  none_propagates known (clause ∷ next ∷ others) all hold e =
      case (only (left known clause)) refl e (λ l passes. none_propagates (l ∷ known) (next ∷ others) (passes, all) hold.1)
    where
      case : (o : Option Lit) → only (left known clause) ≡ o → if_some o (λ l. propagates (l ∷ known) (next ∷ others)) ≡ true
          → ((l : Lit) → test l ≡ true → propagates (l ∷ known) (next ∷ others) ≡ true → ⊥) → ⊥
      case None is tested go = cc
      case (Some l) is tested go = go l (only_passes (left known clause) l is (left_holds known clause all hold.0)) tested

module _ (depth : ℕ) (world : World) (assignment : Assignment) where
  -- a literal of a node is true
  abbrev pub is_held : List Node → Lit → Bool
  is_held nodes l = nat_lt l.node (length nodes) && literal_truth (truth depth world assignment nodes) l

  -- one of the clause's literals is
  abbrev pub Holds : List Node → Clause → Type 0
  Holds nodes clause = list_any (is_held nodes) clause ≡ true

  pub held_grown : (before now : List Node) → Grows before now → (l : Lit) → is_held before l ≡ true → is_held now l ≡ true
  held_grown before now g l e =
      let parts = and_parts (nat_lt l.node (length before)) (literal_truth (truth depth world assignment before) l) e in
      let lt = ltb-true l.node (length before) parts.0 in
      let same = ap truth_of (grown_value depth world assignment before now g l.node lt) in
      and_from (nat_lt l.node (length now)) (literal_truth (truth depth world assignment now) l) (grown_below before now g l.node parts.0)
      (subst (λ (b : Bool). same_truth l.positive b ≡ true) (sym same) parts.1)

  pub holds_grown : (before now : List Node) → Grows before now → (clause : Clause) → Holds before clause → Holds now clause
  holds_grown before now g clause h = any_weaker (is_held before) (is_held now) clause (held_grown before now g) h

  both_ways : (below is positive : Bool) → (below && same_truth positive is) ≡ true → (below && same_truth (not positive) is) ≡ true → ⊥
  both_ways true true true p q = cc
  both_ways true true false p q = cc
  both_ways true false true p q = cc
  both_ways true false false p q = cc
  both_ways false is positive p q = cc

  pub held_apart : (nodes : List Node) (l : Lit) → is_held nodes l ≡ true → is_held nodes (negation l) ≡ true → ⊥
  held_apart nodes l p q = both_ways (nat_lt l.node (length nodes)) (truth depth world assignment nodes l.node) l.positive p q

  one_way : (below is positive : Bool) → below ≡ true → (below && same_truth positive is) ≡ false → (below && same_truth (not positive) is) ≡ true
  one_way true true true p q = absurd cc
  one_way true true false p q = refl
  one_way true false true p q = refl
  one_way true false false p q = absurd cc
  one_way false is positive p q = absurd cc

  -- where no literal of formulas is true, their negations are
  pub negations_held : (nodes : List Node) (clause : Clause) → are_literals nodes clause ≡ true → list_any (is_held nodes) clause ≡ false → AllPass (is_held nodes) (map negation clause)
  negations_held nodes [] are none = tt
  negations_held nodes (l ∷ others) are none =
      let parts = and_parts (is_formula nodes l.node) (are_literals nodes others) are in
      let formula = and_parts (nat_lt l.node (length nodes)) (same_sort (sort_at nodes l.node) sorts.Truth) parts.0 in
      let fails = or_parts (is_held nodes l) (list_any (is_held nodes) others) none in
      (one_way (nat_lt l.node (length nodes)) (truth depth world assignment nodes l.node) l.positive formula.0 fails.0, negations_held nodes others parts.1 fails.1)

  -- a clause that its negation refutes holds
  pub holds_unless : (nodes : List Node) (clause : Clause) → are_literals nodes clause ≡ true → (AllPass (is_held nodes) (map negation clause) → ⊥) → Holds nodes clause
  holds_unless nodes clause are refuted = next (list_any (is_held nodes) clause) refl
    where
      next : (b : Bool) → list_any (is_held nodes) clause ≡ b → list_any (is_held nodes) clause ≡ true
      next true e = e
      next false e = absurd (refuted (negations_held nodes clause are e))

  -- a clause of formulas of which one literal is true
  pub holds_where : (nodes : List Node) (clause : Clause) → are_literals nodes clause ≡ true → clause_truth (truth depth world assignment nodes) clause ≡ true → Holds nodes clause
  holds_where nodes [] are e = e
  holds_where nodes (l ∷ others) are e = next (literal_truth (truth depth world assignment nodes) l) refl (λ rest. holds_where nodes others (and_parts (is_formula nodes l.node) (are_literals nodes others) are).1 rest)
    where
      formula : (is_formula nodes l.node ≡ true) × (are_literals nodes others ≡ true)
      formula = and_parts (is_formula nodes l.node) (are_literals nodes others) are

      below : nat_lt l.node (length nodes) ≡ true
      below = (and_parts (nat_lt l.node (length nodes)) (same_sort (sort_at nodes l.node) sorts.Truth) formula.0).0

      next : (b : Bool) → literal_truth (truth depth world assignment nodes) l ≡ b → (clause_truth (truth depth world assignment nodes) others ≡ true → Holds nodes others) → Holds nodes (l ∷ others)
      next true is go = or_left (is_held nodes l) (list_any (is_held nodes) others) (and_from (nat_lt l.node (length nodes)) (literal_truth (truth depth world assignment nodes) l) below is)
      next false is go = or_right (is_held nodes l) (list_any (is_held nodes) others) (go (sym (ap (λ (b : Bool). b || clause_truth (truth depth world assignment nodes) others) is) ∙ e))

  -- the clauses of these numbers hold where all do
  pub chosen_holds : (nodes : List Node) (clauses : List Clause) (n : ℕ) (clause : Clause) → AllByRecursion (Holds nodes) clauses → slice_get clauses n ≡ Some clause → Holds nodes clause
  chosen_holds nodes [] n clause all e = absurd cc
  chosen_holds nodes (first ∷ others) zero clause all e = subst (Holds nodes) (same_Some first clause e) all.0
  chosen_holds nodes (first ∷ others) (suc n) clause all e = chosen_holds nodes others n clause all.1 e

  pub named_hold : (nodes : List Node) (clauses : List Clause) (numbers : List ℕ) (named : List Clause) → AllByRecursion (Holds nodes) clauses → clauses_at clauses numbers ≡ Some named → AllByRecursion (Holds nodes) named
  named_hold nodes clauses [] named all e = subst (AllByRecursion (Holds nodes)) (same_Some [] named e) tt
  named_hold nodes clauses (n ∷ others) named all e =
      let one = then_some (λ clause. option_map (λ rest. clause ∷ rest) (clauses_at clauses others)) (slice_get clauses n) named e in
      let rest = map_some (λ rest. one.0 ∷ rest) (clauses_at clauses others) named one.2 in
      subst (AllByRecursion (Holds nodes)) rest.2 (chosen_holds nodes clauses n one.0 all one.1, named_hold nodes clauses others rest.0 all rest.1)

  pub propagation_holds : (nodes : List Node) (clauses : List Clause) (numbers : List ℕ) (conclusion clause : Clause) → AllByRecursion (Holds nodes) clauses
      → propagation_line nodes clauses numbers conclusion ≡ Some clause → Holds nodes clause
  propagation_holds nodes clauses numbers conclusion clause all e =
      let tested = test_some (are_literals nodes conclusion) (option_and_then (propagation_of conclusion) (clauses_at clauses numbers)) clause e in
      let named = then_some (propagation_of conclusion) (clauses_at clauses numbers) clause tested.1 in
      let found = test_some (propagates (map negation conclusion) named.0) (Some conclusion) clause named.2 in
      let hold = named_hold nodes clauses numbers named.0 all named.1 in
      subst (Holds nodes) (same_Some conclusion clause found.1)
      (holds_unless nodes conclusion tested.0 (λ known. none_propagates (is_held nodes) (held_apart nodes) (map negation conclusion) named.0 known hold found.0))

  -- what a line adds keeps what is known
  pub record IsLine (nodes : List Node) (added : Added) : Type 0 where
    pub grows : Grows nodes added.nodes
    pub sorted : AreSorted added.nodes
    pub holds : Holds added.nodes added.clause
