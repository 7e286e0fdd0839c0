-- Formulas of a table are true exactly where their trees are.
use Rattle.df_nowed.proofs.Words.{◌≡◌, ℕ, zero, suc, true, List, [], ◌∷◌, ◌++◌, map, refl, sym, ap, ◌∙◌, map-append, AllByRecursion, Program, Free, World, of_program, Node, Term, terms_of, Interpretation, has_sort, value, values, truth, sort_of, tree_among, tree_over, trees_after, trees_at, sort_again, sort_back, obligation_of, ValidSequentsAreValidObligations, RefutedSequentsAreRefutedObligations}
use Rattle.df_form.specs.Truth as formulas
use Rattle.df_form.specs.Sequent.{IsValid}
use Rattle.df_nterm.specs.Term as trees
use Rattle.df_nenc.specs.Tree.{tree_at}
use Rattle.df_npass.specs.Laws as obligations
use Rattle.df_nowed.proofs.Values.{as_logic, from_logic, logic_again, from_plain, truth_same, sorted_same, Agrees, free_in, apply_same}
use Rattle.df_meaning.specs.Value.{Value, truth_of}

module _ (depth : ℕ) (i : Interpretation) (a : formulas.Assignment) (agrees : Agrees i a) where
  abbrev world : World
  world = of_program i.program

  abbrev worth : Term → Value
  worth t = as_logic (value i t)

  among : (known : List Term) (n : ℕ) → formulas.value_at (map worth known) n ≡ worth (tree_among known n)
  among [] n = refl
  among (t ∷ known) zero = refl
  among (t ∷ known) (suc n) = among known n

  parts_same : (known : List Term) (parts : List ℕ) → map (formulas.value_at (map worth known)) parts ≡ map as_logic (values i (terms_of (map (tree_among known) parts)))
  parts_same known [] = refl
  parts_same known (n ∷ parts) = let first = among known n in let others = parts_same known parts in λ j. first j ∷ others j

  over_same : (known : List Term) (one : Node) → formulas.apply depth world a one.op (map (formulas.value_at (map worth known)) one.parts) ≡ worth (tree_over known one)
  over_same known one =
      ap (formulas.apply depth world a one.op) (parts_same known one.parts)
      ∙ apply_same depth i a agrees one.op (values i (terms_of (map (tree_among known) one.parts)))

  after_same : (known : List Term) (nodes : List Node) → formulas.values_after depth world a (map worth known) nodes ≡ map worth (trees_after known nodes)
  after_same known [] = refl
  after_same known (one ∷ nodes) =
      let more : map worth known ++ formulas.apply depth world a one.op (map (formulas.value_at (map worth known)) one.parts) ∷ [] ≡ map worth (known ++ tree_over known one ∷ []) =
      ap (λ (v : Value). map worth known ++ v ∷ []) (over_same known one) ∙ sym (map-append worth known (tree_over known one ∷ [])) in
      ap (λ (vs : List Value). formulas.values_after depth world a vs nodes) more ∙ after_same (known ++ tree_over known one ∷ []) nodes

  formula_same : (nodes : List Node) (n : ℕ) → formulas.truth depth world a nodes n ≡ truth i (tree_at nodes n)
  unfolding tree_at
  formula_same nodes n =
      ap (λ (vs : List Value). formulas.truth_at vs n) (after_same [] nodes)
      ∙ ap truth_of (among (trees_after [] nodes) n)
      ∙ truth_same (value i (tree_among (trees_after [] nodes) n))

  -- in a world that is that of its program
  module _ (w : World) (over : w ≡ of_program i.program) where
    in_world : (nodes : List Node) (n : ℕ) → formulas.truth depth w a nodes n ≡ truth i (tree_at nodes n)
    in_world nodes n = ap (λ (v : World). formulas.truth depth v a nodes n) over ∙ formula_same nodes n

    trees_true : (nodes : List Node) (hypotheses : List ℕ) → AllByRecursion (λ h. formulas.truth depth w a nodes h ≡ true) hypotheses → AllByRecursion (λ (formula : Term). truth i formula ≡ true) (trees_at nodes hypotheses)
    trees_true nodes [] all = tt
    trees_true nodes (h ∷ others) all = (sym (in_world nodes h) ∙ all.0, trees_true nodes others all.1)

    formulas_true : (nodes : List Node) (hypotheses : List ℕ) → AllByRecursion (λ (formula : Term). truth i formula ≡ true) (trees_at nodes hypotheses) → AllByRecursion (λ h. formulas.truth depth w a nodes h ≡ true) hypotheses
    formulas_true nodes [] all = tt
    formulas_true nodes (h ∷ others) all = (in_world nodes h ∙ all.0, formulas_true nodes others all.1)

-- ---- the assignment of an interpretation, and an interpretation of an assignment

abbrev assignment_of : Interpretation → formulas.Assignment
assignment_of i = record { value = λ free. as_logic (i.value (free_in free)); sorted = λ free. sorted_same free.sort (i.value (free_in free)) ∙ i.sorted (free_in free) }

assigned : (i : Interpretation) → Agrees i (assignment_of i)
assigned i = record { by = λ free. refl }

sort_there : (sort : trees.Sort) → sort_of (sort_back sort) ≡ sort
sort_there trees.Numbers = refl
sort_there trees.Truths = refl
sort_there trees.Characters = refl

abbrev free_back : trees.Free → Free
free_back free = record { number = free.number; sort = sort_back free.sort }

free_again : (free : Free) → free_back (free_in free) ≡ free
free_again free = let e = sort_again free.sort in λ j. record { number = free.number; sort = e j }

back_sorted : (a : formulas.Assignment) (free : trees.Free) → has_sort free.sort (from_logic (a.value (free_back free))) ≡ true
back_sorted a free =
    ap (λ (sort : trees.Sort). has_sort sort (from_logic (a.value (free_back free)))) (sym (sort_there free.sort))
    ∙ sym (sorted_same (sort_back free.sort) (from_logic (a.value (free_back free))))
    ∙ ap (formulas.has_sort (sort_back free.sort)) (logic_again (a.value (free_back free)))
    ∙ a.sorted (free_back free)

abbrev interpretation_of : Program → formulas.Assignment → Interpretation
interpretation_of program a = record { program = program; value = λ free. from_logic (a.value (free_back free)); sorted = back_sorted a }

interpreted : (program : Program) (a : formulas.Assignment) → Agrees (interpretation_of program a) a
interpreted program a = record { by = λ free. ap a.value (sym (free_again free)) ∙ sym (logic_again (a.value (free_back (free_in free)))) }

-- ---- sequents

pub same_validity : ValidSequentsAreValidObligations
same_validity program declaration place kind s over = (valid, valid_back)
  where
    valid : IsValid s → obligations.IsValid program (obligation_of declaration place kind s)
    valid h i e all =
        let world : s.world ≡ of_program i.program = over ∙ ap of_program (sym e) in
        sym (in_world 0 i (assignment_of i) (assigned i) s.world world s.nodes s.goal)
        ∙ h 0 (assignment_of i) (formulas_true 0 i (assignment_of i) (assigned i) s.world world s.nodes s.hypotheses all)

    valid_back : obligations.IsValid program (obligation_of declaration place kind s) → IsValid s
    valid_back h depth a all =
        in_world depth (interpretation_of program a) a (interpreted program a) s.world over s.nodes s.goal
        ∙ h (interpretation_of program a) refl (trees_true depth (interpretation_of program a) a (interpreted program a) s.world over s.nodes s.hypotheses all)

pub same_refutation : RefutedSequentsAreRefutedObligations
same_refutation program declaration place kind s depth a over all none = (
  record {
    interpretation = interpretation_of program a;
    program_is = refl;
    hypotheses = trees_true depth (interpretation_of program a) a (interpreted program a) s.world over s.nodes s.hypotheses all;
    goal = sym (in_world depth (interpretation_of program a) a (interpreted program a) s.world over s.nodes s.goal) ∙ none;
  },
  λ free. from_plain (a.value (free_back (free_in free))) ∙ ap a.value (free_again free),
)
