-- What the search ends with where no clause is open.
use Rattle.std.proofs.Common.{◌≡◌, ℕ, ℤ, pos, true, false, List, map, length, refl, sym, ap, ◌∙◌, subst, ◌⊎◌, inl, inr, ◌+ℤ◌, nat_lt, Some, slice_get, arith}
use Rattle.std.proofs.lemmas.Bool.Decides.{nat_tests}
use Rattle.std.proofs.lemmas.Bool.{and_from, cases_Bool}
use Rattle.std.proofs.lemmas.Option.{slice_get_within}
use Rattle.df_form.specs.declared.log.Lit.{Lit}
use Rattle.df_form.specs.declared.node.Sort.{Sort}
use Rattle.df_form.specs.declared.node.Sort.TheVariants as sorts
use Rattle.df_form.specs.Node.{Node, same_sort}
use Rattle.df_form.specs.Sorting.{sort_at}
use Rattle.df_form.specs.Clause.{yes, no, is_among}
use Rattle.df_row.specs.Row.{Row}
use Rattle.df_row.specs.RowView.{IsWithin}
use Rattle.df_rules.specs.Bound.{number, at_most}
use Rattle.df_rules.specs.Derivation.{is_number}
use Rattle.df_closure.specs.Atoms.{is_atom}
use Rattle.df_closure.specs.Closure.{GroundClause, after}
use Rattle.df_level.specs.declared.level.Level.{Level}
use Rattle.df_level.specs.Levels.{Stands, level_rows}
use Rattle.df_level.specs.Elimination.{Eliminates}
use Rattle.df_elim.specs.declared.elimination.Levels.{Levels}
use Rattle.df_back.specs.declared.answer.Back.{Back}
use Rattle.df_back.specs.BackSubstitution.{IsPastWidth}
use Rattle.df_back.specs.BackView.{TellsBack, IsGap}
use Rattle.df_branch.specs.Overflow.{at_value}
use Rattle.df_branch.specs.Leaf.{IsWideLeaf, IsBetweenLeaf}
use Rattle.df_branch.specs.FilledPlace.{IsFilledPlace}
use Rattle.df_branch.proofs.Solutions.{formulas, labels_are}
use Rattle.df_branch.proofs.Gaps.{known_at_most, known_at_least, first_at_most, first_at_least}
use Rattle.df_branch.proofs.Points.{between_zero, others_zero, truth_is_no_number, character_is_no_number, atoms_zero}
use Rattle.df_branch.proofs.Zeros.{AllZero, first_zero}
use Rattle.df_branch.proofs.Unrefuted.{eliminated_unrefuted}

pub told : (count less : ℕ) (first : List Row) (variables others_variables : List ℕ) (levels others : List Level) (answer other : Back) → count ≡ less → variables ≡ others_variables → levels ≡ others → answer ≡ other
    → TellsBack count first variables (map level_rows levels) answer → TellsBack less first others_variables (map level_rows others) other
told count less first variables others_variables levels others answer other a b c d tells =
    subst (λ (n : ℕ). TellsBack n first others_variables (map level_rows others) other) a
    (subst (λ (vs : List ℕ). TellsBack count first vs (map level_rows others) other) b
    (subst (λ (ls : List Level). TellsBack count first variables (map level_rows ls) other) c (subst (TellsBack count first variables (map level_rows levels)) d tells)))

module _ (set : List Node) (clauses : List GroundClause) (nodes : List Node) (branch : List Lit) (levels : Levels) (labels : List ℕ) (facts : List Lit)
    (p : IsFilledPlace set clauses nodes branch levels labels facts) (within : (row : Row) → Stands row (level_rows levels.first) → IsWithin (length nodes) row) where
  abbrev first : List Row
  first = level_rows levels.first

  abbrev others : List (List Row)
  others = map level_rows levels.others.items

  pub wide_value : IsPastWidth (length nodes) first levels.variables.items others → IsWideLeaf set clauses nodes branch
  wide_value past = record {
    reasons = p.reasons;
    learned = p.learned;
    closed = p.closed;
    formulas = formulas set clauses nodes branch levels labels facts p;
    quiet = (labels_are set clauses nodes branch levels labels facts p).quiet;
    overflows = at_value p.rows first levels.variables.items others (length nodes) p.rows_are p.whole.elimination within past;
  }

  eliminates : Eliminates 0 first levels.variables.items others
  eliminates = p.whole.elimination.eliminates

  abbrev list : List Lit
  list = after branch p.learned

  module _ (term : ℕ) (bound : ℤ) (gap : IsGap (length nodes) first levels.variables.items others term bound) where
    -- the number has a coefficient
    not_zero : AllZero term p.rows → ⊥
    not_zero zeros = between_zero (length nodes) 0 first levels.variables.items others term bound gap.between eliminates (first_zero term p.rows first p.whole.elimination.is_first zeros)

    is_of_sort : sort_at nodes term ≡ sorts.Number
    is_of_sort = by (sort_at nodes term) refl
      where
        by : (sort : Sort) → sort_at nodes term ≡ sort → sort ≡ sorts.Number
        by sorts.Number e = refl
        by sorts.Truth e = absurd (not_zero (others_zero nodes p.place.table list p.rows p.rows_are term (λ number. truth_is_no_number (sym e ∙ number))))
        by sorts.Character e = absurd (not_zero (others_zero nodes p.place.table list p.rows p.rows_are term (λ number. character_is_no_number (sym e ∙ number))))

    is_an_atom : (node : Node) → slice_get nodes term ≡ Some node → is_atom nodes node.op node.parts ≡ true
    is_an_atom node at = by (cases_Bool (is_atom nodes node.op node.parts))
      where
        by : (is_atom nodes node.op node.parts ≡ true) ⊎ (is_atom nodes node.op node.parts ≡ false) → is_atom nodes node.op node.parts ≡ true
        by (inl yes_atom) = yes_atom
        by (inr no_atom) = absurd (not_zero (atoms_zero nodes p.place.table list p.rows p.rows_are term node at no_atom))

    is_a_number : is_number nodes term ≡ true
    is_a_number = and_from (nat_lt term (length nodes)) (same_sort (sort_at nodes term) sorts.Number) (let less = gap.inside in grind (arith, nat_tests)) (ap (λ sort. same_sort sort sorts.Number) is_of_sort)

    module _ (place m : ℕ) (at_place : slice_get nodes place ≡ Some (number bound)) (at_m : slice_get nodes m ≡ Some (at_most term place)) where
      unknown_at_most : is_among list (yes m) ≡ false
      unknown_at_most = by (cases_Bool (is_among list (yes m)))
        where
          by : (is_among list (yes m) ≡ true) ⊎ (is_among list (yes m) ≡ false) → is_among list (yes m) ≡ false
          by (inl among) = absurd (gap.new_at_most (first_at_most p.rows first term bound p.whole.elimination.is_first (known_at_most nodes term place bound gap.inside (slice_get_within nodes place (number bound) at_place) is_an_atom at_place p.rows list p.rows_are is_of_sort m at_m among)))
          by (inr none) = none

      unknown_at_least : is_among list (no m) ≡ false
      unknown_at_least = by (cases_Bool (is_among list (no m)))
        where
          by : (is_among list (no m) ≡ true) ⊎ (is_among list (no m) ≡ false) → is_among list (no m) ≡ false
          by (inl among) = absurd (gap.new_at_least (first_at_least p.rows first term (bound +ℤ pos 1) p.whole.elimination.is_first (known_at_least nodes term place bound gap.inside (slice_get_within nodes place (number bound) at_place) is_an_atom at_place p.rows list p.rows_are is_of_sort m at_m among)))
          by (inr none) = none

  pub between : (term : ℕ) (bound : ℤ) → IsGap (length nodes) first levels.variables.items others term bound → IsBetweenLeaf clauses nodes branch term bound
  between term bound gap = record {
    learned = p.learned;
    unshut = record {
      reasons = p.reasons;
      closed = p.closed;
      formulas = formulas set clauses nodes branch levels labels facts p;
      quiet = (labels_are set clauses nodes branch levels labels facts p).quiet;
      rows = p.rows;
      rows_are = p.rows_are;
      unrefuted = eliminated_unrefuted p.rows first levels.variables.items others p.whole.elimination;
    };
    filled = p.filled;
    first = first;
    variables = levels.variables.items;
    levels = others;
    elimination = p.whole.elimination;
    count = length nodes;
    within = within;
    between = gap.between;
    next_fits = gap.next_fits;
    of_number = is_a_number term bound gap;
    not_true = unknown_at_most term bound gap;
    not_false = unknown_at_least term bound gap;
  }

  pub between_at : (term : ℕ) (bound same : ℤ) → IsGap (length nodes) first levels.variables.items others term bound → same ≡ bound → IsBetweenLeaf clauses nodes branch term same
  between_at term bound same gap e = subst (IsBetweenLeaf clauses nodes branch term) (sym e) (between term bound gap)
