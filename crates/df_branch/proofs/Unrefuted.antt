-- Rows that aren't refuted, and what the rows of a closed list come to.
use Rattle.std.proofs.Common.{◌≡◌, ℕ, ◌+◌, ◌<◌, ◌≤◌, ℤ, pos, ◌≤ℤ◌, Bool, true, false, nat_lt, List, length, None, Some, slice_get, refl, sym, ap, ◌∙◌, subst, arith, ltb-true}
use Rattle.std.proofs.lemmas.Bool.Decides.{nat_tests}
use Rattle.std.proofs.lemmas.Option.{same_Some, slice_get_within}
use Rattle.df_lemmas.proofs.Integers.{from_le}
use Rattle.df_form.specs.declared.log.Lit.{Lit}
use Rattle.df_form.specs.Node.{Node}
use Rattle.df_form.specs.Clause.{are_literals}
use Rattle.df_form.specs.Log.{Combination}
use Rattle.df_row.specs.Row.{Row}
use Rattle.df_row.specs.RowView.{IsWithin}
use Rattle.df_row.specs.Value.{row_value, row_holds}
use Rattle.df_row.specs.Linear.{rows_of, refutes}
use Rattle.df_level.specs.Levels.{Stands}
use Rattle.df_level.specs.Elimination.{AreRefuted, IsElimination}
use Rattle.df_elim.specs.declared.elimination.Elimination.TheVariants as answers
use Rattle.df_elim.specs.Elimination.{TellsElimination}
use Rattle.df_elim.proofs.Holding.{none_refuted, row_is_met}
use Rattle.df_elim.proofs.Keeping.{stay_refuted}
use Rattle.df_closure.specs.Closure.{GroundClause, after}
use Rattle.df_branch.specs.Evidence.{AreUnrefuted}
use Rattle.df_branch.specs.Leaf.{IsUnsolvable}
use Rattle.df_branch.specs.ClosedPlace.{IsClosedAt}
use Rattle.df_branch.specs.Overflow.{in_row, in_level}
use Rattle.df_branch.specs.Standing.{AllHold, AreMet, HasStanding, IsWideList, IsManyList}
use Rattle.df_branch.proofs.Points.{index_of}

pub eliminated_unrefuted : (rows first : List Row) (variables : List ℕ) (levels : List (List Row)) → IsElimination rows first variables levels → AreUnrefuted rows
eliminated_unrefuted rows first variables levels e some among refuted = stay_refuted some rows among refuted first variables levels e

-- where they have a point
pub met_unrefuted : (count : ℕ) (rows : List Row) → ((row : Row) → Stands row rows → IsWithin count row) → AreMet rows → AreUnrefuted rows
met_unrefuted count rows within met some among refuted =
    none_refuted count met.0 some (λ row there. row_is_met count met.0 row (met.1 count row (within row (among row there)) (among row there))) refuted

module _ (clauses : List GroundClause) (nodes : List Node) (list : List Lit) (reasons : List ℕ) (facts : List Lit) (at : IsClosedAt clauses nodes list reasons facts) where
  abbrev known : List Lit
  known = after list at.learned

  formulas_of : are_literals nodes known ≡ true
  formulas_of = subst (λ (l : List Lit). are_literals nodes l ≡ true) at.facts_are at.formulas

  pub wide_row_there : rows_of nodes facts ≡ None → IsWideList clauses nodes list
  wide_row_there none = record { reasons = reasons; learned = at.learned; closed = at.closed; formulas = formulas_of; overflows = in_row (ap (rows_of nodes) (sym at.facts_are) ∙ none) }

  module _ (rows : List Row) (rows_are : rows_of nodes facts ≡ Some rows) where
    rows_of_known : rows_of nodes known ≡ Some rows
    rows_of_known = ap (rows_of nodes) (sym at.facts_are) ∙ rows_are

    pub stands_there : AreUnrefuted rows → HasStanding clauses nodes list
    stands_there unrefuted = record { reasons = reasons; learned = at.learned; closed = at.closed; formulas = formulas_of; rows = rows; rows_are = rows_of_known; unrefuted = unrefuted }

    pub unsolvable_there : (combinations : List Combination) → AreRefuted rows → ((count : ℕ) → refutes count rows combinations ≡ true)
        → (x : List Row) × IsUnsolvable clauses nodes list reasons facts x × ((count : ℕ) → refutes count x combinations ≡ true)
    unsolvable_there combinations are_refuted refuted = (rows, record { learned = at.learned; closed = at.closed; facts_are = at.facts_are; formulas = at.formulas; rows_are = rows_are; refuted = are_refuted }, refuted)

    pub wide_there : TellsElimination rows answers.Wide → IsWideList clauses nodes list
    wide_there tells = record { reasons = reasons; learned = at.learned; closed = at.closed; formulas = formulas_of; overflows = in_level rows rows_of_known tells }

    pub many_there : (count : ℕ) → TellsElimination rows (answers.Many count) → IsManyList clauses nodes list count
    many_there count tells = record { is = tells.0; reasons = reasons; learned = at.learned; closed = at.closed; formulas = formulas_of; rows = rows; rows_are = rows_of_known; many = tells.1 }

-- the first rows hold at the numbers
abbrev pub HoldSoFar : (ℕ → ℤ) → List Row → ℕ → Type 0
HoldSoFar numbers rows i = (count n : ℕ) (row : Row) → IsWithin count row → n < i → slice_get rows n ≡ Some row → row_holds count numbers row ≡ true

pub one_more_holds : (numbers : ℕ → ℤ) (rows : List Row) (i : ℕ) (row : Row) → slice_get rows i ≡ Some row → ((count : ℕ) → IsWithin count row → row_holds count numbers row ≡ true) → HoldSoFar numbers rows i → HoldSoFar numbers rows (i + 1)
one_more_holds numbers rows i row at here so_far count n other within less there = by (nat_lt n i) refl
  where
    by : (b : Bool) → nat_lt n i ≡ b → row_holds count numbers other ≡ true
    by true e = so_far count n other within (ltb-true n i e) there
    by false e =
        let same : n ≡ i = grind (arith, nat_tests) in
        let is : row ≡ other = same_Some row other (sym at ∙ ap (slice_get rows) (sym same) ∙ there) in
        subst (λ (r : Row). row_holds count numbers r ≡ true) is (here count (subst (IsWithin count) (sym is) within))

pub all_held : (numbers : ℕ → ℤ) (rows : List Row) (i : ℕ) → length rows ≤ i → HoldSoFar numbers rows i → AllHold numbers rows
all_held numbers rows i done so_far count row within stands =
    let at = index_of rows row stands in
    let less = slice_get_within rows at.0 row at.1 in
    so_far count at.0 row within (omega (arith, less, done)) at.1

pub row_is_held : (count : ℕ) (numbers : ℕ → ℤ) (row : Row) (value : ℤ) → value ≡ row_value count numbers row → pos 0 ≤ℤ value → row_holds count numbers row ≡ true
row_is_held count numbers row value is le = from_le (row_value count numbers row) (subst (λ (z : ℤ). pos 0 ≤ℤ z) is le)
