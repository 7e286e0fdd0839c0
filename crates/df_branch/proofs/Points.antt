-- Back substitution gives numbers to nodes for which rows have coefficients alone.
use Rattle.std.proofs.Common.{◌≡◌, inl, inr, ℕ, zero, suc, ℤ, pos, negsuc, Bool, true, false, cond, nat_eq, List, [], ◌∷◌, Some, slice_get, refl, sym, ap, ◌∙◌}
use Rattle.std.proofs.lemmas.Bool.{and_from, eqb-true}
use Rattle.df_lemmas.proofs.Truths.{true_is_not_false}
use Rattle.df_form.specs.declared.log.Lit.{Lit}
use Rattle.df_form.specs.declared.node.Sort.TheVariants as sorts
use Rattle.df_form.specs.Node.{Node}
use Rattle.df_form.specs.Sorting.{IsTable, sort_at}
use Rattle.df_row.specs.Row.{Row}
use Rattle.df_row.specs.Value.{row_holds, rows_hold}
use Rattle.df_row.specs.Linear.{rows_of}
use Rattle.df_closure.specs.Atoms.{is_atom}
use Rattle.df_level.specs.Levels.{Stands}
use Rattle.df_level.specs.Elimination.{Eliminates}
use Rattle.df_back.specs.BackSubstitution as definitions
use Rattle.df_back.specs.BackSubstitution.{with_number, BackSubstitution, IsBetween}
use Rattle.df_back.proofs.Chains.{variable_of, level_of, others_of}
use Rattle.df_closure.proofs.Coefficients.{numbers_alone}
use Rattle.df_branch.proofs.Zeros.{AllZero, next_zero}

pub back_zero : (count m low : ℕ) (rows : List Row) (variables : List ℕ) (levels : List (List Row)) (numbers : ℕ → ℤ) → BackSubstitution count rows variables levels numbers → Eliminates low rows variables levels → AllZero m rows → numbers m ≡ pos 0
back_zero count m low rows [] [] numbers definitions.ends e zeros = refl
back_zero count m low rows (n ∷ variables) (after ∷ levels) numbers (definitions.back {numbers = old} {v = v} b nearest) e zeros =
    by (nat_eq m n) refl (back_zero count m (suc n) after variables levels old b (others_of e) (next_zero n m rows after (level_of e) zeros))
  where
    by : (t : Bool) → nat_eq m n ≡ t → old m ≡ pos 0 → cond (nat_eq m n) v (old m) ≡ pos 0
    by true same rest =
        let has = (variable_of e).has in
        absurd (has.nonzero (ap has.row.coefficient (sym (eqb-true m n same)) ∙ zeros has.row has.stands))
    by false other rest = ap (λ t. cond t v (old m)) other ∙ rest
back_zero count m low rows [] (after ∷ levels) numbers b e zeros = elim b [ ]
back_zero count m low rows (n ∷ variables) [] numbers b e zeros = elim b [ ]

-- a node between two numbers has a coefficient
pub between_zero : (count low : ℕ) (rows : List Row) (variables : List ℕ) (levels : List (List Row)) (n : ℕ) (k : ℤ) → IsBetween count rows variables levels n k → Eliminates low rows variables levels → AllZero n rows → ⊥
between_zero count low rows (m ∷ variables) (after ∷ levels) n k (definitions.IsBetween.here numbers so_far between) e zeros =
    let has = (variable_of e).has in
    has.nonzero (zeros has.row has.stands)
between_zero count low rows (m ∷ variables) (after ∷ levels) n k (definitions.IsBetween.later h) e zeros = between_zero count (suc m) after variables levels n k h (others_of e) (next_zero m n rows after (level_of e) zeros)
between_zero count low rows [] [] n k h e zeros = elim h [ ]
between_zero count low rows [] (after ∷ levels) n k h e zeros = elim h [ ]
between_zero count low rows (m ∷ variables) [] n k h e zeros = elim h [ ]

pub zero_or_not : (z : ℤ) → ((z ≡ pos 0 → ⊥) → ⊥) → z ≡ pos 0
zero_or_not (pos zero) h = refl
zero_or_not (pos (suc n)) h = absurd (h (λ e. absurd cc))
zero_or_not (negsuc n) h = absurd (h (λ e. absurd cc))

pub index_of : (rows : List Row) (row : Row) → Stands row rows → (i : ℕ) × (slice_get rows i ≡ Some row)
index_of [] row stands = absurd stands
index_of (r ∷ rows) row (inl is) = (0, ap Some (sym is))
index_of (r ∷ rows) row (inr later) = let found = index_of rows row later in (suc found.0, found.1)

pub truth_is_no_number : sorts.Truth ≡ sorts.Number → ⊥
truth_is_no_number e = absurd cc

pub character_is_no_number : sorts.Character ≡ sorts.Number → ⊥
character_is_no_number e = absurd cc

module _ (nodes : List Node) (table : IsTable nodes) (literals : List Lit) (rows : List Row) (found : rows_of nodes literals ≡ Some rows) where
  -- where a node with a coefficient would be something that it is not, it has none
  pub none_has : (n : ℕ) → ((row : Row) → Stands row rows → (row.coefficient n ≡ pos 0 → ⊥) → ⊥) → AllZero n rows
  none_has n refuted row stands = zero_or_not (row.coefficient n) (refuted row stands)

  -- what is no number has none
  pub others_zero : (n : ℕ) → (sort_at nodes n ≡ sorts.Number → ⊥) → AllZero n rows
  others_zero n other = none_has n (λ row stands has. let at = index_of rows row stands in let number = (numbers_alone nodes (record { sorted = table.sorted }) literals rows found at.0 row at.1 n has).1 in absurd (other number))

  pub atoms_zero : (n : ℕ) (node : Node) → slice_get nodes n ≡ Some node → is_atom nodes node.op node.parts ≡ false → AllZero n rows
  atoms_zero n node there other = none_has n (λ row stands has. let at = index_of rows row stands in let atom = (numbers_alone nodes (record { sorted = table.sorted }) literals rows found at.0 row at.1 n has).2 node there in absurd (true_is_not_false (is_atom nodes node.op node.parts) atom other))

pub all_hold : (count : ℕ) (numbers : ℕ → ℤ) (rows : List Row) → ((row : Row) → Stands row rows → row_holds count numbers row ≡ true) → rows_hold count numbers rows ≡ true
all_hold count numbers [] each = refl
all_hold count numbers (r ∷ rows) each = and_from (row_holds count numbers r) (rows_hold count numbers rows) (each r (inl refl)) (all_hold count numbers rows (λ row later. each row (inr later)))
