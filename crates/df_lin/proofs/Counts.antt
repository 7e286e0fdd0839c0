-- A count that is above all nodes for which rows have coefficients.
use Rattle.std.proofs.Common.{◌≡◌, inl, inr, ℕ, suc, ◌+◌, ◌≤◌, ℤ, pos, cond, List, [], ◌∷◌, refl, sym, ap, subst, ◌∙◌, arith}
use Rattle.std.proofs.lemmas.Bool.{ne_eqb}
use Rattle.df_row.specs.Row.{Row}
use Rattle.df_row.specs.RowView.{IsWithin}
use Rattle.df_level.specs.declared.row.Row as declared
use Rattle.df_level.specs.Entries.{coefficient_of}
use Rattle.df_level.specs.Levels.{rows_of, Stands}
use Rattle.df_back.specs.Ranges.{AreInside}

-- the sum of the numbers after each node
abbrev bound_of : List (ℕ × ℤ) → ℕ
bound_of [] = 0
bound_of (e ∷ es) = suc e.0 + bound_of es

none_from : (entries : List (ℕ × ℤ)) (n : ℕ) → bound_of entries ≤ n → coefficient_of entries n ≡ pos 0
none_from [] n le = refl
none_from (e ∷ es) n le = ap (λ t. cond t e.1 (coefficient_of es n)) (ne_eqb n e.0 (λ same. absurd (omega (arith, le, same)))) ∙ none_from es n (omega (arith, le))

abbrev pub count_of : List declared.Row → ℕ
count_of [] = 0
count_of (r ∷ rows) = bound_of r.coefficients.items + count_of rows

pub all_inside : (rows : List declared.Row) (row : Row) → Stands row (rows_of rows) → IsWithin (count_of rows) row
all_inside [] row there = absurd there
all_inside (r ∷ rows) row (inl is) = subst (IsWithin (count_of (r ∷ rows))) (sym is) (record { zero_from = λ n le. none_from r.coefficients.items n (omega (arith, le)) })
all_inside (r ∷ rows) row (inr there) = record { zero_from = λ n le. (all_inside rows row there).zero_from n (omega (arith, le)) }

pub some_count : (rows : List declared.Row) → (count : ℕ) × AreInside count (rows_of rows)
some_count rows = (count_of rows, record { each = all_inside rows })
