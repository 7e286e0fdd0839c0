-- Rows that are false.
use Rattle.std.proofs.Common.{◌≡◌, ⊎_elim, inl, inr, ℕ, zero, suc, ℤ, pos, ◌<ℤ◌, Bool, true, false, List, [], ◌∷◌, ◌++◌, slice_get, Option, Some, None, refl, sym, ap, subst, ◌∙◌}
use Rattle.std.specs.Bool.{Decides}
use Rattle.std.proofs.lemmas.Bool.{true≢false, false≢true}
use Rattle.df_row.specs.Row.{Row}
use Rattle.df_level.specs.declared.row.Row as declared
use Rattle.df_level.specs.Entries.{coefficient_of, has_coefficient, ascends}
use Rattle.df_level.specs.Row.{entries_row, function_row, IsFalse}
use Rattle.std.proofs.lemmas.Option.{none-some, same_Some}
use Rattle.std.specs.Option.{is_some}
use Rattle.df_row.specs.RowView.{IsNarrow}
use Rattle.df_level.proofs.Ways.{row_narrow}
use Rattle.df_level.specs.Levels.{Stands, rows_of, HasFalse, TellsFalse}
use Rattle.df_level.proofs.Ascending.{from_test}
use Rattle.df_level.proofs.Rows.{first_coefficient}
use Rattle.df_level.proofs.Sets.{stands_cases}

pub yes : (es : List (ℕ × ℤ)) (k : ℤ) → es ≡ [] → k <ℤ pos 0 → IsFalse (entries_row es k)
yes es k e below = record { zeros = λ n. ap (λ l. coefficient_of l n) e; below = below }

pub none_left : (es : List (ℕ × ℤ)) (k : ℤ) → ascends 0 es ≡ true → IsFalse (entries_row es k) → es ≡ []
none_left [] k e h = refl
none_left ((m, c) ∷ es) k e h =
    let from = from_test 0 ((m, c) ∷ es) e in
    absurd (true≢false (sym from.1 ∙ ap has_coefficient (sym (first_coefficient m c es) ∙ h.zeros m)))

-- none among the rows so far
pub none_yet : HasFalse [] → ⊥
none_yet h = h.stands

pub none_more : (rows more : List Row) (r : Row) → (HasFalse rows → ⊥) → (IsFalse r → ⊥) → more ≡ rows ++ r ∷ [] → HasFalse more → ⊥
none_more rows more r none not e h =
    let P : List Row → Type 0 = λ l. Stands h.row l in
    ⊎_elim (λ there. none (record { row = h.row; stands = there; is_false = h.is_false })) (λ is. not (let Q : Row → Type 0 = λ x. IsFalse x in subst Q is h.is_false)) (stands_cases h.row r rows (subst P e h.stands))

-- what the tests answer
pub not_empty : (es : List (ℕ × ℤ)) (k : ℤ) → ascends 0 es ≡ true → (es ≡ [] → ⊥) → Decides false (IsFalse (entries_row es k))
not_empty es k e some = (λ x. absurd (false≢true x), λ h. absurd (some (none_left es k e h)))

pub empty : (es : List (ℕ × ℤ)) (k : ℤ) (b : Bool) → es ≡ [] → (b ≡ true → k <ℤ pos 0) → (k <ℤ pos 0 → b ≡ true) → Decides b (IsFalse (entries_row es k))
empty es k b e to from = (λ x. yes es k e (to x), λ h. from h.below)

pub no_false : (rows so_far : List Row) → (HasFalse so_far → ⊥) → so_far ≡ rows → HasFalse rows → ⊥
no_false rows so_far none e = let P : List Row → Type 0 = λ l. HasFalse l → ⊥ in subst P e none

stands_from : (rows : List Row) (i : ℕ) (r : Row) → slice_get rows i ≡ Some r → Stands r rows
stands_from [] i r e = absurd (none-some r e)
stands_from (s ∷ rows) zero r e = inl (sym (same_Some s r e))
stands_from (s ∷ rows) (suc i) r e = inr (stands_from rows i r e)

pub tells_decides : (rows : List Row) (o : Option ℕ) → TellsFalse rows o → Decides (is_some o) (HasFalse rows)
tells_decides rows (Some i) h = (λ x. record { row = h.0; stands = stands_from rows i h.0 h.1; is_false = h.2 }, λ x. refl)
tells_decides rows None h = (λ x. absurd (false≢true x), λ k. absurd (h k))

-- a row of the code's has numbers of 128 bits
pub row_of_code : (rows : List declared.Row) (i : ℕ) (r : Row) → slice_get (rows_of rows) i ≡ Some r → IsNarrow r
row_of_code [] i r e = absurd (none-some r e)
row_of_code (x ∷ rows) zero r e = subst IsNarrow (same_Some (function_row x) r e) (row_narrow x)
row_of_code (x ∷ rows) (suc i) r e = row_of_code rows i r e

pub not_from : (b : Bool) (r : Row) → Decides b (IsFalse r) → b ≡ false → IsFalse r → ⊥
not_from b r decides e h = true≢false (sym (decides.1 h) ∙ e)
