-- Combinations, one after another.
use Rattle.std.proofs.Common.{◌≡◌, ℕ, Bool, false, List, [], ◌∷◌, ◌++◌, Some, None, refl, sym, ap, subst, ◌∙◌}
use Rattle.df_form.specs.Log.{Combination}
use Rattle.df_row.specs.Row.{Row}
use Rattle.df_row.specs.Linear.{combined, is_false, if_row, refutes}
use Rattle.df_row.specs.RowView.{IsWithin}
use Rattle.df_row.specs.LinearView.{AreWithin}
use Rattle.df_row.proofs.LinearWithin.{within_push, combined_within}

-- with what the last combination so far told
abbrev pub refutes_from : ℕ → Bool → List Row → List Combination → Bool
refutes_from count last rows [] = last
refutes_from count last rows (c ∷ others) = refutes count rows (c ∷ others)

pub refutes_start : (count : ℕ) (rows : List Row) (cs : List Combination) → refutes_from count false rows cs ≡ refutes count rows cs
refutes_start count rows [] = refl
refutes_start count rows (c ∷ others) = refl

pub refutes_goes : (count : ℕ) (last : Bool) (rows : List Row) (c : Combination) (others : List Combination) (row : Row) → combined count rows c ≡ Some row → refutes_from count last rows (c ∷ others) ≡ refutes_from count (is_false count row) (rows ++ row ∷ []) others
refutes_goes count last rows c [] row e = ap (λ o. if_row o (is_false count)) e
refutes_goes count last rows c (next ∷ others) row e = ap (λ o. if_row o (λ r. refutes count (rows ++ r ∷ []) (next ∷ others))) e

pub refutes_stops : (count : ℕ) (last : Bool) (rows : List Row) (c : Combination) (others : List Combination) → combined count rows c ≡ None → refutes_from count last rows (c ∷ others) ≡ false
refutes_stops count last rows c [] e = ap (λ o. if_row o (is_false count)) e
refutes_stops count last rows c (next ∷ others) e = ap (λ o. if_row o (λ r. refutes count (rows ++ r ∷ []) (next ∷ others))) e

-- the combinations that are left tell what all tell
pub record IsRefuting (count : ℕ) (start : List Row) (all left : List Combination) (last : Bool) (rows : List Row) : Type 0 where
  pub same : refutes_from count last rows left ≡ refutes count start all
  pub within : AreWithin count rows

pub refuting_goes : (count : ℕ) (start : List Row) (all others : List Combination) (c : Combination) (last next : Bool) (rows new : List Row) (row : Row) → IsRefuting count start all (c ∷ others) last rows → combined count rows c ≡ Some row → (IsWithin count row → next ≡ is_false count row) → new ≡ rows ++ row ∷ [] → IsRefuting count start all others next new
refuting_goes count start all others c last next rows new row so_far e told more =
    let inside = combined_within count rows c row e so_far.within in
    record {
      same = ap (λ r. refutes_from count next r others) more ∙ ap (λ b. refutes_from count b (rows ++ row ∷ []) others) (told inside) ∙ sym (refutes_goes count last rows c others row e) ∙ so_far.same;
      within = let P : List Row → Type 0 = AreWithin count in subst P (sym more) (within_push count rows row so_far.within inside);
    }
