-- Rows whose nodes are below a count.
use Rattle.std.proofs.Common.{◌≡◌, ⊎_elim, ℕ, suc, ◌+◌, ◌<◌, ◌≤◌, ℤ, pos, List, [], ◌∷◌, ◌++◌, length, drop, get_or, sym, ap, subst, ◌∙◌, arith, add-one}
use Rattle.std.proofs.Math.Seq.{drop-cons}
use Rattle.std.proofs.lemmas.List.{drop_all}
use Rattle.df_row.specs.Row.{Row}
use Rattle.df_row.specs.RowView.{IsWithin}
use Rattle.df_level.specs.Entries.{coefficient_of}
use Rattle.df_level.proofs.Rows.{after_first}
use Rattle.df_level.proofs.Sets.{stands_cases}
use Rattle.df_back.specs.Ranges.{AreInside}

-- The entries that are passed have nodes below the count.
pub record AreBelow (count : ℕ) (all left : List (ℕ × ℤ)) : Type 0 where
  pub same : (n : ℕ) → count ≤ n → coefficient_of left n ≡ coefficient_of all n

pub below_next : (count i : ℕ) (all : List (ℕ × ℤ)) → AreBelow count all (drop i all) → i < length all → (get_or all i (0, pos 0)).0 < count → AreBelow count all (drop (i + 1) all)
below_next count i all h less below =
    let e = get_or all i (0, pos 0) in
    let P : List (ℕ × ℤ) → Type 0 = λ left. AreBelow count all left in
    let opened = subst P (drop-cons all i (0, pos 0) less) h in
    let Q : ℕ → Type 0 = λ j. AreBelow count all (drop j all) in
    subst Q (sym (add-one i)) (record { same = λ n le. sym (after_first e.0 e.1 (drop (suc i) all) n (omega (arith, below, le))) ∙ opened.same n le })

pub below_ends : (count i : ℕ) (all : List (ℕ × ℤ)) (row : Row) → AreBelow count all (drop i all) → length all ≤ i → coefficient_of all ≡ row.coefficient → IsWithin count row
below_ends count i all row h past e =
    let P : List (ℕ × ℤ) → Type 0 = λ left. AreBelow count all left in
    let done = subst P (drop_all i all past) h in
    record { zero_from = λ n le. ap (λ (f : ℕ → ℤ). f n) (sym e) ∙ sym (done.same n le) }

pub inside_none : (count : ℕ) → AreInside count []
inside_none count = record { each = λ row there. absurd there }

pub inside_more : (count : ℕ) (rows more : List Row) (row : Row) → AreInside count rows → IsWithin count row → more ≡ rows ++ row ∷ [] → AreInside count more
inside_more count rows more row h own e =
    let P : List Row → Type 0 = λ l. AreInside count l in
    let Q : Row → Type 0 = λ r. IsWithin count r in
    subst P (sym e) (record { each = λ r there. ⊎_elim (λ k. h.each r k) (λ is. subst Q (sym is) own) (stands_cases r row rows there) })

pub inside_all : (count : ℕ) (rows taken : List Row) → AreInside count taken → taken ≡ rows → AreInside count rows
inside_all count rows taken h e = let P : List Row → Type 0 = λ l. AreInside count l in subst P e h
