-- Sums of which no number on the way is past 128 bits.
use Rattle.std.proofs.Common.{◌≡◌, ◌/◌, ℕ, ℤ, pos, true, false, sym, ap, subst, ◌∙◌}
use Rattle.std.proofs.lemmas.Bool.{true≢false}
use Rattle.std.proofs.lemmas.Nat.Gcd.{dvd_antisymm, same_from_IsGcd}
use Rattle.std.specs.Int.RustNames.{unsigned_abs}
use Rattle.df_row.specs.Row.{Row, fits}
use Rattle.df_row.specs.RowView.{IsNarrow}
use Rattle.df_level.specs.declared.level.Sum.{Sum}
use Rattle.df_level.specs.Row.{weighted_row, IsWide, at_node, at_constant}
use Rattle.df_level.specs.Division.{divisor_of, IsDivisor}
use Rattle.df_level.specs.Levels.{HasWideDivisor, IsCancelling, IsWideBy, at_multiple, at_other_multiple, at_sum, at_divisor, IsOverflow, of_factor, of_other_factor, of_sum, IsSumBy}

pub narrow_not : (row : Row) → IsNarrow row → IsWide row → ⊥
narrow_not row small (at_node m e) = true≢false (sym (small.coefficients m) ∙ e)
narrow_not row small (at_constant e) = true≢false (sym small.constant ∙ e)

same_divisor : (row : Row) (c d : ℕ) → IsDivisor row c → IsDivisor row d → c ≡ d
same_divisor row c d p q =
    p.is ∙ ap divisor_of (dvd_antisymm (q.is_content.greatest p.content p.is_content.each) (p.is_content.greatest q.content q.is_content.each)) ∙ sym q.is

pub divisor_not : (row : Row) (d : ℕ) → IsDivisor row d → fits (pos d) ≡ true → HasWideDivisor row → ⊥
divisor_not row d h fit w = true≢false (sym fit ∙ ap (λ c. fits (pos c)) (same_divisor row d w.divisor h w.is_divisor) ∙ w.wide)

-- a sum cancels the node by one pair of factors
module _ (n : ℕ) (first second : Row) (f g : ℤ) (by : IsCancelling n first second f g) (sum : Sum) (h : IsSumBy f first g second sum) where
  same_factors : (k l : ℤ) → IsCancelling n first second k l → (k ≡ f) × (l ≡ g)
  same_factors k l c =
      let a = unsigned_abs (first.coefficient n) in
      let b = unsigned_abs (second.coefficient n) in
      let divisor = same_from_IsGcd a b c.divisor by.divisor c.is_gcd by.is_gcd in
      (c.is_factor ∙ ap (λ d. pos (b / d)) divisor ∙ sym by.is_factor, c.is_other_factor ∙ ap (λ d. pos (a / d)) divisor ∙ sym by.is_other_factor)

  by_not : IsWideBy f first g second → ⊥
  by_not (at_multiple w) = narrow_not _ h.small w
  by_not (at_other_multiple w) = narrow_not _ h.other_small w
  by_not (at_sum w) = narrow_not _ h.sum_small w
  by_not (at_divisor w) = divisor_not (weighted_row f first g second) h.content h.is_divisor h.divisor_fits w

  pub no_overflow : fits f ≡ true → fits g ≡ true → IsOverflow n first second → ⊥
  no_overflow fit other_fit (of_factor k l c e) = true≢false (sym fit ∙ ap fits (sym (same_factors k l c).0) ∙ e)
  no_overflow fit other_fit (of_other_factor k l c e) = true≢false (sym other_fit ∙ ap fits (sym (same_factors k l c).1) ∙ e)
  no_overflow fit other_fit (of_sum k l c w) =
      let same = same_factors k l c in
      let P : ℤ → Type 0 = λ x. IsWideBy x first l second in
      let Q : ℤ → Type 0 = λ x. IsWideBy f first x second in
      by_not (subst Q same.1 (subst P same.0 w))
