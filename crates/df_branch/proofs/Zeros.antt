-- Nodes for which no row has a coefficient: no row of a level that comes of them has one.
use Rattle.std.proofs.Common.{◌≡◌, ℕ, ℤ, pos, ◌+ℤ◌, List, ap, ◌∙◌}
use Rattle.std.proofs.Math.IntN.{*ℤ-zero}
use Rattle.df_row.specs.Row.{Row}
use Rattle.df_row.specs.RowView.{IsWithin}
use Rattle.df_row.specs.Linear.{quotient}
use Rattle.df_level.specs.Exact.{weighted}
use Rattle.df_level.specs.Row.{weighted_row}
use Rattle.df_level.specs.Division.{IsDivided, divisor_of}
use Rattle.df_level.specs.Levels.{Stands, IsFirstLevel, IsNextLevel, IsMade, kept, cancelled}
use Rattle.df_level.proofs.Contents.{quotient_zero}

abbrev pub AllZero : ℕ → List Row → Type 0
AllZero n rows = (row : Row) → Stands row rows → row.coefficient n ≡ pos 0

divided_zero : (n : ℕ) (row after : Row) → IsDivided row after → row.coefficient n ≡ pos 0 → after.coefficient n ≡ pos 0
divided_zero n row after d e = ap (λ (r : Row). r.coefficient n) d.is ∙ ap (λ z. quotient z (pos (divisor_of d.content))) e ∙ quotient_zero (divisor_of d.content)

pub first_zero : (n : ℕ) (rows first : List Row) → IsFirstLevel rows first → AllZero n rows → AllZero n first
first_zero n rows first is all r stands =
    let from = is.each r stands in
    divided_zero n from.0 r from.2 (all from.0 from.1)

weighted_zero : (f g x y : ℤ) → x ≡ pos 0 → y ≡ pos 0 → weighted f x g y ≡ pos 0
weighted_zero f g x y e h = (λ i. weighted f (e i) g (h i)) ∙ (λ i. *ℤ-zero f i +ℤ *ℤ-zero g i)

pub next_zero : (m n : ℕ) (before after : List Row) → IsNextLevel m before after → AllZero n before → AllZero n after
next_zero m n before after is all row stands = by (is.each row stands)
  where
    by : IsMade m before before row → row.coefficient n ≡ pos 0
    by (kept there free) = all row there
    by (cancelled first second at_first at_second c) = divided_zero n (weighted_row c.factor first c.other_factor second) row c.divided (weighted_zero c.factor c.other_factor (first.coefficient n) (second.coefficient n) (all first at_first) (all second at_second))

pub first_within : (count : ℕ) (rows first : List Row) → IsFirstLevel rows first → ((row : Row) → Stands row rows → IsWithin count row) → (row : Row) → Stands row first → IsWithin count row
first_within count rows first is all row stands = record { zero_from = λ n le. first_zero n rows first is (λ r at. (all r at).zero_from n le) row stands }
