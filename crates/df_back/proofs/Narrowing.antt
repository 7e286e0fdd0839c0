-- Ranges, one row after the other, and the numbers in them.
use Rattle.std.proofs.Common.{◌≡◌, ◌⊎◌, ⊎_elim, inl, inr, ℕ, ◌≤◌, ℤ, pos, negsuc, ◌+ℤ◌, ◌<ℤ◌, ◌≤ℤ◌, true, false, List, [], ◌∷◌, ◌++◌, Option, Some, None, sym, ap, subst, ◌∙◌, arith}
use Rattle.std.proofs.lemmas.Int.{ints}
use Rattle.std.proofs.lemmas.Bool.{true≢false}
use Rattle.df_row.specs.Row.{Row}
use Rattle.df_row.specs.Value.{row_holds}
use Rattle.df_level.specs.Levels.{Stands}
use Rattle.df_level.proofs.Sets.{stands_left, stands_last, stands_cases}
use Rattle.df_back.specs.declared.range.Range.{Range}
use Rattle.df_back.specs.declared.range.Choice.{Choice}
use Rattle.df_back.specs.declared.range.Choice.TheVariants as choices
use Rattle.df_back.specs.BackSubstitution.{with_number, Allows, IsNearest}
use Rattle.df_back.specs.Ranges.{IsLow, IsHigh, IsRowBound, IsLowest, IsHighest, LowOf, HighOf, IsRange, IsGreater, IsLesser, Narrows, TellsRowBound, TellsNarrowed, TellsRange, IsFrom, IsUpTo, IsNearestIn, IsEmpty, TellsNearest, IsBetweenBounds, TellsChoice}

-- signs
pub signs : (c : ℤ) → (c ≡ pos 0 → ⊥) → (pos 0 <ℤ c) ⊎ (c <ℤ pos 0)
signs (pos n) some = ⊎_elim (λ e. absurd (some (ap pos e))) (λ h. inl (omega (arith, ints))) (zero_or n)
  where
    zero_or : (n : ℕ) → (n ≡ 0) ⊎ (1 ≤ n)
    zero_or n = grind arith
signs (negsuc n) some = inr (omega (arith, ints))

sides : (a b : ℤ) → (a ≤ℤ b) ⊎ (b <ℤ a)
sides a b = grind (arith, ints)

not_both : (c : ℤ) → pos 0 <ℤ c → c <ℤ pos 0 → ⊥
not_both c p q = omega (arith, ints)

module _ (count : ℕ) (numbers : ℕ → ℤ) (n : ℕ) where
  abbrev holds : Row → ℤ → Type 0
  holds row v = row_holds count (with_number numbers n v) row ≡ true

  abbrev fails : Row → ℤ → Type 0
  fails row v = row_holds count (with_number numbers n v) row ≡ false

  module _ (rows : List Row) (row : Row) where
    pub low_same : (o : Option ℤ) → LowOf count numbers n rows o → (pos 0 <ℤ row.coefficient n → ⊥) → LowOf count numbers n (rows ++ row ∷ []) o
    low_same None h not = λ r there positive. ⊎_elim (λ k. h r k positive) (λ e. not (let P : Row → Type 0 = λ x. pos 0 <ℤ x.coefficient n in subst P e positive)) (stands_cases r row rows there)
    low_same (Some z) h not = record {
      row = h.row;
      stands = stands_left h.row rows (row ∷ []) h.stands;
      positive = h.positive;
      under = h.under;
      from = λ r v there positive le. ⊎_elim (λ k. h.from r v k positive le) (λ e. absurd (not (let P : Row → Type 0 = λ x. pos 0 <ℤ x.coefficient n in subst P e positive))) (stands_cases r row rows there);
    }

    pub high_same : (o : Option ℤ) → HighOf count numbers n rows o → (row.coefficient n <ℤ pos 0 → ⊥) → HighOf count numbers n (rows ++ row ∷ []) o
    high_same None h not = λ r there negative. ⊎_elim (λ k. h r k negative) (λ e. not (let P : Row → Type 0 = λ x. x.coefficient n <ℤ pos 0 in subst P e negative)) (stands_cases r row rows there)
    high_same (Some z) h not = record {
      row = h.row;
      stands = stands_left h.row rows (row ∷ []) h.stands;
      negative = h.negative;
      over = h.over;
      to = λ r v there negative le. ⊎_elim (λ k. h.to r v k negative le) (λ e. absurd (not (let P : Row → Type 0 = λ x. x.coefficient n <ℤ pos 0 in subst P e negative))) (stands_cases r row rows there);
    }

    module _ (b : ℤ) where
      -- all rows from a number that is at least both bounds
      low_from : (z : ℤ) → IsLow count numbers n row b → b ≤ℤ z → ((r : Row) (v : ℤ) → Stands r rows → pos 0 <ℤ r.coefficient n → z ≤ℤ v → holds r v) → (r : Row) (v : ℤ) → Stands r (rows ++ row ∷ []) → pos 0 <ℤ r.coefficient n → z ≤ℤ v → holds r v
      low_from z own le others r v there positive at = ⊎_elim (λ k. others r v k positive at) (λ e. let P : Row → Type 0 = λ x. holds x v in subst P (sym e) (own.from v (omega (arith, ints)))) (stands_cases r row rows there)

      high_to : (z : ℤ) → IsHigh count numbers n row b → z ≤ℤ b → ((r : Row) (v : ℤ) → Stands r rows → r.coefficient n <ℤ pos 0 → v ≤ℤ z → holds r v) → (r : Row) (v : ℤ) → Stands r (rows ++ row ∷ []) → r.coefficient n <ℤ pos 0 → v ≤ℤ z → holds r v
      high_to z own le others r v there negative at = ⊎_elim (λ k. others r v k negative at) (λ e. let P : Row → Type 0 = λ x. holds x v in subst P (sym e) (own.to v (omega (arith, ints)))) (stands_cases r row rows there)

      pub low_more : (o : Option ℤ) (z : ℤ) → LowOf count numbers n rows o → IsLow count numbers n row b → pos 0 <ℤ row.coefficient n → IsGreater o b z → LowOf count numbers n (rows ++ row ∷ []) (Some z)
      low_more None z h own positive e = record {
        row = row;
        stands = stands_last row rows;
        positive = positive;
        under = λ v less. own.under v (omega (arith, ints));
        from = low_from z own (omega (arith, ints)) (λ r v there above at. absurd (h r there above));
      }
      low_more (Some a) z h own positive g = by g.either
        where
          from : (r : Row) (v : ℤ) → Stands r (rows ++ row ∷ []) → pos 0 <ℤ r.coefficient n → z ≤ℤ v → holds r v
          from = low_from z own g.second (λ r v there above at. h.from r v there above (let le = g.first in omega (arith, ints)))

          by : (z ≡ a) ⊎ (z ≡ b) → IsLowest count numbers n (rows ++ row ∷ []) z
          by (inl e) = record { row = h.row; stands = stands_left h.row rows (row ∷ []) h.stands; positive = h.positive; under = λ v less. h.under v (omega (arith, ints)); from = from }
          by (inr e) = record { row = row; stands = stands_last row rows; positive = positive; under = λ v less. own.under v (omega (arith, ints)); from = from }

      pub high_more : (o : Option ℤ) (z : ℤ) → HighOf count numbers n rows o → IsHigh count numbers n row b → row.coefficient n <ℤ pos 0 → IsLesser o b z → HighOf count numbers n (rows ++ row ∷ []) (Some z)
      high_more None z h own negative e = record {
        row = row;
        stands = stands_last row rows;
        negative = negative;
        over = λ v less. own.over v (omega (arith, ints));
        to = high_to z own (omega (arith, ints)) (λ r v there below at. absurd (h r there below));
      }
      high_more (Some a) z h own negative g = by g.either
        where
          to : (r : Row) (v : ℤ) → Stands r (rows ++ row ∷ []) → r.coefficient n <ℤ pos 0 → v ≤ℤ z → holds r v
          to = high_to z own g.second (λ r v there below at. h.to r v there below (let le = g.first in omega (arith, ints)))

          by : (z ≡ a) ⊎ (z ≡ b) → IsHighest count numbers n (rows ++ row ∷ []) z
          by (inl e) = record { row = h.row; stands = stands_left h.row rows (row ∷ []) h.stands; negative = h.negative; over = λ v less. h.over v (omega (arith, ints)); to = to }
          by (inr e) = record { row = row; stands = stands_last row rows; negative = negative; over = λ v less. own.over v (omega (arith, ints)); to = to }

  module _ (row : Row) where
    pub narrows_none : (range : Range) → row.coefficient n ≡ pos 0 → Narrows count numbers n row range range
    narrows_none range e = record { goes = λ rows h. record { low = low_same rows row range.low h.low (λ p. absurd (omega (arith, ints))); high = high_same rows row range.high h.high (λ p. absurd (omega (arith, ints))) } }

    pub narrows_low : (range after : Range) (b : ℤ) → pos 0 <ℤ row.coefficient n → IsRowBound count numbers n row b → (z : ℤ) → IsGreater range.low b z → after.low ≡ Some z → after.high ≡ range.high → Narrows count numbers n row range after
    narrows_low range after b positive own z g low high = record { goes = goes }
      where
        goes : (rows : List Row) → IsRange count numbers n rows range → IsRange count numbers n (rows ++ row ∷ []) after
        goes rows h =
            let P : Option ℤ → Type 0 = LowOf count numbers n (rows ++ row ∷ []) in
            let Q : Option ℤ → Type 0 = HighOf count numbers n (rows ++ row ∷ []) in
            record {
              low = subst P (sym low) (low_more rows row b range.low z h.low (own.low positive) positive g);
              high = subst Q (sym high) (high_same rows row range.high h.high (λ p. not_both (row.coefficient n) positive p));
            }

    pub narrows_high : (range after : Range) (b : ℤ) → row.coefficient n <ℤ pos 0 → IsRowBound count numbers n row b → (z : ℤ) → IsLesser range.high b z → after.low ≡ range.low → after.high ≡ Some z → Narrows count numbers n row range after
    narrows_high range after b negative own z g low high = record { goes = goes }
      where
        goes : (rows : List Row) → IsRange count numbers n rows range → IsRange count numbers n (rows ++ row ∷ []) after
        goes rows h =
            let P : Option ℤ → Type 0 = LowOf count numbers n (rows ++ row ∷ []) in
            let Q : Option ℤ → Type 0 = HighOf count numbers n (rows ++ row ∷ []) in
            record {
              low = subst P (sym low) (low_same rows row range.low h.low (λ p. not_both (row.coefficient n) p negative));
              high = subst Q (sym high) (high_more rows row b range.high z h.high (own.high negative) negative g);
            }

    pub narrowed_none : (range : Range) (bound : Option ℤ) (o : Option Range) → o ≡ None → TellsRowBound count numbers n row bound → bound ≡ None → (row.coefficient n ≡ pos 0 → ⊥) → TellsNarrowed count numbers n row range o
    narrowed_none range bound o e h none some =
        let P : Option Range → Type 0 = TellsNarrowed count numbers n row range in
        let Q : Option ℤ → Type 0 = TellsRowBound count numbers n row in
        subst P (sym e) (record { nonzero = some; wide = subst Q none h })

  -- the rows so far
  pub no_rows : IsRange count numbers n [] (record { low = None; high = None })
  no_rows = record { low = λ r there p. there; high = λ r there p. there }

  pub range_goes : (rows more : List Row) (row : Row) (before after : Range) (o : Option Range) → IsRange count numbers n rows before → TellsNarrowed count numbers n row before o → o ≡ Some after → more ≡ rows ++ row ∷ [] → IsRange count numbers n more after
  range_goes rows more row before after o h t e is =
      let P : List Row → Type 0 = λ l. IsRange count numbers n l after in
      let Q : Option Range → Type 0 = TellsNarrowed count numbers n row before in
      let narrows = subst Q e t in
      subst P (sym is) (narrows.goes rows h)

  pub range_stops : (rows : List Row) (row : Row) (before : Range) (o result : Option Range) → Stands row rows → TellsNarrowed count numbers n row before o → o ≡ None → result ≡ None → TellsRange count numbers n rows result
  range_stops rows row before o result there t e is =
      let P : Option Range → Type 0 = TellsRange count numbers n rows in
      let Q : Option Range → Type 0 = TellsNarrowed count numbers n row before in
      let wide = subst Q e t in
      subst P (sym is) (record { row = row; stands = there; nonzero = wide.nonzero; wide = wide.wide })

  pub range_ends : (rows taken : List Row) (range : Range) → IsRange count numbers n taken range → taken ≡ rows → IsRange count numbers n rows range
  range_ends rows taken range h e = let P : List Row → Type 0 = λ l. IsRange count numbers n l range in subst P e h

  -- the number that is chosen
  module _ (rows : List Row) where
    low_allows : (o : Option ℤ) (v : ℤ) (row : Row) → LowOf count numbers n rows o → IsFrom o v → Stands row rows → pos 0 <ℤ row.coefficient n → holds row v
    low_allows (Some z) v row h at there positive = h.from row v there positive at
    low_allows None v row h at there positive = absurd (h row there positive)

    high_allows : (o : Option ℤ) (v : ℤ) (row : Row) → HighOf count numbers n rows o → IsUpTo o v → Stands row rows → row.coefficient n <ℤ pos 0 → holds row v
    high_allows (Some z) v row h at there negative = h.to row v there negative at
    high_allows None v row h at there negative = absurd (h row there negative)

    allowed_from : (o : Option ℤ) (w : ℤ) → LowOf count numbers n rows o → Allows count rows numbers n w → IsFrom o w
    allowed_from None w h allows = tt
    allowed_from (Some z) w h allows = ⊎_elim (λ le. le) (λ less. absurd (true≢false (sym (allows.each h.row h.stands (λ e. let p = h.positive in absurd (omega (arith, ints)))) ∙ h.under w less))) (sides z w)

    allowed_up_to : (o : Option ℤ) (w : ℤ) → HighOf count numbers n rows o → Allows count rows numbers n w → IsUpTo o w
    allowed_up_to None w h allows = tt
    allowed_up_to (Some z) w h allows = ⊎_elim (λ le. le) (λ less. absurd (true≢false (sym (allows.each h.row h.stands (λ e. let p = h.negative in absurd (omega (arith, ints)))) ∙ h.over w less))) (sides w z)

    nearest_is : (range : Range) (v : ℤ) → IsRange count numbers n rows range → IsNearestIn range v → IsNearest count rows numbers n v
    nearest_is range v h is = record {
      allows = record { each = λ row there some. ⊎_elim (low_allows range.low v row h.low is.inside.low there) (high_allows range.high v row h.high is.inside.high there) (signs (row.coefficient n) some) };
      nearest = λ w allows. is.nearest w (record { low = allowed_from range.low w h.low allows; high = allowed_up_to range.high w h.high allows });
    }

    after : (k : ℤ) → k <ℤ (k +ℤ pos 1)
    after k = omega (arith, ints)

    empty_is : (range : Range) (k : ℤ) → IsRange count numbers n rows range → IsEmpty range k → IsBetweenBounds count rows numbers n k
    empty_is range k h is =
        let P : Option ℤ → Type 0 = LowOf count numbers n rows in
        let Q : Option ℤ → Type 0 = HighOf count numbers n rows in
        let low = subst P is.is_low h.low in
        let high = subst Q is.is_high h.high in
        record {
          between = record {
            above = record { row = low.row; stands = low.stands; positive = low.positive; fails = low.under k is.crossed };
            below = record { row = high.row; stands = high.stands; negative = high.negative; fails = high.over (k +ℤ pos 1) (after k) };
          };
          next_fits = is.next_fits;
        }

    pub chosen : (range : Range) (choice : Choice) → IsRange count numbers n rows range → TellsNearest range choice → TellsChoice count rows numbers n choice
    chosen range (choices.Value v) h is = nearest_is range v h is
    chosen range (choices.Between k) h is = empty_is range k h is
    chosen range choices.Wide h is = absurd is
