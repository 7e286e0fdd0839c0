-- Levels, one row after the other.
use Rattle.std.proofs.Common.{◌≡◌, ◌⊎◌, ⊎_elim, inl, inr, ℕ, zero, suc, ◌/◌, ◌≤◌, ℤ, pos, negsuc, ◌<ℤ◌, true, ◌<◌, List, [], ◌∷◌, ◌++◌, length, ◌≤ℤ◌, Result, Ok, Err, refl, sym, ap, subst, ◌∙◌, arith, append_assoc}
use Rattle.std.proofs.lemmas.Int.{ints}
use Rattle.std.proofs.Math.Nat.{eq-zero_of_zero-dvd}
use Rattle.std.proofs.lemmas.Nat.Gcd.{dvd_antisymm, same_from_IsGcd}
use Rattle.std.specs.Int.{IsGcd, ◌∣◌}
use Rattle.std.specs.Int.RustNames.{unsigned_abs}
use Rattle.df_row.specs.Row.{Row, fits}
use Rattle.df_level.specs.declared.fault.RowFault.{RowFault}
use Rattle.df_level.specs.declared.fault.RowFault.TheVariants as faults
use Rattle.df_level.specs.declared.fault.LevelFault.{LevelFault}
use Rattle.df_level.specs.declared.fault.LevelFault.TheVariants as level_faults
use Rattle.df_level.specs.declared.level.Sum.{Sum}
use Rattle.df_level.specs.Division.{divisor_of, quotient_row, IsDivided}
use Rattle.df_level.specs.Levels.{Stands, IsCancelling, IsCancelled, IsOverflow, of_factor, of_other_factor, of_sum, IsMade, kept, cancelled, IsFirstLevel, row_limit, DivisorsFit, SumsFit, IsWholeFirst, IsWholeNext, IsLevelUpTo, Overflows, Fills, HasWideDivisor, OverflowsWith, FillsMade, by_itself, by_sums, level_fault, GivesAdded, GivesDivided, GivesFirst, GivesFactor, GivesSumBy, GivesCancelled, GivesSums, AddsDivided, AddsRow, AddsSum, AddsSums, ExtendsLevel, IsSoFar, GivesOneSum, GivesMade, GivesLevel}
use Rattle.df_level.proofs.Ways.{is_sum}
use Rattle.df_level.proofs.Fitting.{no_overflow}
use Rattle.df_level.specs.Row.{weighted_row}
use Rattle.df_level.proofs.Sets.{stands_left, stands_last, stands_cases}

-- a row has one quotient
pub same_divided : (row x y : Row) → IsDivided row x → IsDivided row y → x ≡ y
same_divided row x y p q =
    let content : p.content ≡ q.content = dvd_antisymm (q.is_content.greatest p.content p.is_content.each) (p.is_content.greatest q.content q.is_content.each) in
    p.is ∙ ap (λ d. quotient_row (divisor_of d) row) content ∙ sym q.is

-- and two rows one sum
pub same_cancelled : (n : ℕ) (first second x y : Row) → IsCancelled n first second x → IsCancelled n first second y → x ≡ y
same_cancelled n first second x y p q =
    let a = unsigned_abs (first.coefficient n) in
    let b = unsigned_abs (second.coefficient n) in
    let divisor = same_from_IsGcd a b p.cancelling.divisor q.cancelling.divisor p.cancelling.is_gcd q.cancelling.is_gcd in
    let f : p.factor ≡ q.factor = p.cancelling.is_factor ∙ ap (λ d. pos (b / d)) divisor ∙ sym q.cancelling.is_factor in
    let g : p.other_factor ≡ q.other_factor = p.cancelling.is_other_factor ∙ ap (λ d. pos (a / d)) divisor ∙ sym q.cancelling.is_other_factor in
    let sum : weighted_row p.factor first p.other_factor second ≡ weighted_row q.factor first q.other_factor second = λ i. weighted_row (f i) first (g i) second in
    let P : Row → Type 0 = λ r. IsDivided r x in
    same_divided (weighted_row q.factor first q.other_factor second) x y (subst P sum p.divided) q.divided

abs_some : (z : ℤ) → pos 0 <ℤ z → 1 ≤ unsigned_abs z
abs_some (pos zero) h = absurd (omega (arith, ints))
abs_some (pos (suc n)) h = omega arith
abs_some (negsuc n) h = omega arith

divides_none : (n : ℕ) → 0 ∣ n → n ≡ 0
divides_none n h = eq-zero_of_zero-dvd h

pub some_gcd : (a b g : ℕ) (z : ℤ) → IsGcd a b g → a ≡ unsigned_abs z → pos 0 <ℤ z → 1 ≤ g
some_gcd a b zero z h e some = let low = abs_some z some in let none = divides_none a h.0 in absurd (omega arith)
some_gcd a b (suc g) z h e some = omega arith

module _ (n : ℕ) (first second : Row) where
  pub cancelling : (a b d : ℕ) (f g : ℤ) → pos 0 <ℤ first.coefficient n → second.coefficient n <ℤ pos 0 → a ≡ unsigned_abs (first.coefficient n) → b ≡ unsigned_abs (second.coefficient n) → IsGcd a b d → f ≡ pos (b / d) → g ≡ pos (a / d) → IsCancelling n first second f g
  cancelling a b d f g above below p q gcd e k =
      let P : ℕ → Type 0 = λ x. IsGcd x b d in
      let Q : ℕ → Type 0 = λ x. IsGcd (unsigned_abs (first.coefficient n)) x d in
      record { divisor = d; positive = above; negative = below; is_gcd = subst Q q (subst P p gcd); is_factor = e ∙ ap (λ x. pos (x / d)) q; is_other_factor = k ∙ ap (λ x. pos (x / d)) p }

  pub factor_fails : (fault : RowFault) (k : ℕ) (g : ℤ) → IsCancelling n first second (pos k) g → GivesFactor k (Err fault) → GivesCancelled n first second (Err fault)
  factor_fails faults.Wide k g c h = of_factor (pos k) g c h
  factor_fails faults.Memory k g c h = absurd h

  pub other_factor_fails : (fault : RowFault) (k : ℕ) (f : ℤ) → IsCancelling n first second f (pos k) → GivesFactor k (Err fault) → GivesCancelled n first second (Err fault)
  other_factor_fails faults.Wide k f c h = of_other_factor f (pos k) c h
  other_factor_fails faults.Memory k f c h = absurd h

  -- the answer, from that of the sum by the factors
  pub sum_gives : (f g : ℤ) (result : Result Sum RowFault) → IsCancelling n first second f g → fits f ≡ true → fits g ≡ true → GivesSumBy f first g second result → GivesCancelled n first second result
  sum_gives f g (Ok sum) c fit other_fit h = is_sum n first second f g sum c h (no_overflow n first second f g c sum h fit other_fit)
  sum_gives f g (Err faults.Wide) c fit other_fit h = of_sum f g c h
  sum_gives f g (Err faults.Memory) c fit other_fit h = tt

-- an overflow is of a sum that cancels the node
overflow_above : (n : ℕ) (first second : Row) → IsOverflow n first second → pos 0 <ℤ first.coefficient n
overflow_above n first second (of_factor f g c e) = c.positive
overflow_above n first second (of_other_factor f g c e) = c.positive
overflow_above n first second (of_sum f g c w) = c.positive

overflow_below : (n : ℕ) (first second : Row) → IsOverflow n first second → second.coefficient n <ℤ pos 0
overflow_below n first second (of_factor f g c e) = c.negative
overflow_below n first second (of_other_factor f g c e) = c.negative
overflow_below n first second (of_sum f g c w) = c.negative

overflow_as : (n : ℕ) (first second other another : Row) → first ≡ other → second ≡ another → IsOverflow n first second → IsOverflow n other another
overflow_as n first second other another e i o =
    let P : Row → Type 0 = λ x. IsOverflow n x second in
    let Q : Row → Type 0 = λ x. IsOverflow n other x in
    subst Q i (subst P e o)

pub few_none : (level : List Row) → level ≡ [] → length level < row_limit
few_none level e = let P : List Row → Type 0 = λ k. length k < row_limit in subst P (sym e) (omega arith)

-- one row more of the first, or of the second
fit_more : (n : ℕ) (firsts seconds : List Row) (r : Row) → SumsFit n firsts seconds → ((s : Row) → Stands s seconds → IsOverflow n r s → ⊥) → SumsFit n (firsts ++ r ∷ []) seconds
fit_more n firsts seconds r old own f s there other o = ⊎_elim (λ before. old f s before other o) (λ e. own s other (overflow_as n f s r s e refl o)) (stands_cases f r firsts there)

fit_with : (n : ℕ) (first : Row) (seconds : List Row) (r : Row) → SumsFit n (first ∷ []) seconds → (IsOverflow n first r → ⊥) → SumsFit n (first ∷ []) (seconds ++ r ∷ [])
fit_with n first seconds r old own f s (inr h) other o = absurd h
fit_with n first seconds r old own f s (inl e) other o = ⊎_elim (λ before. old f s (inl e) before o) (λ i. own (overflow_as n f s first r e i o)) (stands_cases s r seconds other)

-- sums of one row and others
module _ (n : ℕ) (first : Row) where
  pub adds_none : (level : List Row) → AddsSums n first [] level level
  adds_none level = record { each = λ r h. inl h; stays = λ r h. h; added = λ r second h c. absurd h; once = λ h. h; fit = λ f s there other o. absurd other }

  pub adds_skip : (seconds : List Row) (s : Row) (old now : List Row) → AddsSums n first seconds old now → (s.coefficient n <ℤ pos 0 → ⊥) → AddsSums n first (seconds ++ s ∷ []) old now
  adds_skip seconds s old now h not_below = record { each = each; stays = h.stays; added = added; once = h.once; fit = fit_with n first seconds s h.fit (λ o. not_below (overflow_below n first s o)) }
    where
      each : (r : Row) → Stands r now → Stands r old ⊎ ((second : Row) × Stands second (seconds ++ s ∷ []) × IsCancelled n first second r)
      each r k = ⊎_elim (λ there. inl there) (λ made. inr (made.0, stands_left made.0 seconds (s ∷ []) made.1, made.2)) (h.each r k)

      added : (r second : Row) → Stands second (seconds ++ s ∷ []) → IsCancelled n first second r → Stands r now
      added r second k c = ⊎_elim (λ there. h.added r second there c) (λ e. absurd (not_below (let P : Row → Type 0 = λ x. x.coefficient n <ℤ pos 0 in subst P e c.cancelling.negative))) (stands_cases second s seconds k)

  pub adds_sum : (seconds : List Row) (s x : Row) (old now next : List Row) → AddsSums n first seconds old now → IsCancelled n first s x → (IsOverflow n first s → ⊥) → AddsRow x now next → AddsSums n first (seconds ++ s ∷ []) old next
  adds_sum seconds s x old now next h sum none more = record { each = each; stays = λ r k. more.stays r (h.stays r k); added = added; once = λ k. more.once (h.once k); fit = fit_with n first seconds s h.fit none }
    where
      each : (r : Row) → Stands r next → Stands r old ⊎ ((second : Row) × Stands second (seconds ++ s ∷ []) × IsCancelled n first second r)
      each r k = ⊎_elim (λ there. ⊎_elim (λ before. inl before) (λ made. inr (made.0, stands_left made.0 seconds (s ∷ []) made.1, made.2)) (h.each r there)) (λ e. inr (s, stands_last s seconds, (let P : Row → Type 0 = λ y. IsCancelled n first s y in subst P (sym e) sum))) (more.each r k)

      added : (r second : Row) → Stands second (seconds ++ s ∷ []) → IsCancelled n first second r → Stands r next
      added r second k c = ⊎_elim (λ there. more.stays r (h.added r second there c)) last (stands_cases second s seconds k)
        where
          last : second ≡ s → Stands r next
          last e =
              let P : Row → Type 0 = λ y. IsCancelled n first y r in
              let Q : Row → Type 0 = λ y. Stands y next in
              subst Q (same_cancelled n first s x r sum (subst P e c)) more.added

module _ (n : ℕ) (seconds : List Row) where
  more_firsts : (firsts : List Row) (r row : Row) → IsMade n firsts seconds row → IsMade n (firsts ++ r ∷ []) seconds row
  more_firsts firsts r row (kept there none) = kept (stands_left row firsts (r ∷ []) there) none
  more_firsts firsts r row (cancelled first second there other c) = cancelled first second (stands_left first firsts (r ∷ []) there) other c

  pub so_far_none : IsSoFar n [] seconds []
  so_far_none = record { each = λ row h. absurd h; all = λ row m. nothing row m; once = tt; fit = λ f s there other o. absurd there }
    where
      nothing : (row : Row) → IsMade n [] seconds row → ⊥
      nothing row (kept there none) = there
      nothing row (cancelled first second there other c) = there

  -- what one more first row makes
  split : (firsts : List Row) (r row : Row) → IsMade n (firsts ++ r ∷ []) seconds row → IsMade n firsts seconds row ⊎ (((row ≡ r) × (row.coefficient n ≡ pos 0)) ⊎ ((second : Row) × Stands second seconds × IsCancelled n r second row))
  split firsts r row (kept there none) = ⊎_elim (λ h. inl (kept h none)) (λ e. inr (inl (e, none))) (stands_cases row r firsts there)
  split firsts r row (cancelled first second there other c) = ⊎_elim (λ h. inl (cancelled first second h other c)) (λ e. inr (inr (second, other, (let P : Row → Type 0 = λ x. IsCancelled n x second row in subst P e c)))) (stands_cases first r firsts there)

  pub so_far_kept : (firsts : List Row) (r x : Row) (now next : List Row) → IsSoFar n firsts seconds now → r.coefficient n ≡ pos 0 → x ≡ r → AddsRow x now next → IsSoFar n (firsts ++ r ∷ []) seconds next
  so_far_kept firsts r x now next h none is more = record { each = each; all = all; once = more.once h.once; fit = fit_more n firsts seconds r h.fit (λ s other o. not_above (overflow_above n r s o)) }
    where
      not_above : pos 0 <ℤ r.coefficient n → ⊥
      not_above positive = absurd (omega (arith, ints))

      each : (row : Row) → Stands row next → IsMade n (firsts ++ r ∷ []) seconds row
      each row k = ⊎_elim (λ there. more_firsts firsts r row (h.each row there)) (λ e. let P : Row → Type 0 = λ y. IsMade n (firsts ++ r ∷ []) seconds y in subst P (sym (e ∙ is)) (kept (stands_last r firsts) none)) (more.each row k)

      all : (row : Row) → IsMade n (firsts ++ r ∷ []) seconds row → Stands row next
      all row m = ⊎_elim (λ before. more.stays row (h.all row before)) (λ own. ⊎_elim here there own) (split firsts r row m)
        where
          here : (row ≡ r) × (row.coefficient n ≡ pos 0) → Stands row next
          here e = let Q : Row → Type 0 = λ y. Stands y next in subst Q (is ∙ sym e.0) more.added

          there : (second : Row) × Stands second seconds × IsCancelled n r second row → Stands row next
          there c = let above = c.2.cancelling.positive in absurd (omega (arith, ints))

  pub so_far_sums : (firsts : List Row) (r : Row) (now next : List Row) → IsSoFar n firsts seconds now → pos 0 <ℤ r.coefficient n → AddsSums n r seconds now next → IsSoFar n (firsts ++ r ∷ []) seconds next
  so_far_sums firsts r now next h positive more = record { each = each; all = all; once = more.once h.once; fit = fit_more n firsts seconds r h.fit (λ s other o. more.fit r s (inl refl) other o) }
    where
      each : (row : Row) → Stands row next → IsMade n (firsts ++ r ∷ []) seconds row
      each row k = ⊎_elim (λ there. more_firsts firsts r row (h.each row there)) (λ c. cancelled r c.0 (stands_last r firsts) c.1 c.2) (more.each row k)

      all : (row : Row) → IsMade n (firsts ++ r ∷ []) seconds row → Stands row next
      all row m = ⊎_elim (λ before. more.stays row (h.all row before)) (λ own. ⊎_elim here (λ c. more.added row c.0 c.1 c.2) own) (split firsts r row m)
        where
          here : (row ≡ r) × (row.coefficient n ≡ pos 0) → Stands row next
          here e = let same = ap (λ (y : Row). y.coefficient n) e.0 in let none = e.1 in absurd (omega (arith, ints))

  pub so_far_skips : (firsts : List Row) (r : Row) (now : List Row) → IsSoFar n firsts seconds now → r.coefficient n <ℤ pos 0 → IsSoFar n (firsts ++ r ∷ []) seconds now
  so_far_skips firsts r now h negative = record { each = λ row k. more_firsts firsts r row (h.each row k); all = all; once = h.once; fit = fit_more n firsts seconds r h.fit (λ s other o. not_above (overflow_above n r s o)) }
    where
      not_above : pos 0 <ℤ r.coefficient n → ⊥
      not_above positive = absurd (omega (arith, ints))

      all : (row : Row) → IsMade n (firsts ++ r ∷ []) seconds row → Stands row now
      all row m = ⊎_elim (λ before. h.all row before) (λ own. absurd (⊎_elim here there own)) (split firsts r row m)
        where
          here : (row ≡ r) × (row.coefficient n ≡ pos 0) → ⊥
          here e = let same = ap (λ (y : Row). y.coefficient n) e.0 in let none = e.1 in absurd (omega (arith, ints))

          there : (second : Row) × Stands second seconds × IsCancelled n r second row → ⊥
          there c = let above = c.2.cancelling.positive in absurd (omega (arith, ints))

-- as far as a place among the rows
module _ (n : ℕ) (rows firsts : List Row) (first : Row) (now : List Row) (h : IsSoFar n firsts rows now) where
  pub up_to_itself : (level : List Row) → first.coefficient n ≡ pos 0 → AddsRow first now level → IsLevelUpTo n rows firsts first [] level
  up_to_itself level none more = record { each = each; all = all; once = more.once h.once; fit = h.fit; first_fits = λ f s there other o. absurd other }
    where
      each : (row : Row) → Stands row level → IsMade n firsts rows row ⊎ IsMade n (first ∷ []) [] row
      each row k = ⊎_elim (λ there. inl (h.each row there)) (λ e. inr (kept (inl e) (ap (λ (y : Row). y.coefficient n) e ∙ none))) (more.each row k)

      own : (row : Row) → IsMade n (first ∷ []) [] row → Stands row level
      own row (kept there vanishes) = ⊎_elim (λ e. let P : Row → Type 0 = λ y. Stands y level in subst P (sym e) more.added) (λ none_there. absurd none_there) there
      own row (cancelled f s there other c) = absurd other

      all : (row : Row) → IsMade n firsts rows row ⊎ IsMade n (first ∷ []) [] row → Stands row level
      all row m = ⊎_elim (λ before. more.stays row (h.all row before)) (λ k. own row k) m

  pub up_to_sums : (seconds level : List Row) → pos 0 <ℤ first.coefficient n → AddsSums n first seconds now level → IsLevelUpTo n rows firsts first seconds level
  up_to_sums seconds level positive more = record { each = each; all = all; once = more.once h.once; fit = h.fit; first_fits = more.fit }
    where
      each : (row : Row) → Stands row level → IsMade n firsts rows row ⊎ IsMade n (first ∷ []) seconds row
      each row k = ⊎_elim (λ there. inl (h.each row there)) (λ c. inr (cancelled first c.0 (inl refl) c.1 c.2)) (more.each row k)

      not_itself : (row : Row) → row ≡ first → row.coefficient n ≡ pos 0 → ⊥
      not_itself row e vanishes = let same = ap (λ (y : Row). y.coefficient n) e in absurd (omega (arith, ints))

      own : (row : Row) → IsMade n (first ∷ []) seconds row → Stands row level
      own row (kept there vanishes) = ⊎_elim (λ e. absurd (not_itself row e vanishes)) (λ none_there. absurd none_there) there
      own row (cancelled f s there other c) = ⊎_elim (λ e. more.added row s other (let P : Row → Type 0 = λ x. IsCancelled n x s row in subst P e c)) (λ none_there. absurd none_there) there

      all : (row : Row) → IsMade n firsts rows row ⊎ IsMade n (first ∷ []) seconds row → Stands row level
      all row m = ⊎_elim (λ before. more.stays row (h.all row before)) (λ k. own row k) m

  pub overflows_there : (others : List Row) → rows ≡ firsts ++ first ∷ others → OverflowsWith n first rows now → Overflows n rows
  overflows_there others at o = record {
    firsts = firsts;
    first = first;
    others = others;
    first_at = at;
    seconds = o.front;
    second = o.second;
    rest = o.rest;
    second_at = o.seconds_are;
    level = o.level;
    so_far = up_to_sums o.front o.level (overflow_above n first o.second o.overflow) o.sums;
    few = o.few;
    overflow = o.overflow;
  }

  pub fills_there : (others : List Row) → rows ≡ firsts ++ first ∷ others → FillsMade n first rows now → Fills n rows
  fills_there others at (by_itself level none more full) = record {
    firsts = firsts;
    first = first;
    others = others;
    first_at = at;
    seconds = [];
    rest = rows;
    seconds_are = refl;
    level = level;
    so_far = up_to_itself level none more;
    full = full;
  }
  fills_there others at (by_sums positive o) = record {
    firsts = firsts;
    first = first;
    others = others;
    first_at = at;
    seconds = o.front;
    rest = o.rest;
    seconds_are = o.seconds_are;
    level = o.level;
    so_far = up_to_sums o.front o.level positive o.sums;
    full = o.full;
  }

-- the first level so far
pub first_none : IsFirstLevel [] []
first_none = record { each = λ r h. absurd h; all = λ r row h d. absurd h; once = tt }

whole_none : IsWholeFirst [] []
whole_none = record { is_first = first_none; fit = λ row there w. absurd there; few = omega arith }

pub first_begins : (level : List Row) → level ≡ [] → IsWholeFirst [] level
first_begins level e = let P : List Row → Type 0 = λ k. IsWholeFirst [] k in subst P (sym e) whole_none

divisors_more : (rows : List Row) (r : Row) → DivisorsFit rows → (HasWideDivisor r → ⊥) → DivisorsFit (rows ++ r ∷ [])
divisors_more rows r old own row there w = ⊎_elim (λ before. old row before w) (λ e. own (subst HasWideDivisor e w)) (stands_cases row r rows there)

pub first_more : (rows : List Row) (r x : Row) (now next : List Row) → IsFirstLevel rows now → IsDivided r x → AddsRow x now next → IsFirstLevel (rows ++ r ∷ []) next
first_more rows r x now next h d more = record { each = each; all = all; once = more.once h.once }
  where
    each : (y : Row) → Stands y next → (row : Row) × Stands row (rows ++ r ∷ []) × IsDivided row y
    each y k = ⊎_elim (λ there. let w = h.each y there in (w.0, stands_left w.0 rows (r ∷ []) w.1, w.2)) (λ e. (r, stands_last r rows, (let P : Row → Type 0 = λ z. IsDivided r z in subst P (sym e) d))) (more.each y k)

    all : (y row : Row) → Stands row (rows ++ r ∷ []) → IsDivided row y → Stands y next
    all y row k q = ⊎_elim (λ there. more.stays y (h.all y row there q)) last (stands_cases row r rows k)
      where
        last : row ≡ r → Stands y next
        last e =
            let P : Row → Type 0 = λ z. IsDivided z y in
            let Q : Row → Type 0 = λ z. Stands z next in
            subst Q (same_divided r x y d (subst P e q)) more.added

pub sum_stops : (n : ℕ) (first second : Row) (before after : List Row) (fault : RowFault) (out : LevelFault) → out ≡ level_fault fault → GivesCancelled n first second (Err fault) → GivesOneSum n first second before after (Err out)
sum_stops n first second before after faults.Wide out is h = rw is h
sum_stops n first second before after faults.Memory out is h = rw is tt

-- a list from a front of it on, with one more
one_further : (all front rest : List Row) (s : Row) → all ≡ front ++ s ∷ rest → all ≡ (front ++ s ∷ []) ++ rest
one_further all front rest s at = at ∙ sym (append_assoc front (s ∷ []) rest)

pub sums_stop : (n : ℕ) (first s : Row) (seconds front rest old before after now : List Row) (fault : LevelFault) → seconds ≡ front ++ s ∷ rest → AddsSums n first front old before → length before < row_limit → GivesOneSum n first s before after (Err fault) → GivesSums n first seconds old now (Err fault)
sums_stop n first s seconds front rest old before after now level_faults.Wide at so_far few h = record { front = front; second = s; rest = rest; seconds_are = at; level = before; sums = so_far; few = few; overflow = h }
sums_stop n first s seconds front rest old before after now level_faults.Many at so_far few h = record { front = front ++ s ∷ []; rest = rest; seconds_are = one_further seconds front rest s at; level = after; sums = h.0.goes front old so_far; full = h.1 }
sums_stop n first s seconds front rest old before after now level_faults.Memory at so_far few h = tt

made_stops : (n : ℕ) (first : Row) (rows before after : List Row) (fault : LevelFault) → pos 0 <ℤ first.coefficient n → GivesSums n first rows before after (Err fault) → GivesMade n first rows before after (Err fault)
made_stops n first rows before after level_faults.Wide positive h = h
made_stops n first rows before after level_faults.Many positive h = by_sums positive h
made_stops n first rows before after level_faults.Memory positive h = tt

pub level_stops : (n : ℕ) (first : Row) (rows firsts others before after : List Row) (fault : LevelFault) → rows ≡ firsts ++ first ∷ others → IsSoFar n firsts rows before → GivesMade n first rows before after (Err fault) → GivesLevel n rows (Err fault)
level_stops n first rows firsts others before after level_faults.Wide at so_far h = overflows_there n rows firsts first before so_far others at h
level_stops n first rows firsts others before after level_faults.Many at so_far h = fills_there n rows firsts first before so_far others at h
level_stops n first rows firsts others before after level_faults.Memory at so_far h = tt

pub so_far_ends : (n : ℕ) (rows firsts level : List Row) → IsSoFar n firsts rows level → length level < row_limit → firsts ≡ rows → IsWholeNext n rows level
so_far_ends n rows firsts level h few e =
    let P : List Row → Type 0 = λ k. IsSoFar n k rows level in
    let all = subst P e h in
    record { is_next = record { each = all.each; all = all.all; once = all.once }; fit = all.fit; few = few }

pub so_far_goes : (n : ℕ) (r : Row) (firsts more seconds before after : List Row) → IsSoFar n firsts seconds before → ExtendsLevel n r seconds before after → more ≡ firsts ++ r ∷ [] → IsSoFar n more seconds after
so_far_goes n r firsts more seconds before after h e is = let P : List Row → Type 0 = λ k. IsSoFar n k seconds after in subst P (sym is) (e.goes firsts h)

pub sums_go : (n : ℕ) (first s : Row) (seconds more old before after : List Row) → AddsSums n first seconds old before → AddsSum n first s before after → more ≡ seconds ++ s ∷ [] → AddsSums n first more old after
sums_go n first s seconds more old before after h e is = let P : List Row → Type 0 = λ k. AddsSums n first k old after in subst P (sym is) (e.goes seconds old h)

pub sums_end : (n : ℕ) (first : Row) (rows seconds old now : List Row) → AddsSums n first seconds old now → seconds ≡ rows → AddsSums n first rows old now
sums_end n first rows seconds old now h e = let P : List Row → Type 0 = λ k. AddsSums n first k old now in subst P e h

adds_first : (r : Row) (rows now next : List Row) → IsWholeFirst rows now → AddsDivided r now next → IsFirstLevel (rows ++ r ∷ []) next
adds_first r rows now next h a = first_more rows r a.quotient now next h.is_first a.divided a.adds

pub first_goes : (r : Row) (rows more now next : List Row) → IsWholeFirst rows now → AddsDivided r now next → length next < row_limit → more ≡ rows ++ r ∷ [] → IsWholeFirst more next
first_goes r rows more now next h a few is =
    let P : List Row → Type 0 = λ k. IsWholeFirst k next in
    subst P (sym is) (record { is_first = adds_first r rows now next h a; fit = divisors_more rows r h.fit a.fit; few = few })

pub first_stops : (r : Row) (rows front rest now next : List Row) (fault : LevelFault) → rows ≡ front ++ r ∷ rest → IsWholeFirst front now → GivesDivided r now next (Err fault) → GivesFirst rows (Err fault)
first_stops r rows front rest now next level_faults.Wide at h d = record { front = front; row = r; rest = rest; rows_are = at; level = now; so_far = h; wide = d }
first_stops r rows front rest now next level_faults.Many at h d = record { front = front ++ r ∷ []; rest = rest; rows_are = one_further rows front rest r at; level = next; is_first = adds_first r front now next h d.0; fit = divisors_more front r h.fit d.0.fit; full = d.1 }
first_stops r rows front rest now next level_faults.Memory at h d = tt

pub first_ends : (rows taken level : List Row) → IsWholeFirst taken level → taken ≡ rows → IsWholeFirst rows level
first_ends rows taken level h e = let P : List Row → Type 0 = λ k. IsWholeFirst k level in subst P e h

-- what is done with one row
extends_kept : (n : ℕ) (r x : Row) (seconds before after : List Row) → r.coefficient n ≡ pos 0 → x ≡ r → AddsRow x before after → ExtendsLevel n r seconds before after
extends_kept n r x seconds before after none is more = record { goes = λ firsts h. so_far_kept n seconds firsts r x before after h none is more }

adds_same : (r x : Row) (before after : List Row) → x ≡ r → AddsRow x before after → AddsRow r before after
adds_same r x before after is more = let P : Row → Type 0 = λ y. AddsRow y before after in subst P is more

pub row_kept : (n : ℕ) (r x : Row) (seconds before after : List Row) (result : Result Unit LevelFault) → r.coefficient n ≡ pos 0 → x ≡ r → GivesAdded x before after result → GivesMade n r seconds before after result
row_kept n r x seconds before after (Ok done) none is more = (extends_kept n r x seconds before after none is more.0, more.1)
row_kept n r x seconds before after (Err level_faults.Wide) none is more = absurd more
row_kept n r x seconds before after (Err level_faults.Many) none is more = by_itself after none (adds_same r x before after is more.0) more.1
row_kept n r x seconds before after (Err level_faults.Memory) none is more = tt

pub extends_sums : (n : ℕ) (r : Row) (seconds before after : List Row) → pos 0 <ℤ r.coefficient n → AddsSums n r seconds before after → ExtendsLevel n r seconds before after
extends_sums n r seconds before after above more = record { goes = λ firsts h. so_far_sums n seconds firsts r before after h above more }

pub extends_skip : (n : ℕ) (r : Row) (seconds before : List Row) → r.coefficient n <ℤ pos 0 → ExtendsLevel n r seconds before before
extends_skip n r seconds before below = record { goes = λ firsts h. so_far_skips n seconds firsts r before h below }

sum_goes : (n : ℕ) (first s x : Row) (before after : List Row) → IsCancelled n first s x → (IsOverflow n first s → ⊥) → AddsRow x before after → AddsSum n first s before after
sum_goes n first s x before after c none more = record { goes = λ seconds old h. adds_sum n first seconds s x old before after h c none more }

pub sum_added : (n : ℕ) (first s x : Row) (before after : List Row) (result : Result Unit LevelFault) → IsCancelled n first s x → (IsOverflow n first s → ⊥) → GivesAdded x before after result → GivesOneSum n first s before after result
sum_added n first s x before after (Ok done) c none more = (sum_goes n first s x before after c none more.0, more.1)
sum_added n first s x before after (Err level_faults.Wide) c none more = absurd more
sum_added n first s x before after (Err level_faults.Many) c none more = (sum_goes n first s x before after c none more.0, more.1)
sum_added n first s x before after (Err level_faults.Memory) c none more = tt

pub sum_skipped : (n : ℕ) (first s : Row) (before : List Row) → (s.coefficient n <ℤ pos 0 → ⊥) → AddsSum n first s before before
sum_skipped n first s before above = record { goes = λ seconds old h. adds_skip n first seconds s old before h above }

pub made_from_sums : (n : ℕ) (first : Row) (rows before after : List Row) (result : Result Unit LevelFault) → pos 0 <ℤ first.coefficient n → GivesSums n first rows before after result → GivesMade n first rows before after result
made_from_sums n first rows before after (Ok done) positive h = (extends_sums n first rows before after positive h.0, h.1)
made_from_sums n first rows before after (Err fault) positive h = made_stops n first rows before after fault positive h

-- signs
pub not_below : (z r : ℤ) → r ≡ z → pos 0 ≤ℤ r → z <ℤ pos 0 → ⊥
not_below z r e h below = absurd (omega (arith, ints))

pub is_below : (z r : ℤ) → r ≡ z → r <ℤ pos 0 → z <ℤ pos 0
is_below z r e h = omega (arith, ints)

pub is_above : (z r : ℤ) → r ≡ z → pos 0 <ℤ r → pos 0 <ℤ z
is_above z r e h = omega (arith, ints)

pub is_zero : (z r : ℤ) → r ≡ z → pos 0 ≤ℤ r → r ≤ℤ pos 0 → z ≡ pos 0
is_zero z r e h k = omega (arith, ints)
