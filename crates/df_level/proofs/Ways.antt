-- The ways of a level, one row after the other.
use Rattle.std.proofs.Common.{◌≡◌, ℕ, zero, suc, ◌/◌, ◌<◌, ◌≤◌, ℤ, pos, negsuc, ◌*ℤ◌, int_le, Bool, true, false, not, cond, List, [], ◌∷◌, ◌++◌, map, length, get_or, slice_get, Some, None, Result, Ok, Err, refl, sym, ap, subst, ◌∙◌, arith}
use Rattle.std.proofs.Math.Nat.{div-one, one-dvd}
use Rattle.std.proofs.lemmas.Int.{ints}
use Rattle.std.proofs.lemmas.Bool.{true≢false, not-true, not-false}
use Rattle.std.proofs.lemmas.List.{map-append, length-map}
use Rattle.std.specs.List.{list_any}
use Rattle.std.specs.Option.{option_and_then}
use Rattle.std.specs.Int.RustNames.{unsigned_abs}
use Rattle.df_form.specs.declared.log.Combination as declared_combination
use Rattle.df_form.specs.Log.{Combination, combination_of}
use Rattle.df_row.specs.Row.{Row, fits}
use Rattle.df_row.specs.RowView.{IsNarrow}
use Rattle.df_row.specs.Linear.{quotient, divided}
use Rattle.df_level.specs.declared.row.Row as declared
use Rattle.df_level.specs.declared.level.Level.{Level}
use Rattle.df_level.specs.declared.level.Sum.{Sum}
use Rattle.df_level.specs.declared.fault.RowFault.{RowFault}
use Rattle.df_level.specs.declared.fault.RowFault.TheVariants as faults
use Rattle.df_level.specs.declared.fault.LevelFault.{LevelFault}
use Rattle.df_level.specs.declared.fault.LevelFault.TheVariants as level_faults
use Rattle.std.specs.Bool.{MatchBool}
use Rattle.df_level.specs.Row.{function_row, weighted_row, GivesRow}
use Rattle.df_level.specs.Division.{IsContent, divisor_of, quotient_row, IsDivisor}
use Rattle.df_level.specs.Way.{multiple_row, Comes, AllCome, of_one, of_two}
use Rattle.df_level.specs.Levels.{rows_of, level_rows, level_ways, AreWays, row_limit, level_fault, IsSumBy, IsSumOf, IsCancelling, IsOverflow, AddsRow, AddsDivided, GivesAdded, GivesFactor, GivesDivided, GivesSumBy, at_sum, at_divisor}
use Rattle.df_level.proofs.Sets.{same}
use Rattle.df_level.proofs.Fitting.{divisor_not}
use Rattle.df_level.proofs.Lines.{one_comes, two_come, one_sum, all_divided}

-- one more way
more_ways : (before : List Row) (cs : List Combination) (rs : List Row) (c : Combination) (r : Row) → AllCome before cs rs → Comes before c r → AllCome before (cs ++ c ∷ []) (rs ++ r ∷ [])
more_ways before [] [] c r h k = (k, tt)
more_ways before [] (s ∷ rs) c r h k = absurd h
more_ways before (d ∷ cs) [] c r h k = absurd h
more_ways before (d ∷ cs) (s ∷ rs) c r h k = (h.0, more_ways before cs rs c r h.1 k)

one_longer : (keys : List declared.Row) (v : declared.Row) → length (rows_of (keys ++ v ∷ [])) ≡ suc (length (rows_of keys))
one_longer [] v = refl
one_longer (k ∷ keys) v = ap suc (one_longer keys v)

pub few_rows : (keys : List declared.Row) (n : ℕ) → n ≡ length keys → n < 50000 → length (rows_of keys) < row_limit
few_rows keys n is less = let same = length-map keys function_row in omega (arith, same)

pub full_rows : (keys after : List declared.Row) (n : ℕ) → length (rows_of keys) < row_limit → length (rows_of after) ≡ suc (length (rows_of keys)) → n ≡ length after → 50000 ≤ n → length (rows_of after) ≡ row_limit
full_rows keys after n few grown is past = let same = length-map after function_row in omega (arith, same)

pub same_few : (keys after : List declared.Row) → length (rows_of after) ≡ length (rows_of keys) → length (rows_of keys) < row_limit → length (rows_of after) < row_limit
same_few keys after same few = omega (arith, same, few)

module _ (v : declared.Row) (keys after : List declared.Row) (ways : List declared_combination.Combination) (added : Bool) (e : added ≡ not (list_any (same v) keys)) (put : after ≡ cond (list_any (same v) keys) keys (keys ++ v ∷ [])) where
  pub way_added : (more : List declared_combination.Combination) (c : declared_combination.Combination) → added ≡ true → more ≡ ways ++ c ∷ [] → (before : List Row) → Comes before (combination_of c) (function_row v) → AllCome before (map combination_of ways) (rows_of keys) → AllCome before (map combination_of more) (rows_of after)
  way_added more c is grown before comes h =
      let missing : list_any (same v) keys ≡ false = not-true (list_any (same v) keys) (sym e ∙ is) in
      let rows : rows_of after ≡ rows_of keys ++ function_row v ∷ [] = ap rows_of (put ∙ ap (λ t. cond t keys (keys ++ v ∷ [])) missing) ∙ map-append function_row keys (v ∷ []) in
      let combinations : map combination_of more ≡ map combination_of ways ++ combination_of c ∷ [] = ap (map combination_of) grown ∙ map-append combination_of ways (c ∷ []) in
      let P : List Row → Type 0 = λ rs. AllCome before (map combination_of more) rs in
      let Q : List Combination → Type 0 = λ cs. AllCome before cs (rows_of keys ++ function_row v ∷ []) in
      subst P (sym rows) (subst Q (sym combinations) (more_ways before (map combination_of ways) (rows_of keys) (combination_of c) (function_row v) h comes))

  pub known_length : added ≡ false → length (rows_of after) ≡ length (rows_of keys)
  known_length is =
      let there : list_any (same v) keys ≡ true = not-false (list_any (same v) keys) (sym e ∙ is) in
      ap (λ k. length (rows_of k)) (put ∙ ap (λ t. cond t keys (keys ++ v ∷ [])) there)

  pub new_length : added ≡ true → length (rows_of after) ≡ suc (length (rows_of keys))
  new_length is =
      let missing : list_any (same v) keys ≡ false = not-true (list_any (same v) keys) (sym e ∙ is) in
      ap (λ k. length (rows_of k)) (put ∙ ap (λ t. cond t keys (keys ++ v ∷ [])) missing) ∙ one_longer keys v

  pub way_known : (c : Combination) → added ≡ false → (before : List Row) → Comes before c (function_row v) → AllCome before (map combination_of ways) (rows_of keys) → AllCome before (map combination_of ways) (rows_of after)
  way_known c is before comes h =
      let there : list_any (same v) keys ≡ true = not-false (list_any (same v) keys) (sym e ∙ is) in
      let rows : rows_of after ≡ rows_of keys = ap rows_of (put ∙ ap (λ t. cond t keys (keys ++ v ∷ [])) there) in
      let P : List Row → Type 0 = λ rs. AllCome before (map combination_of ways) rs in
      subst P (sym rows) h

-- one time a row
one_time : (z : ℤ) → pos 1 *ℤ z ≡ z
one_time z = omega (arith, ints)

multiple_one : (r : Row) → multiple_row (pos 1) r ≡ r
multiple_one r = λ i. record { coefficient = λ n. one_time (r.coefficient n) i; constant = one_time r.constant i }

pub quotient_one : (z : ℤ) → quotient z (pos 1) ≡ z
quotient_one (pos n) = ap pos (div-one n)
quotient_one (negsuc n) = ap negsuc (div-one n)

pub row_by_one : (r : Row) → quotient_row 1 r ≡ r
row_by_one r = λ i. record { coefficient = λ n. quotient_one (r.coefficient n) i; constant = quotient_one r.constant i }

by_one : (count : ℕ) (r : Row) → divided count (pos 1) r ≡ Some r
by_one count r = ap (λ t. cond t (Some (quotient_row 1 r)) None) (all_divided count 1 r (omega arith) (λ n. one-dvd (unsigned_abs (r.coefficient n)))) ∙ ap Some (row_by_one r)

module _ (rows : List Row) (i : ℕ) (r : Row) (at : slice_get rows i ≡ Some r) (small : IsNarrow r) where
  small_once : IsNarrow (multiple_row (pos 1) r)
  small_once = subst IsNarrow (sym (multiple_one r)) small

  pub same_comes : (c : Combination) (x : Row) → c ≡ of_one (pos 1) i → x ≡ r → Comes rows c x
  same_comes c x e is = rw (e, is) (λ count. ap (option_and_then (divided count (pos 1))) (one_sum rows (pos 1) i r at refl small_once count [] ∙ ap Some (multiple_one r)) ∙ by_one count r)

  pub quotient_comes : (d : ℕ) (z : ℤ) (c : Combination) (x : Row) → IsDivisor r d → z ≡ pos d → c ≡ of_one z i → x ≡ quotient_row d r → Comes rows c x
  quotient_comes d z c x h e is row =
      let P : Row → Type 0 = λ y. Comes rows (of_one (pos (divisor_of h.content)) i) (quotient_row (divisor_of h.content) y) in
      let Q : Row → Type 0 = λ y. IsContent y.coefficient h.content in
      rw (is, row, e, h.is) (subst P (multiple_one r) (one_comes rows (pos 1) i r at refl small_once h.content (subst Q (sym (multiple_one r)) h.is_content)))

-- a factor is at least 0
is_natural : (k : ℕ) → int_le (pos 0) (pos k) ≡ true
is_natural k = grind (arith, ints)

module _ (n : ℕ) (first second : Row) (f g : ℤ) (sum : Sum) (by : IsCancelling n first second f g) (h : IsSumBy f first g second sum) where
  pub is_sum : (IsOverflow n first second → ⊥) → IsSumOf n first second sum
  is_sum none = record { cancelled = record { factor = f; other_factor = g; cancelling = by; divided = record { content = h.is_divisor.content; is_content = h.is_divisor.is_content; is = h.is ∙ ap (λ d. quotient_row d (weighted_row f first g second)) h.is_divisor.is } }; comes = comes; fits_all = none }
    where
      comes : (rows : List Row) (i j : ℕ) → slice_get rows i ≡ Some first → slice_get rows j ≡ Some second → Comes rows (of_two sum.divisor (record { factor = sum.factor; row = i }) (record { factor = sum.other_factor; row = j })) (function_row sum.row)
      comes rows i j at other =
          let least : int_le (pos 0) f ≡ true = ap (int_le (pos 0)) by.is_factor ∙ is_natural (unsigned_abs (second.coefficient n) / by.divisor) in
          let least_other : int_le (pos 0) g ≡ true = ap (int_le (pos 0)) by.is_other_factor ∙ is_natural (unsigned_abs (first.coefficient n) / by.divisor) in
          rw (h.is, h.divisor, h.is_factor, h.is_other_factor, h.is_divisor.is) (two_come rows f i first at least h.small g j second other least_other h.other_small h.sum_small h.is_divisor.content h.is_divisor.is_content)

-- the number of a row
pub row_at : (rows : List declared.Row) (i : ℕ) (x : declared.Row) → i < length rows → x ≡ get_or rows i x → slice_get (rows_of rows) i ≡ Some (function_row x)
row_at [] i x less is = absurd (omega arith)
row_at (r ∷ rows) zero x less is = ap (λ y. Some (function_row y)) (sym is)
row_at (r ∷ rows) (suc i) x less is = row_at rows i x (omega arith) is

-- no ways yet
pub no_ways : (before : List Row) (level : Level) → level_rows level ≡ [] → level_ways level ≡ [] → AreWays before level
no_ways before level e is =
    let P : List Row → Type 0 = λ rs. AllCome before (level_ways level) rs in
    let Q : List Combination → Type 0 = λ cs. AllCome before cs [] in
    subst P (sym e) (subst Q (sym is) tt)

-- faults of the first level
pub divisor_fails : (row : Row) (d : ℕ) (before after : List Row) (fault : RowFault) (out : LevelFault) → out ≡ level_fault fault → IsDivisor row d → GivesFactor d (Err fault) → GivesDivided row before after (Err out)
divisor_fails row d before after faults.Wide out is h e = rw is (record { divisor = d; is_divisor = h; wide = e })
divisor_fails row d before after faults.Memory out is h e = rw is tt

adds_quotient : (row x : Row) (d : ℕ) (before after : List Row) → IsDivisor row d → fits (pos d) ≡ true → x ≡ quotient_row d row → AddsRow x before after → AddsDivided row before after
adds_quotient row x d before after h fit e more = record { quotient = x; divided = record { content = h.content; is_content = h.is_content; is = e ∙ ap (λ k. quotient_row k row) h.is }; fit = divisor_not row d h fit; adds = more }

pub quotient_added : (row x : Row) (d : ℕ) (before after : List Row) (result : Result Unit LevelFault) → IsDivisor row d → fits (pos d) ≡ true → x ≡ quotient_row d row → GivesAdded x before after result → GivesDivided row before after result
quotient_added row x d before after (Ok done) h fit e more = (adds_quotient row x d before after h fit e more.0, more.1)
quotient_added row x d before after (Err level_faults.Wide) h fit e more = absurd more
quotient_added row x d before after (Err level_faults.Many) h fit e more = (adds_quotient row x d before after h fit e more.0, more.1)
quotient_added row x d before after (Err level_faults.Memory) h fit e more = tt

-- tests
pub test_passes : (P Q : Type 0) (b : Bool) → MatchBool b P Q → b ≡ true → P
test_passes P Q true h e = h
test_passes P Q false h e = absurd (true≢false (sym e))

pub test_fails : (P Q : Type 0) (b : Bool) → MatchBool b P Q → b ≡ false → Q
test_fails P Q true h e = absurd (true≢false e)
test_fails P Q false h e = h

-- the sum by factors
pub by_stops : (f : ℤ) (first : Row) (g : ℤ) (second : Row) (fault : RowFault) → GivesRow (Err fault) (weighted_row f first g second) → GivesSumBy f first g second (Err fault)
by_stops f first g second faults.Wide h = at_sum h
by_stops f first g second faults.Memory h = tt

pub sum_by : (f : ℤ) (first : Row) (g : ℤ) (second : Row) (row : declared.Row) (k l d : ℤ) (content : ℕ) (s : Row) → k ≡ f → l ≡ g → IsNarrow (multiple_row f first) → IsNarrow (multiple_row g second) → IsNarrow (weighted_row f first g second) → s ≡ weighted_row f first g second → IsDivisor s content → d ≡ pos content → fits (pos content) ≡ true → function_row row ≡ quotient_row content s → IsSumBy f first g second (record { row = row; factor = k; other_factor = l; divisor = d })
sum_by f first g second row k l d content s e i small other sum is divisor z fit whole =
    let P : Row → Type 0 = λ r. IsDivisor r content in
    record { is_factor = e; is_other_factor = i; small = small; other_small = other; sum_small = sum; content = content; is_divisor = subst P is divisor; divisor = z; divisor_fits = fit; is = whole ∙ ap (quotient_row content) is }

pub row_narrow : (row : declared.Row) → IsNarrow (function_row row)
row_narrow row = record { coefficients = row.narrow.each; constant = row.fitting }

-- a combination with its numbers as they are passed
pub comes_by : (before : List Row) (c : Combination) (sum : Sum) (i j : ℕ) (f g d : ℤ) → f ≡ sum.factor → g ≡ sum.other_factor → d ≡ sum.divisor → c ≡ of_two d (record { factor = f; row = i }) (record { factor = g; row = j }) → Comes before (of_two sum.divisor (record { factor = sum.factor; row = i }) (record { factor = sum.other_factor; row = j })) (function_row sum.row) → Comes before c (function_row sum.row)
comes_by before c sum i j f g d p q r e h =
    let P : Combination → Type 0 = λ way. Comes before way (function_row sum.row) in
    let same : c ≡ of_two sum.divisor (record { factor = sum.factor; row = i }) (record { factor = sum.other_factor; row = j }) = e ∙ (λ k. of_two (r k) (record { factor = p k; row = i }) (record { factor = q k; row = j })) in
    subst P (sym same) h

pub divisor_stops : (f : ℤ) (first : Row) (g : ℤ) (second s : Row) (content : ℕ) (fault : RowFault) → s ≡ weighted_row f first g second → IsDivisor s content → GivesFactor content (Err fault) → GivesSumBy f first g second (Err fault)
divisor_stops f first g second s content faults.Wide is h e = let P : Row → Type 0 = λ r. IsDivisor r content in at_divisor (record { divisor = content; is_divisor = subst P is h; wide = e })
divisor_stops f first g second s content faults.Memory is h e = tt
