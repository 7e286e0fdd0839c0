-- Histories of rows, one row after the other.
use Rattle.std.proofs.Common.{◌≡◌, ℕ, zero, suc, ◌+◌, ◌<◌, ◌≤◌, ◌^◌, ℤ, pos, negsuc, ◌<ℤ◌, int_le, Bool, true, false, List, [], ◌∷◌, ◌++◌, map, length, take, drop, get_or, slice_get, Option, Some, None, refl, sym, ap, subst, ◌∙◌, arith, add-one}
use Rattle.std.proofs.Math.Seq.{take-suc, drop-cons}
use Rattle.std.proofs.lemmas.List.{length-map, take_all, append-nil}
use Rattle.std.proofs.lemmas.Option.{slice_get_within, get_or_from_slice_get, none-some, same_Some}
use Rattle.std.proofs.lemmas.Int.{ints}
use Rattle.std.proofs.lemmas.Bool.Decides.{Decides-int_eq}
use Rattle.std.specs.Ordering.{int_eq}
use Rattle.std.specs.Option.{option_and_then}
use Rattle.df_lemmas.proofs.Lists.{get_grown}
use Rattle.df_form.specs.declared.log.Multiple.{Multiple}
use Rattle.df_form.specs.declared.log.Combination as declared_combination
use Rattle.df_form.specs.Log.{Combination, combination_of}
use Rattle.df_row.specs.Row.{Row, constant_row}
use Rattle.df_row.specs.Linear.{combined, divided, sum_from, with_multiple, is_false, refutes}
use Rattle.df_row.proofs.RowSums.{all_pass}
use Rattle.df_row.proofs.LinearRefutes.{refutes_from, refutes_start, refutes_goes}
use Rattle.df_row.specs.RowView.{IsNarrow}
use Rattle.df_level.specs.declared.level.Level.{Level}
use Rattle.df_level.specs.declared.row.Row as declared_row
use Rattle.df_level.specs.Row.{IsFalse, function_row}
use Rattle.df_level.specs.Way.{Comes, AllCome, of_one}
use Rattle.df_level.specs.Levels.{HasFalse, rows_of, level_rows, level_ways, AreChained}
use Rattle.df_level.proofs.Ways.{same_comes}
use Rattle.df_refutation.specs.History.{Derives, IsShifted, AreShifted, IsShiftedWay, StandFrom, ExtendsHistory, TellsRefuted}

-- lists
pub joined : (a b c : List Row) → (a ++ b) ++ c ≡ a ++ (b ++ c)
joined [] b c = refl
joined (x ∷ a) b c = ap (λ l. x ∷ l) (joined a b c)

pub stand_longer : (start : ℕ) (rows all more : List Row) → StandFrom start rows all → StandFrom start rows (all ++ more)
stand_longer start rows all more h i r e = get_grown all more (start + i) r (h i r e)

-- one more combination
pub derives_more : (given : List Row) (cs : List Combination) (ds : List Row) (c : Combination) (d : Row) → Derives given cs ds → Comes (given ++ ds) c d → Derives given (cs ++ c ∷ []) (ds ++ d ∷ [])
derives_more given [] [] c d h comes = let P : List Row → Type 0 = λ l. Comes l c d in (subst P (append-nil given) comes, tt)
derives_more given [] (e ∷ ds) c d h comes = absurd h
derives_more given (b ∷ cs) [] c d h comes = absurd h
derives_more given (b ∷ cs) (e ∷ ds) c d h comes = let P : List Row → Type 0 = λ l. Comes l c d in (h.0, derives_more (given ++ e ∷ []) cs ds c d h.1 (subst P (sym (joined given (e ∷ []) ds)) comes))

-- the numbers of rows that stand later have 64 bits
abbrev pub IsShort : ℕ → List Row → Type 0
IsShort start rows = (i : ℕ) (r : Row) → slice_get rows i ≡ Some r → i + start < 2 ^ 64

pub short_from : (start : ℕ) (rows all : List Row) → StandFrom start rows all → length all < 2 ^ 64 → IsShort start rows
short_from start rows all stand less i r e = let within = slice_get_within all (start + i) r (stand i r e) in omega (arith)

swap : (a b : ℕ) → a + b ≡ b + a
swap a b = omega arith

-- the sum of rows that stand later
shifted_sum : (start count : ℕ) (rows all : List Row) → StandFrom start rows all → IsShort start rows → (ms ks : List Multiple) → AreShifted start ms ks → (row s : Row) → sum_from count rows row ms ≡ Some s → sum_from count all row ks ≡ Some s
shifted_sum start count rows all stand short [] [] h row s e = e
shifted_sum start count rows all stand short [] (k ∷ ks) h row s e = absurd h
shifted_sum start count rows all stand short (m ∷ ms) [] h row s e = absurd h
shifted_sum start count rows all stand short (m ∷ ms) (k ∷ ks) h row s e = by (slice_get rows m.row) refl (λ t g. shifted_sum start count rows all stand short ms ks h.1 t s g)
  where
    by : (o : Option Row) → slice_get rows m.row ≡ o → ((t : Row) → sum_from count rows t ms ≡ Some s → sum_from count all t ks ≡ Some s) → sum_from count all row (k ∷ ks) ≡ Some s
    by None none again = absurd (none-some s (ap (λ o. option_and_then (λ sum. sum_from count rows sum ms) (with_multiple count row m.factor o)) (sym none) ∙ e))
    by (Some r) some again =
        let there : slice_get all (start + m.row) ≡ Some r = stand m.row r some in
        let is : k.row ≡ start + m.row = h.0.row (short m.row r some) ∙ swap m.row start in
        let here : slice_get all k.row ≡ Some r = ap (slice_get all) is ∙ there in
        next (with_multiple count row m.factor (Some r)) refl (ap (λ o. option_and_then (λ sum. sum_from count rows sum ms) (with_multiple count row m.factor o)) (sym some) ∙ e) (ap (λ o. with_multiple count row k.factor o) here ∙ ap (λ f. with_multiple count row f (Some r)) h.0.factor)
      where
        next : (o : Option Row) → with_multiple count row m.factor (Some r) ≡ o → option_and_then (λ sum. sum_from count rows sum ms) (with_multiple count row m.factor (Some r)) ≡ Some s → with_multiple count row k.factor (slice_get all k.row) ≡ with_multiple count row m.factor (Some r) → sum_from count all row (k ∷ ks) ≡ Some s
        next None none g same = absurd (none-some s (ap (option_and_then (λ sum. sum_from count rows sum ms)) (sym none) ∙ g))
        next (Some t) some g same = ap (option_and_then (λ sum. sum_from count all sum ks)) (same ∙ some) ∙ again t (ap (option_and_then (λ sum. sum_from count rows sum ms)) (sym some) ∙ g)

pub shifted_comes : (start : ℕ) (rows all : List Row) (c d : Combination) (r : Row) → StandFrom start rows all → IsShort start rows → IsShiftedWay start c d → Comes rows c r → Comes all d r
shifted_comes start rows all c d r stand short h comes count = by (sum_from count rows (constant_row (pos 0)) c.members) refl
  where
    by : (o : Option Row) → sum_from count rows (constant_row (pos 0)) c.members ≡ o → combined count all d ≡ Some r
    by None none = absurd (none-some r (ap (option_and_then (divided count c.divisor)) (sym none) ∙ comes count))
    by (Some s) some = ap (option_and_then (divided count d.divisor)) (shifted_sum start count rows all stand short c.members d.members h.members (constant_row (pos 0)) s some) ∙ ap (λ z. divided count z s) h.divisor ∙ ap (option_and_then (divided count c.divisor)) (sym some) ∙ comes count

-- members so far
pub shifted_more : (start : ℕ) (ms ks : List Multiple) (m k : Multiple) → AreShifted start ms ks → IsShifted start m k → AreShifted start (ms ++ m ∷ []) (ks ++ k ∷ [])
shifted_more start [] [] m k h one = (one, tt)
shifted_more start [] (l ∷ ks) m k h one = absurd h
shifted_more start (n ∷ ms) [] m k h one = absurd h
shifted_more start (n ∷ ms) (l ∷ ks) m k h one = (h.0, shifted_more start ms ks m k h.1 one)

-- a history that ends with a false row
false_is : (count : ℕ) (row : Row) → IsFalse row → is_false count row ≡ true
false_is count row h = rw (all_pass count (λ n. int_eq (row.coefficient n) (pos 0)) (λ n. (Decides-int_eq (row.coefficient n) (pos 0)).1 (h.zeros n))) (below row.constant h.below)
  where
    below : (z : ℤ) → z <ℤ pos 0 → int_le z (negsuc 0) ≡ true
    below z h = grind (arith, ints)

ends_false : (count : ℕ) (last : Bool) (given : List Row) (cs : List Combination) (ds : List Row) (c : Combination) (d : Row) → Derives given cs ds → Comes (given ++ ds) c d → IsFalse d → refutes_from count last given (cs ++ c ∷ []) ≡ true
ends_false count last given [] [] c d h comes is = let P : List Row → Type 0 = λ l. Comes l c d in refutes_goes count last given c [] d (subst P (append-nil given) comes count) ∙ false_is count d is
ends_false count last given [] (e ∷ ds) c d h comes is = absurd h
ends_false count last given (b ∷ cs) [] c d h comes is = absurd h
ends_false count last given (b ∷ cs) (e ∷ ds) c d h comes is = let P : List Row → Type 0 = λ l. Comes l c d in refutes_goes count last given b (cs ++ c ∷ []) e (h.0 count) ∙ ends_false count (is_false count e) (given ++ e ∷ []) cs ds c d h.1 (subst P (sym (joined given (e ∷ []) ds)) comes) is

pub history_refutes : (given : List Row) (cs : List Combination) (ds : List Row) (c : Combination) (d : Row) → Derives given cs ds → Comes (given ++ ds) c d → IsFalse d → (count : ℕ) → refutes count given (cs ++ c ∷ []) ≡ true
history_refutes given cs ds c d h comes is count = sym (refutes_start count given (cs ++ c ∷ [])) ∙ ends_false count false given cs ds c d h comes is

-- the rows of some of the ways
pub record ExtendsPart (start : ℕ) (ways : List Combination) (i : ℕ) (old new : List Combination) : Type 0 where
  pub goes : (given before rows derived : List Row) → Derives given old derived → StandFrom start before (given ++ derived) → AllCome before ways rows → length (given ++ derived) < 2 ^ 64 → Derives given new (derived ++ take i rows)

pub part_begins : (start : ℕ) (ways old : List Combination) → ExtendsPart start ways 0 old old
part_begins start ways old = record { goes = λ given before rows derived h stand come short. let P : List Row → Type 0 = λ ds. Derives given old ds in subst P (sym (append-nil derived)) h }

come_at : (before : List Row) (ways : List Combination) (rows : List Row) (i : ℕ) (c : Combination) → AllCome before ways rows → slice_get ways i ≡ Some c → (r : Row) × (slice_get rows i ≡ Some r) × Comes before c r
come_at before [] rows i c h e = absurd (none-some c e)
come_at before (d ∷ ways) [] i c h e = absurd h
come_at before (d ∷ ways) (s ∷ rows) zero c h e = (s, refl, (let P : Combination → Type 0 = λ x. Comes before x s in subst P (same_Some d c e) h.0))
come_at before (d ∷ ways) (s ∷ rows) (suc i) c h e = come_at before ways rows i c h.1 e

come_length : (before : List Row) (ways : List Combination) (rows : List Row) → AllCome before ways rows → length rows ≡ length ways
come_length before [] [] h = refl
come_length before [] (r ∷ rows) h = absurd h
come_length before (c ∷ ways) [] h = absurd h
come_length before (c ∷ ways) (r ∷ rows) h = ap suc (come_length before ways rows h.1)

pub part_goes : (start i : ℕ) (ways old new more : List Combination) (c d : Combination) → ExtendsPart start ways i old new → slice_get ways i ≡ Some c → IsShiftedWay start c d → more ≡ new ++ d ∷ [] → ExtendsPart start ways (i + 1) old more
part_goes start i ways old new more c d h at shift is = record { goes = goes }
  where
    goes : (given before rows derived : List Row) → Derives given old derived → StandFrom start before (given ++ derived) → AllCome before ways rows → length (given ++ derived) < 2 ^ 64 → Derives given more (derived ++ take (i + 1) rows)
    goes given before rows derived k stand come short =
        let found = come_at before ways rows i c come at in
        let r = found.0 in
        let grown : take (i + 1) rows ≡ take i rows ++ r ∷ [] = ap (λ j. take j rows) (add-one i) ∙ take-suc rows i r (slice_get_within rows i r found.1) ∙ ap (λ y. take i rows ++ y ∷ []) (get_or_from_slice_get rows i r r found.1) in
        let all = given ++ (derived ++ take i rows) in
        let there : StandFrom start before all = (let P : List Row → Type 0 = λ l. StandFrom start before l in subst P (joined given derived (take i rows)) (stand_longer start before (given ++ derived) (take i rows) stand)) in
        let comes : Comes all d r = shifted_comes start before all c d r there (short_from start before (given ++ derived) stand short) shift found.2 in
        let P : List Row → Type 0 = λ ds. Derives given more ds in
        let Q : List Combination → Type 0 = λ cs. Derives given cs ((derived ++ take i rows) ++ r ∷ []) in
        subst P (joined derived (take i rows) (r ∷ []) ∙ ap (λ l. derived ++ l) (sym grown)) (subst Q (sym is) (derives_more given new (derived ++ take i rows) d r (h.goes given before rows derived k stand come short) comes))

pub part_ends : (start i : ℕ) (ways old new : List Combination) → ExtendsPart start ways i old new → length ways ≤ i → ExtendsHistory start ways old new
part_ends start i ways old new h past = record { goes = λ given before rows derived k stand come short. let P : List Row → Type 0 = λ ds. Derives given new (derived ++ ds) in subst P (take_all i rows (let e = come_length before ways rows come in omega (arith))) (h.goes given before rows derived k stand come short) }

-- the rows at the end of a history
pub from_zero : (i : ℕ) → 0 + i ≡ i
from_zero i = omega arith

after_one : (n i : ℕ) → suc n + i ≡ suc (n + i)
after_one n i = omega arith

pub get_right : (a b : List Row) (i : ℕ) → slice_get (a ++ b) (length a + i) ≡ slice_get b i
get_right [] b i = ap (slice_get b) (from_zero i)
get_right (x ∷ a) b i = ap (slice_get (x ∷ (a ++ b))) (after_one (length a) i) ∙ get_right a b i

pub derives_length : (given : List Row) (cs : List Combination) (ds : List Row) → Derives given cs ds → length ds ≡ length cs
derives_length given [] [] h = refl
derives_length given [] (d ∷ ds) h = absurd h
derives_length given (c ∷ cs) [] h = absurd h
derives_length given (c ∷ cs) (d ∷ ds) h = ap suc (derives_length (given ++ d ∷ []) cs ds h.1)

pub length_joined : (a b : List Row) → length (a ++ b) ≡ length a + length b
length_joined [] b = sym (from_zero (length b))
length_joined (x ∷ a) b = ap suc (length_joined a b) ∙ sym (after_one (length a) (length b))

-- The levels so far have no false row, and their rows are derived.
pub record IsHistory (given : List Row) (levels left : List Level) (cs : List Combination) (start : ℕ) : Type 0 where
  pub derived : List Row
  pub derives : Derives given cs derived
  pub before : List Row
  pub placed : StandFrom start before (given ++ derived)
  pub chained : AreChained before left
  pub none : TellsRefuted given left None → TellsRefuted given levels None

pub history_begins : (given : List Row) (levels : List Level) → AreChained given levels → IsHistory given levels levels [] 0
history_begins given levels h = record { derived = []; derives = tt; before = given; placed = λ i r e. ap (slice_get (given ++ [])) (from_zero i) ∙ get_grown given [] i r e; chained = h; none = λ k. k }

module _ (given : List Row) (levels others : List Level) (level : Level) (cs more : List Combination) (start next : ℕ) (h : IsHistory given levels (level ∷ others) cs start) (is : next ≡ length given + length cs) (short : next < 2 ^ 64) (grown : ExtendsHistory start (level_ways level) cs more) where
  whole : length (given ++ h.derived) ≡ next
  whole = length_joined given h.derived ∙ ap (λ n. length given + n) (derives_length given cs h.derived h.derives) ∙ sym is

  longer : Derives given more (h.derived ++ level_rows level)
  longer = grown.goes given h.before (level_rows level) h.derived h.derives h.placed h.chained.0 (subst (λ n. n < 2 ^ 64) (sym whole) short)

  at_end : StandFrom next (level_rows level) (given ++ (h.derived ++ level_rows level))
  at_end i r e =
      let P : List Row → Type 0 = λ l. slice_get l (next + i) ≡ Some r in
      subst P (joined given h.derived (level_rows level)) (ap (λ n. slice_get ((given ++ h.derived) ++ level_rows level) (n + i)) (sym whole) ∙ get_right (given ++ h.derived) (level_rows level) i ∙ e)

  pub history_goes : (HasFalse (level_rows level) → ⊥) → IsHistory given levels others more next
  history_goes none = record { derived = h.derived ++ level_rows level; derives = longer; before = level_rows level; placed = at_end; chained = h.chained.1; none = λ k. h.none (none, k) }

  pub false_within : (i : ℕ) (r : Row) → slice_get (level_rows level) i ≡ Some r → next + i < length given + length more
  false_within i r at = let inside = slice_get_within (level_rows level) i r at in let n = derives_length given more (h.derived ++ level_rows level) longer in let m = length_joined h.derived (level_rows level) in let o = derives_length given cs h.derived h.derives in omega (arith)

  pub history_ends : (i : ℕ) (r : Row) (c : Combination) (all : List Combination) → slice_get (level_rows level) i ≡ Some r → IsNarrow r → IsFalse r → c ≡ of_one (pos 1) (next + i) → all ≡ more ++ c ∷ [] → (count : ℕ) → refutes count given all ≡ true
  history_ends i r c all at small false_row one is_all count =
      ap (refutes count given) is_all ∙ history_refutes given more (h.derived ++ level_rows level) c r longer (same_comes (given ++ (h.derived ++ level_rows level)) (next + i) r (at_end i r at) small c r one refl) false_row count

pub at_level : (given : List Row) (levels : List Level) (i : ℕ) (level : Level) (cs : List Combination) (start : ℕ) → IsHistory given levels (drop i levels) cs start → i < length levels → level ≡ get_or levels i level → IsHistory given levels (level ∷ drop (i + 1) levels) cs start
at_level given levels i level cs start h less is =
    let P : List Level → Type 0 = λ left. IsHistory given levels left cs start in
    subst P (drop-cons levels i level less ∙ ap (λ l. l ∷ drop (suc i) levels) (sym is) ∙ ap (λ j. level ∷ drop j levels) (sym (add-one i))) h

pub ways_extend : (start : ℕ) (ways wanted old new : List Combination) → ExtendsHistory start ways old new → ways ≡ wanted → ExtendsHistory start wanted old new
ways_extend start ways wanted old new h is = let P : List Combination → Type 0 = λ l. ExtendsHistory start l old new in subst P is h

pub next_is : (given : List declared_row.Row) (cs : List declared_combination.Combination) (n : ℕ) → n ≡ length cs → length given + n ≡ length (rows_of given) + length (map combination_of cs)
next_is given cs n is = let a = length-map given function_row in let b = length-map cs combination_of in omega (arith)

-- the loops
pub shifted_next : (start i : ℕ) (ms ks new : List Multiple) (d k : Multiple) → AreShifted start (take i ms) ks → i < length ms → IsShifted start (get_or ms i d) k → new ≡ ks ++ k ∷ [] → AreShifted start (take (i + 1) ms) new
shifted_next start i ms ks new d k h less one grown =
    let more : take (i + 1) ms ≡ take i ms ++ get_or ms i d ∷ [] = ap (λ j. take j ms) (add-one i) ∙ take-suc ms i d less in
    let P : List Multiple → Type 0 = λ l. AreShifted start l new in
    let Q : List Multiple → Type 0 = λ l. AreShifted start (take i ms ++ get_or ms i d ∷ []) l in
    subst P (sym more) (subst Q (sym grown) (shifted_more start (take i ms) ks (get_or ms i d) k h one))

pub shifted_ends : (start i : ℕ) (ms all ks : List Multiple) → AreShifted start (take i ms) ks → length ms ≤ i → ms ≡ all → AreShifted start all ks
shifted_ends start i ms all ks h past is = let P : List Multiple → Type 0 = λ l. AreShifted start l ks in subst P (take_all i ms past ∙ is) h

pub way_at : (ways : List declared_combination.Combination) (i : ℕ) (x : declared_combination.Combination) → i < length ways → x ≡ get_or ways i x → slice_get (map combination_of ways) i ≡ Some (combination_of x)
way_at [] i x less is = absurd (omega arith)
way_at (w ∷ ways) zero x less is = ap (λ y. Some (combination_of y)) (sym is)
way_at (w ∷ ways) (suc i) x less is = way_at ways i x (omega arith) is

pub ways_past : (ways : List declared_combination.Combination) (i : ℕ) → length ways ≤ i → length (map combination_of ways) ≤ i
ways_past [] i h = omega arith
ways_past (w ∷ ways) zero h = absurd (omega arith)
ways_past (w ∷ ways) (suc i) h = let e = ways_past ways i (omega arith) in omega (arith)
