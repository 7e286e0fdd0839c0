-- Combinations of which some are kept.
use Rattle.std.proofs.Common.{◌≡◌, ℕ, suc, ◌+◌, ◌<◌, ◌≤◌, pos, Bool, true, false, inl, inr, List, [], ◌∷◌, ◌++◌, map, length, take, get_or, slice_get, Option, Some, None, refl, sym, ap, subst, ◌∙◌, arith, add-one}
use Rattle.std.proofs.Math.Seq.{take-suc}
use Rattle.std.proofs.lemmas.List.{map-append, length-map, take_all, append-nil}
use Rattle.std.proofs.lemmas.Option.{slice_get_within, slice_get-get_or, none-some, same_Some}
use Rattle.std.specs.Option.{option_and_then, IfSome}
use Rattle.df_lemmas.proofs.Lists.{get_grown, get_pushed}
use Rattle.df_form.specs.declared.log.Multiple.{Multiple}
use Rattle.df_form.specs.declared.log.Combination as declared_combination
use Rattle.df_form.specs.Log.{Combination, combination_of}
use Rattle.df_row.specs.Row.{Row, constant_row}
use Rattle.df_row.specs.Linear.{combined, divided, sum_from, with_multiple, is_false, refutes, if_row}
use Rattle.df_row.proofs.LinearRefutes.{refutes_from, refutes_start, refutes_goes, refutes_stops}
use Rattle.df_refutation.specs.declared.kept.Kept.{Kept}
use Rattle.df_level.specs.declared.level.Level.{Level}
use Rattle.df_level.specs.declared.row.Row as declared_row
use Rattle.df_level.specs.Row.{function_row}
use Rattle.df_level.specs.Levels.{rows_of}
use Rattle.df_refutation.specs.History.{TellsRefuted}
use Rattle.df_refutation.specs.Needed.{KeepsRefuting, DerivesAt, StandsAt, AreNumbers, HasKept, KeepsSome, IsRenumbered, AreRenumbered, IsRenumberedWay, KeepsNumbers, KeepsOneMore}
use Rattle.df_refutation.proofs.Histories.{joined, get_right, length_joined}

-- lists
length_last : {A : Type 0} (xs : List A) (x : A) → length (xs ++ x ∷ []) ≡ suc (length xs)
length_last [] x = refl
length_last (y ∷ xs) x = ap suc (length_last xs x)

last_at : (rows ds : List Row) (r : Row) (n : ℕ) → n ≡ length rows + length ds → slice_get (rows ++ (ds ++ r ∷ [])) n ≡ Some r
last_at rows ds r n is =
    let whole : n ≡ length (rows ++ ds) + 0 = (let e = length_joined rows ds in omega (arith)) in
    ap (λ l. slice_get l n) (sym (joined rows ds (r ∷ []))) ∙ ap (slice_get ((rows ++ ds) ++ r ∷ [])) whole ∙ get_right (rows ++ ds) (r ∷ []) 0

pub taken_more : (ways : List declared_combination.Combination) (i : ℕ) (x : declared_combination.Combination) → i < length ways → x ≡ get_or ways i x → map combination_of (take (i + 1) ways) ≡ map combination_of (take i ways) ++ combination_of x ∷ []
taken_more ways i x less is = ap (λ j. map combination_of (take j ways)) (add-one i) ∙ ap (map combination_of) (take-suc ways i x less ∙ ap (λ y. take i ways ++ y ∷ []) (sym is)) ∙ map-append combination_of (take i ways) (x ∷ [])

-- one more combination
at_more : (count : ℕ) (given : List Row) (cs : List Combination) (ds : List Row) (c : Combination) (d : Row) → DerivesAt count given cs ds → combined count (given ++ ds) c ≡ Some d → DerivesAt count given (cs ++ c ∷ []) (ds ++ d ∷ [])
at_more count given [] [] c d h comes = (ap (λ l. combined count l c) (sym (append-nil given)) ∙ comes, tt)
at_more count given [] (e ∷ ds) c d h comes = absurd h
at_more count given (b ∷ cs) [] c d h comes = absurd h
at_more count given (b ∷ cs) (e ∷ ds) c d h comes = (h.0, at_more count (given ++ e ∷ []) cs ds c d h.1 (ap (λ l. combined count l c) (joined given (e ∷ []) ds) ∙ comes))

record HasLast (count : ℕ) (given : List Row) (cs : List Combination) (c : Combination) (all : List Row) : Type 0 where
  pub before : List Row
  pub row : Row
  pub derives : DerivesAt count given cs before
  pub comes : combined count (given ++ before) c ≡ Some row
  pub is : all ≡ before ++ row ∷ []

at_less : (count : ℕ) (given : List Row) (cs : List Combination) (c : Combination) (all : List Row) → DerivesAt count given (cs ++ c ∷ []) all → HasLast count given cs c all
at_less count given [] c [] h = absurd h
at_less count given [] c (d ∷ []) h = record { before = []; row = d; derives = tt; comes = ap (λ l. combined count l c) (append-nil given) ∙ h.0; is = refl }
at_less count given [] c (d ∷ e ∷ ds) h = absurd h.1
at_less count given (b ∷ cs) c [] h = absurd h
at_less count given (b ∷ cs) c (d ∷ ds) h =
    let k = at_less count (given ++ d ∷ []) cs c ds h.1 in
    record { before = d ∷ k.before; row = k.row; derives = (h.0, k.derives); comes = ap (λ l. combined count l c) (sym (joined given (d ∷ []) k.before)) ∙ k.comes; is = ap (λ l. d ∷ l) k.is }

at_length : (count : ℕ) (given : List Row) (cs : List Combination) (ds : List Row) → DerivesAt count given cs ds → length ds ≡ length cs
at_length count given [] [] h = refl
at_length count given [] (d ∷ ds) h = absurd h
at_length count given (c ∷ cs) [] h = absurd h
at_length count given (c ∷ cs) (d ∷ ds) h = ap suc (at_length count (given ++ d ∷ []) cs ds h.1)

-- the same combination by other numbers
renumbered_sum : (numbers : List (Option ℕ)) (count : ℕ) (old new : List Row) → AreNumbers numbers old new → (ms ks : List Multiple) → AreRenumbered numbers ms ks → (row : Row) → sum_from count new row ks ≡ sum_from count old row ms
renumbered_sum numbers count old new stand [] [] h row = refl
renumbered_sum numbers count old new stand [] (k ∷ ks) h row = absurd h
renumbered_sum numbers count old new stand (m ∷ ms) [] h row = absurd h
renumbered_sum numbers count old new stand (m ∷ ms) (k ∷ ks) h row =
    let s = stand m.row k.row h.0.row in
    let same : with_multiple count row k.factor (slice_get new k.row) ≡ with_multiple count row m.factor (slice_get old m.row) = ap (with_multiple count row k.factor) (s.after ∙ sym s.before) ∙ ap (λ f. with_multiple count row f (slice_get old m.row)) h.0.factor in
    λ i. option_and_then (λ sum. renumbered_sum numbers count old new stand ms ks h.1 sum i) (same i)

renumbered_same : (numbers : List (Option ℕ)) (count : ℕ) (old new : List Row) (c d : Combination) → AreNumbers numbers old new → IsRenumberedWay numbers c d → combined count new d ≡ combined count old c
renumbered_same numbers count old new c d stand h = λ i. option_and_then (divided count (h.divisor i)) (renumbered_sum numbers count old new stand c.members d.members h.members (constant_row (pos 0)) i)

-- members so far
renumbered_more : (numbers : List (Option ℕ)) (ms ks : List Multiple) (m k : Multiple) → AreRenumbered numbers ms ks → IsRenumbered numbers m k → AreRenumbered numbers (ms ++ m ∷ []) (ks ++ k ∷ [])
renumbered_more numbers [] [] m k h one = (one, tt)
renumbered_more numbers [] (l ∷ ks) m k h one = absurd h
renumbered_more numbers (n ∷ ms) [] m k h one = absurd h
renumbered_more numbers (n ∷ ms) (l ∷ ks) m k h one = (h.0, renumbered_more numbers ms ks m k h.1 one)

pub renumbered_next : (numbers : List (Option ℕ)) (i : ℕ) (ms ks new : List Multiple) (d k : Multiple) → AreRenumbered numbers (take i ms) ks → i < length ms → IsRenumbered numbers (get_or ms i d) k → new ≡ ks ++ k ∷ [] → AreRenumbered numbers (take (i + 1) ms) new
renumbered_next numbers i ms ks new d k h less one grown =
    let more : take (i + 1) ms ≡ take i ms ++ get_or ms i d ∷ [] = ap (λ j. take j ms) (add-one i) ∙ take-suc ms i d less in
    let P : List Multiple → Type 0 = λ l. AreRenumbered numbers l new in
    let Q : List Multiple → Type 0 = λ l. AreRenumbered numbers (take i ms ++ get_or ms i d ∷ []) l in
    subst P (sym more) (subst Q (sym grown) (renumbered_more numbers (take i ms) ks (get_or ms i d) k h one))

pub renumbered_ends : (numbers : List (Option ℕ)) (i : ℕ) (ms all ks : List Multiple) → AreRenumbered numbers (take i ms) ks → length ms ≤ i → ms ≡ all → AreRenumbered numbers all ks
renumbered_ends numbers i ms all ks h past is = let P : List Multiple → Type 0 = λ l. AreRenumbered numbers l ks in subst P (take_all i ms past ∙ is) h

-- the given rows
pub no_numbers : (numbers : List (Option ℕ)) → numbers ≡ [] → KeepsNumbers 0 numbers
no_numbers numbers is = record { count = ap length is; same = λ i j e. absurd (none-some (Some j) (ap (λ l. slice_get l i) (sym is) ∙ e)) }

pub more_numbers : (n : ℕ) (numbers new : List (Option ℕ)) → KeepsNumbers n numbers → new ≡ numbers ++ Some n ∷ [] → KeepsNumbers (n + 1) new
more_numbers n numbers new h is = record { count = counted; same = same }
  where
    counted : length new ≡ n + 1
    counted = let a = h.count in let b = ap length is ∙ length_last numbers (Some n) in omega (arith)

    same : (i j : ℕ) → slice_get new i ≡ Some (Some j) → j ≡ i
    same i j e = elim (get_pushed numbers (Some n) i (Some j) (ap (λ l. slice_get l i) (sym is) ∙ e)) [
      | inl a ↦ h.same i j a
      | inr b ↦ sym (same_Some n j b.1) ∙ sym h.count ∙ sym b.0
    ]

pub keeping_begins : (given : ℕ) (new : List Combination) (numbers : List (Option ℕ)) → new ≡ [] → KeepsNumbers given numbers → KeepsSome given [] new numbers
keeping_begins given new numbers none h = record { count = (let e = h.count in omega (arith)); few = (let e = ap length none in omega (arith)); goes = goes }
  where
    stands : (rows : List Row) → length rows ≡ given → (i j : ℕ) → slice_get numbers i ≡ Some (Some j) → StandsAt (rows ++ []) i (rows ++ []) j
    stands rows is i j e =
        let inside = slice_get_within numbers i (Some j) e in
        let less : i < length rows = (let k = h.count in omega (arith)) in
        let row = get_or rows i (constant_row (pos 0)) in
        let here = get_grown rows [] i row (slice_get-get_or rows i (constant_row (pos 0)) less) in
        record { row = row; before = here; after = ap (slice_get (rows ++ [])) (h.same i j e) ∙ here }

    goes : (count : ℕ) (rows derived : List Row) → length rows ≡ given → DerivesAt count rows [] derived → HasKept count rows derived new numbers
    goes count rows [] is k = let P : List Combination → Type 0 = λ l. DerivesAt count rows l [] in record { kept = []; derives = subst P (sym none) tt; stand = stands rows is }
    goes count rows (d ∷ ds) is k = absurd k

-- one more combination, left out or kept
longer : (given : ℕ) (all : List Combination) (c : Combination) (old new : List (Option ℕ)) (o : Option ℕ) → length old ≡ given + length all → new ≡ old ++ o ∷ [] → length new ≡ given + length (all ++ c ∷ [])
longer given all c old new o is grown = let a = ap length grown ∙ length_last old o in let b = length_last all c in omega (arith)

pub left_out : (given : ℕ) (c : Combination) (before : List Combination) (old new : List (Option ℕ)) → new ≡ old ++ None ∷ [] → KeepsOneMore given c before before old new
left_out given c before old new grown = record { goes = λ all h. record { count = longer given all c old new None h.count grown; few = (let a = h.few in let b = length_last all c in omega (arith)); goes = goes all h } }
  where
    goes : (all : List Combination) → KeepsSome given all before old → (count : ℕ) (rows derived : List Row) → length rows ≡ given → DerivesAt count rows (all ++ c ∷ []) derived → HasKept count rows derived before new
    goes all h count rows derived is d = record { kept = k.kept; derives = k.derives; stand = stand }
      where
        last : HasLast count rows all c derived
        last = at_less count rows all c derived d

        k : HasKept count rows last.before before old
        k = h.goes count rows last.before is last.derives

        stand : (i j : ℕ) → slice_get new i ≡ Some (Some j) → StandsAt (rows ++ derived) i (rows ++ k.kept) j
        stand i j e = elim (get_pushed old None i (Some j) (ap (λ l. slice_get l i) (sym grown) ∙ e)) [
          | inl a ↦ (let s = k.stand i j a in record { row = s.row; before = ap (λ l. slice_get l i) (ap (λ l. rows ++ l) last.is ∙ sym (joined rows last.before (last.row ∷ []))) ∙ get_grown (rows ++ last.before) (last.row ∷ []) i s.row s.before; after = s.after })
          | inr b ↦ absurd (none-some j b.1)
        ]

pub kept_one : (given : ℕ) (c d : Combination) (before after : List Combination) (old new : List (Option ℕ)) (n : ℕ) → IsRenumberedWay old c d → n ≡ given + length before → after ≡ before ++ d ∷ [] → new ≡ old ++ Some n ∷ [] → KeepsOneMore given c before after old new
kept_one given c d before after old new n renumbered number more grown = record { goes = λ all h. record { count = longer given all c old new (Some n) h.count grown; few = (let a = h.few in let b = length_last all c in let e = ap length more ∙ length_last before d in omega (arith)); goes = goes all h } }
  where
    goes : (all : List Combination) → KeepsSome given all before old → (count : ℕ) (rows derived : List Row) → length rows ≡ given → DerivesAt count rows (all ++ c ∷ []) derived → HasKept count rows derived after new
    goes all h count rows derived is e = record { kept = k.kept ++ last.row ∷ []; derives = (let P : List Combination → Type 0 = λ l. DerivesAt count rows l (k.kept ++ last.row ∷ []) in subst P (sym more) (at_more count rows before k.kept d last.row k.derives comes)); stand = stand }
      where
        last : HasLast count rows all c derived
        last = at_less count rows all c derived e

        k : HasKept count rows last.before before old
        k = h.goes count rows last.before is last.derives

        comes : combined count (rows ++ k.kept) d ≡ Some last.row
        comes = renumbered_same old count (rows ++ last.before) (rows ++ k.kept) c d k.stand renumbered ∙ last.comes

        here : slice_get (rows ++ derived) (length old) ≡ Some last.row
        here = ap (λ l. slice_get (rows ++ l) (length old)) last.is ∙ last_at rows last.before last.row (length old) (let a = h.count in let b = at_length count rows all last.before last.derives in omega (arith))

        there : slice_get (rows ++ (k.kept ++ last.row ∷ [])) n ≡ Some last.row
        there = last_at rows k.kept last.row n (let b = at_length count rows before k.kept k.derives in omega (arith))

        stand : (i j : ℕ) → slice_get new i ≡ Some (Some j) → StandsAt (rows ++ derived) i (rows ++ (k.kept ++ last.row ∷ [])) j
        stand i j at = elim (get_pushed old (Some n) i (Some j) (ap (λ l. slice_get l i) (sym grown) ∙ at)) [
          | inl a ↦ (let s = k.stand i j a in record { row = s.row; before = ap (λ l. slice_get l i) (ap (λ l. rows ++ l) last.is ∙ sym (joined rows last.before (last.row ∷ []))) ∙ get_grown (rows ++ last.before) (last.row ∷ []) i s.row s.before; after = ap (λ l. slice_get l j) (sym (joined rows k.kept (last.row ∷ []))) ∙ get_grown (rows ++ k.kept) (last.row ∷ []) j s.row s.after })
          | inr b ↦ record { row = last.row; before = ap (slice_get (rows ++ derived)) b.0 ∙ here; after = ap (slice_get (rows ++ (k.kept ++ last.row ∷ []))) (sym (same_Some n j b.1)) ∙ there }
        ]

-- what refutes
refuting_at : (count : ℕ) (last : Bool) (rows : List Row) (cs : List Combination) (ds : List Row) (c : Combination) → DerivesAt count rows cs ds → refutes_from count last rows (cs ++ c ∷ []) ≡ if_row (combined count (rows ++ ds) c) (is_false count)
refuting_at count last rows [] [] c h = ap (λ l. if_row (combined count l c) (is_false count)) (sym (append-nil rows))
refuting_at count last rows [] (d ∷ ds) c h = absurd h
refuting_at count last rows (b ∷ cs) [] c h = absurd h
refuting_at count last rows (b ∷ cs) (d ∷ ds) c h = refutes_goes count last rows b (cs ++ c ∷ []) d h.0 ∙ refuting_at count (is_false count d) (rows ++ d ∷ []) cs ds c h.1 ∙ ap (λ l. if_row (combined count l c) (is_false count)) (joined rows (d ∷ []) ds)

derived_of : (count : ℕ) (last : Bool) (rows : List Row) (cs : List Combination) (c : Combination) → refutes_from count last rows (cs ++ c ∷ []) ≡ true → (ds : List Row) × DerivesAt count rows cs ds
derived_of count last rows [] c e = ([], tt)
derived_of count last rows (b ∷ cs) c e = by (combined count rows b) refl (λ r more. derived_of count (is_false count r) (rows ++ r ∷ []) cs c more)
  where
    by : (o : Option Row) → combined count rows b ≡ o → ((r : Row) → refutes_from count (is_false count r) (rows ++ r ∷ []) (cs ++ c ∷ []) ≡ true → (ds : List Row) × DerivesAt count (rows ++ r ∷ []) cs ds) → (ds : List Row) × DerivesAt count rows (b ∷ cs) ds
    by None none again = absurd (let k : false ≡ true = sym (refutes_stops count last rows b (cs ++ c ∷ []) none) ∙ e in cc)
    by (Some r) some again = let k = again r (sym (refutes_goes count last rows b (cs ++ c ∷ []) r some) ∙ e) in (r ∷ k.0, (some, k.1))

pub some_refute : (given : ℕ) (others : List Combination) (last : Combination) (kept : List Combination) (numbers : List (Option ℕ)) (d : Combination) (all new : List Combination) → KeepsSome given others kept numbers → IsRenumberedWay numbers last d → all ≡ others ++ last ∷ [] → new ≡ kept ++ d ∷ [] → KeepsRefuting given all new
some_refute given others last kept numbers d all new h renumbered is more = record { goes = goes }
  where
    goes : (rows : List Row) → length rows ≡ given → (count : ℕ) → refutes count rows all ≡ true → refutes count rows new ≡ true
    goes rows short count e =
        let told = refutes_start count rows (others ++ last ∷ []) ∙ ap (refutes count rows) (sym is) ∙ e in
        let found = derived_of count false rows others last told in
        let k = h.goes count rows found.0 short found.1 in
        ap (refutes count rows) more ∙ sym (refutes_start count rows (kept ++ d ∷ [])) ∙ refuting_at count false rows kept k.kept d k.derives ∙ ap (λ o. if_row o (is_false count)) (renumbered_same numbers count (rows ++ found.0) (rows ++ k.kept) last d k.stand renumbered) ∙ sym (refuting_at count false rows others found.0 last found.1) ∙ told

pub all_refute : (given : ℕ) (old new : List Combination) → new ≡ old → KeepsRefuting given old new
all_refute given old new is = record { goes = λ rows short count e. ap (refutes count rows) is ∙ e }

-- one more combination gone past
pub keeping_goes : (given : ℕ) (taken all : List Combination) (c : Combination) (old made new : Kept) → KeepsSome given taken (map combination_of old.combinations.items) old.numbers.items → KeepsOneMore given c (map combination_of old.combinations.items) (map combination_of made.combinations.items) old.numbers.items made.numbers.items → all ≡ taken ++ c ∷ [] → new ≡ made → KeepsSome given all (map combination_of new.combinations.items) new.numbers.items
keeping_goes given taken all c old made new h more is same =
    let P : List Combination → Type 0 = λ l. KeepsSome given l (map combination_of new.combinations.items) new.numbers.items in
    let Q : Kept → Type 0 = λ k. KeepsSome given (taken ++ c ∷ []) (map combination_of k.combinations.items) k.numbers.items in
    subst P (sym is) (subst Q (sym same) (more.goes taken h))

pub renumbered_by : (numbers own : List (Option ℕ)) (c : Combination) (o : Option declared_combination.Combination) (d : declared_combination.Combination) → IfSome o (λ new. IsRenumberedWay numbers c (combination_of new)) → o ≡ Some d → numbers ≡ own → IsRenumberedWay own c (combination_of d)
renumbered_by numbers own c o d h is same =
    let P : Option declared_combination.Combination → Type 0 = λ x. IfSome x (λ new. IsRenumberedWay numbers c (combination_of new)) in
    let Q : List (Option ℕ) → Type 0 = λ l. IsRenumberedWay l c (combination_of d) in
    subst Q same (subst P is h)

pub keeping_is : (given : ℕ) (all : List Combination) (o : Option Kept) (kept : Kept) → IfSome o (λ k. KeepsSome given all (map combination_of k.combinations.items) k.numbers.items) → o ≡ Some kept → KeepsSome given all (map combination_of kept.combinations.items) kept.numbers.items
keeping_is given all o kept h is = let P : Option Kept → Type 0 = λ x. IfSome x (λ k. KeepsSome given all (map combination_of k.combinations.items) k.numbers.items) in subst P is h

-- the levels' rows
pub refuted_still : (given : List declared_row.Row) (levels : List Level) (o : Option (List Combination)) (all old new : List Combination) → TellsRefuted (rows_of given) levels o → o ≡ Some all → old ≡ all → KeepsRefuting (length given) old new → (count : ℕ) → refutes count (rows_of given) new ≡ true
refuted_still given levels o all old new told is same keeps count =
    let P : Option (List Combination) → Type 0 = λ x. TellsRefuted (rows_of given) levels x in
    let e : (n : ℕ) → refutes n (rows_of given) all ≡ true = subst P is told in
    keeps.goes (rows_of given) (length-map given function_row) count (ap (refutes count (rows_of given)) same ∙ e count)
