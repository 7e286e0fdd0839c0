-- Lines of steps that are written are read.
use Rattle.std.proofs.Common.{◌≡◌, ℕ, ℤ, zero, suc, ◌+◌, ◌^◌, ◌<◌, ◌≤◌, Bool, true, false, not, cond, List, [], ◌∷◌, ◌++◌, map, take, drop, length, Some, None, Option, refl, sym, ap, subst, ◌∙◌, inl, inr, codes, arith, lit≤}
use Rattle.std.specs.Prelude.{nat_eq, ◌≢◌, ◌==◌, ◌&&◌, slice_get, unwrap_or}
use Rattle.std.specs.Option.{option_and_then, option_map}
use Rattle.std.specs.List.{AllByRecursion, flat_map, list_all}
use Rattle.std.specs.Fmt.{decimal, signed_decimal}
use Rattle.std.proofs.lemmas.Bool.{false_from_ne_true, and_parts}
use Rattle.std.proofs.lemmas.Option.{same_Some}
use Rattle.df_lemmas.proofs.Alls.{all_joined}
use Rattle.df_base.specs.Names.{same_text}
use Rattle.df_base.proofs.NamesLemmas.{same_text-equal, same_text-refl}
use Rattle.df_lang.specs.declared.ty.Ty.TheVariants as types
use Rattle.df_form.specs.declared.log.Lit.{Lit}
use Rattle.df_form.specs.declared.log.Multiple.{Multiple}
use Rattle.df_form.specs.declared.log.Pair.{Pair}
use Rattle.df_form.specs.declared.node.Op.{Op}
use Rattle.df_form.specs.declared.node.Op.TheVariants as ops
use Rattle.df_form.specs.declared.symbol.Symbol.TheVariants as symbols
use Rattle.df_form.specs.declared.symbol.Payload.TheVariants as payloads
use Rattle.df_form.specs.Symbol.{symbols as table, same_symbol}
use Rattle.df_form.specs.Node.{symbol, test_of}
use Rattle.df_form.specs.Log.{Combination, Step, Hypothesis, Goal, Connective, Schema, Propagation, Congruence, Linear, Split, Make}
use Rattle.df_logtext.specs.Joined.{behind}
use Rattle.df_logtext.specs.Numeral.{number_of, integer_of}
use Rattle.df_logtext.specs.Words.{place_from, index_of, indices_of, literals_of, pairs_from, combinations_from, found_or, known_type_of, newtype_of, type_of, term_op_of, formula_op_of, plain_op_of, typed_op_of, op_of}
use Rattle.df_logtext.specs.Arguments.{colon, propagated_of, joined_of, combined_of, made_of, make_of, step_of_words, read_step}
use Rattle.df_logtext.specs.StepText.{sign, literal_word, pair_words, multiple_text, sum_words, combination_words, type_words, op_word, op_number, letter, arguments, step_line}
use Rattle.df_logtext.specs.HasText.{IsIndex, IsWide, IsPlain, IsWord, IsNamed, HasWord, HasLiteral, HasPair, HasMultiple, HasCombination, HasLine}
use Rattle.df_logtext.specs.BadLog.{AreWithin}
use Rattle.df_logtext.proofs.Numbered.{IsDigit, canonical, number_written}
use Rattle.df_logtext.proofs.WordsWritten.{weaker, IsNumeric, decimal_numeric, signed_numeric, index_written, integer_written, indices_written, literals_written, pairs_written, place_written, sides_written, parts_written, combinations_written}

-- ---- the words

made_written : (op : Op) (parts : List ℕ) → AllByRecursion IsIndex parts → made_of (Some op) (map decimal parts) ≡ Some (Make (record { op = op; parts = parts }))
made_written op parts has = ap (option_map (λ ps. Make (record { op = op; parts = ps }))) (indices_written parts has)

place_named : (name : List ℕ) (names : List (List ℕ)) (k n : ℕ) → slice_get names n ≡ Some name → ((m : ℕ) → m < n → slice_get names m ≢ Some name) → place_from (λ other. same_text other name) k names ≡ Some (k + n)
place_named name [] k n here first = absurd cc
place_named name (x ∷ xs) k zero here first =
    let is : x ≡ name = same_Some x name here in
    let same : same_text x name ≡ true = ap (λ y. same_text y name) is ∙ same_text-refl name in
    let e : k ≡ k + 0 = omega arith in
    ap (λ t. cond t (Some k) (place_from (λ other. same_text other name) (k + 1) xs)) same ∙ ap (λ n. Some n) e
place_named name (x ∷ xs) k (suc m) here first =
    let apart : same_text x name ≡ false = false_from_ne_true _ (λ same. first 0 (omega arith) (ap (λ y. Some y) (same_text-equal x name same))) in
    let e : (k + 1) + m ≡ k + suc m = omega arith in
    ap (λ t. cond t (Some k) (place_from (λ other. same_text other name) (k + 1) xs)) apart ∙ place_named name xs (k + 1) m here (λ i lt. first (suc i) (omega arith)) ∙ ap (λ n. Some n) e

-- a text that is none of the words
skip : {A : Type 0} (text word : List ℕ) (one other none : A) → word ≢ text → other ≡ none → cond (same_text text word) one other ≡ none
skip text word one other none apart e = ap (λ t. cond t one other) (false_from_ne_true _ (λ same. apart (sym (same_text-equal text word same)))) ∙ e

known_none : (name : List ℕ) → AllByRecursion (λ known. known ≢ name) type_words → known_type_of name ≡ None
unfolding known_type_of
known_none name apart =
    skip name (codes "int") (Some types.Int) _ None apart.0 (skip name (codes "nat") (Some types.Nat) _ None apart.1.0 (skip name (codes "bool") (Some types.Bool) _ None apart.1.1.0 (skip name (codes "char") (Some types.Char) _ None apart.1.1.1.0 refl)))

type_made : (names : List (List ℕ)) (n : ℕ) (name : List ℕ) (parts : List ℕ) → AllByRecursion IsIndex parts → known_type_of name ≡ None → place_from (λ other. same_text other name) 0 names ≡ Some n
    → make_of names ((codes "is:" ++ name) ∷ map decimal parts) ≡ Some (Make (record { op = test_of (types.Newtype n); parts = parts }))
unfolding op_of plain_op_of term_op_of formula_op_of typed_op_of type_of table same_symbol
type_made names n name parts has known place =
    ap (λ o. made_of (option_map (λ ty. test_of ty) (found_or o (λ ty. Some ty) (newtype_of names name))) (map decimal parts)) known
    ∙ ap (λ o. made_of (option_map (λ ty. test_of ty) (option_map (λ m. types.Newtype m) o)) (map decimal parts)) place ∙ made_written (test_of (types.Newtype n)) parts has

named_made : (names : List (List ℕ)) (n : ℕ) (parts : List ℕ) → AllByRecursion IsIndex parts → IsNamed names n → make_of names (op_word names (test_of (types.Newtype n)) ∷ map decimal parts) ≡ Some (Make (record { op = test_of (types.Newtype n); parts = parts }))
unfolding table same_symbol
named_made names n parts has named =
    let e : 0 + n ≡ n = omega arith in
    let place = place_named named.name names 0 n named.here named.first ∙ ap (λ m. Some m) e in
    ap (λ o. make_of names ((codes "is:" ++ unwrap_or o []) ∷ map decimal parts)) named.here ∙ type_made names n named.name parts has (known_none named.name named.apart) place

make_written : (names : List (List ℕ)) (op : Op) (parts : List ℕ) → HasWord names op → AllByRecursion IsIndex parts → make_of names (op_word names op ∷ (op_number op ++ map decimal parts)) ≡ Some (Make (record { op = op; parts = parts }))
unfolding op_of plain_op_of term_op_of formula_op_of typed_op_of type_of known_type_of table same_symbol
make_written names (ops.Number z) parts word has = ap (λ o. made_of (option_map (λ n. ops.Number n) o) (map decimal parts)) (integer_written z word) ∙ made_written (ops.Number z) parts has
make_written names (ops.Free f) parts word has = absurd word
make_written names ops.Plus parts word has = made_written ops.Plus parts has
make_written names ops.Times parts word has = made_written ops.Times parts has
make_written names (ops.Of symbols.Is (payloads.Type (types.Newtype n))) parts word has = named_made names n parts has word
make_written names (ops.Of symbols.Is (payloads.Type types.Int)) parts word has = made_written (test_of types.Int) parts has
make_written names (ops.Of symbols.Is (payloads.Type types.Nat)) parts word has = made_written (test_of types.Nat) parts has
make_written names (ops.Of symbols.Is (payloads.Type types.Bool)) parts word has = made_written (test_of types.Bool) parts has
make_written names (ops.Of symbols.Is (payloads.Type types.Char)) parts word has = made_written (test_of types.Char) parts has
make_written names (ops.Of symbols.Is payloads.Nothing) parts word has = absurd word
make_written names (ops.Of s payloads.Nothing) parts word has = made_written (symbol s) parts has
make_written names (ops.Of s (payloads.Type ty)) parts word has = absurd word
make_written names ops.Equal parts word has = made_written ops.Equal parts has
make_written names ops.AtMost parts word has = made_written ops.AtMost parts has
make_written names ops.Not parts word has = made_written ops.Not parts has
make_written names ops.And parts word has = made_written ops.And parts has
make_written names ops.Or parts word has = made_written ops.Or parts has
make_written names ops.Implies parts word has = made_written ops.Implies parts has
make_written names ops.Iff parts word has = made_written ops.Iff parts has

-- a number is no colon, and no literal is
number_no_colon : (n : ℕ) → IsIndex n → same_text (decimal n) (codes ":") ≡ false
number_no_colon n h =
    let c = canonical 1 n (omega arith) in
    let P : List ℕ → Type 0 = λ xs. AllByRecursion IsDigit xs in
    let digits = subst P c.shape c.digits in
    let high : c.first ≤ 57 = digits.0.1 in
    let apart : nat_eq c.first 58 ≡ false = grind (arith, high) in
    false_from_ne_true _ (λ same. let e : c.first ∷ c.others ≡ 58 ∷ [] = sym c.shape ∙ same_text-equal (decimal n) (codes ":") same in let f : c.first ≡ 58 = cc in omega arith)

numbers_no_colon : (ns : List ℕ) → AllByRecursion IsIndex ns → AllByRecursion (λ w. same_text w (codes ":") ≡ false) (map decimal ns)
numbers_no_colon [] has = tt
numbers_no_colon (n ∷ ns) has = (number_no_colon n has.0, numbers_no_colon ns has.1)

literal_no_colon : (positive : Bool) (node : ℕ) → same_text (sign positive ∷ decimal node) (codes ":") ≡ false
literal_no_colon true node = refl
literal_no_colon false node = refl

literals_no_colon : (ls : List Lit) → AllByRecursion (λ w. same_text w (codes ":") ≡ false) (map literal_word ls)
literals_no_colon [] = tt
literals_no_colon (l ∷ ls) = (literal_no_colon l.positive l.node, literals_no_colon ls)

-- around the colon
colon_written : (go : List (List ℕ) → List (List ℕ) → Option Step) (front back : List (List ℕ)) → AllByRecursion (λ w. same_text w (codes ":") ≡ false) front
    → option_and_then (λ at. go (take at (front ++ codes ":" ∷ back)) (drop (at + 1) (front ++ codes ":" ∷ back))) (colon (front ++ codes ":" ∷ back)) ≡ go front back
colon_written go front back free =
    let place = place_written (λ w. same_text w (codes ":")) 0 front (codes ":") back free refl in
    let sides = sides_written front (codes ":") back in
    ap (option_and_then (λ at. go (take at (front ++ codes ":" ∷ back)) (drop (at + 1) (front ++ codes ":" ∷ back)))) place ∙ ap (λ x. go x (drop ((0 + length front) + 1) (front ++ codes ":" ∷ back))) sides.0 ∙ ap (go front) sides.1

words_written : (names : List (List ℕ)) (step : Step) → HasLine names step → step_of_words names (letter step ∷ arguments names step) ≡ Some step
words_written names (Hypothesis n) has = ap (option_map Hypothesis) (index_written n has)
words_written names Goal has = refl
words_written names (Connective n k) has = ap (option_and_then (λ m. option_map (Connective m) (index_of (decimal k)))) (index_written n has.0) ∙ ap (option_map (Connective n)) (index_written k has.1)
words_written names (Schema s k ts) has =
    ap (option_and_then (λ a. option_and_then (λ b. option_map (Schema a b) (indices_of (map decimal ts))) (number_of (2 ^ 32) (decimal k)))) (number_written (2 ^ 8) s has.0 (lit≤ tt))
    ∙ ap (option_and_then (λ b. option_map (Schema s b) (indices_of (map decimal ts)))) (number_written (2 ^ 32) k has.1 (lit≤ tt)) ∙ ap (option_map (Schema s k)) (indices_written ts has.2)
words_written names (Propagation cs ls) has =
    colon_written propagated_of (map decimal cs) (map literal_word ls) (numbers_no_colon cs has.0)
    ∙ ap (option_and_then (λ a. option_map (Propagation a) (literals_of (map literal_word ls)))) (indices_written cs has.0) ∙ ap (option_map (Propagation cs)) (literals_written ls has.1)
words_written names (Congruence ls ps) has =
    colon_written joined_of (map literal_word ls) (flat_map pair_words ps) (literals_no_colon ls)
    ∙ ap (option_and_then (λ a. option_map (Congruence a) (pairs_from [] (flat_map pair_words ps)))) (literals_written ls has.0) ∙ ap (option_map (Congruence ls)) (pairs_written ps has.1)
words_written names (Linear ls cs) has =
    colon_written combined_of (map literal_word ls) (flat_map combination_words cs) (literals_no_colon ls)
    ∙ ap (option_and_then (λ a. option_map (Linear a) (combinations_from [] None (flat_map combination_words cs)))) (literals_written ls has.0) ∙ ap (option_map (Linear ls)) (combinations_written cs has.1)
words_written names (Split n z) has = ap (option_and_then (λ m. option_map (Split m) (integer_of (signed_decimal z)))) (index_written n has.0) ∙ ap (option_map (Split n)) (integer_written z has.1)
words_written names (Make node) has = make_written names node.op node.parts has.0 has.1

-- ---- no blank and no line feed in a word

numeric_plain : (b : ℕ) → IsNumeric b → IsPlain b
numeric_plain b (inl e) = ((λ f. omega (arith, e, f)), (λ f. omega (arith, e, f)))
numeric_plain b (inr d) = let l : 48 ≤ b = d.0 in ((λ f. omega arith), (λ f. omega arith))

decimal_word : (n : ℕ) → n < 10 ^ 64 → IsWord (decimal n)
decimal_word n small = weaker IsNumeric IsPlain numeric_plain (decimal n) (decimal_numeric n small)

index_word : (n : ℕ) → IsIndex n → IsWord (decimal n)
index_word n h = decimal_word n (omega arith)

signed_word : (z : ℤ) → IsWide z → IsWord (signed_decimal z)
signed_word z h = weaker IsNumeric IsPlain numeric_plain (signed_decimal z) (signed_numeric z h)

-- words that are known
tested : (word : List ℕ) → list_all (λ b. not (b == 32) && not (b == 10)) word ≡ true → IsWord word
tested [] e = tt
tested (b ∷ bs) e =
    let t = and_parts (not (b == 32) && not (b == 10)) (list_all (λ c. not (c == 32) && not (c == 10)) bs) e in
    let u = and_parts (not (b == 32)) (not (b == 10)) t.0 in
    ((grind (arith, u.0), grind (arith, u.1)), tested bs t.1)

indices_words : (ns : List ℕ) → AllByRecursion IsIndex ns → AllByRecursion IsWord (map decimal ns)
indices_words [] has = tt
indices_words (n ∷ ns) has = (index_word n has.0, indices_words ns has.1)

literal_word_plain : (positive : Bool) (n : ℕ) → IsIndex n → IsWord (sign positive ∷ decimal n)
literal_word_plain true n h = all_joined IsPlain (codes "+") (decimal n) (tested (codes "+") refl) (index_word n h)
literal_word_plain false n h = all_joined IsPlain (codes "-") (decimal n) (tested (codes "-") refl) (index_word n h)

literals_words : (ls : List Lit) → AllByRecursion HasLiteral ls → AllByRecursion IsWord (map literal_word ls)
literals_words [] has = tt
literals_words (l ∷ ls) has = (literal_word_plain l.positive l.node has.0, literals_words ls has.1)

pairs_plain : (ps : List Pair) → AllByRecursion HasPair ps → AllByRecursion IsWord (flat_map pair_words ps)
pairs_plain [] has = tt
pairs_plain (p ∷ ps) has = (index_word p.left has.0.0, (index_word p.right has.0.1, pairs_plain ps has.1))

multiple_word : (m : Multiple) → HasMultiple m → IsWord (multiple_text m)
multiple_word m has = all_joined IsPlain (signed_decimal m.factor) (42 ∷ decimal m.row) (signed_word m.factor has.0) (all_joined IsPlain (codes "*") (decimal m.row) (tested (codes "*") refl) (index_word m.row has.1))

more_multiples : (ms : List Multiple) → AllByRecursion HasMultiple ms → IsWord (behind 43 (map multiple_text ms))
more_multiples [] has = tt
more_multiples (m ∷ ms) has = all_joined IsPlain (codes "+") (multiple_text m ++ behind 43 (map multiple_text ms)) (tested (codes "+") refl) (all_joined IsPlain (multiple_text m) (behind 43 (map multiple_text ms)) (multiple_word m has.0) (more_multiples ms has.1))

sum_plain : (ms : List Multiple) → AllByRecursion HasMultiple ms → AllByRecursion IsWord (sum_words ms)
sum_plain [] has = tt
sum_plain (m ∷ ms) has = (all_joined IsPlain (multiple_text m) (behind 43 (map multiple_text ms)) (multiple_word m has.0) (more_multiples ms has.1), tt)

combinations_plain : (cs : List Combination) → AllByRecursion HasCombination cs → AllByRecursion IsWord (flat_map combination_words cs)
combinations_plain [] has = tt
combinations_plain (c ∷ cs) has = (signed_word c.divisor has.0.0, all_joined IsWord (sum_words c.members) (flat_map combination_words cs) (sum_plain c.members has.0.1) (combinations_plain cs has.1))

op_plain : (names : List (List ℕ)) (op : Op) (parts : List ℕ) → HasWord names op → AllByRecursion IsIndex parts → AllByRecursion IsWord (op_word names op ∷ (op_number op ++ map decimal parts))
unfolding table same_symbol
op_plain names (ops.Number z) parts word has = (tested (codes "num") refl, (signed_word z word, indices_words parts has))
op_plain names (ops.Free f) parts word has = absurd word
op_plain names ops.Plus parts word has = (tested (codes "plus") refl, indices_words parts has)
op_plain names ops.Times parts word has = (tested (codes "times") refl, indices_words parts has)
op_plain names (ops.Of symbols.Is (payloads.Type (types.Newtype n))) parts word has =
    let W : List ℕ → Type 0 = λ x. IsWord x in
    (all_joined IsPlain (codes "is:") (unwrap_or (slice_get names n) []) (tested (codes "is:") refl) (subst W (sym (ap (λ o. unwrap_or o []) word.here)) word.word), indices_words parts has)
op_plain names (ops.Of symbols.Is (payloads.Type types.Int)) parts word has = (tested (codes "is:int") refl, indices_words parts has)
op_plain names (ops.Of symbols.Is (payloads.Type types.Nat)) parts word has = (tested (codes "is:nat") refl, indices_words parts has)
op_plain names (ops.Of symbols.Is (payloads.Type types.Bool)) parts word has = (tested (codes "is:bool") refl, indices_words parts has)
op_plain names (ops.Of symbols.Is (payloads.Type types.Char)) parts word has = (tested (codes "is:char") refl, indices_words parts has)
op_plain names (ops.Of symbols.Is payloads.Nothing) parts word has = absurd word
op_plain names (ops.Of s payloads.Nothing) parts word has = (tested (op_word names (symbol s)) refl, indices_words parts has)
op_plain names (ops.Of s (payloads.Type ty)) parts word has = absurd word
op_plain names ops.Equal parts word has = (tested (codes "eq") refl, indices_words parts has)
op_plain names ops.AtMost parts word has = (tested (codes "le") refl, indices_words parts has)
op_plain names ops.Not parts word has = (tested (codes "not") refl, indices_words parts has)
op_plain names ops.And parts word has = (tested (codes "and") refl, indices_words parts has)
op_plain names ops.Or parts word has = (tested (codes "or") refl, indices_words parts has)
op_plain names ops.Implies parts word has = (tested (codes "imp") refl, indices_words parts has)
op_plain names ops.Iff parts word has = (tested (codes "iff") refl, indices_words parts has)

words_plain : (names : List (List ℕ)) (step : Step) → HasLine names step → IsWord (letter step) × AllByRecursion IsWord (arguments names step)
words_plain names (Hypothesis n) has = (tested (codes "h") refl, (index_word n has, tt))
words_plain names Goal has = (tested (codes "g") refl, tt)
words_plain names (Connective n k) has = (tested (codes "x") refl, (index_word n has.0, (index_word k has.1, tt)))
words_plain names (Schema s k ts) has = (tested (codes "a") refl, (decimal_word s (omega (arith, has.0)), (decimal_word k (omega (arith, has.1)), indices_words ts has.2)))
words_plain names (Propagation cs ls) has = (tested (codes "u") refl, all_joined IsWord (map decimal cs) (codes ":" ∷ map literal_word ls) (indices_words cs has.0) (tested (codes ":") refl, literals_words ls has.1))
words_plain names (Congruence ls ps) has = (tested (codes "e") refl, all_joined IsWord (map literal_word ls) (codes ":" ∷ flat_map pair_words ps) (literals_words ls has.0) (tested (codes ":") refl, pairs_plain ps has.1))
words_plain names (Linear ls cs) has = (tested (codes "l") refl, all_joined IsWord (map literal_word ls) (codes ":" ∷ flat_map combination_words cs) (literals_words ls has.0) (tested (codes ":") refl, combinations_plain cs has.1))
words_plain names (Split n z) has = (tested (codes "s") refl, (index_word n has.0, (signed_word z has.1, tt)))
words_plain names (Make node) has = (tested (codes "n") refl, op_plain names node.op node.parts has.0 has.1)

-- ---- the line

no_blank : (b : ℕ) → IsPlain b → nat_eq b 32 ≡ false
no_blank b p = let apart : b ≢ 32 = p.0 in grind (arith, apart)

no_blanks : (ws : List (List ℕ)) → AllByRecursion IsWord ws → AllByRecursion (λ w. AllByRecursion (λ b. nat_eq b 32 ≡ false) w) ws
no_blanks ws all = weaker IsWord (λ w. AllByRecursion (λ b. nat_eq b 32 ≡ false) w) (λ w plain. weaker IsPlain (λ b. nat_eq b 32 ≡ false) no_blank w plain) ws all

pub line_written : (names : List (List ℕ)) (step : Step) → HasLine names step → read_step names (step_line names step) ≡ Some step
line_written names step has =
    let plain = words_plain names step has in
    ap (step_of_words names) (parts_written 32 (letter step) (arguments names step) (weaker IsPlain (λ b. nat_eq b 32 ≡ false) no_blank (letter step) plain.0) (no_blanks (arguments names step) plain.1)) ∙ words_written names step has

behind_within : (ws : List (List ℕ)) → AllByRecursion IsWord ws → AreWithin (behind 32 ws)
behind_within [] all = tt
behind_within (w ∷ ws) all = ((λ e. omega (arith, e)), all_joined (λ b. b ≢ 10) w (behind 32 ws) (weaker IsPlain (λ b. b ≢ 10) (λ b p. p.1) w all.0) (behind_within ws all.1))

pub line_within : (names : List (List ℕ)) (step : Step) → HasLine names step → AreWithin (step_line names step)
line_within names step has =
    let plain = words_plain names step has in
    all_joined (λ b. b ≢ 10) (letter step) (behind 32 (arguments names step)) (weaker IsPlain (λ b. b ≢ 10) (λ b p. p.1) (letter step) plain.0) (behind_within (arguments names step) plain.1)
