-- Words that are written are read.
use Rattle.std.proofs.Common.{◌≡◌, ℕ, ℤ, pos, negsuc, suc, ◌+◌, ◌^◌, ◌<◌, ◌≤◌, Bool, true, false, cond, List, [], ◌∷◌, ◌++◌, map, take, drop, length, Some, None, Option, refl, sym, ap, subst, ◌∙◌, append_assoc, inl, inr, length-append, arith, lit≤}
use Rattle.std.specs.Prelude.{nat_eq, ◌⊎◌, ◌==◌}
use Rattle.std.specs.Option.{option_and_then, option_map}
use Rattle.std.specs.List.{AllByRecursion, flat_map}
use Rattle.std.specs.Fmt.{decimal, signed_decimal}
use Rattle.std.proofs.lemmas.List.{append-nil, take_at, drop_at}
use Rattle.std.proofs.lemmas.Bool.{eq-eqb}
use Rattle.df_lemmas.proofs.Options.{none_left}
use Rattle.df_lemmas.proofs.Alls.{all_joined, all_there}
use Rattle.df_form.specs.declared.log.Lit.{Lit}
use Rattle.df_form.specs.declared.log.Multiple.{Multiple}
use Rattle.df_form.specs.declared.log.Pair.{Pair}
use Rattle.df_form.specs.Clause.{yes, no}
use Rattle.df_form.specs.Log.{Combination}
use Rattle.df_logtext.specs.Joined.{behind, joined}
use Rattle.df_logtext.specs.Numeral.{number_of, negative_of, integer_of}
use Rattle.df_logtext.specs.Parting.{parted_from, parted}
use Rattle.df_logtext.specs.Words.{each_from, index_of, indices_of, literal_of, literals_of, pair_of, pairs_from, place_from, product_of, multiple_of, sum_of, with_combination, with_divisor, found_or, combinations_from}
use Rattle.df_logtext.specs.StepText.{sign, literal_word, pair_words, multiple_text, sum_words, combination_words}
use Rattle.df_logtext.specs.HasText.{IsIndex, IsWide, HasLiteral, HasPair, HasMultiple, HasCombination}
use Rattle.df_logtext.proofs.Numbered.{IsDigit, IsCanonical, canonical, number_written}
use Rattle.df_logtext.proofs.WordsRead.{integer_read}

pub weaker : {A : Type 0} (P Q : A → Type 0) → ((x : A) → P x → Q x) → (xs : List A) → AllByRecursion P xs → AllByRecursion Q xs
weaker P Q h [] a = tt
weaker P Q h (x ∷ xs) a = (h x a.0, weaker P Q h xs a.1)

-- a digit or `-` (45)
abbrev pub IsNumeric : ℕ → Type 0
IsNumeric b = (b ≡ 45) ⊎ IsDigit b

pub decimal_digits : (n : ℕ) → n < 10 ^ 64 → AllByRecursion IsDigit (decimal n)
decimal_digits n small = let c = canonical 1 n small in c.digits

pub decimal_numeric : (n : ℕ) → n < 10 ^ 64 → AllByRecursion IsNumeric (decimal n)
decimal_numeric n small = weaker IsDigit IsNumeric (λ b d. inr d) (decimal n) (decimal_digits n small)

pub signed_numeric : (z : ℤ) → IsWide z → AllByRecursion IsNumeric (signed_decimal z)
signed_numeric (pos n) h = decimal_numeric n (omega arith)
signed_numeric (negsuc n) h = (inl refl, decimal_numeric (suc n) (omega arith))

pub index_written : (n : ℕ) → IsIndex n → index_of (decimal n) ≡ Some n
index_written n h = number_written (2 ^ 64) n h (lit≤ tt)

positive_written : (n : ℕ) (ds : List ℕ) → IsCanonical (2 ^ 127) n ds → number_of (2 ^ 127) ds ≡ Some n → integer_of ds ≡ Some (pos n)
unfolding integer_of
positive_written n ds c e =
    let P : List ℕ → Type 0 = λ xs. AllByRecursion IsDigit xs in
    let digits = subst P c.shape c.digits in
    let low : 48 ≤ c.first = digits.0.0 in
    let apart : nat_eq c.first 45 ≡ false = grind (arith, low) in
    ap integer_of c.shape ∙ ap (λ t. cond t (option_and_then negative_of (number_of (2 ^ 127 + 1) c.others)) (option_map (λ m. pos m) (number_of (2 ^ 127) (c.first ∷ c.others)))) apart
    ∙ ap (λ xs. option_map (λ m. pos m) (number_of (2 ^ 127) xs)) (sym c.shape) ∙ ap (option_map (λ m. pos m)) e

pub integer_written : (z : ℤ) → IsWide z → integer_of (signed_decimal z) ≡ Some z
unfolding integer_of
integer_written (pos n) h = positive_written n (decimal n) (canonical (2 ^ 127) n (omega arith)) (number_written (2 ^ 127) n h (lit≤ tt))
integer_written (negsuc n) h = ap (option_and_then negative_of) (number_written (2 ^ 127 + 1) (suc n) (omega arith) (lit≤ tt))

signed_written : (positive : Bool) (n : ℕ) → IsIndex n → literal_of (sign positive ∷ decimal n) ≡ Some (record { positive = positive; node = n })
unfolding literal_of
signed_written true n h = ap (option_map yes) (index_written n h)
signed_written false n h = ap (option_map no) (index_written n h)

pub literal_written : (l : Lit) → HasLiteral l → literal_of (literal_word l) ≡ Some l
literal_written l h = signed_written l.positive l.node h

pub each_written : {A : Type 0} (read : List ℕ → Option A) (text : A → List ℕ) (Has : A → Type 0) → ((x : A) → Has x → read (text x) ≡ Some x) → (before xs : List A) → AllByRecursion Has xs → each_from read before (map text xs) ≡ Some (before ++ xs)
each_written read text Has one before [] has = ap (λ ys. Some ys) (sym (append-nil before))
each_written read text Has one before (x ∷ xs) has =
    ap (option_and_then (λ y. each_from read (before ++ y ∷ []) (map text xs))) (one x has.0) ∙ each_written read text Has one (before ++ x ∷ []) xs has.1 ∙ ap (λ ys. Some ys) (append_assoc before (x ∷ []) xs)

pub indices_written : (ns : List ℕ) → AllByRecursion IsIndex ns → indices_of (map decimal ns) ≡ Some ns
indices_written ns has = each_written index_of decimal IsIndex index_written [] ns has

pub literals_written : (ls : List Lit) → AllByRecursion HasLiteral ls → literals_of (map literal_word ls) ≡ Some ls
literals_written ls has = each_written literal_of literal_word HasLiteral literal_written [] ls has

pairs_next : (before ps : List Pair) → AllByRecursion HasPair ps → pairs_from before (flat_map pair_words ps) ≡ Some (before ++ ps)
pairs_next before [] has = ap (λ qs. Some qs) (sym (append-nil before))
pairs_next before (p ∷ ps) has =
    let go : Option Pair → Option (List Pair) = option_and_then (λ q. pairs_from (before ++ q ∷ []) (flat_map pair_words ps)) in
    ap (λ l. go (pair_of l (index_of (decimal p.right)))) (index_written p.left has.0.0) ∙ ap (λ r. go (pair_of (Some p.left) r)) (index_written p.right has.0.1)
    ∙ pairs_next (before ++ p ∷ []) ps has.1 ∙ ap (λ qs. Some qs) (append_assoc before (p ∷ []) ps)

pub pairs_written : (ps : List Pair) → AllByRecursion HasPair ps → pairs_from [] (flat_map pair_words ps) ≡ Some ps
pairs_written ps has = pairs_next [] ps has

pub place_written : {A : Type 0} (test : A → Bool) (number : ℕ) (front : List A) (x : A) (back : List A) → AllByRecursion (λ y. test y ≡ false) front → test x ≡ true → place_from test number (front ++ x ∷ back) ≡ Some (number + length front)
place_written test number [] x back fail passes = let e : number ≡ number + 0 = omega arith in ap (λ t. cond t (Some number) (place_from test (number + 1) back)) passes ∙ ap (λ n. Some n) e
place_written test number (y ∷ ys) x back fail passes =
    let e : (number + 1) + length ys ≡ number + suc (length ys) = omega arith in
    ap (λ t. cond t (Some number) (place_from test (number + 1) (ys ++ x ∷ back))) fail.0 ∙ place_written test (number + 1) ys x back fail.1 passes ∙ ap (λ n. Some n) e

-- around it
pub sides_written : {A : Type 0} (front : List A) (x : A) (back : List A) → (take (0 + length front) (front ++ x ∷ back) ≡ front) × (drop ((0 + length front) + 1) (front ++ x ∷ back) ≡ back)
sides_written front x back =
    let e : length front ≡ 0 + length front = omega arith in
    let f : length (front ++ x ∷ []) ≡ (0 + length front) + 1 = omega (arith, length-append front (x ∷ [])) in
    (take_at front (x ∷ back) (0 + length front) e, ap (drop ((0 + length front) + 1)) (sym (append_assoc front (x ∷ []) back)) ∙ drop_at (front ++ x ∷ []) back ((0 + length front) + 1) f)

no_star : (b : ℕ) → IsNumeric b → nat_eq b 42 ≡ false
no_star b (inl e) = grind (arith, e)
no_star b (inr d) = grind (arith, d.0)

pub multiple_written : (m : Multiple) → HasMultiple m → multiple_of (multiple_text m) ≡ Some m
unfolding multiple_of
multiple_written m has =
    let f = signed_decimal m.factor in
    let r = decimal m.row in
    let place = place_written (λ b. b == 42) 0 f 42 r (weaker IsNumeric (λ b. nat_eq b 42 ≡ false) no_star f (signed_numeric m.factor has.0)) refl in
    let sides = sides_written f 42 r in
    ap (option_and_then (λ at. product_of (integer_of (take at (f ++ 42 ∷ r))) (index_of (drop (at + 1) (f ++ 42 ∷ r))))) place
    ∙ ap (λ x. product_of (integer_of x) (index_of (drop ((0 + length f) + 1) (f ++ 42 ∷ r)))) sides.0 ∙ ap (λ x. product_of (integer_of f) (index_of x)) sides.1
    ∙ ap (λ x. product_of x (index_of r)) (integer_written m.factor has.0) ∙ ap (λ x. product_of (Some m.factor) x) (index_written m.row has.1)

-- parts that hold no separator
part_goes : (separator b : ℕ) (before bs : List ℕ) → nat_eq b separator ≡ false → parted_from separator before (b ∷ bs) ≡ parted_from separator (before ++ b ∷ []) bs
part_goes separator b before bs e = ap (λ t. cond t (before ∷ parted_from separator [] bs) (parted_from separator (before ++ b ∷ []) bs)) e

part_walk : (separator : ℕ) (before xs rest : List ℕ) → AllByRecursion (λ b. nat_eq b separator ≡ false) xs → parted_from separator before (xs ++ rest) ≡ parted_from separator (before ++ xs) rest
part_walk separator before [] rest free = ap (λ x. parted_from separator x rest) (sym (append-nil before))
part_walk separator before (b ∷ bs) rest free = part_goes separator b before (bs ++ rest) free.0 ∙ part_walk separator (before ++ b ∷ []) bs rest free.1 ∙ ap (λ x. parted_from separator x rest) (append_assoc before (b ∷ []) bs)

pub parts_written : (separator : ℕ) (first : List ℕ) (others : List (List ℕ)) → AllByRecursion (λ b. nat_eq b separator ≡ false) first → AllByRecursion (λ w. AllByRecursion (λ b. nat_eq b separator ≡ false) w) others → parted separator (joined separator (first ∷ others)) ≡ first ∷ others
parts_written separator first [] free all = part_walk separator [] first [] free
parts_written separator first (w ∷ ws) free all =
    let e : nat_eq separator separator ≡ true = eq-eqb separator separator refl in
    part_walk separator [] first (separator ∷ (w ++ behind separator ws)) free
    ∙ ap (λ t. cond t (first ∷ parted_from separator [] (w ++ behind separator ws)) (parted_from separator (first ++ separator ∷ []) (w ++ behind separator ws))) e
    ∙ ap (λ ps. first ∷ ps) (parts_written separator w ws all.0 all.1)

no_plus : (b : ℕ) → IsNumeric b → nat_eq b 43 ≡ false
no_plus b (inl e) = grind (arith, e)
no_plus b (inr d) = grind (arith, d.0)

multiple_free : (m : Multiple) → HasMultiple m → AllByRecursion (λ b. nat_eq b 43 ≡ false) (multiple_text m)
multiple_free m has =
    all_joined _ (signed_decimal m.factor) (42 ∷ decimal m.row) (weaker IsNumeric (λ b. nat_eq b 43 ≡ false) no_plus (signed_decimal m.factor) (signed_numeric m.factor has.0))
    (refl, weaker IsNumeric (λ b. nat_eq b 43 ≡ false) no_plus (decimal m.row) (decimal_numeric m.row (omega (arith, has.1))))

multiples_free : (ms : List Multiple) → AllByRecursion HasMultiple ms → AllByRecursion (λ w. AllByRecursion (λ b. nat_eq b 43 ≡ false) w) (map multiple_text ms)
multiples_free [] has = tt
multiples_free (m ∷ ms) has = (multiple_free m has.0, multiples_free ms has.1)

pub sum_written : (m : Multiple) (ms : List Multiple) → AllByRecursion HasMultiple (m ∷ ms) → sum_of (joined 43 (map multiple_text (m ∷ ms))) ≡ Some (m ∷ ms)
sum_written m ms has =
    ap (each_from multiple_of []) (parts_written 43 (multiple_text m) (map multiple_text ms) (multiple_free m has.0) (multiples_free ms has.1)) ∙ each_written multiple_of multiple_text HasMultiple multiple_written [] (m ∷ ms) has

-- a sum is no whole number
numeric_star : IsNumeric 42 → ⊥
numeric_star (inl e) = omega (arith, e)
numeric_star (inr d) = omega (arith, d.0)

sum_is_none : (m : Multiple) (ms : List Multiple) → integer_of (joined 43 (map multiple_text (m ∷ ms))) ≡ None
sum_is_none m ms = none_left _ (λ z e.
    let r = integer_read (joined 43 (map multiple_text (m ∷ ms))) z e in
    let P : List ℕ → Type 0 = λ xs. AllByRecursion IsNumeric xs in
    let shape = append_assoc (signed_decimal m.factor) (42 ∷ decimal m.row) (behind 43 (map multiple_text ms)) in
    numeric_star (all_there IsNumeric (signed_decimal m.factor) (decimal m.row ++ behind 43 (map multiple_text ms)) 42 (subst P shape (subst P (sym r.0) (signed_numeric z r.1)))))

after_divisor : (before : List Combination) (d : ℤ) (ms : List Multiple) (cs : List Combination) → AllByRecursion HasMultiple ms → ((b : List Combination) (v : Option ℤ) → combinations_from b v (flat_map combination_words cs) ≡ Some (with_divisor b v ++ cs))
    → combinations_from before (Some d) (sum_words ms ++ flat_map combination_words cs) ≡ Some ((before ++ record { divisor = d; members = ms } ∷ []) ++ cs)
after_divisor before d [] cs has goes = goes before (Some d)
after_divisor before d (m ∷ ms) cs has goes =
    let word : List ℕ = joined 43 (map multiple_text (m ∷ ms)) in
    let rest : List (List ℕ) = flat_map combination_words cs in
    ap (λ o. found_or o (λ next. combinations_from (with_divisor before (Some d)) (Some next) rest) (option_and_then (λ members. combinations_from (with_combination before d members) None rest) (sum_of word))) (sum_is_none m ms)
    ∙ ap (option_and_then (λ members. combinations_from (with_combination before d members) None rest)) (sum_written m ms has) ∙ goes (with_combination before d (m ∷ ms)) None

combinations_next : (before : List Combination) (divisor : Option ℤ) (cs : List Combination) → AllByRecursion HasCombination cs → combinations_from before divisor (flat_map combination_words cs) ≡ Some (with_divisor before divisor ++ cs)
combinations_next before divisor [] has = ap (λ cs. Some cs) (sym (append-nil (with_divisor before divisor)))
combinations_next before divisor (c ∷ cs) has =
    let rest : List (List ℕ) = sum_words c.members ++ flat_map combination_words cs in
    ap (λ o. found_or o (λ next. combinations_from (with_divisor before divisor) (Some next) rest) (option_and_then (λ d. option_and_then (λ members. combinations_from (with_combination before d members) None rest) (sum_of (signed_decimal c.divisor))) divisor)) (integer_written c.divisor has.0.0)
    ∙ after_divisor (with_divisor before divisor) c.divisor c.members cs has.0.1 (λ b v. combinations_next b v cs has.1) ∙ ap (λ xs. Some xs) (append_assoc (with_divisor before divisor) (c ∷ []) cs)

pub combinations_written : (cs : List Combination) → AllByRecursion HasCombination cs → combinations_from [] None (flat_map combination_words cs) ≡ Some cs
combinations_written cs has = combinations_next [] None cs has
