-- Words: texts without blanks and line feeds. Names and numbers are words, and a number is known by its word.
use Rattle.std.proofs.Common.{◌≡◌, ℕ, zero, suc, ◌<◌, ◌≤◌, ◌^◌, ℤ, pos, negsuc, Bool, true, false, not, ◌||◌, ◌&&◌, ◌==◌, nat_eq, nat_le, cond, List, [], ◌∷◌, refl, sym, ap, subst, ◌∙◌, arith}
use Rattle.std.specs.List.{list_all}
use Rattle.std.specs.Fmt.{decimal, signed_decimal}
use Rattle.std.specs.Str.Parse.{AllDigits, digits_value}
use Rattle.std.proofs.lemmas.Bool.{and_parts, and_from, eqb-true, ne_eqb}
use Rattle.std.proofs.lemmas.Fmt.{decimal_is_IsNumeral_wide}
use Rattle.std.proofs.lemmas.Str.Parse.{digit_from_value}
use Rattle.df_lemmas.proofs.Lists.{head_same, tail_same, all_weaker}
use Rattle.df_nmach.specs.Name.{is_letter, is_digit, begins_identifier, continues_identifier, is_wildcard, is_identifier, in_front, dotted, is_name}
use Rattle.df_listing.specs.Ordinary.{Fits, Counts}

-- a byte that ends no word
abbrev pub is_of_word : ℕ → Bool
is_of_word c = not (nat_eq c 32) && not (nat_eq c 10)

-- no blank and no line feed
abbrev pub is_word : List ℕ → Bool
is_word w = list_all is_of_word w

-- a test tells two bytes apart
apart : (test : ℕ → Bool) (b k : ℕ) → test b ≡ true → test k ≡ false → nat_eq b k ≡ false
apart test b k holds fails = ne_eqb b k (λ e. let clash : true ≡ false = sym holds ∙ ap test e ∙ fails in cc)

identifier_byte : (b : ℕ) → continues_identifier b ≡ true → is_of_word b ≡ true
identifier_byte b e = rw (apart continues_identifier b 32 e refl, apart continues_identifier b 10 e refl) refl

begins_continues : (l d u q r : Bool) → (l || u) ≡ true → (l || d || u || q || r) ≡ true
begins_continues true d u q r e = refl
begins_continues false true u q r e = refl
begins_continues false false true q r e = refl
begins_continues false false false q r e = cc

identifier_bytes : (w : List ℕ) → is_identifier w ≡ true → list_all continues_identifier w ≡ true
identifier_bytes [] e = refl
identifier_bytes (b ∷ bs) e =
    let form = and_parts (begins_identifier b && list_all continues_identifier bs) (not (is_wildcard (b ∷ bs))) e in
    let both = and_parts (begins_identifier b) (list_all continues_identifier bs) form.0 in
    and_from (continues_identifier b) (list_all continues_identifier bs) (begins_continues (is_letter b) (is_digit b) (b == 95) (b == 39) (b == 63) both.0) both.1

front_parts : (test : ℕ → Bool) (b : ℕ) (ts : List (List ℕ)) → list_all (list_all test) (in_front b ts) ≡ true → (test b ≡ true) × (list_all (list_all test) ts ≡ true)
front_parts test b [] e = let one = and_parts (test b) true (and_parts (test b && true) true e).0 in (one.0, refl)
front_parts test b (t ∷ ts) e =
    let both = and_parts (test b && list_all test t) (list_all (list_all test) ts) e in
    let first = and_parts (test b) (list_all test t) both.0 in
    (first.0, and_from (list_all test t) (list_all (list_all test) ts) first.1 both.1)

by_dot : (b : ℕ) (bs : List ℕ) (dot : Bool) → nat_eq b 46 ≡ dot → (list_all (list_all continues_identifier) (dotted bs) ≡ true → is_word bs ≡ true)
    → list_all (list_all continues_identifier) (cond dot ([] ∷ dotted bs) (in_front b (dotted bs))) ≡ true → is_word (b ∷ bs) ≡ true
by_dot b bs true is others all =
    let here : is_of_word b ≡ true = ap is_of_word (eqb-true b 46 is) in
    and_from (is_of_word b) (is_word bs) here (others all)
by_dot b bs false is others all =
    let both = front_parts continues_identifier b (dotted bs) all in
    and_from (is_of_word b) (is_word bs) (identifier_byte b both.0) (others both.1)

dotted_word : (bs : List ℕ) → list_all (list_all continues_identifier) (dotted bs) ≡ true → is_word bs ≡ true
dotted_word [] e = refl
dotted_word (b ∷ bs) e = by_dot b bs (nat_eq b 46) refl (dotted_word bs) e

pub name_word : (name : List ℕ) → is_name name ≡ true → is_word name ≡ true
name_word name e = dotted_word name (all_weaker is_identifier (list_all continues_identifier) (dotted name) identifier_bytes e)

-- Numbers as words.
pub digits_of : (n : ℕ) → n < 10 ^ 64 → digits_value 10 (decimal n) ≡ n
digits_of n h = (decimal_is_IsNumeral_wide n h).1

digits_words : (ds : List ℕ) → AllDigits 10 ds → is_word ds ≡ true
digits_words [] d = refl
digits_words (c ∷ cs) d =
    let digit = digit_from_value c d.0 in
    let is : is_of_word c ≡ true = digit_word c (omega (arith, digit)) in
    and_from (is_of_word c) (is_word cs) is (digits_words cs d.1)
  where
    digit_word : (c : ℕ) → 48 ≤ c → is_of_word c ≡ true
    digit_word c le = grind arith

wide_word : (n : ℕ) → n < 10 ^ 64 → is_word (decimal n) ≡ true
wide_word n h = digits_words (decimal n) (decimal_is_IsNumeral_wide n h).0.1

-- a count is below the number of 64 digits
few : (n : ℕ) → Counts n → n < 10 ^ 64
few n h = omega (arith, h)

whole : (n : ℕ) → n < 2 ^ 127 → suc n < 10 ^ 64
whole n h = omega (arith, h)

pub decimal_word : (n : ℕ) → Counts n → is_word (decimal n) ≡ true
decimal_word n h = wide_word n (few n h)

pub signed_word : (z : ℤ) → Fits z → is_word (signed_decimal z) ≡ true
signed_word (pos n) h = wide_word n (let s = whole n h in omega (arith, s))
signed_word (negsuc n) h = wide_word (suc n) (whole n h)

-- the count that a word writes
abbrev pub count_in : List ℕ → ℕ
count_in w = digits_value 10 w

pub count_is : (n : ℕ) → Counts n → count_in (decimal n) ≡ n
count_is n h = digits_of n (few n h)

pub decimal_same : (m n : ℕ) → Counts m → Counts n → decimal m ≡ decimal n → m ≡ n
decimal_same m n p q e = sym (count_is m p) ∙ ap count_in e ∙ count_is n q

-- the number of so many, or with its sign turned
abbrev negated : ℕ → ℤ
negated zero = pos 0
negated (suc n) = negsuc n

-- the number that a word writes: 45 is its sign
abbrev pub number_in : List ℕ → ℤ
number_in [] = pos 0
number_in (c ∷ cs) = cond (nat_eq c 45) (negated (digits_value 10 cs)) (pos (digits_value 10 (c ∷ cs)))

unsigned : (ds : List ℕ) → AllDigits 10 ds → number_in ds ≡ pos (digits_value 10 ds)
unsigned [] d = refl
unsigned (c ∷ cs) d =
    let digit = digit_from_value c d.0 in
    let other : nat_eq c 45 ≡ false = ne_eqb c 45 (λ e. omega (arith, digit, e)) in
    ap (λ (b : Bool). cond b (negated (digits_value 10 cs)) (pos (digits_value 10 (c ∷ cs)))) other

pub number_is : (z : ℤ) → Fits z → number_in (signed_decimal z) ≡ z
number_is (pos n) h =
    let wide : n < 10 ^ 64 = let s = whole n h in omega (arith, s) in
    unsigned (decimal n) (decimal_is_IsNumeral_wide n wide).0.1 ∙ ap pos (digits_of n wide)
number_is (negsuc n) h = ap negated (digits_of (suc n) (whole n h))
