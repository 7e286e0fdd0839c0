-- Canonical decimals that are written are read.
use Rattle.std.proofs.Common.{◌≡◌, ℕ, zero, suc, ◌+◌, ◌-◌, ◌*◌, ◌/◌, ◌%◌, ◌^◌, ◌<◌, ◌≤◌, true, false, cond, List, [], ◌∷◌, ◌++◌, Some, None, refl, sym, ap, ◌∙◌, arith}
use Rattle.std.specs.Prelude.{◌≢◌, ◌&&◌, nat_lt, nat_le, nat_eq}
use Rattle.std.specs.Option.{option_and_then}
use Rattle.std.specs.List.{AllByRecursion}
use Rattle.std.specs.Fmt.{decimal}
use Rattle.std.proofs.lemmas.Fmt.{decimal_by_steps_wide}
use Rattle.std.proofs.lemmas.Bool.{and_from, lt-ltb, le-leb}
use Rattle.df_lemmas.proofs.Alls.{all_joined}
use Rattle.df_logtext.specs.Numeral.{is_digit, digits_after, zero_of, number_of}

digits_joined : (limit v : ℕ) (ds es : List ℕ) → digits_after limit v (ds ++ es) ≡ option_and_then (λ w. digits_after limit w es) (digits_after limit v ds)
digits_joined limit v [] es = refl
digits_joined limit v (b ∷ bs) es =
    let others = digits_joined limit (v * 10 + (b - 48)) bs es in
    elim (is_digit b && nat_lt (v * 10 + (b - 48)) limit) as (λ t. cond t (digits_after limit (v * 10 + (b - 48)) (bs ++ es)) None ≡ option_and_then (λ w. digits_after limit w es) (cond t (digits_after limit (v * 10 + (b - 48)) bs) None)) [
      | true ↦ others
      | false ↦ refl
    ]

one_digit : (limit w d : ℕ) → d ≤ 9 → w * 10 + d < limit → digits_after limit w ((48 + d) ∷ []) ≡ Some (w * 10 + d)
one_digit limit w d high below =
    let e : (48 + d) - 48 ≡ d = omega arith in
    let digit : is_digit (48 + d) ≡ true = and_from (nat_le 48 (48 + d)) (nat_le (48 + d) 57) (le-leb 48 (48 + d) (omega arith)) (le-leb (48 + d) 57 (omega arith)) in
    let test : (is_digit (48 + d) && nat_lt (w * 10 + ((48 + d) - 48)) limit) ≡ true = and_from (is_digit (48 + d)) (nat_lt (w * 10 + ((48 + d) - 48)) limit) digit (lt-ltb (w * 10 + ((48 + d) - 48)) limit (omega arith)) in
    ap (λ c. cond c (Some (w * 10 + ((48 + d) - 48))) None) test ∙ ap (λ x. Some (w * 10 + x)) e

abbrev pub IsDigit : ℕ → Type 0
IsDigit b = (48 ≤ b) × (b ≤ 57)

-- digits of a number, as they are read
pub record IsCanonical (limit n : ℕ) (ds : List ℕ) : Type 0 where
  pub value : n < limit → digits_after limit 0 ds ≡ Some n
  pub first : ℕ
  pub others : List ℕ
  pub shape : ds ≡ first ∷ others
  pub positive : 0 < n → first ≢ 48
  pub none : n ≡ 0 → ds ≡ 48 ∷ []
  pub digits : AllByRecursion IsDigit ds

canonical_one : (limit n : ℕ) → n < 10 → IsCanonical limit n ((48 + n) ∷ [])
canonical_one limit n small = record {
  value = λ below. let e : 0 * 10 + n ≡ n = omega arith in one_digit limit 0 n (omega arith) (omega arith) ∙ ap (λ x. Some x) e;
  first = 48 + n;
  others = [];
  shape = refl;
  positive = λ p e. omega arith;
  none = λ e. let z : 48 + n ≡ 48 = omega arith in ap (λ x. x ∷ []) z;
  digits = ((omega arith, omega arith), tt);
}

canonical_more : (limit n : ℕ) (ds : List ℕ) → 10 ≤ n → IsCanonical limit (n / 10) ds → IsCanonical limit n (ds ++ ((48 + n % 10) ∷ []))
canonical_more limit n ds big r = record {
  value = λ below.
      let e : n / 10 * 10 + n % 10 ≡ n = omega arith in
      digits_joined limit 0 ds ((48 + n % 10) ∷ []) ∙ ap (option_and_then (λ w. digits_after limit w ((48 + n % 10) ∷ []))) (r.value (omega arith)) ∙ one_digit limit (n / 10) (n % 10) (omega arith) (omega arith) ∙ ap (λ x. Some x) e;
  first = r.first;
  others = r.others ++ ((48 + n % 10) ∷ []);
  shape = ap (λ x. x ++ ((48 + n % 10) ∷ [])) r.shape;
  positive = λ p. r.positive (omega arith);
  none = λ e. absurd (omega arith);
  digits = all_joined IsDigit ds ((48 + n % 10) ∷ []) r.digits ((omega arith, omega arith), tt);
}

pub canonical : (limit n : ℕ) → n < 10 ^ 64 → IsCanonical limit n (decimal n)
canonical limit n small = decimal_by_steps_wide (λ m ds. IsCanonical limit m ds) (canonical_one limit) (canonical_more limit) n small

-- what is written is read
positive_read : (limit n : ℕ) (ds : List ℕ) → 0 < n → n < limit → IsCanonical limit n ds → number_of limit ds ≡ Some n
unfolding number_of
positive_read limit n ds low below r =
    let apart : nat_eq r.first 48 ≡ false = grind (arith, r.positive low) in
    let value : digits_after limit 0 (r.first ∷ r.others) ≡ Some n = ap (digits_after limit 0) (sym r.shape) ∙ r.value below in
    ap (number_of limit) r.shape ∙ ap (λ c. cond c (zero_of r.others) (digits_after limit 0 (r.first ∷ r.others))) apart ∙ value

pub number_written : (limit n : ℕ) → n < limit → limit ≤ 10 ^ 64 → number_of limit (decimal n) ≡ Some n
unfolding number_of
number_written limit zero below wide = let r = canonical limit 0 (omega arith) in ap (number_of limit) (r.none refl)
number_written limit (suc m) below wide = positive_read limit (suc m) (decimal (suc m)) (omega arith) below (canonical limit (suc m) (omega arith))
