-- Texts that are the decimal of their number.
use Rattle.std.proofs.Common.{◌≡◌, ◌∙◌, ap, sym, subst, ℕ, zero, suc, true, false, not, ◌⊎◌, inl, inr, Option, Some, arith, eqb-true}
use Rattle.std.specs.Prelude.{◌<◌, ◌≢◌, ◌^◌, length, get_or, nat_eq, slice_get}
use Rattle.std.specs.Borrow.{Bor}
use Rattle.std.specs.Option.{option_copied}
use Rattle.std.specs.Fmt.{decimal}
use Rattle.std.specs.Str.Parse.{IsNumeral, digits_value, without_leading_plus}
use Rattle.std.proofs.lemmas.Bool.{cases_Bool, eqb-false, false_from_ne_true}
use Rattle.std.proofs.lemmas.Fmt.{decimal-digits_value, decimal_digit, decimal_is_IsNumeral, first_decimal}
use Rattle.std.proofs.lemmas.Option.{get_or_from_slice_get}
use Rattle.std.proofs.lemmas.Str.Parse.{digit_at, numerals_by_value, tells_digits, without_leading_plus_none}
use Rattle.clap.specs.Words.{Text}
use Rattle.df_base.proofs.NamesLemmas.{same_text-equal, same_text-refl}
use Rattle.df_base.specs.Names.{same_text}
use Rattle.df_ncmd.specs.Line.{is_decimal, value_of}

-- the first byte that a read finds
pub first_byte : (text bytes : Text) (r : Option (Bor ℕ)) (b : Bor ℕ) → bytes ≡ text → option_copied r ≡ slice_get bytes 0 → r ≡ Some b
    → get_or text 0 0 ≡ b.now
first_byte text bytes r b same found is =
    get_or_from_slice_get text 0 b.now 0 (sym (ap (λ (bs : Text). slice_get bs 0) same) ∙ sym found ∙ ap option_copied is)

differs : (text : Text) → (decimal (value_of text) ≡ text → ⊥) → is_decimal text ≡ false
differs text apart = false_from_ne_true _ (λ e. apart (same_text-equal (decimal (value_of text)) text e))

module _ (text : Text) (small : value_of text < 2 ^ 64) where
  -- the decimal of a number has no plus in front
  signed : get_or text 0 0 ≡ 43 → is_decimal text ≡ false
  signed plus = differs text (λ is.
      let digits = (decimal_is_IsNumeral (value_of text) small).0 in
      omega (arith, digit_at (decimal (value_of text)) 0 digits.1 digits.0, ap (λ (t : Text). get_or t 0 0) is, plus))

  -- nor a zero in front of others
  padded : get_or text 0 0 ≡ 48 → length text ≢ 1 → is_decimal text ≡ false
  padded first more = differs text (λ is. go (value_of text) small is)
    where
      go : (n : ℕ) → n < 2 ^ 64 → decimal n ≡ text → ⊥
      go zero low is = more (sym (ap length is) ∙ ap length (decimal_digit 0 (omega arith)))
      go (suc n) low is =
          omega (arith, first_decimal (suc n) (omega arith) low, ap (λ (t : Text). get_or t 0 0) is, first)

  module _ (numeral : IsNumeral 10 (without_leading_plus text)) where
    -- digits without a plus and a zero in front are the decimal of their number
    plain : get_or text 0 0 ≢ 43 → (get_or text 0 0 ≡ 48 → length text ≡ 1) → is_decimal text ≡ true
    plain sign zeros =
        let same = without_leading_plus_none text sign in
        let digits : IsNumeral 10 text = subst (IsNumeral 10) same numeral in
        let low : digits_value 10 text < 2 ^ 64 = subst (λ (t : Text). digits_value 10 t < 2 ^ 64) same small in
        let written : decimal (digits_value 10 text) ≡ text =
        decimal-digits_value (numerals_by_value _ tells_digits) text digits.1 digits.0 zeros low in
        let is : decimal (value_of text) ≡ text =
        subst (λ (t : Text). decimal (digits_value 10 t) ≡ text) (sym same) written in
        ap (λ (t : Text). same_text t text) is ∙ same_text-refl text

    -- behind a zero nothing may stand
    pub zero_first : get_or text 0 0 ≡ 48 → nat_eq (length text) 1 ≡ is_decimal text
    zero_first first = by (cases_Bool (nat_eq (length text) 1))
      where
        by : (nat_eq (length text) 1 ≡ true) ⊎ (nat_eq (length text) 1 ≡ false) → nat_eq (length text) 1 ≡ is_decimal text
        by (inl one) = one ∙ sym (plain (λ plus. omega (arith, first, plus)) (λ e. eqb-true _ 1 one))
        by (inr more) = more ∙ sym (padded first (eqb-false _ 1 more))

    -- behind another digit anything may, and there is no plus
    pub other_first : (b : ℕ) → get_or text 0 0 ≡ b → b ≢ 48 → not (nat_eq b 43) ≡ is_decimal text
    other_first b first other = by (cases_Bool (nat_eq b 43))
      where
        by : (nat_eq b 43 ≡ true) ⊎ (nat_eq b 43 ≡ false) → not (nat_eq b 43) ≡ is_decimal text
        by (inl plus) = ap not plus ∙ sym (signed (first ∙ eqb-true b 43 plus))
        by (inr digit) =
            ap not digit ∙ sym (plain (λ plus. eqb-false b 43 digit (sym first ∙ plus)) (λ z. absurd (other (sym first ∙ z))))
