-- Classes of bytes.
use Rattle.std.specs.Prelude.{◌-◌, ℕ, Bool, ◌==◌, ◌||◌, ◌&&◌, not, nat_le, Option, Some, None, if◌then◌else◌}

-- space, tab, carriage return, line feed
abbrev pub is_blank : ℕ → Bool
is_blank b = b == 32 || b == 9 || b == 13 || b == 10

abbrev pub is_digit : ℕ → Bool
is_digit b = nat_le 48 b && nat_le b 57

abbrev pub is_hex_digit : ℕ → Bool
is_hex_digit b = is_digit b || (nat_le 65 b && nat_le b 70) || (nat_le 97 b && nat_le b 102)

abbrev pub is_letter : ℕ → Bool
is_letter b = (nat_le 65 b && nat_le b 90) || (nat_le 97 b && nat_le b 122)

-- a letter or `_`
abbrev pub begins_identifier : ℕ → Bool
begins_identifier b = is_letter b || b == 95

-- a letter, a digit, `_`, `'` or `?`
abbrev pub continues_identifier : ℕ → Bool
continues_identifier b = is_letter b || is_digit b || b == 95 || b == 39 || b == 63

-- a letter, a digit or `_`: none of these may follow a number
abbrev pub continues_number : ℕ → Bool
continues_number b = is_letter b || is_digit b || b == 95

-- stands for itself in a character literal: a visible byte or a space, without `\` and `'`
abbrev pub is_plain_in_character : ℕ → Bool
is_plain_in_character b = nat_le 32 b && nat_le b 126 && not (b == 92) && not (b == 39)

-- stands for itself in a string literal: the same or a tab, without `\` and `"`
abbrev pub is_plain_in_text : ℕ → Bool
is_plain_in_text b = ((nat_le 32 b && nat_le b 126) || b == 9) && not (b == 92) && not (b == 34)

-- the character that an escape gives: \n \r \t \0 \\ \' \"
abbrev pub escaped : ℕ → Option ℕ
escaped b =
    if b == 110 then Some 10
    else (if b == 114 then Some 13
    else (if b == 116 then Some 9
    else (if b == 48 then Some 0
    else (if b == 92 then Some 92
    else (if b == 39 then Some 39
    else (if b == 34 then Some 34 else None))))))

-- the value of a digit, decimal or hexadecimal
abbrev pub digit_value : ℕ → ℕ
digit_value b = if nat_le b 57 then b - 48 else (if nat_le b 70 then b - 55 else b - 87)
