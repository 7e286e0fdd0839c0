-- What stands at the front of a source, as functions of its bytes.
use Rattle.std.specs.Prelude.{ℕ, ◌+◌, ◌-◌, Bool, true, false, ◌==◌, ◌&&◌, ◌||◌, not, List, [], ◌∷◌, Option, Some, None, take, drop, length, option_map, is_some, if◌then◌else◌, codes, nat_eq, nat_lt, nat_le}
use Rattle.std.specs.List.{prefix_len, starts_with, find, list_any}
use Rattle.std.specs.Cmp.Lexicographic.{pointwise}
use Rattle.df_tok.specs.Word.{word_text}
use Rattle.df_tok.specs.Outside.{outside_words}
use Rattle.df_tok.specs.declared.word.Word.{Word}
use Rattle.df_base.specs.declared.pos.Pos.{Pos}
use Rattle.df_base.specs.declared.refusal.Refusal.{Refusal}
use Rattle.df_base.specs.declared.refusal.Code.TheVariants as tags
use Rattle.df_base.specs.declared.refusal.Detail.TheVariants.{Nothing}
use Rattle.df_tok.specs.Division.{after_bytes}
use Rattle.df_tok.specs.Fault.{refusal}
use Rattle.df_tok.specs.Byte.{is_blank, is_digit, is_hex_digit, begins_identifier, continues_identifier, continues_number, is_plain_in_character, is_plain_in_text, escaped}
use Rattle.df_tok.specs.Sign.{sign_text}
use Rattle.df_tok.specs.declared.sign.Sign.{Sign}
use Rattle.df_tok.specs.declared.sign.Sign.TheVariants.{Iff, Implies, Explies, And, Or, Equal, NotEqual, AtMost, AtLeast, Less, Greater, NotIn, Disjoint, Not, Plus, Minus, Times, Divide, Modulo, Assign, SuchThat, DoubleColon, Colon, Semicolon, Comma, DotDot, Dot, OpenParenthesis, CloseParenthesis, OpenBracket, CloseBracket, OpenAttribute, OpenBrace, CloseBrace, Bar, Arrow, Define}
use Rattle.df_tok.specs.declared.scan.Form.{Form}
use Rattle.df_tok.specs.declared.scan.Form.TheVariants as forms
use Rattle.df_tok.specs.declared.scan.Front.{Front}
use Rattle.df_tok.specs.declared.scan.Front.TheVariants as fronts

-- a length after so many bytes
abbrev pub more : ℕ → Option ℕ → Option ℕ
more n None = None
more n (Some k) = Some (n + k)

-- digits, with single `_` between two of them; whether the byte before was a digit
abbrev pub are_digits : (ℕ → Bool) → Bool → List ℕ → Bool
are_digits digit before [] = before
are_digits digit before (b ∷ bs) = if digit b then are_digits digit true bs else (if before && b == 95 then are_digits digit false bs else false)

abbrev pub is_number : List ℕ → Bool
is_number text = if starts_with nat_eq text (codes "0x") then are_digits is_hex_digit false (drop 2 text) else are_digits is_digit false text

-- the length of the number at the front
abbrev pub number_at : List ℕ → Option ℕ
number_at bytes =
    let n = prefix_len continues_number bytes in
    if is_number (take n bytes) then Some n else None

-- the length of the character literal behind a quote, and its character
abbrev pub character_at : List ℕ → Option (ℕ × ℕ)
character_at [] = None
character_at (a ∷ []) = None
character_at (a ∷ b ∷ []) = if is_plain_in_character a && b == 39 then Some (a, 2) else None
character_at (a ∷ b ∷ c ∷ rest) =
    if is_plain_in_character a && b == 39 then Some (a, 2)
    else (if a == 92 && c == 39 then option_map (λ e. (e, 3)) (escaped b) else None)

-- the length up to the quote that ends a string literal; whether the byte before was a `\`
abbrev pub text_len : Bool → List ℕ → Option ℕ
text_len before [] = None
text_len true (b ∷ bs) = if is_some (escaped b) then more 1 (text_len false bs) else None
text_len false (b ∷ bs) =
    if b == 34 then Some 1
    else (if b == 92 then more 1 (text_len true bs)
    else (if is_plain_in_text b then more 1 (text_len false bs) else None))

-- the length up to the end of the open comments, one and so many more; the byte before, if it is not yet used
abbrev pub comment_len : ℕ → ℕ → List ℕ → Option ℕ
comment_len depth before [] = None
comment_len depth before (b ∷ bs) =
    if before == 47 && b == 42 then more 1 (comment_len (depth + 1) 0 bs)
    else (if before == 42 && b == 47 then (if depth == 0 then Some 1 else more 1 (comment_len (depth - 1) 0 bs))
    else more 1 (comment_len depth b bs))

-- the signs, the longest first
abbrev pub signs : List Sign
signs =
    Iff ∷ Implies ∷ Explies ∷ NotIn
    ∷ And ∷ Or ∷ Equal ∷ NotEqual ∷ AtMost ∷ AtLeast ∷ Disjoint ∷ Assign ∷ SuchThat ∷ DoubleColon ∷ DotDot ∷ OpenAttribute ∷ Arrow
    ∷ Less ∷ Greater ∷ Not ∷ Plus ∷ Minus ∷ Times ∷ Divide ∷ Modulo ∷ Colon ∷ Semicolon ∷ Comma ∷ Dot ∷ OpenParenthesis ∷ CloseParenthesis
    ∷ OpenBracket ∷ CloseBracket ∷ OpenBrace ∷ CloseBrace ∷ Bar ∷ Define ∷ []

-- a byte of an identifier stands at the front
abbrev pub continues : List ℕ → Bool
continues [] = false
continues (b ∷ bs) = continues_identifier b

-- whether a sign stands at the front
abbrev pub stands : List ℕ → Sign → Bool
stands bytes NotIn = starts_with nat_eq bytes (sign_text NotIn) && not (continues (drop 3 bytes))
stands bytes sign = starts_with nat_eq bytes (sign_text sign)

abbrev pub sign_at : List ℕ → Option Sign
sign_at bytes = find (stands bytes) signs

abbrev pub sign_lexeme : Option Sign → Option (Form × ℕ)
sign_lexeme None = None
sign_lexeme (Some sign) = Some (forms.Sign sign, length (sign_text sign))

-- the lexeme at the front, and its length
abbrev pub lexeme_at : List ℕ → Option (Form × ℕ)
lexeme_at [] = None
lexeme_at (b ∷ bs) =
    if begins_identifier b then Some (forms.Identifier, 1 + prefix_len continues_identifier bs)
    else (if is_digit b then option_map (λ n. (forms.Number, n)) (number_at (b ∷ bs))
    else (if b == 39 then option_map (λ c. (forms.Character c.0, 1 + c.1)) (character_at bs)
    else (if b == 34 then option_map (λ n. (forms.Text, 1 + n)) (text_len false bs)
    else sign_lexeme (sign_at (b ∷ bs)))))

abbrev pub skips : ℕ → Option ℕ → Option Front
skips n o = option_map (λ k. fronts.Skipped (n + k)) o

abbrev pub lexes : Option (Form × ℕ) → Option Front
lexes o = option_map (λ p. fronts.Lexeme p.0 p.1) o

abbrev pub begins_blank : List ℕ → Bool
begins_blank [] = false
begins_blank (b ∷ bs) = is_blank b

-- whether a word is written so
abbrev pub is_written : List ℕ → Word → Bool
is_written text word = pointwise nat_eq text (word_text word)

-- digits, at least one, and nothing else
abbrev pub are_only_digits : List ℕ → Bool
are_only_digits bytes =
    let n = prefix_len is_digit bytes in
    nat_lt 0 n && n == length bytes

-- digits, at least one, and then nothing else or `?`
abbrev pub are_array_digits : List ℕ → Bool
are_array_digits bytes =
    let n = prefix_len is_digit bytes in
    nat_lt 0 n && (n == length bytes || (starts_with nat_eq (drop n bytes) (codes "?") && n + 1 == length bytes))

-- a word outside the language
abbrev pub is_outside : List ℕ → Bool
is_outside text =
    list_any (pointwise nat_eq text) outside_words
    || (starts_with nat_eq text (codes "bv") && are_only_digits (drop 2 text))
    || (starts_with nat_eq text (codes "array") && are_array_digits (drop 5 text))

-- what stands at the front: a blank, a comment or a lexeme
unfoldable pub front_at : List ℕ → Option Front
front_at bytes =
    if begins_blank bytes then Some (fronts.Skipped 1)
    else (if starts_with nat_eq bytes (codes "//") then Some (fronts.Skipped (2 + prefix_len (λ c. not (c == 10)) (drop 2 bytes)))
    else (if starts_with nat_eq bytes (codes "/*") then skips 2 (comment_len 0 0 (drop 2 bytes))
    else lexes (lexeme_at bytes)))

-- ---- where no lexeme stands: how many bytes can be continued to one

abbrev pub digits_begun : (ℕ → Bool) → Bool → List ℕ → ℕ
digits_begun digit before [] = 0
digits_begun digit before (b ∷ bs) = if digit b then 1 + digits_begun digit true bs else (if before && b == 95 then 1 + digits_begun digit false bs else 0)

abbrev pub number_begun : List ℕ → ℕ
number_begun bytes = if starts_with nat_eq bytes (codes "0x") then 2 + digits_begun is_hex_digit false (drop 2 bytes) else digits_begun is_digit false bytes

abbrev pub escape_begun : List ℕ → ℕ
escape_begun [] = 0
escape_begun (e ∷ rest) = if is_some (escaped e) then 1 else 0

abbrev pub character_begun : List ℕ → ℕ
character_begun [] = 0
character_begun (a ∷ rest) = if is_plain_in_character a then 1 else (if a == 92 then 1 + escape_begun rest else 0)

abbrev pub text_begun : Bool → List ℕ → ℕ
text_begun before [] = 0
text_begun true (b ∷ bs) = if is_some (escaped b) then 1 + text_begun false bs else 0
text_begun false (b ∷ bs) = if b == 92 then 1 + text_begun true bs else (if is_plain_in_text b then 1 + text_begun false bs else 0)

abbrev pub begun_at : List ℕ → ℕ
begun_at [] = 0
begun_at (b ∷ bs) =
    if is_digit b then number_begun (b ∷ bs)
    else (if b == 39 then 1 + character_begun bs
    else (if b == 34 then 1 + text_begun false bs
    else (if b == 38 then 1 else 0)))

-- a byte from 128 on stands there
abbrev pub is_high : List ℕ → Bool
is_high [] = false
is_high (b ∷ bs) = nat_le 128 b

-- the refusal where no piece stands
abbrev pub fault_at : Pos → List ℕ → Refusal
fault_at pos rest =
    let n = begun_at rest in
    if starts_with nat_eq rest (codes "/*") then refusal tags.Token pos Nothing
    else (if is_high (drop n rest) then refusal tags.Byte (after_bytes pos (take n rest)) Nothing else refusal tags.Token pos Nothing)
