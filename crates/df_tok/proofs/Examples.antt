-- The definitions, computed on small sources.
use Rattle.std.proofs.Common.{◌≡◌, ℕ, inr, ◌<◌, ◌≤◌, ◌-◌, ◌^◌, false, true, List, [], ◌∷◌, ◌++◌, length, take, drop, Some, None, codes, refl, sym, ap, subst, ◌∙◌, arith}
use Rattle.std.specs.Prelude.{nat_eq, nat_le, position}
use Rattle.std.specs.List.{find, starts_with}
use Rattle.std.proofs.lemmas.Bool.{both_ways, le-leb, false_from_ne_true}
use Rattle.std.proofs.lemmas.Option.{MatchOption-at_none, none-some}
use Rattle.std.proofs.lemmas.List.{take-append-drop, take_at, drop_at}
use Rattle.df_tok.proofs.OneFault.{same_stop}
use Rattle.df_base.specs.Names.{same_text, with_text}
use Rattle.df_base.specs.declared.pos.Pos.{Pos}
use Rattle.df_base.specs.declared.refusal.Code.TheVariants as tags
use Rattle.df_base.specs.declared.refusal.Detail.TheVariants.{Nothing}
use Rattle.df_base.specs.declared.refusal.Refusal.{Refusal}
use Rattle.df_tok.specs.declared.word.Word.{Word}
use Rattle.df_tok.specs.declared.word.Word.TheVariants as words
use Rattle.df_tok.specs.declared.sign.Sign.{Sign}
use Rattle.df_tok.specs.declared.sign.Sign.TheVariants as signs
use Rattle.df_tok.specs.declared.token.Kind.{Kind}
use Rattle.df_tok.specs.declared.token.Kind.TheVariants as kinds
use Rattle.df_tok.specs.declared.scan.Form.{Form}
use Rattle.df_tok.specs.declared.scan.Form.TheVariants as forms
use Rattle.df_tok.specs.declared.scan.Front.TheVariants.{Lexeme as Lexed}
use Rattle.df_tok.specs.Word.{word_text}
use Rattle.df_tok.specs.Words.{words as all_words}
use Rattle.df_tok.specs.Sign.{sign_text}
use Rattle.df_tok.specs.Lexeme.{NotNext, value_of_number, IsWord}
use Rattle.df_tok.specs.Scanned.{HasForm}
use Rattle.df_tok.specs.Token.{Token, HasKind}
use Rattle.df_tok.specs.Division.{after_byte, after_bytes, start, Closes, BeginsComment, Piece, Blank, BlockComment, Lexeme, AreDivided, tokens_of, Divides}
use Rattle.df_tok.specs.Fault.{refusal, Stops, IsRefusedAt, number, many, unclosed, byte, token, IsFault, long, stop}
use Rattle.df_tok.specs.Scanning.{front_at, is_written, is_outside, begun_at, is_high, fault_at}
use Rattle.df_tok.specs.Steps.{large}
use Rattle.df_tok.proofs.Lists.{starts_front}
use Rattle.df_tok.proofs.Words.{word_found}
use Rattle.df_tok.proofs.Outsides.{outside_complete}
use Rattle.df_tok.proofs.Pieces.{lex_next, lexeme_seen, nothing_next}
use Rattle.df_tok.proofs.Divisions.{one_division}
use Rattle.df_tok.proofs.Begins.{stops_at}
use Rattle.df_tok.proofs.Faults.{fault_from, cannot_from, fault_excludes}
use Rattle.df_tok.specs.Limits.{byte_limit, token_limit}

abbrev pub at : ℕ → ℕ → Pos
at line col = record { line = line; col = col }

abbrev pub token_at : Kind → List ℕ → Pos → Token
token_at kind text pos = record { kind = kind; text = text; pos = pos }

-- ---- a division, a piece after another

-- bytes that divide into these tokens from a position on, with the names before and after them
record Divided (before : List (List ℕ)) (bytes : List ℕ) (pos : Pos) (tokens : List Token) (after : List (List ℕ)) : Type 0 where
  pieces : List Piece
  divided : AreDivided before bytes pieces after
  tokens_are : tokens ≡ tokens_of pos pieces

divides : {before after : List (List ℕ)} {bytes : List ℕ} {tokens : List Token} → Divided before bytes start tokens after → Divides before bytes tokens after
divides d = (d.pieces, d.divided, d.tokens_are)

ends : {names : List (List ℕ)} {pos : Pos} → Divided names [] pos [] names
ends = record { pieces = []; divided = (refl, refl); tokens_are = refl }

module _ {before after : List (List ℕ)} {bytes : List ℕ} {pos : Pos} {tokens : List Token} where
  -- a space
  blank : Divided before bytes (after_byte pos 32) tokens after → Divided before (32 ∷ bytes) pos tokens after
  blank d = record { pieces = Blank 32 ∷ d.pieces; divided = (bytes, before, refl, (refl, refl), d.divided); tokens_are = d.tokens_are }

  -- `/*` and what closes it
  comment : (inner : List ℕ) → Closes 1 inner → Divided before bytes (after_bytes pos (47 ∷ 42 ∷ inner)) tokens after → Divided before (47 ∷ 42 ∷ (inner ++ bytes)) pos tokens after
  comment inner closes d = record {
    pieces = BlockComment (47 ∷ 42 ∷ inner) ∷ d.pieces;
    divided = (bytes, before, refl, ((inner, refl, closes), refl), d.divided);
    tokens_are = d.tokens_are;
  }

  -- the lexeme that is found, of a kind
  lexeme : (form : Form) (n : ℕ) (kind : Kind) (names : List (List ℕ)) → front_at bytes ≡ Some (Lexed form n) → (HasForm form (take n bytes) → HasKind before (take n bytes) kind names)
      → Divided names (drop n bytes) (after_bytes pos (take n bytes)) tokens after → Divided before bytes pos (token_at kind (take n bytes) pos ∷ tokens) after
  lexeme form n kind names found has d =
      let next = lex_next bytes form n found in
      record {
        pieces = Lexeme kind (take n bytes) ∷ d.pieces;
        divided = (drop n bytes, names, sym (take-append-drop n bytes), (next.is, next.longest, next.comment, has next.form_is), d.divided);
        tokens_are = ap (λ (ts : List Token). token_at kind (take n bytes) pos ∷ ts) d.tokens_are;
      }

  -- a word of the language
  word : (w : Word) → let n = length (word_text w) in front_at bytes ≡ Some (Lexed forms.Identifier n) → take n bytes ≡ word_text w
      → Divided before (drop n bytes) (after_bytes pos (take n bytes)) tokens after → Divided before bytes pos (token_at (kinds.Word w) (take n bytes) pos ∷ tokens) after
  word w found is d = lexeme forms.Identifier (length (word_text w)) (kinds.Word w) before found (λ _. (is, refl)) d

  -- a sign
  sign : (s : Sign) → let n = length (sign_text s) in front_at bytes ≡ Some (Lexed (forms.Sign s) n)
      → Divided before (drop n bytes) (after_bytes pos (take n bytes)) tokens after → Divided before bytes pos (token_at (kinds.Sign s) (take n bytes) pos ∷ tokens) after
  sign s found d = lexeme (forms.Sign s) (length (sign_text s)) (kinds.Sign s) before found (λ is. (is, refl)) d

  -- a number of so many bytes, for this value
  numeral : (n value : ℕ) → front_at bytes ≡ Some (Lexed forms.Number n) → value ≡ value_of_number (take n bytes) → value < 2 ^ 127
      → Divided before (drop n bytes) (after_bytes pos (take n bytes)) tokens after → Divided before bytes pos (token_at (kinds.Number value) (take n bytes) pos ∷ tokens) after
  numeral n value found is small d = lexeme forms.Number n (kinds.Number value) before found (λ number. (number, is, small, refl)) d

  -- a name of so many bytes, by its number: neither `_` nor a word of Dafny
  name : (n i : ℕ) → let text = take n bytes in let names = with_text before text in front_at bytes ≡ Some (Lexed forms.Identifier n)
      → same_text text (codes "_") ≡ false → find (is_written text) all_words ≡ None → is_outside text ≡ false → position (same_text text) names ≡ Some i
      → Divided names (drop n bytes) (after_bytes pos text) tokens after → Divided before bytes pos (token_at (kinds.Name i) text pos ∷ tokens) after
  name n i found wildcard word outside is d =
      let text = take n bytes in
      lexeme forms.Identifier n (kinds.Name i) (with_text before text) found (λ identifier. (
        identifier,
        λ e. both_ways (same_text text (codes "_")) wildcard (ap (λ (t : List ℕ). same_text t (codes "_")) e),
        MatchOption-at_none (¬ IsWord text) (λ w. text ≡ word_text w) word (word_found text),
        λ o. both_ways (is_outside text) outside (outside_complete text o),
        (refl, is),
      )) d

-- ---- divisions

-- `var x` is a word and a name
pub divides_var : Divides [] (codes "var x") (token_at (kinds.Word words.Var) (codes "var") (at 1 1) ∷ token_at (kinds.Name 0) (codes "x") (at 1 5) ∷ []) (codes "x" ∷ [])
unfolding front_at
divides_var = divides (word words.Var refl refl (blank (name 1 0 refl refl refl refl refl ends)))

abbrev one : Token
one = token_at (kinds.Number 1) (codes "1") (at 1 1)

-- a comment is no token
pub divides_comment : Divides [] (codes "1 /* c */") (one ∷ []) []
unfolding front_at
divides_comment = divides (numeral 1 1 refl refl (omega arith) (blank (comment (codes " c */") refl ends)))

-- and its first byte is none
pub no_sign_of_comment : (names : List (List ℕ)) → Divides [] (codes "1 /* c */") (one ∷ token_at (kinds.Sign signs.Divide) (codes "/") (at 1 3) ∷ []) names → ⊥
no_sign_of_comment names d = let same = one_division [] (codes "1 /* c */") _ _ [] names divides_comment d in omega (arith, ap length same.0)

-- two `=` side by side are one sign
pub divides_equal : Divides [] (codes "==") (token_at (kinds.Sign signs.Equal) (codes "==") (at 1 1) ∷ []) []
unfolding front_at
divides_equal = divides (sign signs.Equal refl ends)

-- and not two signs
pub no_two_signs : (names : List (List ℕ)) → Divides [] (codes "==") (token_at (kinds.Sign signs.Define) (codes "=") (at 1 1) ∷ token_at (kinds.Sign signs.Define) (codes "=") (at 1 2) ∷ []) names → ⊥
no_two_signs names d = let same = one_division [] (codes "==") _ _ [] names divides_equal d in omega (arith, ap length same.0)

-- the greatest number
pub divides_greatest : Divides [] (codes "170141183460469231731687303715884105727") (token_at (kinds.Number (2 ^ 127 - 1)) (codes "170141183460469231731687303715884105727") (at 1 1) ∷ []) []
unfolding front_at
divides_greatest = divides (numeral 39 (2 ^ 127 - 1) refl refl (omega arith) ends)

-- ---- a program

abbrev pub small : List ℕ
small = codes "newtype N=x|0<=x<9 method Main(){var y:N:=1;}"

abbrev pub small_names : List (List ℕ)
small_names = codes "N" ∷ codes "x" ∷ codes "Main" ∷ codes "y" ∷ []

abbrev pub small_tokens : List Token
small_tokens =
    token_at (kinds.Word words.Newtype) (codes "newtype") (at 1 1)
    ∷ token_at (kinds.Name 0) (codes "N") (at 1 9)
    ∷ token_at (kinds.Sign signs.Define) (codes "=") (at 1 10)
    ∷ token_at (kinds.Name 1) (codes "x") (at 1 11)
    ∷ token_at (kinds.Sign signs.Bar) (codes "|") (at 1 12)
    ∷ token_at (kinds.Number 0) (codes "0") (at 1 13)
    ∷ token_at (kinds.Sign signs.AtMost) (codes "<=") (at 1 14)
    ∷ token_at (kinds.Name 1) (codes "x") (at 1 16)
    ∷ token_at (kinds.Sign signs.Less) (codes "<") (at 1 17)
    ∷ token_at (kinds.Number 9) (codes "9") (at 1 18)
    ∷ token_at (kinds.Word words.Method) (codes "method") (at 1 20)
    ∷ token_at (kinds.Name 2) (codes "Main") (at 1 27)
    ∷ token_at (kinds.Sign signs.OpenParenthesis) (codes "(") (at 1 31)
    ∷ token_at (kinds.Sign signs.CloseParenthesis) (codes ")") (at 1 32)
    ∷ token_at (kinds.Sign signs.OpenBrace) (codes "{") (at 1 33)
    ∷ token_at (kinds.Word words.Var) (codes "var") (at 1 34)
    ∷ token_at (kinds.Name 3) (codes "y") (at 1 38)
    ∷ token_at (kinds.Sign signs.Colon) (codes ":") (at 1 39)
    ∷ token_at (kinds.Name 0) (codes "N") (at 1 40)
    ∷ token_at (kinds.Sign signs.Assign) (codes ":=") (at 1 41)
    ∷ token_at (kinds.Number 1) (codes "1") (at 1 43)
    ∷ token_at (kinds.Sign signs.Semicolon) (codes ";") (at 1 44)
    ∷ token_at (kinds.Sign signs.CloseBrace) (codes "}") (at 1 45) ∷ []

-- a whole program: `N` and `x` stand twice, each by one number
pub small_divides : Divides [] small small_tokens small_names
unfolding front_at
small_divides = divides (
    word words.Newtype refl refl (blank (name 1 0 refl refl refl refl refl (sign signs.Define refl (name 1 1 refl refl refl refl refl (sign signs.Bar refl (
    numeral 1 0 refl refl (omega arith) (sign signs.AtMost refl (name 1 1 refl refl refl refl refl (sign signs.Less refl (numeral 1 9 refl refl (omega arith) (blank (
    word words.Method refl refl (blank (name 4 2 refl refl refl refl refl (sign signs.OpenParenthesis refl (sign signs.CloseParenthesis refl (sign signs.OpenBrace refl (
    word words.Var refl refl (blank (name 1 3 refl refl refl refl refl (sign signs.Colon refl (name 1 0 refl refl refl refl refl (
    sign signs.Assign refl (numeral 1 1 refl refl (omega arith) (sign signs.Semicolon refl (
    sign signs.CloseBrace refl ends))))))))))))))))))))))))))
    )

-- and into no others
pub small_divides_once : (tokens : List Token) (names : List (List ℕ)) → Divides [] small tokens names → (small_tokens ≡ tokens) × (small_names ≡ names)
small_divides_once tokens names d = one_division [] small small_tokens tokens small_names names small_divides d

-- ---- faults

abbrev no_token : Pos → Refusal
no_token pos = refusal tags.Token pos Nothing

-- where nothing stands at the front, that is the fault
at_front : (source : List ℕ) → front_at source ≡ None → 0 < length source → length source ≤ byte_limit → IsFault [] source (fault_at start source)
at_front source none some few = stop few [] source [] (refl, refl) (omega arith) (fault_from [] source start 0 some none)

-- what begins no comment begins no open comment
no_open : (rest : List ℕ) → ¬ BeginsComment rest → starts_with nat_eq rest (codes "/*") ≡ false
no_open rest h = false_from_ne_true _ (λ e. h (42, drop 2 rest, starts_front rest (codes "/*") e, inr refl))

-- no byte from 128 on
low_byte : (bytes : List ℕ) → NotNext (nat_le 128) bytes → is_high bytes ≡ false
low_byte [] h = refl
low_byte (b ∷ bs) h = h

-- where nothing stands there is one refusal
refused_once : (rest : List ℕ) (pos : Pos) (r : Refusal) → front_at rest ≡ None → IsRefusedAt [] rest pos 0 r → r ≡ fault_at pos rest
refused_once rest pos r none (number text more is lex longest comment num value e) =
    let seen = lexeme_seen text more lex longest comment in
    absurd (none-some (Lexed seen.0 (length text)) (sym none ∙ ap front_at is ∙ seen.1))
refused_once rest pos r none (many kind text more after is p count e) = absurd (omega arith)
refused_once rest pos r none (unclosed h e) = e ∙ sym (ap (fault_at pos) h.1)
refused_once rest pos r none (byte h front b behind s high e) =
    let same = same_stop rest front (b ∷ behind) (take (begun_at rest) rest) (drop (begun_at rest) rest) s (stops_at rest h.lexeme) in
    let is_byte : is_high (drop (begun_at rest) rest) ≡ true = ap is_high (sym same.1) ∙ le-leb 128 b high in
    e ∙ ap (λ (f : List ℕ). refusal tags.Byte (after_bytes pos f) Nothing) same.0 ∙ rw (no_open rest h.comment, is_byte) refl
refused_once rest pos r none (token h front behind s low e) =
    let same = same_stop rest front behind (take (begun_at rest) rest) (drop (begun_at rest) rest) s (stops_at rest h.lexeme) in
    let is_token : is_high (drop (begun_at rest) rest) ≡ false = ap is_high (sym same.1) ∙ low_byte behind low in
    e ∙ rw (no_open rest h.comment, is_token) refl

-- and there is no other
only_at_front : (source : List ℕ) (r : Refusal) → front_at source ≡ None → IsFault [] source r → length source ≤ byte_limit → r ≡ fault_at start source
only_at_front source r none (long more e) few = absurd (omega arith)
only_at_front source r none (stop _ (piece ∷ pieces) rest names (next, between, is, p, others) count h) few = absurd (nothing_next [] source none piece next between is p)
only_at_front source r none (stop _ [] rest names (is, kept) count h) few =
    refused_once source start r none (subst (λ (ns : List (List ℕ)). IsRefusedAt ns source start 0 r) kept (subst (λ (t : List ℕ). IsRefusedAt names t start 0 r) (sym is) h))

-- no digit stands behind `0x`
pub fault_of_hexadecimal : IsFault [] (codes "0x") (no_token (at 1 1))
unfolding front_at
fault_of_hexadecimal = at_front (codes "0x") refl (omega arith) (omega arith)

-- so it does not divide
pub hexadecimal_divides_not : (tokens : List Token) (names : List (List ℕ)) → Divides [] (codes "0x") tokens names → length tokens ≤ token_limit → ⊥
hexadecimal_divides_not tokens names d few = fault_excludes [] (codes "0x") (no_token (at 1 1)) tokens names fault_of_hexadecimal d (omega arith) few

-- and `x` is not where the fault is
pub no_fault_of_hexadecimal : IsFault [] (codes "0x") (no_token (at 1 2)) → ⊥
unfolding front_at
no_fault_of_hexadecimal fault = let e = only_at_front (codes "0x") (no_token (at 1 2)) refl fault (omega arith) in omega (arith, ap (λ (r : Refusal). r.pos.col) e)

-- lines are counted
pub fault_on_line : IsFault [] (10 ∷ codes "0x") (no_token (at 2 1))
unfolding front_at
fault_on_line = stop (omega arith) (Blank 10 ∷ []) (codes "0x") [] (codes "0x", [], refl, (refl, refl), (refl, refl)) (omega arith) (fault_from [] (codes "0x") (at 2 1) 0 (omega arith) refl)

-- a comment that nothing closes
pub fault_of_comment : IsFault [] (codes "/* c") (no_token (at 1 1))
unfolding front_at
fault_of_comment = at_front (codes "/* c") refl (omega arith) (omega arith)

-- a byte that no literal has is refused where it stands
pub fault_of_byte : IsFault [] (34 ∷ 200 ∷ []) (refusal tags.Byte (at 1 2) Nothing)
unfolding front_at
fault_of_byte = at_front (34 ∷ 200 ∷ []) refl (omega arith) (omega arith)

-- and not as a token that does not end
pub no_fault_of_text : IsFault [] (34 ∷ 200 ∷ []) (no_token (at 1 1)) → ⊥
unfolding front_at
no_fault_of_text fault = let e = only_at_front (34 ∷ 200 ∷ []) (no_token (at 1 1)) refl fault (omega arith) in omega (arith, ap (λ (r : Refusal). r.pos.col) e)

-- 2^127 is too large a number
pub fault_of_number : IsFault [] (codes "170141183460469231731687303715884105728") (refusal tags.Number (at 1 1) Nothing)
unfolding front_at
fault_of_number =
    let text = codes "170141183460469231731687303715884105728" in
    let found : front_at text ≡ Some (Lexed forms.Number 39) = refl in
    stop (omega arith) [] text [] (refl, refl) (omega arith) (cannot_from [] text start forms.Number 39 0 (refusal tags.Number start Nothing) found (large (lex_next text forms.Number 39 found).form_is (omega arith) refl))

-- what divides has no fault
pub no_fault : (r : Refusal) → IsFault [] (codes "var x") r → ⊥
no_fault r fault = fault_excludes [] (codes "var x") r _ (codes "x" ∷ []) fault divides_var (omega arith) (omega arith)
