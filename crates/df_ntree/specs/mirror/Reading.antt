-- Reading from the front of tokens: what is shared, and what private contracts cite.
use Rattle.std.specs.Prelude.{ℕ, zero, suc, Bool, true, false, not, List, [], ◌∷◌, length, Option, Some, None, option_and_then, ◌==◌, if◌then◌else◌}
use denote.Enum.Bare.{sameb}
use Rattle.df_base.specs.declared.pos.Pos.{Pos}
use Rattle.df_tok.specs.contracts.word.Word as declared_word
use Rattle.df_tok.specs.contracts.sign.Sign as declared_sign
use Rattle.df_tok.specs.declared.word.Word.{Word}
use Rattle.df_tok.specs.declared.sign.Sign.{Sign}
use Rattle.df_tok.specs.declared.sign.Sign.TheVariants as signs
use Rattle.df_tok.specs.declared.token.Kind.{Kind}
use Rattle.df_tok.specs.declared.token.Kind.TheVariants as kinds
use Rattle.df_tok.specs.Token.{Token}
use Rattle.df_tok.specs.Byte.{is_plain_in_text, escaped}
use Rattle.df_ntree.specs.declared.tree.Ident.{Ident}

-- ---- steps

-- steps that may find nothing
infixl 10 ◌>>=◌
abbrev pub ◌>>=◌ : {A B : Type 0} → Option A → (A → Option B) → Option B
o >>= f = option_and_then f o

-- what a step found, in front of what is found in the rest; nothing where the step found the end
abbrev pub in_front : {S X : Type 0} → (List S → Option (List X × List S)) → Option X × List S → Option (List X × List S)
in_front others (None, rest) = Some ([], rest)
in_front others (Some x, rest) = others rest >>= λ more. Some (x ∷ more.0, more.1)

-- What a step finds again and again up to the end. Each find takes something, so the length is fuel enough.
unfoldable pub some_of : {S X : Type 0} → (List S → Option (Option X × List S)) → ℕ → List S → Option (List X × List S)
some_of step zero rest = None
some_of step (suc fuel) rest = step rest >>= in_front (some_of step fuel)

unfoldable pub all_of : {S X : Type 0} → (List S → Option (Option X × List S)) → List S → Option (List X × List S)
all_of step rest = some_of step (suc (length rest)) rest

-- ---- tokens

-- what a read gives, and the tokens after it
abbrev pub Read : Type 0 → Type 0
Read X = Option (X × List Token)

-- reads from the front of tokens
abbrev pub Reader : Type 0 → Type 0
Reader X = List Token → Read X

abbrev pub is_word : Word → Kind → Bool
is_word word kind = elim kind [ kinds.Word other ↦ sameb declared_word.the_type other word | _ ↦ false ]

abbrev pub is_sign : Sign → Kind → Bool
is_sign sign kind = elim kind [ kinds.Sign other ↦ sameb declared_sign.the_type other sign | _ ↦ false ]

unfoldable pub word_at : Word → List Token → Option (List Token)
word_at word [] = None
word_at word (token ∷ rest) = if is_word word token.kind then Some rest else None

unfoldable pub sign_at : Sign → List Token → Option (List Token)
sign_at sign [] = None
sign_at sign (token ∷ rest) = if is_sign sign token.kind then Some rest else None

-- the position of a word
unfoldable pub pos_of_word : Word → Reader Pos
pos_of_word word [] = None
pos_of_word word (token ∷ rest) = if is_word word token.kind then Some (token.pos, rest) else None

-- the position of a sign
unfoldable pub pos_of_sign : Sign → Reader Pos
pos_of_sign sign [] = None
pos_of_sign sign (token ∷ rest) = if is_sign sign token.kind then Some (token.pos, rest) else None

unfoldable pub name_at : Reader Ident
name_at [] = None
name_at (token ∷ rest) = elim token.kind [ kinds.Name name ↦ Some (record { name = name; pos = token.pos }, rest) | _ ↦ None ]

-- ---- tests of the next token

abbrev pub kind_at : List Token → Option Kind
kind_at [] = None
kind_at (token ∷ rest) = Some token.kind

abbrev pub kind_is_word : Word → Option Kind → Bool
kind_is_word word None = false
kind_is_word word (Some kind) = is_word word kind

abbrev pub kind_is_sign : Sign → Option Kind → Bool
kind_is_sign sign None = false
kind_is_sign sign (Some kind) = is_sign sign kind

abbrev pub word_stands : Word → List Token → Bool
word_stands word tokens = kind_is_word word (kind_at tokens)

abbrev pub sign_stands : Sign → List Token → Bool
sign_stands sign tokens = kind_is_sign sign (kind_at tokens)

-- what closes does not stand there
abbrev pub is_open : Sign → List Token → Bool
is_open close tokens = not (sign_stands close tokens)

-- any token
abbrev pub some_stands : List Token → Bool
some_stands [] = false
some_stands (token ∷ rest) = true

-- ---- readers made of others

abbrev pub given : {X : Type 0} → X → Reader X
given x tokens = Some (x, tokens)

-- one and then the other
abbrev pub both : {X Y : Type 0} → Reader X → Reader Y → Reader (X × Y)
both first second tokens = first tokens >>= λ x. second x.1 >>= λ y. Some ((x.0, y.0), y.1)

-- what is made of what is read
abbrev pub made : {X Y : Type 0} → (X → Y) → Reader X → Reader Y
made f read tokens = read tokens >>= λ x. Some (f x.0, x.1)

-- what is made of what is read, where it can be
abbrev pub made_if : {X Y : Type 0} → (X → Option Y) → Reader X → Reader Y
made_if f read tokens = read tokens >>= λ x. f x.0 >>= λ y. Some (y, x.1)

abbrev pub after_word : {X : Type 0} → Word → Reader X → Reader X
after_word word read tokens = word_at word tokens >>= read

abbrev pub after_sign : {X : Type 0} → Sign → Reader X → Reader X
after_sign sign read tokens = sign_at sign tokens >>= read

abbrev pub before_sign : {X : Type 0} → Reader X → Sign → Reader X
before_sign read sign tokens = read tokens >>= λ x. sign_at sign x.1 >>= λ rest. Some (x.0, rest)

-- where one stands by a test, it is read
abbrev pub optionally : {X : Type 0} → (List Token → Bool) → Reader X → Reader (Option X)
optionally stands read tokens = if stands tokens then (read tokens >>= λ x. Some (Some x.0, x.1)) else Some (None, tokens)

-- as long as one stands by a test, it is read
unfoldable pub many : {X : Type 0} → (List Token → Bool) → Reader X → Reader (List X)
many stands read tokens = all_of (optionally stands read) tokens

-- the next one behind a comma
abbrev pub next_by : {X : Type 0} → Reader X → Reader (Option X)
next_by read = optionally (sign_stands signs.Comma) (after_sign signs.Comma read)

-- one, and then each further one after a comma
unfoldable pub one_or_more : {X : Type 0} → Reader X → Reader (List X)
one_or_more read tokens = made (λ x. x.0 ∷ x.1) (both read (many (sign_stands signs.Comma) (after_sign signs.Comma read))) tokens

-- a list where one stands by a test, and else the empty one
abbrev pub where_stands : {X : Type 0} → (List Token → Bool) → Reader (List X) → Reader (List X)
where_stands stands read tokens = if stands tokens then read tokens else Some ([], tokens)

-- ---- string literals

-- the letter of an escape
unfoldable pub escape_at : List ℕ → Option (Option ℕ × List ℕ)
escape_at [] = None
escape_at (letter ∷ rest) = escaped letter >>= λ c. Some (Some c, rest)

-- the next character, or the end at a quote
unfoldable pub part_at : List ℕ → Option (Option ℕ × List ℕ)
part_at [] = None
part_at (b ∷ rest) =
    if b == 34 then Some (None, rest)
    else (if b == 92 then escape_at rest
    else (if is_plain_in_text b then Some (Some b, rest) else None))

-- what was found, where nothing is left
abbrev pub whole : {S X : Type 0} → X × List S → Option X
whole (x, []) = Some x
whole (x, s ∷ rest) = None

-- the characters that a string literal's bytes stand for
unfoldable pub characters_of : List ℕ → Option (List ℕ)
characters_of [] = None
characters_of (b ∷ rest) = if b == 34 then all_of part_at rest >>= whole else None

unfoldable pub text_at : Reader (List ℕ)
text_at [] = None
text_at (token ∷ rest) = elim token.kind [ kinds.Text ↦ characters_of token.text >>= λ cs. Some (cs, rest) | _ ↦ None ]
