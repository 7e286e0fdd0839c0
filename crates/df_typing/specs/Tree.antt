-- Syntax trees, and what their tokens say.
use Rattle.std.specs.Prelude.{ℕ, suc, ◌==◌, Bool, true, false, if◌then◌else◌, List, [], ◌∷◌, Option, Some, None}
use Rattle.std.specs.Option.{unwrap_or}
use Rattle.df_tok.specs.Byte.{escaped}
use Rattle.df_tok.specs.declared.token.Kind.{Kind}
use Rattle.df_tok.specs.declared.token.Kind.TheVariants as kinds
use Rattle.df_tok.specs.declared.word.Word.TheVariants as words
pub use Rattle.df_tok.specs.declared.sign.Sign.{Sign}
use Rattle.df_tok.specs.declared.sign.Sign.TheVariants as signs
pub use Rattle.df_tree.specs.declared.label.Label.{Label}
pub use Rattle.df_tree.specs.declared.label.Span.{Span}
pub use Rattle.df_typing.specs.declared.tree.Named.{Named}
pub use Rattle.df_typing.specs.declared.tree.Signed.{Signed}
pub use Rattle.df_tree.specs.Ast.{Ast, Asts, Kept, Made, Nil, Next, Mark}

-- the tokens that stand in no further node
abbrev pub marks : Asts → List Mark
marks Nil = []
marks (Next (Kept x) rest) = x ∷ marks rest
marks (Next (Made label span inside) rest) = marks rest

-- The parts of a node are the nodes in it.
abbrev pub count : Asts → ℕ
count Nil = 0
count (Next (Kept x) rest) = count rest
count (Next (Made label span inside) rest) = suc (count rest)

-- ---- what tokens say

abbrev pub name_in : List Mark → Option Named
name_in [] = None
name_in (x ∷ xs) = by x.kind (name_in xs) where
  by : Kind → Option Named → Option Named
  by (kinds.Name name) others = Some (record { name = name; place = x.place })
  by kind others = others

abbrev pub signs_in : List Mark → List Signed
signs_in [] = []
signs_in (x ∷ xs) = by x.kind (signs_in xs) where
  by : Kind → List Signed → List Signed
  by (kinds.Sign sign) others = record { sign = sign; place = x.place } ∷ others
  by kind others = others

abbrev pub is_assign : Kind → Bool
is_assign (kinds.Sign signs.Assign) = true
is_assign kind = false

-- how many parts stand before the `:=`: all, if there is none
abbrev pub before_sign : Asts → ℕ
before_sign Nil = 0
before_sign (Next (Kept x) rest) = if is_assign x.kind then 0 else before_sign rest
before_sign (Next (Made label span inside) rest) = suc (before_sign rest)

abbrev pub is_ghost_word : Kind → Bool
is_ghost_word (kinds.Word words.Ghost) = true
is_ghost_word kind = false

abbrev pub is_ghost : List Mark → Bool
is_ghost [] = false
is_ghost (x ∷ xs) = if is_ghost_word x.kind then true else is_ghost xs

-- a literal's value
abbrev pub number_in : List Mark → ℕ
number_in [] = 0
number_in (x ∷ xs) = by x.kind (number_in xs) where
  by : Kind → ℕ → ℕ
  by (kinds.Number n) others = n
  by kind others = others

abbrev pub character_in : List Mark → ℕ
character_in [] = 0
character_in (x ∷ xs) = by x.kind (character_in xs) where
  by : Kind → ℕ → ℕ
  by (kinds.Character code) others = code
  by kind others = others

abbrev pub is_true : Kind → Bool
is_true (kinds.Word words.True) = true
is_true kind = false

abbrev pub truth_in : List Mark → Bool
truth_in [] = false
truth_in (x ∷ xs) = if is_true x.kind then true else truth_in xs

-- Of a string literal, which stands between double quotes (34): its characters. A backslash (92) stands before the letter of an escape.
abbrev pub unescaped : Bool → List ℕ → List ℕ
unescaped is_escape [] = []
unescaped true (c ∷ cs) = unwrap_or (escaped c) c ∷ unescaped false cs
unescaped false (c ∷ cs) = if c == 92 then unescaped true cs else (if c == 34 then unescaped false cs else c ∷ unescaped false cs)

abbrev pub text_in : List Mark → List ℕ
text_in [] = []
text_in (x ∷ xs) = unescaped false x.text
