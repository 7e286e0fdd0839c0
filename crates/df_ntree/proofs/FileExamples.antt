-- The grammar of files, computed on small ones.
use Rattle.std.proofs.Common.{◌≡◌, ℕ, false, List, [], ◌∷◌, length, take, Option, Some, None, refl, sym, ap, ◌∙◌, arith, rules}
use Rattle.std.specs.Prelude.{unwrap_or}
use Rattle.df_base.specs.declared.pos.Pos.{Pos}
use Rattle.df_tok.specs.declared.word.Word.TheVariants as words
use Rattle.df_tok.specs.declared.sign.Sign.TheVariants as signs
use Rattle.df_tok.specs.declared.token.Kind.{Kind}
use Rattle.df_tok.specs.declared.token.Kind.TheVariants as kinds
use Rattle.df_tok.specs.Token.{Token}
use Rattle.df_tok.specs.Lexeme.{Escape}
use Rattle.df_tok.proofs.Examples.{small_tokens}
use Rattle.df_ntree.specs.declared.tree.Ident.{Ident}
use Rattle.df_ntree.specs.declared.expr.BinaryOperator.{BinaryOperator}
use Rattle.df_ntree.specs.declared.expr.BinaryOperator.TheVariants as binary
use Rattle.df_ntree.specs.declared.expr.Group.TheVariants as groups
use Rattle.df_ntree.specs.declared.expr.TreeType.TheVariants as types
use Rattle.df_ntree.specs.Expr.{Expr, Number, Name, Parentheses, Operations}
use Rattle.df_ntree.specs.Expr as members
use Rattle.df_ntree.specs.mirror.Reading.{escape_at, part_at, some_of, all_of, characters_of}
use Rattle.df_ntree.specs.File.{Nested, Var, Assign, If, Assert, Print, done, next, end, more, without, otherwise, Declaration, Newtype, Method, File}
use Rattle.df_ntree.specs.Spelling.{Characters, IsPiece, Begins}
use Rattle.df_ntree.specs.FileSpelling.{spell_file, statement_height, IsStatement, SpellsFile}
use Rattle.df_ntree.proofs.Text.{characters_complete}
use Rattle.df_ntree.proofs.Tokens.{Begins-length}
use Rattle.df_ntree.proofs.FileLaw.{same_file}

at : ℕ → Pos
at col = record { line = 1; col = col }

ident : ℕ → ℕ → Ident
ident i col = record { name = i; pos = at col }

token : Kind → ℕ → Token
token kind col = record { kind = kind; text = []; pos = at col }

-- `method a() { b := c; }`
small : File
small = record {
  declarations = Method (record {
    name = ident 0 8;
    parameters = [];
    results = None;
    clauses = [];
    body = record { pos = at 12; statements = next (Assign (Name (ident 1 14) ∷ []) (Name (ident 2 19) ∷ [])) done };
  }) ∷ [];
}

small_spelled : Begins
    (spell_file small)
    (token (kinds.Word words.Method) 1 ∷ token (kinds.Name 0) 8 ∷ token (kinds.Sign signs.OpenParenthesis) 9 ∷ token (kinds.Sign signs.CloseParenthesis) 10 ∷ token (kinds.Sign signs.OpenBrace) 12
    ∷ token (kinds.Name 1) 14 ∷ token (kinds.Sign signs.Assign) 16 ∷ token (kinds.Name 2) 19 ∷ token (kinds.Sign signs.Semicolon) 20 ∷ token (kinds.Sign signs.CloseBrace) 22 ∷ [])
    []
unfolding small ident token at
small_spelled =
    ((refl, tt), ((refl, refl), ((refl, tt), ((refl, tt), ((refl, refl), ((refl, refl), ((refl, tt), ((refl, refl), ((refl, tt), ((refl, tt), refl))))))))))

-- `{}` counts once, and `{ {} }` twice
block_height : statement_height (Nested (at 1) done) ≡ 1
unfolding at
block_height = refl

nested_height : statement_height (Nested (at 1) (next (Nested (at 3) done) done)) ≡ 2
unfolding at
nested_height = refl

-- `assert (a);` holds a name in parentheses
assert_height : statement_height (Assert (at 1) (Parentheses (at 8) (Name (ident 0 9)))) ≡ 3
unfolding at ident
assert_height = refl

-- `if a {} else if b {} else {}` is as high as `if a {}`
branches_are_siblings : statement_height (If (at 1) (Name (ident 0 4)) (at 6) done (more (at 14) (Name (ident 1 17)) (at 19) done end) (otherwise (at 27) done)) ≡ statement_height (If (at 1) (Name (ident 0 4)) (at 6) done end without)
unfolding at ident
branches_are_siblings = refl

-- `print ;` is no statement
nothing_printed : IsStatement (Print (at 1) []) → ⊥
nothing_printed is = is.0 refl

-- ---- a newtype and a method

number : ℕ → ℕ → Expr
number n col = Number (record { negative = false; magnitude = n; pos = at col })

-- the file of `newtype N=x|0<=x<9 method Main(){var y:N:=1;}`, with this operator after the 0
with_operator : BinaryOperator → File
with_operator operator = record {
  declarations = Newtype (record {
    name = ident 0 9;
    variable = ident 1 11;
    is_typed = false;
    predicate = Operations (number 0 13) (members.more operator (at 14) (Name (ident 1 16)) (members.more binary.Less (at 17) (number 9 18) members.end));
    witness = None;
  }) ∷ Method (record {
    name = ident 2 27;
    parameters = [];
    results = None;
    clauses = [];
    body = record { pos = at 33; statements = next (Var (at 34) (record { name = ident 3 38; ty = Some (types.Named (ident 0 40)) } ∷ []) (number 1 43 ∷ [])) done };
  }) ∷ [];
}

-- the tokens of the program spell the file
ranged_spelled : SpellsFile (with_operator binary.AtMost) small_tokens
unfolding with_operator number ident at
ranged_spelled =
    (((((groups.Comparison, refl, tt, omega arith, (refl, tt, omega arith, (refl, tt, omega arith, tt))), omega arith), tt), ((tt, ((((λ h. cc), (tt, tt)), tt), omega arith)), tt)), search rules)

-- but not without the closing brace
not_without_brace : SpellsFile (with_operator binary.AtMost) (take 22 small_tokens) → ⊥
unfolding with_operator number ident at
not_without_brace h = let e = Begins-length (spell_file (with_operator binary.AtMost)) (take 22 small_tokens) [] h.1 in omega arith

first_operator : Expr → Option BinaryOperator
first_operator (Operations e (members.more operator pos operand rest)) = Some operator
first_operator _ = None

after_zero : List Declaration → Option BinaryOperator
after_zero (Newtype x ∷ rest) = first_operator x.predicate
after_zero _ = None

-- and not the file with `<` for `<=`
at_most_is_not_less : SpellsFile (with_operator binary.Less) small_tokens → ⊥
unfolding with_operator first_operator after_zero
at_most_is_not_less h = let e = ap (λ (x : File). after_zero x.declarations) (same_file small_tokens (with_operator binary.AtMost) (with_operator binary.Less) ranged_spelled h) in cc

-- ---- string literals

-- `"\n"`
line_end : Token
line_end = record { kind = kinds.Text; text = 34 ∷ 92 ∷ 110 ∷ 34 ∷ []; pos = at 1 }

-- an escape stands for its character
escape_is_line_feed : IsPiece (Characters (10 ∷ [])) line_end
unfolding line_end
escape_is_line_feed = (refl, (Escape 110 ∷ [], 92 ∷ 110 ∷ [], refl, (92 ∷ 110 ∷ [], [], 10, [], refl, refl, (refl, refl), (refl, refl))))

-- and not for its two bytes
escape_is_not_plain : IsPiece (Characters (92 ∷ 110 ∷ [])) line_end → ⊥
unfolding line_end characters_of all_of some_of part_at escape_at
escape_is_not_plain h =
    let read : characters_of line_end.text ≡ Some (10 ∷ []) = refl in
    let same : Some (10 ∷ []) ≡ Some (92 ∷ 110 ∷ []) = sym read ∙ characters_complete line_end.text (92 ∷ 110 ∷ []) h.1 in
    omega (arith, ap (λ (o : Option (List ℕ)). length (unwrap_or o [])) same)
