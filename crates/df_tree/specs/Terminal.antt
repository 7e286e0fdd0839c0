-- The terminals of the grammar: what a token is, without what it says.
use Rattle.std.specs.Prelude.{ℕ}
use Rattle.df_tok.specs.declared.word.Word.{Word}
use Rattle.df_tok.specs.declared.word.Word.TheVariants as words
use Rattle.df_tok.specs.declared.sign.Sign.{Sign}
use Rattle.df_tok.specs.declared.sign.Sign.TheVariants as signs
use Rattle.df_tok.specs.declared.token.Kind.{Kind}
use Rattle.df_tok.specs.declared.token.Kind.TheVariants as kinds
use Rattle.df_tok.specs.Token.{Token}
use Rattle.df_tree.specs.declared.terminal.TheConstants as numbers

abbrev pub of_word : Word → ℕ
of_word words.Array = numbers.ARRAY
of_word words.ArrayOrNull = numbers.ARRAY_OR_NULL
of_word words.As = numbers.AS
of_word words.Assert = numbers.ASSERT
of_word words.Bool = numbers.BOOL
of_word words.Break = numbers.BREAK
of_word words.By = numbers.BY
of_word words.Calc = numbers.CALC
of_word words.Case = numbers.CASE
of_word words.Char = numbers.CHAR
of_word words.Class = numbers.CLASS
of_word words.Constructor = numbers.CONSTRUCTOR
of_word words.Datatype = numbers.DATATYPE
of_word words.Decreases = numbers.DECREASES
of_word words.Else = numbers.ELSE
of_word words.Ensures = numbers.ENSURES
of_word words.Exists = numbers.EXISTS
of_word words.False = numbers.FALSE
of_word words.Forall = numbers.FORALL
of_word words.Fresh = numbers.FRESH
of_word words.Function = numbers.FUNCTION
of_word words.Ghost = numbers.GHOST
of_word words.If = numbers.IF
of_word words.Import = numbers.IMPORT
of_word words.In = numbers.IN
of_word words.Int = numbers.INT
of_word words.Invariant = numbers.INVARIANT
of_word words.Lemma = numbers.LEMMA
of_word words.Match = numbers.MATCH
of_word words.Method = numbers.METHOD
of_word words.Modifies = numbers.MODIFIES
of_word words.Module = numbers.MODULE
of_word words.Nat = numbers.NAT
of_word words.New = numbers.NEW
of_word words.Newtype = numbers.NEWTYPE
of_word words.Null = numbers.NULL
of_word words.Object = numbers.OBJECT
of_word words.ObjectOrNull = numbers.OBJECT_OR_NULL
of_word words.Old = numbers.OLD
of_word words.Opened = numbers.OPENED
of_word words.Predicate = numbers.PREDICATE
of_word words.Print = numbers.PRINT
of_word words.Reads = numbers.READS
of_word words.Requires = numbers.REQUIRES
of_word words.Return = numbers.RETURN
of_word words.Returns = numbers.RETURNS
of_word words.Seq = numbers.SEQ
of_word words.Set = numbers.SET
of_word words.String = numbers.STRING
of_word words.Then = numbers.THEN
of_word words.This = numbers.THIS
of_word words.True = numbers.TRUE
of_word words.Var = numbers.VAR
of_word words.While = numbers.WHILE
of_word words.Witness = numbers.WITNESS

abbrev pub of_sign : Sign → ℕ
of_sign signs.Iff = numbers.IFF
of_sign signs.Implies = numbers.IMPLIES
of_sign signs.Explies = numbers.EXPLIES
of_sign signs.And = numbers.AND
of_sign signs.Or = numbers.OR
of_sign signs.Equal = numbers.EQUAL
of_sign signs.NotEqual = numbers.NOT_EQUAL
of_sign signs.AtMost = numbers.AT_MOST
of_sign signs.AtLeast = numbers.AT_LEAST
of_sign signs.Less = numbers.LESS
of_sign signs.Greater = numbers.GREATER
of_sign signs.NotIn = numbers.NOT_IN
of_sign signs.Disjoint = numbers.DISJOINT
of_sign signs.Not = numbers.NOT
of_sign signs.Plus = numbers.PLUS
of_sign signs.Minus = numbers.MINUS
of_sign signs.Times = numbers.TIMES
of_sign signs.Divide = numbers.DIVIDE
of_sign signs.Modulo = numbers.MODULO
of_sign signs.Assign = numbers.ASSIGN
of_sign signs.SuchThat = numbers.SUCH_THAT
of_sign signs.DoubleColon = numbers.DOUBLE_COLON
of_sign signs.Colon = numbers.COLON
of_sign signs.Semicolon = numbers.SEMICOLON
of_sign signs.Comma = numbers.COMMA
of_sign signs.DotDot = numbers.DOT_DOT
of_sign signs.Dot = numbers.DOT
of_sign signs.OpenParenthesis = numbers.OPEN_PARENTHESIS
of_sign signs.CloseParenthesis = numbers.CLOSE_PARENTHESIS
of_sign signs.OpenBracket = numbers.OPEN_BRACKET
of_sign signs.CloseBracket = numbers.CLOSE_BRACKET
of_sign signs.OpenAttribute = numbers.OPEN_ATTRIBUTE
of_sign signs.OpenBrace = numbers.OPEN_BRACE
of_sign signs.CloseBrace = numbers.CLOSE_BRACE
of_sign signs.Bar = numbers.BAR
of_sign signs.Arrow = numbers.ARROW
of_sign signs.Define = numbers.DEFINE

abbrev pub terminal_of : Kind → ℕ
terminal_of (kinds.Name name) = numbers.NAME
terminal_of (kinds.Outside name) = numbers.OUTSIDE
terminal_of kinds.Wildcard = numbers.WILDCARD
terminal_of (kinds.Number value) = numbers.NUMBER
terminal_of (kinds.Character code) = numbers.CHARACTER
terminal_of kinds.Text = numbers.TEXT
terminal_of (kinds.Word word) = of_word word
terminal_of (kinds.Sign sign) = of_sign sign

-- that of a token
unfoldable pub terminal : Token → ℕ
terminal x = terminal_of x.kind
