-- Which tokens spell an expression, and which expressions the grammar has.
use Rattle.std.specs.Prelude.{◌≡◌, ℕ, ◌+◌, ◌<◌, ◌≤◌, max, Bool, true, false, IsTrue, List, [], ◌∷◌, ◌++◌, length, drop, Option, Some, None, ◌⊎◌}
use Rattle.std.specs.List.{flat_map}
use Rattle.df_tok.specs.declared.word.Word.TheVariants as words
use Rattle.df_tok.specs.declared.sign.Sign.TheVariants as signs
use Rattle.df_tok.specs.declared.token.Kind.{Kind}
use Rattle.df_tok.specs.declared.token.Kind.TheVariants as kinds
use Rattle.df_tok.specs.Token.{Token}
use Rattle.df_ntree.specs.declared.tree.Literal.{Literal}
use Rattle.df_ntree.specs.declared.expr.BinaryOperator.{BinaryOperator}
use Rattle.df_ntree.specs.declared.expr.UnaryOperator.{UnaryOperator}
use Rattle.df_ntree.specs.declared.expr.UnaryOperator.TheVariants as unary
use Rattle.df_ntree.specs.declared.expr.Group.{Group}
use Rattle.df_ntree.specs.declared.expr.Level.{Level}
use Rattle.df_ntree.specs.declared.expr.Level.TheVariants as levels
use Rattle.df_ntree.specs.declared.expr.TreeType.{TreeType}
use Rattle.df_ntree.specs.declared.expr.TreeType.TheVariants as types
use Rattle.df_ntree.specs.Operator.{sign_of, unary_sign_of, group_of, level_of, rank, basic_word, is_cast_target}
use Rattle.df_ntree.specs.Spelling.{Piece, Plain, Begins, a_sign, a_word, sign_there, word_there, a_name, AreSome}
use Rattle.df_ntree.specs.Expr.{Expr, Number, Character, Truth, Name, Parentheses, Call, Unary, Cast, Operations, Leading, Members, end, more, Arguments, no_more, argument}

-- ---- the tokens

-- number, with a minus before it or without
abbrev pub spell_number : Literal → List Piece
spell_number literal = elim literal.negative [
  | true ↦ sign_there signs.Minus literal.pos ∷ Plain (kinds.Number literal.magnitude) None ∷ []
  | false ↦ Plain (kinds.Number literal.magnitude) (Some literal.pos) ∷ []
]

abbrev pub truth_kind : Bool → Kind
truth_kind true = kinds.Word words.True
truth_kind false = kinds.Word words.False

abbrev pub spell_type : TreeType → List Piece
spell_type (types.Basic basic pos) = word_there (basic_word basic) pos ∷ []
spell_type (types.Named ident) = a_name ident ∷ []

-- "as" type
abbrev pub spell_cast : TreeType → List Piece
spell_cast ty = a_word words.As ∷ spell_type ty

abbrev mutual
  pub spell : Expr → List Piece
  spell (Number literal) = spell_number literal
  spell (Character code pos) = Plain (kinds.Character code) (Some pos) ∷ []
  spell (Truth value pos) = Plain (truth_kind value) (Some pos) ∷ []
  spell (Name ident) = a_name ident ∷ []
  spell (Parentheses pos inner) = sign_there signs.OpenParenthesis pos ∷ (spell inner ++ a_sign signs.CloseParenthesis ∷ [])
  -- callee "(" [ argument { "," argument } ] ")"
  spell (Call callee arguments) = spell callee ++ (a_sign signs.OpenParenthesis ∷ (spell_arguments arguments ++ a_sign signs.CloseParenthesis ∷ []))
  spell (Unary operator pos operand) = sign_there (unary_sign_of operator) pos ∷ spell operand
  -- operand { "as" type }
  spell (Cast operand all) = spell operand ++ flat_map spell_cast all
  spell (Operations first rest) = spell first ++ spell_members rest
  spell (Leading operations) = spell_members operations

  -- { operator operand }
  pub spell_members : Members → List Piece
  spell_members end = []
  spell_members (more operator pos operand rest) = sign_there (sign_of operator) pos ∷ (spell operand ++ spell_members rest)

  -- [ argument { "," argument } ]
  pub spell_arguments : Arguments → List Piece
  spell_arguments no_more = []
  spell_arguments (argument e rest) = spell e ++ spell_further rest

  -- { "," argument }
  pub spell_further : Arguments → List Piece
  spell_further no_more = []
  spell_further (argument e rest) = (a_sign signs.Comma ∷ spell e) ++ spell_further rest

-- ---- the shape

-- the group of the first operator
abbrev pub first_group : Members → Option Group
first_group end = None
first_group (more operator pos operand rest) = Some (group_of operator)

-- the level of a row of operators of one group; a row without any binds as one operand
abbrev pub rank_of_group : Option Group → ℕ
rank_of_group (Some group) = rank (level_of group)
rank_of_group None = rank levels.Primary

-- A minus before a number is a sign.
abbrev pub rank_of_number : Bool → ℕ
rank_of_number true = rank levels.Unary
rank_of_number false = rank levels.Primary

-- the level of the production that makes an expression
abbrev pub rank_of : Expr → ℕ
rank_of (Number literal) = rank_of_number literal.negative
rank_of (Unary operator pos operand) = rank levels.Unary
rank_of (Cast operand all) = rank levels.Cast
rank_of (Operations first rest) = rank_of_group (first_group rest)
rank_of (Leading operations) = rank levels.Junction
rank_of _ = rank levels.Primary

-- A minus right before a number that has no suffix belongs to it.
abbrev pub IsUnsignedNumber : Expr → Type 0
IsUnsignedNumber (Number literal) = literal.negative ≡ false
IsUnsignedNumber _ = ⊥

abbrev pub IsOperandOf : UnaryOperator → Expr → Type 0
IsOperandOf unary.Negate operand = (rank levels.Unary ≤ rank_of operand) × (IsUnsignedNumber operand → ⊥)
IsOperandOf unary.Not operand = rank levels.Unary ≤ rank_of operand

abbrev pub IsCastTarget : TreeType → Type 0
IsCastTarget ty = IsTrue (is_cast_target ty)

-- The first operator is of this group.
abbrev pub BeginsWith : Group → Members → Type 0
BeginsWith group members = first_group members ≡ Some group

abbrev mutual
  -- an expression of the grammar: each operand of an operator is of a tighter level
  pub IsExpr : Expr → Type 0
  IsExpr (Number literal) = Unit {0}
  IsExpr (Character code pos) = Unit {0}
  IsExpr (Truth value pos) = Unit {0}
  IsExpr (Name ident) = Unit {0}
  IsExpr (Parentheses pos inner) = IsExpr inner
  IsExpr (Call callee arguments) = IsExpr callee × (rank levels.Primary ≤ rank_of callee) × AreArguments arguments
  IsExpr (Unary operator pos operand) = IsExpr operand × IsOperandOf operator operand
  IsExpr (Cast operand all) = IsExpr operand × (rank levels.Unary ≤ rank_of operand) × AreSome IsCastTarget all
  IsExpr (Operations first rest) =
      (group : Group) × BeginsWith group rest × IsExpr first × (rank (level_of group) < rank_of first) × AreOf rest group
  IsExpr (Leading operations) =
      (group : Group) × BeginsWith group operations × (level_of group ≡ levels.Junction) × AreOf operations group

  -- the operators are of one group
  pub AreOf : Members → Group → Type 0
  AreOf end group = Unit {0}
  AreOf (more operator pos operand rest) group =
      (group_of operator ≡ group) × IsExpr operand × (rank (level_of group) < rank_of operand) × AreOf rest group

  pub AreArguments : Arguments → Type 0
  AreArguments no_more = Unit {0}
  AreArguments (argument e rest) = IsExpr e × AreArguments rest

-- an expression of this level, or of a tighter one
abbrev pub IsOfLevel : Level → Expr → Type 0
IsOfLevel level e = IsExpr e × (rank level ≤ rank_of e)

-- ---- the height

-- the height of the highest
abbrev pub deepest_of : {X : Type 0} → (X → ℕ) → List X → ℕ
deepest_of height_of [] = 0
deepest_of height_of (x ∷ xs) = max (height_of x) (deepest_of height_of xs)

-- a sign before a number counts one more
abbrev pub if_negative : Bool → ℕ
if_negative true = 2
if_negative false = 1

abbrev mutual
  -- How many expressions and types stand inside one another. Operands of one level, arguments and the
  -- types of a run of `as` are siblings; each sign and each suffix counts one more.
  pub height : Expr → ℕ
  height (Number literal) = if_negative literal.negative
  height (Character code pos) = 1
  height (Truth value pos) = 1
  height (Name ident) = 1
  height (Parentheses pos inner) = height inner + 1
  height (Call callee arguments) = max (height callee) (deepest_argument arguments) + 1
  height (Unary operator pos operand) = height operand + 1
  height (Cast operand all) = height operand + 1
  height (Operations first rest) = max (height first) (deepest rest) + 1
  height (Leading operations) = deepest operations + 1

  pub deepest : Members → ℕ
  deepest end = 0
  deepest (more operator pos operand rest) = max (height operand) (deepest rest)

  pub deepest_argument : Arguments → ℕ
  deepest_argument no_more = 0
  deepest_argument (argument e rest) = max (height e) (deepest_argument rest)

-- ---- parts of a text

-- how an expression may go on: with an operator and its operand, with `as` and a type, or with a suffix
pub data Continuation : Type 0 where
  WithOperator : BinaryOperator → Continuation
  WithType : Continuation
  WithArguments : Continuation

-- the token with which it does
abbrev pub kind_of : Continuation → Kind
kind_of (WithOperator operator) = kinds.Sign (sign_of operator)
kind_of WithType = kinds.Word words.As
kind_of WithArguments = kinds.Sign signs.OpenParenthesis

-- the level of what goes on with it
abbrev pub continued_level : Continuation → Level
continued_level (WithOperator operator) = level_of (group_of operator)
continued_level WithType = levels.Cast
continued_level WithArguments = levels.Primary

-- a row of operators of this group goes on with it
abbrev pub GoesOn : Group → Continuation → Type 0
GoesOn group (WithOperator operator) = group_of operator ≡ group
GoesOn group _ = ⊥

-- It is of the level of the group, and no row of the group goes on with it.
abbrev pub Bars : Group → Continuation → Type 0
Bars group c = (continued_level c ≡ level_of group) × (GoesOn group c → ⊥)

-- the first where there are no further members, and else the second
abbrev pub AtEnd : Members → Type 0 → Type 0 → Type 0
AtEnd end here later = here
AtEnd (more operator pos operand rest) here later = later

abbrev mutual
  -- No expression goes on from this one in this way: a row that ends with it bars that, and a type takes no
  -- suffix. As `a && b` bars `||`, `a ==> b && c` bars `||` and `<==`, and `a as int` bars `(`.
  pub IsBarred : Continuation → Expr → Type 0
  IsBarred c (Cast operand all) = c ≡ WithArguments
  IsBarred c (Operations first rest) = IsBarredAfter c rest
  IsBarred c (Leading operations) = IsBarredAfter c operations
  IsBarred c _ = ⊥

  pub IsBarredAfter : Continuation → Members → Type 0
  IsBarredAfter c end = ⊥
  IsBarredAfter c (more operator pos operand rest) = AtEnd rest (Bars (group_of operator) c ⊎ IsBarred c operand) (IsBarredAfter c rest)

-- The token there does not continue the expression: each way to go on with it is barred.
abbrev pub IsEnd : Expr → List Token → Type 0
IsEnd e [] = Unit {0}
IsEnd e (token ∷ tokens) = (c : Continuation) → token.kind ≡ kind_of c → IsBarred c e

-- how deep expressions, statements and blocks may stand inside one another
abbrev pub height_limit : ℕ
height_limit = 200

-- The expression is spelled from token `start` to before token `after`, and the token there does not continue it.
pub record IsExpressionAt (tokens : List Token) (start : ℕ) (e : Expr) (after : ℕ) : Type 0 where
  pub inside : after ≤ length tokens
  pub spelled : Begins (spell e) (drop start tokens) (drop after tokens)
  pub shape : IsExpr e
  pub low : height e ≤ height_limit
  pub ends : IsEnd e (drop after tokens)

-- The type is spelled from token `start` to before token `after`.
pub record IsTypeAt (tokens : List Token) (start : ℕ) (ty : TreeType) (after : ℕ) : Type 0 where
  pub inside : after ≤ length tokens
  pub spelled : Begins (spell_type ty) (drop start tokens) (drop after tokens)
