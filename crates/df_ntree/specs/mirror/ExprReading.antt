-- Reading an expression or a type from the front of tokens: what private contracts cite.
use Rattle.std.specs.Prelude.{ℕ, zero, suc, ◌+◌, max, nat_lt, Bool, true, false, List, [], ◌∷◌, ◌++◌, map, drop, Option, Some, None, if◌then◌else◌}
use denote.Enum.Bare.{sameb}
use Rattle.df_base.specs.declared.pos.Pos.{Pos}
use Rattle.df_tok.specs.declared.word.Word.TheVariants as words
use Rattle.df_tok.specs.declared.sign.Sign.{Sign}
use Rattle.df_tok.specs.declared.sign.Sign.TheVariants as signs
use Rattle.df_tok.specs.declared.token.Kind.{Kind}
use Rattle.df_tok.specs.declared.token.Kind.TheVariants as kinds
use Rattle.df_tok.specs.Token.{Token}
use Rattle.df_ntree.specs.contracts.expr.Group as declared_group
use Rattle.df_ntree.specs.contracts.expr.Level as declared_level
use Rattle.df_ntree.specs.declared.tree.Literal.{Literal}
use Rattle.df_ntree.specs.declared.expr.BinaryOperator.{BinaryOperator}
use Rattle.df_ntree.specs.declared.expr.BinaryOperator.TheVariants as binary
use Rattle.df_ntree.specs.declared.expr.UnaryOperator.{UnaryOperator}
use Rattle.df_ntree.specs.declared.expr.UnaryOperator.TheVariants as unary
use Rattle.df_ntree.specs.declared.expr.Group.{Group}
use Rattle.df_ntree.specs.declared.expr.Level.{Level}
use Rattle.df_ntree.specs.declared.expr.Level.TheVariants as levels
use Rattle.df_ntree.specs.declared.expr.BasicType.TheVariants as basics
use Rattle.df_ntree.specs.declared.expr.TreeType.{TreeType}
use Rattle.df_ntree.specs.declared.expr.TreeType.TheVariants as types
use Rattle.df_ntree.specs.Operator.{group_of, level_of, rows, rank, is_cast_target}
use Rattle.df_ntree.specs.Expr.{Expr, Number, Character, Truth, Name, Parentheses, Call, Unary, Cast, Operations, Leading, Operation, members_of, arguments_of}
use Rattle.df_ntree.specs.mirror.Reading.{◌>>=◌, all_of, Read, Reader, sign_stands, word_stands, is_open, made, made_if, after_word, after_sign, before_sign, optionally, many, one_or_more}

-- ---- operators

unfoldable pub operator_of : Sign → Option BinaryOperator
operator_of signs.Iff = Some binary.Iff
operator_of signs.Implies = Some binary.Implies
operator_of signs.Explies = Some binary.Explies
operator_of signs.And = Some binary.And
operator_of signs.Or = Some binary.Or
operator_of signs.Equal = Some binary.Equal
operator_of signs.NotEqual = Some binary.NotEqual
operator_of signs.Less = Some binary.Less
operator_of signs.AtMost = Some binary.AtMost
operator_of signs.Greater = Some binary.Greater
operator_of signs.AtLeast = Some binary.AtLeast
operator_of signs.Plus = Some binary.Add
operator_of signs.Minus = Some binary.Subtract
operator_of signs.Times = Some binary.Multiply
operator_of signs.Divide = Some binary.Divide
operator_of signs.Modulo = Some binary.Modulo
operator_of _ = None

abbrev pub operator_by : Kind → Option BinaryOperator
operator_by (kinds.Sign sign) = operator_of sign
operator_by _ = None

unfoldable pub operator_at : List Token → Option BinaryOperator
operator_at [] = None
operator_at (token ∷ rest) = operator_by token.kind

abbrev pub same_level : Level → Level → Bool
same_level a b = sameb declared_level.the_type a b

abbrev pub same_group : Group → Group → Bool
same_group a b = sameb declared_group.the_type a b

abbrev pub if_of_level : Level → Option BinaryOperator → Option BinaryOperator
if_of_level level None = None
if_of_level level (Some operator) = if same_level (level_of (group_of operator)) level then Some operator else None

-- the operator at the front, where it is of this level
unfoldable pub operator_in : Level → List Token → Option BinaryOperator
operator_in level tokens = if_of_level level (operator_at tokens)

-- an `&&` or `||` before the first operand
unfoldable pub leading : Level → List Token → Option BinaryOperator
leading levels.Junction tokens = operator_in levels.Junction tokens
leading _ tokens = None

abbrev pub if_of_group : Group → Option BinaryOperator → Token → List Token → Option (BinaryOperator × Pos) × List Token
if_of_group group None token rest = (None, token ∷ rest)
if_of_group group (Some operator) token rest = if same_group (group_of operator) group then (Some (operator, token.pos), rest) else (None, token ∷ rest)

-- the operator and its position where one of the group stands there, and the tokens after it
unfoldable pub optional_operator : Group → List Token → Option (BinaryOperator × Pos) × List Token
optional_operator group [] = (None, [])
optional_operator group (token ∷ rest) = if_of_group group (operator_by token.kind) token rest

abbrev pub unary_by : Kind → Option UnaryOperator
unary_by (kinds.Sign signs.Minus) = Some unary.Negate
unary_by (kinds.Sign signs.Not) = Some unary.Not
unary_by _ = None

abbrev pub if_unary : Option UnaryOperator → Token → List Token → Option (UnaryOperator × Pos) × List Token
if_unary None token rest = (None, token ∷ rest)
if_unary (Some operator) token rest = (Some (operator, token.pos), rest)

-- the sign before an operand and its position where one stands there, and the tokens after it
unfoldable pub optional_unary : List Token → Option (UnaryOperator × Pos) × List Token
optional_unary [] = (None, [])
optional_unary (token ∷ rest) = if_unary (unary_by token.kind) token rest

-- ---- types

abbrev pub type_by : Kind → Pos → List Token → Read TreeType
type_by (kinds.Word words.Int) pos rest = Some (types.Basic basics.Int pos, rest)
type_by (kinds.Word words.Nat) pos rest = Some (types.Basic basics.Nat pos, rest)
type_by (kinds.Word words.Bool) pos rest = Some (types.Basic basics.Bool pos, rest)
type_by (kinds.Word words.Char) pos rest = Some (types.Basic basics.Char pos, rest)
type_by (kinds.Name name) pos rest = Some (types.Named (record { name = name; pos = pos }), rest)
type_by _ pos rest = None

unfoldable pub type_at : Reader TreeType
type_at [] = None
type_at (token ∷ rest) = type_by token.kind token.pos rest

abbrev pub if_cast_target : TreeType → Option TreeType
if_cast_target ty = if is_cast_target ty then Some ty else None

-- a type that may follow `as`
unfoldable pub cast_target_at : Reader TreeType
cast_target_at tokens = made_if if_cast_target type_at tokens

-- { "as" type }
unfoldable pub casts_at : Reader (List TreeType)
casts_at tokens = many (word_stands words.As) (after_word words.As cast_target_at) tokens

-- ---- nodes

-- an expression and its height
abbrev pub Part : Type 0
Part = Expr × ℕ

-- expressions and the height of the highest
abbrev pub Parts : Type 0
Parts = List Expr × ℕ

-- the height of what holds parts of this height, where there is room for it
unfoldable pub deeper : ℕ → ℕ → Option ℕ
deeper room height = if nat_lt height room then Some (height + 1) else None

-- operands that each have their operator before them
unfoldable pub leading_of : ℕ → List Operation × ℕ → Option Part
leading_of room row = deeper room row.1 >>= λ height. Some (Leading (members_of row.0), height)

-- operations after an operand, of which they have the height too
unfoldable pub operations_of : ℕ → Expr → List Operation × ℕ → Option Part
operations_of room first row = deeper room row.1 >>= λ height. Some (Operations first (members_of row.0), height)

-- an operand with types after it, if any
unfoldable pub cast_of : ℕ → Part → List TreeType → Option Part
cast_of room operand [] = Some operand
cast_of room operand (ty ∷ all) = deeper room operand.1 >>= λ height. Some (Cast operand.0 (ty ∷ all), height)

abbrev pub negated : Bool → Literal → Pos → Expr
negated true literal pos = Unary unary.Negate pos (Number literal)
negated false literal pos = Number (record { negative = true; magnitude = literal.magnitude; pos = pos })

-- what a sign before an operand makes: a minus belongs to a number right after it
abbrev pub signed : UnaryOperator → Pos → Expr → Expr
signed unary.Negate pos (Number literal) = negated literal.negative literal pos
signed operator pos operand = Unary operator pos operand

unfoldable pub signed_of : ℕ → UnaryOperator → Pos → Part → Option Part
signed_of room operator pos operand = deeper room operand.1 >>= λ height. Some (signed operator pos operand.0, height)

unfoldable pub call_of : ℕ → Part → Parts → Option Part
call_of room callee arguments = deeper room (max callee.1 arguments.1) >>= λ height. Some (Call callee.0 (arguments_of arguments.0), height)

-- one call of another
abbrev pub calls_of : ℕ → Part → List Parts → Option Part
calls_of room callee [] = Some callee
calls_of room callee (arguments ∷ rest) = call_of room callee arguments >>= λ call. calls_of room call rest

unfoldable pub parentheses_of : ℕ → Pos → Part → Option Part
parentheses_of room pos inner = deeper room inner.1 >>= λ height. Some (Parentheses pos inner.0, height)

-- ---- lists with heights

abbrev pub highest : {X : Type 0} → List (X × ℕ) → ℕ
highest [] = 0
highest (x ∷ xs) = max x.1 (highest xs)

-- those that are found behind those that were, and the larger of a height and theirs
abbrev pub gathered : {X : Type 0} → List X → ℕ → Option (List (X × ℕ) × List Token) → Read (List X × ℕ)
gathered front height found = found >>= λ all. Some ((front ++ map (λ x. x.0) all.0, max height (highest all.0)), all.1)

-- expressions with commas between them, at least one
unfoldable pub expressions_by : Reader Part → Reader Parts
expressions_by read tokens = made (λ all. (map (λ x. x.0) all, highest all)) (one_or_more read) tokens

-- ---- rows of operators

abbrev pub operation_after : Reader Part → Option (BinaryOperator × Pos) × List Token → Read (Option (Operation × ℕ))
operation_after operand (None, rest) = Some (None, rest)
operation_after operand (Some x, rest) =
    operand rest >>= λ found. Some (Some (record { operator = x.0; pos = x.1; operand = found.0.0 }, found.0.1), found.1)

-- the next operator of the group with its operand, or the end of the operations
unfoldable pub next_operation : Group → Reader Part → Reader (Option (Operation × ℕ))
next_operation group operand tokens = operation_after operand (optional_operator group tokens)

-- the operations of a group, and the larger of a height and theirs
unfoldable pub operations_at : Group → Reader Part → ℕ → Reader (List Operation × ℕ)
operations_at group operand height tokens = gathered [] height (all_of (next_operation group operand) tokens)

abbrev pub after_first : ℕ → Reader Part → Part → Option BinaryOperator → Reader Part
after_first room operand first None tokens = Some (first, tokens)
after_first room operand first (Some operator) tokens = made_if (operations_of room first.0) (operations_at (group_of operator) operand first.1) tokens

abbrev pub level_from : ℕ → Reader Part → Level → Option BinaryOperator → Reader Part
level_from room operand level (Some operator) tokens = made_if (leading_of room) (operations_at (group_of operator) operand 0) tokens
level_from room operand level None tokens = operand tokens >>= λ first. after_first room operand first.0 (operator_in level first.1) first.1

-- an expression of a level of binary operators, its operands read by a reader
unfoldable pub level_by : ℕ → Reader Part → Level → Reader Part
level_by room operand level tokens = level_from room operand level (leading level tokens) tokens

-- the same for a run of levels, from the loosest
abbrev pub rows_by : ℕ → Reader Part → List Level → Reader Part
rows_by room operand [] = operand
rows_by room operand (level ∷ tighter) = level_by room (rows_by room operand tighter) level

-- ---- what binds tighter

-- an operand, and the types after it
unfoldable pub cast_by : ℕ → Reader Part → Reader Part
cast_by room operand tokens = operand tokens >>= λ first. casts_at first.1 >>= λ all. cast_of room first.0 all.0 >>= λ x. Some (x, all.1)

abbrev pub signed_from : ℕ → Reader Part → Reader Part → Option (UnaryOperator × Pos) × List Token → Read Part
signed_from room inner operand (Some sign, rest) = made_if (signed_of room sign.0 sign.1) inner rest
signed_from room inner operand (None, rest) = operand rest

-- a sign and what it stands before, or an operand without a sign
unfoldable pub signed_by : ℕ → Reader Part → Reader Part → Reader Part
signed_by room inner operand tokens = signed_from room inner operand (optional_unary tokens)

-- the arguments before a closing parenthesis
unfoldable pub arguments_by : Reader Part → Reader Parts
arguments_by inner tokens = if is_open signs.CloseParenthesis tokens then expressions_by inner tokens else Some (([], 0), tokens)

-- the arguments of the next call, or the end of the calls
unfoldable pub next_arguments : Reader Part → Reader (Option Parts)
next_arguments inner tokens = optionally (sign_stands signs.OpenParenthesis) (after_sign signs.OpenParenthesis (before_sign (arguments_by inner) signs.CloseParenthesis)) tokens

-- the calls that are found
abbrev pub called : ℕ → Part → Option (List Parts × List Token) → Read Part
called room callee found = found >>= λ all. calls_of room callee all.0 >>= λ x. Some (x, all.1)

-- what opens a parenthesis at this place
unfoldable pub parentheses_by : ℕ → Reader Part → Pos → Reader Part
parentheses_by room inner pos tokens = made_if (parentheses_of room pos) (before_sign inner signs.CloseParenthesis) tokens

-- by the kind of the first token
abbrev pub atom_from : ℕ → Reader Part → Kind → Pos → Reader Part
atom_from room inner (kinds.Number magnitude) pos rest = Some ((Number (record { negative = false; magnitude = magnitude; pos = pos }), 1), rest)
atom_from room inner (kinds.Character code) pos rest = Some ((Character code pos, 1), rest)
atom_from room inner (kinds.Name name) pos rest = Some ((Name (record { name = name; pos = pos }), 1), rest)
atom_from room inner (kinds.Word words.True) pos rest = Some ((Truth true pos, 1), rest)
atom_from room inner (kinds.Word words.False) pos rest = Some ((Truth false pos, 1), rest)
atom_from room inner (kinds.Sign signs.OpenParenthesis) pos rest = parentheses_by room inner pos rest
atom_from room inner _ pos rest = None

unfoldable pub atom_by : ℕ → Reader Part → Reader Part
atom_by room inner [] = None
atom_by room inner (token ∷ rest) = atom_from room inner token.kind token.pos rest

-- an atom with its suffixes
unfoldable pub primary_by : ℕ → Reader Part → Reader Part
primary_by room inner tokens = atom_by room inner tokens >>= λ x. called room x.0 (all_of (next_arguments inner) x.1)

-- ---- expressions

-- what has no operator between two operands and no type after it, where readers read what stands inside it
abbrev pub operand_by : ℕ → (Level → Reader Part) → Reader Part
operand_by room inner = signed_by room (inner levels.Unary) (primary_by room (inner levels.Equivalence))

-- an expression of a level, where readers read what stands inside signs, parentheses and suffixes
abbrev pub level_at : ℕ → (Level → Reader Part) → Level → Reader Part
level_at room inner levels.Primary = primary_by room (inner levels.Equivalence)
level_at room inner levels.Unary = operand_by room inner
level_at room inner level = rows_by room (cast_by room (operand_by room inner)) (drop (rank level) rows)

-- an expression of a level, of at most this height
unfoldable pub expr_at : ℕ → Level → Reader Part
expr_at zero level = λ tokens. None
expr_at (suc room) level = level_at (suc room) (expr_at room) level

-- an expression of at most this height, up to a token that does not continue it
unfoldable pub expression_at : ℕ → Reader Expr
expression_at room tokens = made (λ x. x.0) (expr_at room levels.Equivalence) tokens

-- expressions of a level, with commas between them
unfoldable pub expressions_at : ℕ → Level → Reader (List Expr)
expressions_at room level tokens = made (λ x. x.0) (expressions_by (expr_at room level)) tokens
