-- Reading a file from the front of tokens, construct by construct: what private contracts cite.
use Rattle.std.specs.Prelude.{ℕ, zero, suc, nat_lt, Bool, true, false, List, [], ◌∷◌, Option, Some, None, if◌then◌else◌}
use Rattle.df_base.specs.declared.pos.Pos.{Pos}
use Rattle.df_tok.specs.declared.word.Word.TheVariants as words
use Rattle.df_tok.specs.declared.sign.Sign.TheVariants as signs
use Rattle.df_tok.specs.declared.token.Kind.{Kind}
use Rattle.df_tok.specs.declared.token.Kind.TheVariants as kinds
use Rattle.df_tok.specs.Token.{Token}
use Rattle.df_ntree.specs.declared.tree.Ident.{Ident}
use Rattle.df_ntree.specs.declared.expr.Level.TheVariants as levels
use Rattle.df_ntree.specs.declared.expr.TreeType.{TreeType}
use Rattle.df_ntree.specs.declared.file.Parameter.{Parameter}
use Rattle.df_ntree.specs.declared.file.Local.{Local}
use Rattle.df_ntree.specs.declared.file.ConditionKind.{ConditionKind}
use Rattle.df_ntree.specs.declared.file.ConditionKind.TheVariants as conditions
use Rattle.df_ntree.specs.Expr.{Expr}
use Rattle.df_ntree.specs.File.{Clause, Condition, Decreases, PrintOperand, Text, Value, Statement, Nested, Var, Assign, Expression, If, While, Return, Break, Assert, Print, statements_of, branches_of, otherwise_of, Block, Branch, NewtypeDeclaration, MethodDeclaration, Declaration, Newtype, Method, File}
use Rattle.df_ntree.specs.mirror.Reading.{◌>>=◌, Reader, pos_of_word, pos_of_sign, name_at, text_at, kind_at, word_stands, sign_stands, is_open, some_stands, given, both, made, after_word, after_sign, before_sign, optionally, many, one_or_more, where_stands}
use Rattle.df_ntree.specs.mirror.ExprReading.{type_at, expression_at, expressions_at}
use Rattle.df_ntree.specs.ExprSpelling.{height_limit}

-- ---- tests of the next tokens

abbrev pub behind : List Token → List Token
behind [] = []
behind (token ∷ rest) = rest

abbrev pub else_if_stands : List Token → Bool
else_if_stands tokens = if word_stands words.Else tokens then word_stands words.If (behind tokens) else false

abbrev pub begins_clause : Option Kind → Bool
begins_clause (Some (kinds.Word words.Requires)) = true
begins_clause (Some (kinds.Word words.Ensures)) = true
begins_clause (Some (kinds.Word words.Invariant)) = true
begins_clause (Some (kinds.Word words.Decreases)) = true
begins_clause _ = false

abbrev pub clause_stands : List Token → Bool
clause_stands tokens = begins_clause (kind_at tokens)

-- ---- parts of statements

-- A statement of height n holds parts of heights up to n - 1, the room that they have.

-- expressions with commas between them
abbrev pub values_at : ℕ → Reader (List Expr)
values_at room = expressions_at room levels.Equivalence

-- ":=" values
unfoldable pub assigned_at : ℕ → Reader (List Expr)
assigned_at room tokens = after_sign signs.Assign (values_at room) tokens

-- a type, where there is room for it
unfoldable pub type_within : ℕ → Reader TreeType
type_within room tokens = if nat_lt 0 room then type_at tokens else None

-- [ ":" type ]
unfoldable pub typing_at : ℕ → Reader (Option TreeType)
typing_at room tokens = optionally (sign_stands signs.Colon) (after_sign signs.Colon (type_within room)) tokens

-- name [ ":" type ]
unfoldable pub local_at : ℕ → Reader Local
local_at room tokens = made (λ x. record { name = x.0; ty = x.1 }) (both name_at (typing_at room)) tokens

abbrev pub operand_by : ℕ → Option Kind → Reader PrintOperand
operand_by room (Some kinds.Text) tokens = if nat_lt 0 room then made Text text_at tokens else None
operand_by room _ tokens = made Value (expression_at room) tokens

unfoldable pub operand_at : ℕ → Reader PrintOperand
operand_at room tokens = operand_by room (kind_at tokens) tokens

-- ---- clauses

abbrev pub condition_by : Kind → Option ConditionKind
condition_by (kinds.Word words.Requires) = Some conditions.Requires
condition_by (kinds.Word words.Ensures) = Some conditions.Ensures
condition_by (kinds.Word words.Invariant) = Some conditions.Invariant
condition_by _ = None

-- the word of a condition, and where it stands
unfoldable pub condition_word_at : Reader (ConditionKind × Pos)
condition_word_at [] = None
condition_word_at (token ∷ rest) = condition_by token.kind >>= λ kind. Some ((kind, token.pos), rest)

unfoldable pub condition_at : ℕ → Reader Clause
condition_at room tokens = made (λ x. Condition x.0.0 x.0.1 x.1) (both condition_word_at (expression_at room)) tokens

unfoldable pub decreases_at : ℕ → Reader Clause
decreases_at room tokens = made (λ x. Decreases x.0 x.1) (both (pos_of_word words.Decreases) (values_at room)) tokens

-- by the kind of the first token
abbrev pub clause_by : ℕ → Option Kind → Reader Clause
clause_by room (Some (kinds.Word words.Decreases)) tokens = decreases_at room tokens
clause_by room _ tokens = condition_at room tokens

-- a clause of at most this height
unfoldable pub clause_at : ℕ → Reader Clause
clause_at room tokens = clause_by room (kind_at tokens) tokens

-- ---- statements

unfoldable pub print_at : ℕ → Reader Statement
print_at room tokens = made (λ x. Print x.0 x.1) (both (pos_of_word words.Print) (before_sign (one_or_more (operand_at room)) signs.Semicolon)) tokens

unfoldable pub assert_at : ℕ → Reader Statement
assert_at room tokens = made (λ x. Assert x.0 x.1) (both (pos_of_word words.Assert) (before_sign (expression_at room) signs.Semicolon)) tokens

unfoldable pub break_at : Reader Statement
break_at tokens = made Break (before_sign (pos_of_word words.Break) signs.Semicolon) tokens

-- [ values ]
unfoldable pub returned_at : ℕ → Reader (List Expr)
returned_at room tokens = where_stands (is_open signs.Semicolon) (values_at room) tokens

unfoldable pub return_at : ℕ → Reader Statement
return_at room tokens = made (λ x. Return x.0 x.1) (both (pos_of_word words.Return) (before_sign (returned_at room) signs.Semicolon)) tokens

-- [ ":=" values ]
unfoldable pub initial_at : ℕ → Reader (List Expr)
initial_at room tokens = where_stands (sign_stands signs.Assign) (assigned_at room) tokens

unfoldable pub var_at : ℕ → Reader Statement
var_at room tokens = made (λ x. Var x.0 x.1.0 x.1.1) (both (pos_of_word words.Var) (before_sign (both (one_or_more (local_at room)) (initial_at room)) signs.Semicolon)) tokens

-- the only one
abbrev pub alone : List Expr → Option Statement
alone (value ∷ []) = Some (Expression value)
alone _ = None

-- the only primary as a statement
unfoldable pub expression_begins : List Expr → Reader Statement
expression_begins targets tokens = alone targets >>= λ statement. before_sign (given statement) signs.Semicolon tokens

-- what primaries begin: an assignment, or a statement of one
unfoldable pub primaries_begin : ℕ → List Expr → Reader Statement
primaries_begin room targets tokens =
    if sign_stands signs.Assign tokens then made (Assign targets) (before_sign (assigned_at room) signs.Semicolon) tokens
    else expression_begins targets tokens

unfoldable pub primaries_at : ℕ → Reader Statement
primaries_at room tokens = expressions_at room levels.Primary tokens >>= λ targets. primaries_begin room targets.0 targets.1

-- statements in braces
unfoldable pub block_by : Reader Statement → Reader Block
block_by statement tokens =
    made (λ x. record { pos = x.0; statements = statements_of x.1 }) (both (pos_of_sign signs.OpenBrace) (before_sign (many (is_open signs.CloseBrace) statement) signs.CloseBrace)) tokens

-- "if", a guard and its block
unfoldable pub branch_by : ℕ → Reader Block → Reader Branch
branch_by room block tokens = made (λ x. record { pos = x.0; guard = x.1.0; body = x.1.1 }) (both (pos_of_word words.If) (both (expression_at room) block)) tokens

unfoldable pub else_if_by : ℕ → Reader Block → Reader Branch
else_if_by room block tokens = after_word words.Else (branch_by room block) tokens

unfoldable pub otherwise_by : Reader Block → Reader (Option Block)
otherwise_by block tokens = optionally (word_stands words.Else) (after_word words.Else block) tokens

abbrev pub if_of : Branch × (List Branch × Option Block) → Statement
if_of x = If x.0.pos x.0.guard x.0.body.pos x.0.body.statements (branches_of x.1.0) (otherwise_of x.1.1)

unfoldable pub if_by : ℕ → Reader Block → Reader Statement
if_by room block tokens = made if_of (both (branch_by room block) (both (many else_if_stands (else_if_by room block)) (otherwise_by block))) tokens

abbrev pub while_of : Pos × (Expr × (List Clause × Block)) → Statement
while_of x = While x.0 x.1.0 x.1.1.0 x.1.1.1.pos x.1.1.1.statements

unfoldable pub while_by : ℕ → Reader Block → Reader Statement
while_by room block tokens = made while_of (both (pos_of_word words.While) (both (expression_at room) (both (many clause_stands (clause_at room)) block))) tokens

abbrev pub nested_by : Reader Block → Reader Statement
nested_by block tokens = made (λ x. Nested x.pos x.statements) block tokens

-- By the kind of the first token. A block that is a statement has the statement's height.
abbrev pub statement_by : ℕ → Reader Block → Reader Block → Option Kind → Reader Statement
statement_by room nested block (Some (kinds.Sign signs.OpenBrace)) tokens = nested_by nested tokens
statement_by room nested block (Some (kinds.Word words.Var)) tokens = var_at room tokens
statement_by room nested block (Some (kinds.Word words.If)) tokens = if_by room block tokens
statement_by room nested block (Some (kinds.Word words.While)) tokens = while_by room block tokens
statement_by room nested block (Some (kinds.Word words.Return)) tokens = return_at room tokens
statement_by room nested block (Some (kinds.Word words.Break)) tokens = break_at tokens
statement_by room nested block (Some (kinds.Word words.Assert)) tokens = assert_at room tokens
statement_by room nested block (Some (kinds.Word words.Print)) tokens = print_at room tokens
statement_by room nested block _ tokens = primaries_at room tokens

unfoldable mutual
  -- a statement of at most this height
  pub statement_at : ℕ → Reader Statement
  statement_at zero tokens = None
  statement_at (suc room) tokens = statement_by room (block_by (statement_at room)) (block_at room) (kind_at tokens) tokens

  -- a block of at most this height
  pub block_at : ℕ → Reader Block
  block_at zero tokens = None
  block_at (suc room) tokens = block_by (statement_at room) tokens

-- ---- declarations

-- name ":" type
unfoldable pub parameter_at : Reader Parameter
parameter_at tokens = made (λ x. record { name = x.0; ty = x.1 }) (both name_at (after_sign signs.Colon type_at)) tokens

unfoldable pub parameters_in : Reader (List Parameter)
parameters_in tokens = where_stands (is_open signs.CloseParenthesis) (one_or_more parameter_at) tokens

unfoldable pub parameters_at : Reader (List Parameter)
parameters_at tokens = after_sign signs.OpenParenthesis (before_sign parameters_in signs.CloseParenthesis) tokens

unfoldable pub results_at : Reader (Option (List Parameter))
results_at tokens = optionally (word_stands words.Returns) (after_word words.Returns parameters_at) tokens

unfoldable pub typed_at : Reader Bool
typed_at tokens = if sign_stands signs.Colon tokens then after_sign signs.Colon (after_word words.Int (given true)) tokens else Some (false, tokens)

unfoldable pub witness_at : Reader (Option Expr)
witness_at tokens = optionally (word_stands words.Witness) (after_word words.Witness (expression_at height_limit)) tokens

-- "newtype" name "=" name
unfoldable pub newtype_head_at : Reader (Ident × Ident)
newtype_head_at tokens = after_word words.Newtype (both name_at (after_sign signs.Define name_at)) tokens

-- "|" expression
unfoldable pub predicate_at : Reader Expr
predicate_at tokens = after_sign signs.Bar (expression_at height_limit) tokens

abbrev pub newtype_from : (Ident × Ident) × (Bool × (Expr × Option Expr)) → NewtypeDeclaration
newtype_from x = record { name = x.0.0; variable = x.0.1; is_typed = x.1.0; predicate = x.1.1.0; witness = x.1.1.1 }

unfoldable pub newtype_at : Reader NewtypeDeclaration
newtype_at tokens = made newtype_from (both newtype_head_at (both typed_at (both predicate_at witness_at))) tokens

-- "method" name parameters
unfoldable pub method_head_at : Reader (Ident × List Parameter)
method_head_at tokens = after_word words.Method (both name_at parameters_at) tokens

abbrev pub method_from : (Ident × List Parameter) × (Option (List Parameter) × (List Clause × Block)) → MethodDeclaration
method_from x = record { name = x.0.0; parameters = x.0.1; results = x.1.0; clauses = x.1.1.0; body = x.1.1.1 }

unfoldable pub method_at : Reader MethodDeclaration
method_at tokens = made method_from (both method_head_at (both results_at (both (many clause_stands (clause_at height_limit)) (block_at height_limit)))) tokens

-- by the kind of the first token
abbrev pub declaration_by : Option Kind → Reader Declaration
declaration_by (Some (kinds.Word words.Newtype)) tokens = made Newtype newtype_at tokens
declaration_by (Some (kinds.Word words.Method)) tokens = made Method method_at tokens
declaration_by _ tokens = None

unfoldable pub declaration_at : Reader Declaration
declaration_at tokens = declaration_by (kind_at tokens) tokens

-- the file that all of the tokens spell
unfoldable pub file_at : List Token → Option File
file_at tokens = many some_stands declaration_at tokens >>= λ x. Some (record { declarations = x.0 })
