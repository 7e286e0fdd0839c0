-- Which tokens spell a file, and which files the grammar has.
use Rattle.std.specs.Prelude.{◌≢◌, ℕ, ◌+◌, ◌≤◌, max, Bool, true, false, List, [], ◌∷◌, ◌++◌, Option, Some, None}
use Rattle.std.specs.List.{AllByRecursion, flat_map}
use Rattle.df_base.specs.declared.pos.Pos.{Pos}
use Rattle.df_tok.specs.declared.word.Word.{Word}
use Rattle.df_tok.specs.declared.word.Word.TheVariants as words
use Rattle.df_tok.specs.declared.sign.Sign.TheVariants as signs
use Rattle.df_tok.specs.Token.{Token}
use Rattle.df_ntree.specs.declared.expr.Level.TheVariants as levels
use Rattle.df_ntree.specs.declared.expr.TreeType.{TreeType}
use Rattle.df_ntree.specs.declared.file.Parameter.{Parameter}
use Rattle.df_ntree.specs.declared.file.Local.{Local}
use Rattle.df_ntree.specs.declared.file.ConditionKind.{ConditionKind}
use Rattle.df_ntree.specs.declared.file.ConditionKind.TheVariants as conditions
use Rattle.df_ntree.specs.Spelling.{Piece, Characters, Begins, a_word, a_sign, word_there, sign_there, a_name, separated, optional, IsOption, AreSome}
use Rattle.df_ntree.specs.Expr.{Expr}
use Rattle.df_ntree.specs.ExprSpelling.{spell, spell_type, IsExpr, IsOfLevel, height, deepest_of, height_limit}
use Rattle.df_ntree.specs.File.{Clause, Condition, Decreases, PrintOperand, Text, Value, Statement, Nested, Var, Assign, Expression, If, While, Return, Break, Assert, Print, Statements, done, next, Branches, end, more, Otherwise, without, otherwise, Block, NewtypeDeclaration, MethodDeclaration, Declaration, Newtype, Method, File}

-- ---- parts of statements

-- "{" inside "}"
abbrev pub braces : Pos → List Piece → List Piece
braces pos inside = sign_there signs.OpenBrace pos ∷ (inside ++ a_sign signs.CloseBrace ∷ [])

-- ":" type
abbrev pub spell_typing : TreeType → List Piece
spell_typing ty = a_sign signs.Colon ∷ spell_type ty

-- name [ ":" type ]
abbrev pub spell_local : Local → List Piece
spell_local x = a_name x.name ∷ optional spell_typing x.ty

-- [ ":=" value { "," value } ]
abbrev pub spell_values : List Expr → List Piece
spell_values [] = []
spell_values (value ∷ values) = a_sign signs.Assign ∷ separated spell (value ∷ values)

-- string | expression
abbrev pub spell_operand : PrintOperand → List Piece
spell_operand (Text characters) = Characters characters ∷ []
spell_operand (Value e) = spell e

abbrev pub condition_word : ConditionKind → Word
condition_word conditions.Requires = words.Requires
condition_word conditions.Ensures = words.Ensures
condition_word conditions.Invariant = words.Invariant

-- ( "requires" | "ensures" | "invariant" ) expression | "decreases" expression { "," expression }
abbrev pub spell_clause : Clause → List Piece
spell_clause (Condition kind pos condition) = word_there (condition_word kind) pos ∷ spell condition
spell_clause (Decreases pos values) = word_there words.Decreases pos ∷ separated spell values

-- ---- statements

abbrev mutual
  pub spell_statement : Statement → List Piece
  -- block
  spell_statement (Nested pos body) = braces pos (spell_statements body)
  -- "var" local { "," local } [ ":=" values ] ";"
  spell_statement (Var pos locals values) = word_there words.Var pos ∷ (separated spell_local locals ++ (spell_values values ++ a_sign signs.Semicolon ∷ []))
  -- target { "," target } ":=" values ";"
  spell_statement (Assign targets values) = separated spell targets ++ (spell_values values ++ a_sign signs.Semicolon ∷ [])
  -- expression ";"
  spell_statement (Expression value) = spell value ++ a_sign signs.Semicolon ∷ []
  -- "if" expression block { "else" "if" expression block } [ "else" block ]
  spell_statement (If pos guard opens body others last) =
      word_there words.If pos ∷ ((spell guard ++ braces opens (spell_statements body)) ++ (spell_branches others ++ spell_otherwise last))
  -- "while" expression { clause } block
  spell_statement (While pos guard clauses opens body) = word_there words.While pos ∷ (spell guard ++ (flat_map spell_clause clauses ++ braces opens (spell_statements body)))
  -- "return" [ values ] ";"
  spell_statement (Return pos values) = word_there words.Return pos ∷ (separated spell values ++ a_sign signs.Semicolon ∷ [])
  -- "break" ";"
  spell_statement (Break pos) = word_there words.Break pos ∷ a_sign signs.Semicolon ∷ []
  -- "assert" expression ";"
  spell_statement (Assert pos condition) = word_there words.Assert pos ∷ (spell condition ++ a_sign signs.Semicolon ∷ [])
  -- "print" operand { "," operand } ";"
  spell_statement (Print pos operands) = word_there words.Print pos ∷ (separated spell_operand operands ++ a_sign signs.Semicolon ∷ [])

  pub spell_statements : Statements → List Piece
  spell_statements done = []
  spell_statements (next x rest) = spell_statement x ++ spell_statements rest

  -- { "else" "if" expression block }
  pub spell_branches : Branches → List Piece
  spell_branches end = []
  spell_branches (more pos guard opens body rest) =
      (a_word words.Else ∷ word_there words.If pos ∷ (spell guard ++ braces opens (spell_statements body))) ++ spell_branches rest

  -- [ "else" block ]
  pub spell_otherwise : Otherwise → List Piece
  spell_otherwise without = []
  spell_otherwise (otherwise opens body) = a_word words.Else ∷ braces opens (spell_statements body)

abbrev pub spell_block : Block → List Piece
spell_block block = braces block.pos (spell_statements block.statements)

-- ---- declarations

-- name ":" type
abbrev pub spell_parameter : Parameter → List Piece
spell_parameter x = a_name x.name ∷ spell_typing x.ty

-- "(" [ parameter { "," parameter } ] ")"
abbrev pub spell_parameters : List Parameter → List Piece
spell_parameters xs = a_sign signs.OpenParenthesis ∷ (separated spell_parameter xs ++ a_sign signs.CloseParenthesis ∷ [])

-- "returns" parameters
abbrev pub spell_results : List Parameter → List Piece
spell_results xs = a_word words.Returns ∷ spell_parameters xs

-- [ ":" "int" ]
abbrev pub spell_typed : Bool → List Piece
spell_typed true = a_sign signs.Colon ∷ a_word words.Int ∷ []
spell_typed false = []

-- "witness" expression
abbrev pub spell_witness : Expr → List Piece
spell_witness e = a_word words.Witness ∷ spell e

-- "newtype" name "=" name [ ":" "int" ] "|" expression [ "witness" expression ]
abbrev pub spell_newtype : NewtypeDeclaration → List Piece
spell_newtype x =
    a_word words.Newtype ∷ a_name x.name ∷ a_sign signs.Define ∷ a_name x.variable
    ∷ (spell_typed x.is_typed ++ ((a_sign signs.Bar ∷ spell x.predicate) ++ optional spell_witness x.witness))

-- "method" name parameters [ "returns" parameters ] { clause } block
abbrev pub spell_method : MethodDeclaration → List Piece
spell_method x =
    a_word words.Method ∷ a_name x.name ∷ (spell_parameters x.parameters ++ (optional spell_results x.results ++ (flat_map spell_clause x.clauses ++ spell_block x.body)))

abbrev pub spell_declaration : Declaration → List Piece
spell_declaration (Newtype x) = spell_newtype x
spell_declaration (Method x) = spell_method x

-- { declaration }
abbrev pub spell_file : File → List Piece
spell_file file = flat_map spell_declaration file.declarations

-- ---- the height

-- a type counts 1
abbrev pub typing_height : Option TreeType → ℕ
typing_height None = 0
typing_height (Some ty) = 1

abbrev pub local_height : Local → ℕ
local_height x = typing_height x.ty

abbrev pub operand_height : PrintOperand → ℕ
operand_height (Text characters) = 1
operand_height (Value e) = height e

abbrev pub clause_height : Clause → ℕ
clause_height (Condition kind pos condition) = height condition
clause_height (Decreases pos values) = deepest_of height values

-- How many statements, blocks, types and expressions stand inside one another. A statement that is a
-- block counts once; the parts of a run of `else if` are siblings.
abbrev mutual
  pub statement_height : Statement → ℕ
  statement_height (Nested pos body) = deepest body + 1
  statement_height (Var pos locals values) = max (deepest_of local_height locals) (deepest_of height values) + 1
  statement_height (Assign targets values) = max (deepest_of height targets) (deepest_of height values) + 1
  statement_height (Expression value) = height value + 1
  statement_height (If pos guard opens body others last) = max (max (height guard) (deepest body + 1)) (max (deepest_branch others) (otherwise_height last)) + 1
  statement_height (While pos guard clauses opens body) = max (height guard) (max (deepest_of clause_height clauses) (deepest body + 1)) + 1
  statement_height (Return pos values) = deepest_of height values + 1
  statement_height (Break pos) = 1
  statement_height (Assert pos condition) = height condition + 1
  statement_height (Print pos operands) = deepest_of operand_height operands + 1

  pub deepest : Statements → ℕ
  deepest done = 0
  deepest (next x rest) = max (statement_height x) (deepest rest)

  pub deepest_branch : Branches → ℕ
  deepest_branch end = 0
  deepest_branch (more pos guard opens body rest) = max (max (height guard) (deepest body + 1)) (deepest_branch rest)

  pub otherwise_height : Otherwise → ℕ
  otherwise_height without = 0
  otherwise_height (otherwise opens body) = deepest body + 1

-- ---- the shape

abbrev pub IsOperand : PrintOperand → Type 0
IsOperand (Text characters) = Unit {0}
IsOperand (Value e) = IsExpr e

abbrev pub IsClause : Clause → Type 0
IsClause (Condition kind pos condition) = IsExpr condition
IsClause (Decreases pos values) = AreSome IsExpr values

-- an atom with its suffixes
abbrev pub IsPrimary : Expr → Type 0
IsPrimary e = IsOfLevel levels.Primary e

abbrev mutual
  -- a statement of the grammar: its parts are, and its lists have at least one element where it has no word for none
  pub IsStatement : Statement → Type 0
  IsStatement (Nested pos body) = AreStatements body
  IsStatement (Var pos locals values) = (locals ≢ []) × AllByRecursion IsExpr values
  IsStatement (Assign targets values) = AreSome IsPrimary targets × AreSome IsExpr values
  IsStatement (Expression value) = IsPrimary value
  IsStatement (If pos guard opens body others last) = IsExpr guard × AreStatements body × AreBranches others × IsOtherwise last
  IsStatement (While pos guard clauses opens body) = IsExpr guard × AllByRecursion IsClause clauses × AreStatements body
  IsStatement (Return pos values) = AllByRecursion IsExpr values
  IsStatement (Break pos) = Unit {0}
  IsStatement (Assert pos condition) = IsExpr condition
  IsStatement (Print pos operands) = AreSome IsOperand operands

  pub AreStatements : Statements → Type 0
  AreStatements done = Unit {0}
  AreStatements (next x rest) = IsStatement x × AreStatements rest

  pub AreBranches : Branches → Type 0
  AreBranches end = Unit {0}
  AreBranches (more pos guard opens body rest) = (IsExpr guard × AreStatements body) × AreBranches rest

  pub IsOtherwise : Otherwise → Type 0
  IsOtherwise without = Unit {0}
  IsOtherwise (otherwise opens body) = AreStatements body

-- an expression of the grammar that stands in no other part with a height
abbrev pub IsOuterExpr : Expr → Type 0
IsOuterExpr e = IsExpr e × (height e ≤ height_limit)

abbrev pub IsOuterClause : Clause → Type 0
IsOuterClause x = IsClause x × (clause_height x ≤ height_limit)

-- a body of the grammar
abbrev pub IsBody : Block → Type 0
IsBody block = AreStatements block.statements × (deepest block.statements + 1 ≤ height_limit)

abbrev pub IsDeclaration : Declaration → Type 0
IsDeclaration (Newtype x) = IsOuterExpr x.predicate × IsOption IsOuterExpr x.witness
IsDeclaration (Method x) = AllByRecursion IsOuterClause x.clauses × IsBody x.body

-- a file of the grammar; declarations add nothing to the height
abbrev pub IsFile : File → Type 0
IsFile file = AllByRecursion IsDeclaration file.declarations

-- All of the tokens spell the file.
abbrev pub SpellsFile : File → List Token → Type 0
SpellsFile file tokens = IsFile file × Begins (spell_file file) tokens []
