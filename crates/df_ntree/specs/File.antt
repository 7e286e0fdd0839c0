-- Files as contracts see them: siblings are lists.
use Rattle.std.specs.Prelude.{ℕ, Bool, List, [], ◌∷◌, map, Option, Some, None, option_map}
use Rattle.df_base.specs.declared.pos.Pos.{Pos}
use Rattle.df_ntree.specs.declared.tree.Ident.{Ident}
use Rattle.df_ntree.specs.declared.file.Parameter.{Parameter}
use Rattle.df_ntree.specs.declared.file.Local.{Local}
use Rattle.df_ntree.specs.declared.file.ConditionKind.{ConditionKind}
use Rattle.df_ntree.specs.declared.file.Clause as declared_clause
use Rattle.df_ntree.specs.declared.file.Clause.TheVariants as clauses
use Rattle.df_ntree.specs.declared.file.PrintOperand as declared_operand
use Rattle.df_ntree.specs.declared.file.PrintOperand.TheVariants as operands
use Rattle.df_ntree.specs.declared.file.Statement as declared
use Rattle.df_ntree.specs.declared.file.Statement.TheOpen.{Block-F, Branch-F, Statement-F}
use Rattle.df_ntree.specs.declared.file.Statement.TheFolds.{fold-Block, fold-Branch, fold-Statement}
use Rattle.df_ntree.specs.declared.file.Block as declared_block
use Rattle.df_ntree.specs.declared.file.Branch as declared_branch
use Rattle.df_ntree.specs.declared.file.NewtypeDeclaration as declared_newtype
use Rattle.df_ntree.specs.declared.file.MethodDeclaration as declared_method
use Rattle.df_ntree.specs.declared.file.Declaration as declared_declaration
use Rattle.df_ntree.specs.declared.file.Declaration.TheVariants as declarations
use Rattle.df_ntree.specs.declared.file.File as declared_file
use Rattle.df_ntree.specs.Expr.{Expr, expr_of}

-- ---- clauses

-- a clause of a contract or of a loop, and where its word stands
pub data Clause : Type 0 where
  Condition : ConditionKind → Pos → Expr → Clause
  Decreases : Pos → List Expr → Clause

-- ---- statements

-- what is printed: a string literal's characters, or a value
pub data PrintOperand : Type 0 where
  Text : List ℕ → PrintOperand
  Value : Expr → PrintOperand

mutual
  -- Where a statement begins with a word or a brace, its place comes first.
  pub data Statement : Type 0 where
    Nested : Pos → Statements → Statement
    -- no values where `:=` is not written
    Var : Pos → (locals : List Local) (values : List Expr) → Statement
    Assign : (targets values : List Expr) → Statement
    Expression : Expr → Statement
    -- the guard, its block and where that opens, the branches behind an `else`, and the last `else`
    If : Pos → Expr → Pos → Statements → Branches → Otherwise → Statement
    -- the guard, the clauses, the block and where it opens
    While : Pos → Expr → List Clause → Pos → Statements → Statement
    Return : Pos → (values : List Expr) → Statement
    Break : Pos → Statement
    Assert : Pos → Expr → Statement
    Print : Pos → List PrintOperand → Statement

  pub data Statements : Type 0 where
    done : Statements
    next : Statement → Statements → Statements

  -- where the word `if` stands, the guard and its block
  pub data Branches : Type 0 where
    end : Branches
    more : Pos → Expr → Pos → Statements → Branches → Branches

  pub data Otherwise : Type 0 where
    without : Otherwise
    otherwise : Pos → Statements → Otherwise

pub record Block : Type 0 where
  pub pos : Pos
  pub statements : Statements

pub record Branch : Type 0 where
  pub pos : Pos
  pub guard : Expr
  pub body : Block

abbrev pub statements_of : List Statement → Statements
statements_of [] = done
statements_of (x ∷ xs) = next x (statements_of xs)

abbrev pub branches_of : List Branch → Branches
branches_of [] = end
branches_of (x ∷ xs) = more x.pos x.guard x.body.pos x.body.statements (branches_of xs)

abbrev pub otherwise_of : Option Block → Otherwise
otherwise_of None = without
otherwise_of (Some block) = otherwise block.pos block.statements

-- ---- declarations

pub record NewtypeDeclaration : Type 0 where
  pub name : Ident
  pub variable : Ident
  pub is_typed : Bool
  pub predicate : Expr
  pub witness : Option Expr

pub record MethodDeclaration : Type 0 where
  pub name : Ident
  pub parameters : List Parameter
  pub results : Option (List Parameter)
  pub clauses : List Clause
  pub body : Block

pub data Declaration : Type 0 where
  Newtype : NewtypeDeclaration → Declaration
  Method : MethodDeclaration → Declaration

pub record File : Type 0 where
  pub declarations : List Declaration

-- ---- the code's files, without where they lie in memory

abbrev pub clause_of : declared_clause.Clause → Clause
clause_of (clauses.Condition kind pos condition) = Condition kind pos (expr_of condition)
clause_of (clauses.Decreases pos values) = Decreases pos (map expr_of values.items)

abbrev pub operand_of : declared_operand.PrintOperand → PrintOperand
operand_of (operands.Text characters) = Text characters.items
operand_of (operands.Value e) = Value (expr_of e)

abbrev pub block_step : Block-F Statement Block Branch → Block
block_step x = record { pos = x.pos; statements = statements_of x.statements.items }

abbrev pub branch_step : Branch-F Statement Block Branch → Branch
branch_step x = record { pos = x.pos; guard = expr_of x.guard; body = x.body }

abbrev pub statement_step : Statement-F Statement Block Branch → Statement
statement_step (Statement-F.Block block) = Nested block.pos block.statements
statement_step (Statement-F.Var pos locals values) = Var pos locals.items (map expr_of values.items)
statement_step (Statement-F.Assign targets values) = Assign (map expr_of targets.items) (map expr_of values.items)
statement_step (Statement-F.Expression value) = Expression (expr_of value)
statement_step (Statement-F.If first others last) = If first.pos first.guard first.body.pos first.body.statements (branches_of others.items) (otherwise_of last)
statement_step (Statement-F.While pos guard all body) = While pos (expr_of guard) (map clause_of all.items) body.pos body.statements
statement_step (Statement-F.Return pos values) = Return pos (map expr_of values.items)
statement_step (Statement-F.Break pos) = Break pos
statement_step (Statement-F.Assert pos condition) = Assert pos (expr_of condition)
statement_step (Statement-F.Print pos all) = Print pos (map operand_of all.items)

abbrev pub statement_of : declared.Statement → Statement
statement_of = fold-Statement Statement Block Branch statement_step block_step branch_step

abbrev pub block_of : declared_block.Block → Block
block_of = fold-Block Statement Block Branch statement_step block_step branch_step

abbrev pub branch_of : declared_branch.Branch → Branch
branch_of = fold-Branch Statement Block Branch statement_step block_step branch_step

abbrev pub newtype_of : declared_newtype.NewtypeDeclaration → NewtypeDeclaration
newtype_of x = record { name = x.name; variable = x.variable; is_typed = x.is_typed; predicate = expr_of x.predicate; witness = option_map expr_of x.witness }

abbrev pub method_of : declared_method.MethodDeclaration → MethodDeclaration
method_of x = record {
  name = x.name;
  parameters = x.parameters.items;
  results = option_map (λ results. results.items) x.results;
  clauses = map clause_of x.clauses.items;
  body = block_of x.body;
}

abbrev pub declaration_of : declared_declaration.Declaration → Declaration
declaration_of (declarations.Newtype x) = Newtype (newtype_of x)
declaration_of (declarations.Method x) = Method (method_of x)

abbrev pub file_of : declared_file.File → File
file_of x = record { declarations = map declaration_of x.declarations.items }
