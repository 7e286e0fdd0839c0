-- Statements as contracts see them: siblings are lists.
use Rattle.std.specs.Prelude.{ℕ, List, Option}
use Rattle.df_nplain.specs.Kind.{Kind}
use Rattle.df_nplain.specs.Expr.{Expr}

-- what is printed: characters, or a value of the kind
pub data Operand : Type 0 where
  Text : List ℕ → Operand
  Value : (kind : Kind) (value : Expr) → Operand

pub record Call : Type 0 where
  pub callee : ℕ
  pub arguments : List Expr

-- a right side: a value, or the results of a call
pub data Source : Type 0 where
  Single : Expr → Source
  Results : Call → Source

-- the locals that take the values, and the right sides that give them
pub record Update : Type 0 where
  pub targets : List ℕ
  pub sources : List Source

-- a declared local, with its own number
pub record Variable : Type 0 where
  pub local : ℕ
  pub kind : Kind

mutual
  pub data Stmt : Type 0 where
    Block : (body : Stmts) → Stmt
    Var : (variables : List Variable) (update : Option Update) → Stmt
    Assign : Update → Stmt
    CallOf : Call → Stmt
    If : (branches : Branches) (otherwise : Stmts) → Stmt
    While : (guard : Expr) (body : Stmts) → Stmt
    Break : Stmt
    Return : Option Update → Stmt
    Print : List Operand → Stmt

  pub data Stmts : Type 0 where
    done : Stmts
    next : Stmt → Stmts → Stmts

  -- guards, each with the statements that it guards
  pub data Branches : Type 0 where
    no_branch : Branches
    branch : (guard : Expr) (body : Stmts) (rest : Branches) → Branches
