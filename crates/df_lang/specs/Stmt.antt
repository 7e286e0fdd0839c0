-- Typed statements as contracts see them: siblings are lists.
use Rattle.std.specs.Prelude.{ℕ, Bool, List, Option}
use Rattle.df_base.specs.declared.pos.Pos.{Pos}
use Rattle.df_lang.specs.declared.ty.Ty.{Ty}
use Rattle.df_lang.specs.Expr.{Expr}

-- what is printed: characters, or a value of the type
pub data Operand : Type 0 where
  Text : List ℕ → Operand
  Value : (ty : Ty) (value : Expr) → Operand

-- a local that takes a value of its type
pub record Target : Type 0 where
  pub local : ℕ
  pub name : ℕ
  pub pos : Pos
  pub ty : Ty

pub record Call : Type 0 where
  pub callee : ℕ
  pub name : ℕ
  pub pos : Pos
  pub arguments : List Expr

-- a value of one type at a place of another
pub record Conversion : Type 0 where
  pub source : Ty
  pub target : Ty

-- a right side: a value, or the results of a call, each converted
pub data Source : Type 0 where
  Single : (ty : Ty) (value : Expr) → Source
  Results : (call : Call) (results : List Conversion) → Source

pub record Update : Type 0 where
  pub targets : List Target
  pub sources : List Source

-- a declared local, with its own number
pub record Variable : Type 0 where
  pub name : ℕ
  pub pos : Pos
  pub ty : Ty
  pub is_ghost : Bool
  pub local : ℕ

-- a condition, and where its expression begins
pub record Clause : Type 0 where
  pub pos : Pos
  pub condition : Expr

-- a member of a measure
pub record Measure : Type 0 where
  pub ty : Ty
  pub value : Expr

mutual
  pub data Stmt : Type 0 where
    Block : (pos : Pos) (body : Stmts) → Stmt
    Var : (pos : Pos) (variables : List Variable) (update : Option Update) → Stmt
    Assign : (pos : Pos) (update : Update) → Stmt
    CallOf : Call → Stmt
    If : (branches : Branches) (otherwise : Stmts) → Stmt
    While : (pos : Pos) (guard : Expr) (invariants : List Clause) (decreases : Option (List Measure)) (body : Stmts) → Stmt
    Break : (pos : Pos) → Stmt
    Return : (pos : Pos) (update : Option Update) → Stmt
    Assert : (pos : Pos) (condition : Expr) → Stmt
    Print : (pos : Pos) (operands : List Operand) → Stmt

  pub data Stmts : Type 0 where
    done : Stmts
    next : Stmt → Stmts → Stmts

  -- guards, each with the statements that it guards
  pub data Branches : Type 0 where
    no_branch : Branches
    branch : (pos : Pos) (guard : Expr) (body : Stmts) (rest : Branches) → Branches
