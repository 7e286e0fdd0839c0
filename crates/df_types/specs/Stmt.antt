-- Typed statements as contracts see them: twelve forms.
use Rattle.std.specs.Prelude.{ℕ, List, [], ◌∷◌, Option}
use Rattle.df_base.specs.declared.pos.Pos.{Pos}
use Rattle.df_types.specs.declared.kind.Kind.{Kind}
use Rattle.df_types.specs.Ty.{Ty, Tys}
use Rattle.df_types.specs.Op.{Op}
use Rattle.df_types.specs.Expr.{Binder, Expr, Exprs, Extent}

-- what is to be true, and what is wrong where it is not
pub record Demand : Type 0 where
  pub kind : Kind
  pub pos : Pos
  pub condition : Expr

-- a member of a measure or of a frame, or what is printed
pub record Typed : Type 0 where
  pub ty : Ty
  pub value : Expr

-- a place that takes a value of the type
pub data Target : Type 0 where
  Nowhere : (ty : Ty) → Target
  LocalAt : (local name : ℕ) (pos : Pos) (ty : Ty) → Target
  FieldAt : (object : Expr) (class field : ℕ) (pos : Pos) (ty : Ty) → Target
  ElementAt : (array index : Expr) (pos : Pos) (ty : Ty) → Target

-- a method, a lemma or a constructor
pub record CallOf : Type 0 where
  pub site : ℕ
  pub callee : ℕ
  pub types : Tys
  pub pos : Pos
  pub arguments : Exprs

-- a right side: a value, the results of a call, or a new array with the elements that are listed
pub data Source : Type 0 where
  Single : (ty : Ty) (value : Expr) → Source
  Results : (call : CallOf) (conversions : List Op) → Source
  NewArray : (site : ℕ) (element : Ty) (pos : Pos) (size : Expr) (elements : Option Exprs) → Source

pub record Update : Type 0 where
  pub targets : List Target
  pub sources : List Source

-- a bound variable with its range
pub record Range : Type 0 where
  pub variable : Binder
  pub extent : Extent

-- what a proof is for: for all values of the ranges, where what is given is true, or once
pub record Aim : Type 0 where
  pub ranges : List Range
  pub given : Option Expr
  pub claims : List Demand

-- Calls, loops, choices, proofs and new objects have a number of their own in the declaration, by which a modular run finds what is
-- handed in.
mutual
  pub data Stmt : Type 0 where
    Declare : (locals : List ℕ) → Stmt
    Assign : (update : Update) → Stmt
    Choose : (site : ℕ) (pos : Pos) (targets : List Target) (ranges : List Range) (condition : Expr) → Stmt
    Branch : (branches : Branches) (otherwise : Stmts) → Stmt
    While : (site : ℕ) (pos : Pos) (guard : Expr) (invariants : List Demand) (decreases : Option (List Typed)) (body : Stmts) → Stmt
    Break : (pos : Pos) → Stmt
    Return : (pos : Pos) (update : Option Update) → Stmt
    Check : (demand : Demand) → Stmt
    -- a proof of its own
    Prove : (site : ℕ) (pos : Pos) (aim : Aim) (body : Stmts) → Stmt
    Print : (pos : Pos) (operands : List Typed) → Stmt
    -- the end of a first phase: the locals are the fields of a new object
    Publish : (site : ℕ) (pos : Pos) (class : ℕ) (fields : List ℕ) (this : ℕ) → Stmt
    -- not compiled
    Ghost : (body : Stmts) → Stmt

  pub data Stmts : Type 0 where
    done : Stmts
    next : Stmt → Stmts → Stmts

  pub data Branches : Type 0 where
    no_branch : Branches
    branch : (guard : Expr) (body : Stmts) (rest : Branches) → Branches

abbrev pub stmts_of : List Stmt → Stmts
stmts_of [] = done
stmts_of (x ∷ xs) = next x (stmts_of xs)
