-- Declarations and programs as contracts see them.
use Rattle.std.specs.Prelude.{ℕ, Bool, List, map, slice_get, Option, None, Some}
use Rattle.std.specs.Option.{option_and_then}
use Rattle.df_base.specs.declared.pos.Pos.{Pos}
use Rattle.df_lang.specs.declared.ty.Ty.{Ty}
use Rattle.df_lang.specs.Newtype.{Declared, Newtype}
use Rattle.df_lang.specs.Stmt.{Clause, Measure, Stmts}

-- a parameter or a result
pub record Param : Type 0 where
  pub declared : Declared
  pub ty : Ty
  pub is_ghost : Bool

pub record Method : Type 0 where
  pub declared : Declared
  pub parameters : List Param
  pub results : List Param
  pub preconditions : List Clause
  pub postconditions : List Clause
  pub decreases : Option (List Measure)
  pub pos : Pos
  pub body : Stmts

pub data Decl : Type 0 where
  NewtypeDecl : Newtype → Decl
  MethodDecl : Method → Decl

-- the declarations in the order of the source
pub record Program : Type 0 where
  pub decls : List Decl

abbrev pub as_newtype : Decl → Option Newtype
as_newtype (NewtypeDecl newtype) = Some newtype
as_newtype (MethodDecl method) = None

abbrev pub as_method : Decl → Option Method
as_method (NewtypeDecl newtype) = None
as_method (MethodDecl method) = Some method

-- the newtype of a number
abbrev pub newtype_at : Program → ℕ → Option Newtype
newtype_at program id = option_and_then as_newtype (slice_get program.decls id)

-- the method of a number
abbrev pub method_at : Program → ℕ → Option Method
method_at program id = option_and_then as_method (slice_get program.decls id)

abbrev pub types_of : List Param → List Ty
types_of params = map (λ (param : Param). param.ty) params
