-- Declarations and programs as contracts see them.
use Rattle.std.specs.Prelude.{ℕ, ℤ, Bool, List, [], ◌∷◌, map, slice_get, Option, None, Some}
use Rattle.std.specs.Option.{option_map_or, option_and_then}
use Rattle.df_base.specs.declared.pos.Pos.{Pos}
use Rattle.df_types.specs.Ty as types
use Rattle.df_types.specs.Ty.{Ty, Boolean, instance_of}
use Rattle.df_types.specs.Expr.{Expr}
use Rattle.df_types.specs.Stmt.{Demand, Typed, Stmts}

-- a declared name, its qualified text, and where it stands
pub record Declared : Type 0 where
  pub name : ℕ
  pub text : List ℕ
  pub pos : Pos

-- a newtype: its interval, both ends inside, and its default
pub record Newtype : Type 0 where
  pub declared : Declared
  pub low : ℤ
  pub high : ℤ
  pub default : ℤ

-- a local of a declaration, a field of a class, a part of a constructor
pub record Variable : Type 0 where
  pub declared : Declared
  pub ty : Ty
  pub is_ghost : Bool
  -- it stands in the text
  pub is_written : Bool

-- marked `(==)` or not
pub record TypeParameter : Type 0 where
  pub declared : Declared
  pub has_equality : Bool

pub record Constructor : Type 0 where
  pub declared : Declared
  pub parts : List Variable

pub record Datatype : Type 0 where
  pub declared : Declared
  pub type_parameters : List TypeParameter
  pub constructors : List Constructor

pub record Class : Type 0 where
  pub declared : Declared
  pub fields : List Variable

-- a parameter or a result: a local by its number
pub record Param : Type 0 where
  pub local : ℕ
  pub ty : Ty
  pub is_ghost : Bool

-- what functions, predicates, methods, lemmas and constructors have in common
pub record Head : Type 0 where
  pub declared : Declared
  pub is_ghost : Bool
  pub type_parameters : List TypeParameter
  -- all locals by their numbers
  pub locals : List Variable
  -- `this`
  pub receiver : Option ℕ
  pub parameters : List Param
  pub results : List Param
  pub preconditions : List Demand
  -- objects, and sets of them: what a function may read, or a method change
  pub frame : List Typed
  pub decreases : Option (List Typed)
  pub postconditions : List Demand

pub record Function : Type 0 where
  pub head : Head
  pub value : Expr

-- a method, a constructor, or, where it is a ghost, a lemma; its body opens at `pos`
pub record Method : Type 0 where
  pub head : Head
  pub pos : Pos
  pub body : Stmts

pub data Decl : Type 0 where
  NewtypeDecl : Newtype → Decl
  DatatypeDecl : Datatype → Decl
  ClassDecl : Class → Decl
  FunctionDecl : Function → Decl
  MethodDecl : Method → Decl

-- the declarations of all modules in the order of the source
pub record Program : Type 0 where
  pub decls : List Decl

-- ---- what stands at a number

abbrev pub as_newtype : Decl → Option Newtype
as_newtype (NewtypeDecl x) = Some x
as_newtype (DatatypeDecl x) = None
as_newtype (ClassDecl x) = None
as_newtype (FunctionDecl x) = None
as_newtype (MethodDecl x) = None

abbrev pub as_datatype : Decl → Option Datatype
as_datatype (NewtypeDecl x) = None
as_datatype (DatatypeDecl x) = Some x
as_datatype (ClassDecl x) = None
as_datatype (FunctionDecl x) = None
as_datatype (MethodDecl x) = None

abbrev pub as_class : Decl → Option Class
as_class (NewtypeDecl x) = None
as_class (DatatypeDecl x) = None
as_class (ClassDecl x) = Some x
as_class (FunctionDecl x) = None
as_class (MethodDecl x) = None

abbrev pub as_function : Decl → Option Function
as_function (NewtypeDecl x) = None
as_function (DatatypeDecl x) = None
as_function (ClassDecl x) = None
as_function (FunctionDecl x) = Some x
as_function (MethodDecl x) = None

abbrev pub as_method : Decl → Option Method
as_method (NewtypeDecl x) = None
as_method (DatatypeDecl x) = None
as_method (ClassDecl x) = None
as_method (FunctionDecl x) = None
as_method (MethodDecl x) = Some x

abbrev pub head_of : Decl → Option Head
head_of (NewtypeDecl x) = None
head_of (DatatypeDecl x) = None
head_of (ClassDecl x) = None
head_of (FunctionDecl x) = Some x.head
head_of (MethodDecl x) = Some x.head

abbrev pub newtype_at : Program → ℕ → Option Newtype
newtype_at p id = option_and_then as_newtype (slice_get p.decls id)

abbrev pub datatype_at : Program → ℕ → Option Datatype
datatype_at p id = option_and_then as_datatype (slice_get p.decls id)

abbrev pub class_at : Program → ℕ → Option Class
class_at p id = option_and_then as_class (slice_get p.decls id)

abbrev pub function_at : Program → ℕ → Option Function
function_at p id = option_and_then as_function (slice_get p.decls id)

abbrev pub method_at : Program → ℕ → Option Method
method_at p id = option_and_then as_method (slice_get p.decls id)

abbrev pub head_at : Program → ℕ → Option Head
head_at p id = option_and_then head_of (slice_get p.decls id)

-- ---- types of what is declared

abbrev pub types_of : List Param → List Ty
types_of params = map (λ (x : Param). x.ty) params

abbrev pub variable_types : List Variable → List Ty
variable_types variables = map (λ (x : Variable). x.ty) variables

-- of a function, which has one result
abbrev pub result_type : List Param → Ty
result_type [] = Boolean
result_type (x ∷ xs) = x.ty

abbrev pub constructors_at : Program → ℕ → List Constructor
constructors_at p d = option_map_or (λ (x : Datatype). x.constructors) (datatype_at p d) []

abbrev pub parts_at : Program → ℕ → ℕ → List Variable
parts_at p d c = option_map_or (λ (x : Constructor). x.parts) (slice_get (constructors_at p d) c) []

-- the parts of a constructor of the type, with the types that the type's arguments give them
abbrev pub parts_of : Program → Ty → ℕ → List Ty
parts_of p (types.Newtype d) c = []
parts_of p types.Int c = []
parts_of p types.Nat c = []
parts_of p types.Boolean c = []
parts_of p types.Char c = []
parts_of p (types.AnyObject nullable) c = []
parts_of p (types.Class nullable d) c = []
parts_of p (types.Array nullable t) c = []
parts_of p (types.Seq t) c = []
parts_of p (types.Set t) c = []
parts_of p (types.Data d ts) c = map (λ (x : Variable). instance_of ts x.ty) (parts_at p d c)
parts_of p (types.Parameter n) c = []
