-- Types as contracts see them.
use Rattle.std.specs.Prelude.{ℕ, zero, suc, Bool, true, false, not, ◌&&◌, ◌==◌, List, [], ◌∷◌}

mutual
  pub data Ty : Type 0 where
    Newtype : (decl : ℕ) → Ty
    Int : Ty
    Nat : Ty
    Boolean : Ty
    Char : Ty
    AnyObject : (nullable : Bool) → Ty
    Class : (nullable : Bool) (decl : ℕ) → Ty
    Array : (nullable : Bool) (element : Ty) → Ty
    Seq : (element : Ty) → Ty
    Set : (element : Ty) → Ty
    Data : (decl : ℕ) (arguments : Tys) → Ty
    Parameter : (number : ℕ) → Ty

  pub data Tys : Type 0 where
    no_ty : Tys
    and_ty : Ty → Tys → Tys

abbrev pub tys_of : List Ty → Tys
tys_of [] = no_ty
tys_of (t ∷ ts) = and_ty t (tys_of ts)

abbrev pub list_of_tys : Tys → List Ty
list_of_tys no_ty = []
list_of_tys (and_ty t ts) = t ∷ list_of_tys ts

abbrev pub ty_count : Tys → ℕ
ty_count no_ty = zero
ty_count (and_ty t ts) = suc (ty_count ts)

-- two types are one
abbrev mutual
  pub same_type : Ty → Ty → Bool
  same_type (Newtype d) (Newtype e) = d == e
  same_type Int Int = true
  same_type Nat Nat = true
  same_type Boolean Boolean = true
  same_type Char Char = true
  same_type (AnyObject true) (AnyObject b) = b
  same_type (AnyObject false) (AnyObject b) = not b
  same_type (Class true d) (Class b e) = b && (d == e)
  same_type (Class false d) (Class b e) = not b && (d == e)
  same_type (Array true t) (Array b u) = b && same_type t u
  same_type (Array false t) (Array b u) = not b && same_type t u
  same_type (Seq t) (Seq u) = same_type t u
  same_type (Set t) (Set u) = same_type t u
  same_type (Data d ts) (Data e us) = (d == e) && same_types ts us
  same_type (Parameter n) (Parameter k) = n == k
  same_type t u = false

  pub same_types : Tys → Tys → Bool
  same_types no_ty no_ty = true
  same_types (and_ty t ts) (and_ty u us) = same_type t u && same_types ts us
  same_types ts us = false

abbrev pub same_type_list : List Ty → List Ty → Bool
same_type_list [] [] = true
same_type_list [] (u ∷ us) = false
same_type_list (t ∷ ts) [] = false
same_type_list (t ∷ ts) (u ∷ us) = same_type t u && same_type_list ts us

-- ---- type parameters stand for types

-- Where there is none for a parameter it is `int`: so what stands for a type at types that stand for other parameters is one type.
abbrev pub argument_at : Tys → ℕ → Ty
argument_at no_ty n = Int
argument_at (and_ty t ts) zero = t
argument_at (and_ty t ts) (suc n) = argument_at ts n

abbrev mutual
  pub instance_of : Tys → Ty → Ty
  instance_of arguments (Newtype d) = Newtype d
  instance_of arguments Int = Int
  instance_of arguments Nat = Nat
  instance_of arguments Boolean = Boolean
  instance_of arguments Char = Char
  instance_of arguments (AnyObject nullable) = AnyObject nullable
  instance_of arguments (Class nullable d) = Class nullable d
  instance_of arguments (Array nullable t) = Array nullable (instance_of arguments t)
  instance_of arguments (Seq t) = Seq (instance_of arguments t)
  instance_of arguments (Set t) = Set (instance_of arguments t)
  instance_of arguments (Data d ts) = Data d (instances_of arguments ts)
  instance_of arguments (Parameter n) = argument_at arguments n

  pub instances_of : Tys → Tys → Tys
  instances_of arguments no_ty = no_ty
  instances_of arguments (and_ty t ts) = and_ty (instance_of arguments t) (instances_of arguments ts)
