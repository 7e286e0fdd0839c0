-- Which types a program has, and how they go together.
use Rattle.std.specs.Prelude.{ℕ, Bool, true, false, not, ◌&&◌, ◌||◌, ◌==◌, nat_lt, List, [], ◌∷◌, length, is_some}
use Rattle.std.specs.Option.{option_map_or}
use Rattle.df_types.specs.Ty.{Ty, Newtype, Int, Nat, Boolean, Char, AnyObject, Class, Array, Seq, Set, Data, Parameter, Tys, no_ty, and_ty, same_type}
use Rattle.df_types.specs.Program.{Program, TypeParameter, Constructor, Datatype, newtype_at, datatype_at, class_at, constructors_at}
use Rattle.df_types.specs.Equality.{may_equate}

-- as many types as type parameters, each with equality where the parameter is marked
abbrev pub are_arguments : Program → List TypeParameter → List TypeParameter → Tys → Bool
are_arguments p marks [] no_ty = true
are_arguments p marks [] (and_ty t ts) = false
are_arguments p marks (x ∷ xs) no_ty = false
are_arguments p marks (x ∷ xs) (and_ty t ts) = (not x.has_equality || may_equate p marks t) && are_arguments p marks xs ts

-- ---- which types a program has

-- what it names is declared, also what stands inside; what stands for a parameter marked `(==)` has equality
abbrev mutual
  pub is_type : Program → List TypeParameter → Ty → Bool
  is_type p marks (Newtype d) = is_some (newtype_at p d)
  is_type p marks Int = true
  is_type p marks Nat = true
  is_type p marks Boolean = true
  is_type p marks Char = true
  is_type p marks (AnyObject nullable) = true
  is_type p marks (Class nullable d) = is_some (class_at p d)
  is_type p marks (Array nullable t) = is_type p marks t
  is_type p marks (Seq t) = is_type p marks t
  is_type p marks (Set t) = is_type p marks t
  is_type p marks (Data d ts) = option_map_or (λ (x : Datatype). are_arguments p marks x.type_parameters ts) (datatype_at p d) false && are_types p marks ts
  is_type p marks (Parameter n) = nat_lt n (length marks)

  pub are_types : Program → List TypeParameter → Tys → Bool
  are_types p marks no_ty = true
  are_types p marks (and_ty t ts) = is_type p marks t && are_types p marks ts

-- the integer types: newtypes, `int` and `nat`
abbrev pub is_number : Ty → Bool
is_number (Newtype d) = true
is_number Int = true
is_number Nat = true
is_number Boolean = false
is_number Char = false
is_number (AnyObject nullable) = false
is_number (Class nullable d) = false
is_number (Array nullable t) = false
is_number (Seq t) = false
is_number (Set t) = false
is_number (Data d ts) = false
is_number (Parameter n) = false

-- arithmetic is of a newtype or of `int`: `nat` counts as `int` there
abbrev pub is_arithmetic : Ty → Bool
is_arithmetic (Newtype d) = true
is_arithmetic Int = true
is_arithmetic Nat = false
is_arithmetic Boolean = false
is_arithmetic Char = false
is_arithmetic (AnyObject nullable) = false
is_arithmetic (Class nullable d) = false
is_arithmetic (Array nullable t) = false
is_arithmetic (Seq t) = false
is_arithmetic (Set t) = false
is_arithmetic (Data d ts) = false
is_arithmetic (Parameter n) = false

-- compared by `<`
abbrev pub is_ordered : Ty → Bool
is_ordered (Newtype d) = true
is_ordered Int = true
is_ordered Nat = true
is_ordered Boolean = false
is_ordered Char = true
is_ordered (AnyObject nullable) = false
is_ordered (Class nullable d) = false
is_ordered (Array nullable t) = false
is_ordered (Seq t) = false
is_ordered (Set t) = false
is_ordered (Data d ts) = false
is_ordered (Parameter n) = false

-- compared by `<=`
abbrev pub is_ranked : Ty → Bool
is_ranked (Newtype d) = true
is_ranked Int = true
is_ranked Nat = true
is_ranked Boolean = false
is_ranked Char = true
is_ranked (AnyObject nullable) = false
is_ranked (Class nullable d) = false
is_ranked (Array nullable t) = false
is_ranked (Seq t) = false
is_ranked (Set t) = true
is_ranked (Data d ts) = false
is_ranked (Parameter n) = false

abbrev pub is_nullable : Ty → Bool
is_nullable (Newtype d) = false
is_nullable Int = false
is_nullable Nat = false
is_nullable Boolean = false
is_nullable Char = false
is_nullable (AnyObject nullable) = nullable
is_nullable (Class nullable d) = nullable
is_nullable (Array nullable t) = nullable
is_nullable (Seq t) = false
is_nullable (Set t) = false
is_nullable (Data d ts) = false
is_nullable (Parameter n) = false

abbrev pub is_reference_type : Ty → Bool
is_reference_type (Newtype d) = false
is_reference_type Int = false
is_reference_type Nat = false
is_reference_type Boolean = false
is_reference_type Char = false
is_reference_type (AnyObject nullable) = true
is_reference_type (Class nullable d) = true
is_reference_type (Array nullable t) = true
is_reference_type (Seq t) = false
is_reference_type (Set t) = false
is_reference_type (Data d ts) = false
is_reference_type (Parameter n) = false

-- a frame has objects, and sets of them
abbrev pub is_framed : Ty → Bool
is_framed (Newtype d) = false
is_framed Int = false
is_framed Nat = false
is_framed Boolean = false
is_framed Char = false
is_framed (AnyObject nullable) = true
is_framed (Class nullable d) = true
is_framed (Array nullable t) = true
is_framed (Seq t) = false
is_framed (Set t) = is_reference_type t
is_framed (Data d ts) = false
is_framed (Parameter n) = false

-- ---- how they go together

-- each value of the one is a value of the other
abbrev pub fits : Ty → Ty → Bool
fits (Newtype d) u = same_type (Newtype d) u
fits Int u = same_type Int u
fits Nat Int = true
fits Nat u = same_type Nat u
fits Boolean u = same_type Boolean u
fits Char u = same_type Char u
fits (AnyObject nullable) (AnyObject target) = target || not nullable
fits (AnyObject nullable) u = false
fits (Class nullable d) (AnyObject target) = target || not nullable
fits (Class nullable d) (Class target e) = (d == e) && (target || not nullable)
fits (Class nullable d) u = false
fits (Array nullable t) (AnyObject target) = target || not nullable
fits (Array nullable t) (Array target u) = same_type t u && (target || not nullable)
fits (Array nullable t) u = false
fits (Seq t) (Seq u) = fits t u
fits (Seq t) u = false
fits (Set t) (Set u) = fits t u
fits (Set t) u = false
fits (Data d ts) u = same_type (Data d ts) u
fits (Parameter n) u = same_type (Parameter n) u

-- a value of the one may be one of the other
abbrev pub narrows : Ty → Ty → Bool
narrows (Newtype d) u = false
narrows Int Nat = true
narrows Int u = false
narrows Nat u = false
narrows Boolean u = false
narrows Char u = false
narrows (AnyObject true) (AnyObject false) = true
narrows (AnyObject nullable) u = false
narrows (Class true d) (Class false e) = d == e
narrows (Class nullable d) u = false
narrows (Array true t) (Array false u) = same_type t u
narrows (Array nullable t) u = false
narrows (Seq t) u = false
narrows (Set t) u = false
narrows (Data d ts) u = false
narrows (Parameter n) u = false

abbrev pub converts : Ty → Ty → Bool
converts source target = fits source target || narrows source target

-- `as` goes between integer types, and between them and characters
abbrev pub casts : Ty → Ty → Bool
casts (Newtype d) target = is_ordered target
casts Int target = is_ordered target
casts Nat target = is_ordered target
casts Boolean target = false
casts Char target = is_number target
casts (AnyObject nullable) target = false
casts (Class nullable d) target = false
casts (Array nullable t) target = false
casts (Seq t) target = false
casts (Set t) target = false
casts (Data d ts) target = false
casts (Parameter n) target = false

-- ---- datatypes

abbrev pub has_constructor : Program → Ty → ℕ → Bool
has_constructor p (Newtype d) c = false
has_constructor p Int c = false
has_constructor p Nat c = false
has_constructor p Boolean c = false
has_constructor p Char c = false
has_constructor p (AnyObject nullable) c = false
has_constructor p (Class nullable d) c = false
has_constructor p (Array nullable t) c = false
has_constructor p (Seq t) c = false
has_constructor p (Set t) c = false
has_constructor p (Data d ts) c = nat_lt c (length (constructors_at p d))
has_constructor p (Parameter n) c = false

abbrev pub has_no_parts : List Constructor → Bool
has_no_parts [] = false
has_no_parts (c ∷ cs) = length c.parts == 0

-- a datatype's first constructor is its default, where it takes no arguments
abbrev pub has_default : Program → Ty → Bool
has_default p (Newtype d) = true
has_default p Int = true
has_default p Nat = true
has_default p Boolean = true
has_default p Char = true
has_default p (AnyObject nullable) = nullable
has_default p (Class nullable d) = nullable
has_default p (Array nullable t) = nullable
has_default p (Seq t) = true
has_default p (Set t) = true
has_default p (Data d ts) = has_no_parts (constructors_at p d)
has_default p (Parameter n) = false
