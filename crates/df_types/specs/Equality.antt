-- Of which types compiled code may test equality: no set, no datatype with a ghost part, no type parameter without `(==)`, also
-- not inside.
use Rattle.std.specs.Prelude.{ℕ, zero, suc, Bool, true, false, not, ◌&&◌, List, length, slice_get}
use Rattle.std.specs.Option.{option_map_or}
use Rattle.std.specs.List.{list_all}
use Rattle.df_types.specs.Ty.{Ty, Newtype, Int, Nat, Boolean, Char, AnyObject, Class, Array, Seq, Set, Data, Parameter, Tys, no_ty, and_ty}
use Rattle.df_types.specs.Program.{Program, Variable, Constructor, TypeParameter, constructors_at}

-- over which datatypes and which type parameters have it
abbrev mutual
  pub has_equality : (ℕ → Bool) → (ℕ → Bool) → Ty → Bool
  has_equality datatypes parameters (Newtype d) = true
  has_equality datatypes parameters Int = true
  has_equality datatypes parameters Nat = true
  has_equality datatypes parameters Boolean = true
  has_equality datatypes parameters Char = true
  has_equality datatypes parameters (AnyObject nullable) = true
  has_equality datatypes parameters (Class nullable d) = true
  has_equality datatypes parameters (Array nullable t) = true
  has_equality datatypes parameters (Seq t) = has_equality datatypes parameters t
  has_equality datatypes parameters (Set t) = false
  has_equality datatypes parameters (Data d ts) = datatypes d && have_equality datatypes parameters ts
  has_equality datatypes parameters (Parameter n) = parameters n

  pub have_equality : (ℕ → Bool) → (ℕ → Bool) → Tys → Bool
  have_equality datatypes parameters no_ty = true
  have_equality datatypes parameters (and_ty t ts) = has_equality datatypes parameters t && have_equality datatypes parameters ts

-- No datatype that its parts reach has a ghost part, a set and so on: down to so many datatypes inside one another, and as many as
-- there are declarations reach all. What stands at a type parameter of the datatype is looked at with its arguments.
abbrev pub is_equatable : Program → ℕ → ℕ → Bool
is_equatable p zero d = true
is_equatable p (suc n) d =
    list_all (λ (c : Constructor). list_all (λ (x : Variable). not x.is_ghost && has_equality (is_equatable p n) (λ k. true) x.ty) c.parts) (constructors_at p d)

abbrev pub is_marked_parameter : List TypeParameter → ℕ → Bool
is_marked_parameter parameters n = option_map_or (λ (x : TypeParameter). x.has_equality) (slice_get parameters n) false

abbrev pub may_equate : Program → List TypeParameter → Ty → Bool
may_equate p parameters t = has_equality (is_equatable p (length p.decls)) (is_marked_parameter parameters) t
