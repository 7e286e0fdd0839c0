-- Inside a group of datatypes that stand in one another's parts each is used at just its parameters in order.
use Rattle.std.specs.Prelude.{ℕ, zero, suc, Bool, false, not, ◌&&◌, ◌||◌, ◌==◌, length}
use Rattle.std.specs.List.{list_any}
use Rattle.df_types.specs.Ty.{Ty, Newtype, Int, Nat, Boolean, Char, AnyObject, Class, Array, Seq, Set, Data, Parameter, Tys, no_ty, and_ty, same_types}
use Rattle.df_types.specs.Program.{Program, Variable, Constructor, Datatype, constructors_at}

-- the parameters of a number on, so many
abbrev pub own_types : ℕ → ℕ → Tys
own_types from zero = no_ty
own_types from (suc n) = and_ty (Parameter from) (own_types (suc from) n)

-- some use of a datatype in the type, with its arguments, is so
abbrev mutual
  pub some_use : (ℕ → Tys → Bool) → Ty → Bool
  some_use test (Newtype d) = false
  some_use test Int = false
  some_use test Nat = false
  some_use test Boolean = false
  some_use test Char = false
  some_use test (AnyObject nullable) = false
  some_use test (Class nullable d) = false
  some_use test (Array nullable t) = some_use test t
  some_use test (Seq t) = some_use test t
  some_use test (Set t) = some_use test t
  some_use test (Data d ts) = test d ts || some_use_in test ts
  some_use test (Parameter n) = false

  pub some_use_in : (ℕ → Tys → Bool) → Tys → Bool
  some_use_in test no_ty = false
  some_use_in test (and_ty t ts) = some_use test t || some_use_in test ts

abbrev pub some_part : (ℕ → Tys → Bool) → Program → ℕ → Bool
some_part test p d = list_any (λ (c : Constructor). list_any (λ (x : Variable). some_use test x.ty) c.parts) (constructors_at p d)

-- the parts of the one come to the other, by so many datatypes
abbrev pub comes_to : Program → ℕ → ℕ → ℕ → Bool
comes_to p zero other d = false
comes_to p (suc n) other d = (d == other) || some_part (λ e ts. comes_to p n other e) p d

-- no use of a datatype of the group stands at other types
abbrev pub is_regular : Program → ℕ → Datatype → Bool
is_regular p d x = not (some_part (λ e ts. comes_to p (suc (length p.decls)) d e && not (same_types ts (own_types 0 (length x.type_parameters)))) p d)
