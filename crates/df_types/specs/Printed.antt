-- Which types are printed: integer types, truths, characters, and sequences and datatypes of these, without type parameters and
-- ghost parts.
use Rattle.std.specs.Prelude.{ℕ, zero, suc, Bool, true, false, not, ◌&&◌, length}
use Rattle.std.specs.List.{list_all}
use Rattle.df_types.specs.Ty.{Ty, Newtype, Int, Nat, Boolean, Char, AnyObject, Class, Array, Seq, Set, Data, Parameter, Tys, no_ty, and_ty}
use Rattle.df_types.specs.Program.{Program, Variable, Constructor, constructors_at}

-- over which datatypes are, and whether what stands for type parameters is
abbrev mutual
  pub has_text : (ℕ → Bool) → Bool → Ty → Bool
  has_text datatypes parameters (Newtype d) = true
  has_text datatypes parameters Int = true
  has_text datatypes parameters Nat = true
  has_text datatypes parameters Boolean = true
  has_text datatypes parameters Char = true
  has_text datatypes parameters (AnyObject nullable) = false
  has_text datatypes parameters (Class nullable d) = false
  has_text datatypes parameters (Array nullable t) = false
  has_text datatypes parameters (Seq t) = has_text datatypes parameters t
  has_text datatypes parameters (Set t) = false
  has_text datatypes parameters (Data d ts) = datatypes d && have_text datatypes parameters ts
  has_text datatypes parameters (Parameter n) = parameters

  pub have_text : (ℕ → Bool) → Bool → Tys → Bool
  have_text datatypes parameters no_ty = true
  have_text datatypes parameters (and_ty t ts) = has_text datatypes parameters t && have_text datatypes parameters ts

-- no datatype that its parts reach has a part that is not printed
abbrev pub is_printable : Program → ℕ → ℕ → Bool
is_printable p zero d = true
is_printable p (suc n) d = list_all (λ (c : Constructor). list_all (λ (x : Variable). not x.is_ghost && has_text (is_printable p n) true x.ty) c.parts) (constructors_at p d)

abbrev pub is_printed : Program → Ty → Bool
is_printed p t = has_text (is_printable p (length p.decls)) false t
