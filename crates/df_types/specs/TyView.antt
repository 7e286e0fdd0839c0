-- The code's types, without where they lie in memory.
use Rattle.df_types.specs.declared.ty.Ty as declared
use Rattle.df_types.specs.declared.ty.Ty.TheOpen.{Ty-F}
use Rattle.df_types.specs.declared.ty.Ty.TheFolds.{fold-Ty}
use Rattle.df_types.specs.Ty.{Ty, Newtype, Int, Nat, Boolean, Char, AnyObject, Class, Array, Seq, Set, Data, Parameter, tys_of}

-- one node, with its parts as they are seen
abbrev pub ty_step : Ty-F Ty → Ty
ty_step (Ty-F.Newtype decl) = Newtype decl
ty_step Ty-F.Int = Int
ty_step Ty-F.Nat = Nat
ty_step Ty-F.Bool = Boolean
ty_step Ty-F.Char = Char
ty_step (Ty-F.Object nullable) = AnyObject nullable
ty_step (Ty-F.Class nullable decl) = Class nullable decl
ty_step (Ty-F.Array nullable element) = Array nullable element.value
ty_step (Ty-F.Seq element) = Seq element.value
ty_step (Ty-F.Set element) = Set element.value
ty_step (Ty-F.Datatype decl arguments) = Data decl (tys_of arguments.items)
ty_step (Ty-F.Parameter number) = Parameter number

abbrev pub ty_of : declared.Ty → Ty
ty_of = fold-Ty Ty ty_step
