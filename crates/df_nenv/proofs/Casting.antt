-- The type behind a row of `as`.
use Rattle.std.proofs.Common.{◌≡◌, List, [], ◌∷◌, Option, None, refl}
use Rattle.df_lang.specs.declared.ty.Ty.{Ty}
use Rattle.df_ntyping.specs.Table.{type_of}
use Rattle.df_ntyping.specs.Environment.{Environment}
use Rattle.df_ntyping.specs.ExprTypes.{last_type}
use Rattle.df_ntree.specs.declared.expr.TreeType.{TreeType}

-- the type behind a row of `as`, from the first on
abbrev pub last_behind : Environment → Option Ty → List TreeType → Option Ty
last_behind env last [] = last
last_behind env last (ty ∷ others) = last_behind env (type_of env.table.newtypes ty) others

some_last : (env : Environment) (last : Option Ty) (ty : TreeType) (others : List TreeType) → last_behind env last (ty ∷ others) ≡ last_type env (ty ∷ others)
some_last env last ty [] = refl
some_last env last ty (next ∷ others) = some_last env (type_of env.table.newtypes ty) next others

pub last_is : (env : Environment) (types : List TreeType) → last_behind env None types ≡ last_type env types
last_is env [] = refl
last_is env (ty ∷ others) = some_last env None ty others
