-- E1: what is assigned, passed, returned or given fits or narrows to the type of its place.
use Rattle.std.specs.Prelude.{Bool, true, false, not, ◌&&◌, List, ◌∷◌, Option}
use Rattle.df_lang.specs.declared.ty.Ty.{Ty}
use Rattle.df_ntyping.specs.Types.{fits_or_narrows, if_known}
use Rattle.df_ntyping.specs.Environment.{Environment}
use Rattle.df_ntyping.specs.ExprTypes.{type_in}
use Rattle.df_ntyping.specs.Node.{Node, Value, Results}

-- values of these types go to the places, one after another
abbrev pub are_given : List (Option Ty) → List (Option Ty) → Bool
are_given (place ∷ places) (value ∷ values) = if_known fits_or_narrows value place && are_given places values
are_given places values = true

abbrev pub breaks_given : Environment → Node → Bool
breaks_given env (Value place e) = not (if_known fits_or_narrows (type_in env place e) place)
breaks_given env (Results places results call) = not (are_given places results)
breaks_given env node = false
