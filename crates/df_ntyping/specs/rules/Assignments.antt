-- E22: what is assigned is a local or a result, and there are as many left as right sides. E23: `return` gives no values or
-- all results.
use Rattle.std.specs.Prelude.{Bool, true, false, not, List, [], length, Option, Some}
use Rattle.df_ntree.specs.Expr.{Expr, Name}
use Rattle.df_ntyping.specs.Environment.{Environment}
use Rattle.df_ntyping.specs.Meaning.{Meaning, TheLocal, meaning_of}
use Rattle.df_ntyping.specs.LocalTypes.{are_enough}
use Rattle.df_ntyping.specs.Node.{Node, Place, Assignment, Return}
use Rattle.df_ntyping.specs.SideElaboration.{keeps_its_value}

abbrev pub may_be_assigned : Option Meaning → Bool
may_be_assigned (Some (TheLocal local)) = not (keeps_its_value local.role)
may_be_assigned meaning = false

abbrev pub is_place : Environment → Expr → Bool
is_place env (Name ident) = may_be_assigned (meaning_of env ident.name)
is_place env e = false

abbrev pub breaks_assigned : Environment → Node → Bool
breaks_assigned env (Place e) = not (is_place env e)
breaks_assigned env (Assignment places values pos) = not (are_enough env places values)
breaks_assigned env node = false

abbrev pub gives_all : Environment → List Expr → Bool
gives_all env [] = true
gives_all env values = are_enough env (length env.results) values

abbrev pub breaks_returned : Environment → Node → Bool
breaks_returned env (Return values pos) = not (gives_all env values)
breaks_returned env node = false
