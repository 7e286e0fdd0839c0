-- What is asked of an expression as a whole: nothing, that it is a truth, or that it goes to a place of a type.
use Rattle.std.specs.Prelude.{◌≡◌, ℕ, List, Some, None}
use Rattle.df_lang.specs.declared.ty.Ty.{Ty}
use Rattle.df_lang.specs.declared.ty.Ty.TheVariants as types
use Rattle.df_lang.specs.Expr as typed
use Rattle.df_ntree.specs.Expr.{Expr}
use Rattle.df_ntyping.specs.Environment.{Environment}
use Rattle.df_ntyping.specs.Node.{Occurrence}
use Rattle.df_ntyping.specs.ExprNodes.{expr_nodes, condition_nodes, value_nodes}
use Rattle.df_ntyping.specs.ExprElaboration.{Elaborates, ElaboratesTruth, ElaboratesAt}

pub data Wanted : Type 0 where
  Nothing : Wanted
  Truth : Wanted
  Place : Ty → Wanted

-- the expression elaborates to what is asked, of the type
abbrev pub IsWanted : Environment → Wanted → Expr → Ty → typed.Expr → Type 0
IsWanted env Nothing e ty t = Elaborates env None e ty t
IsWanted env Truth e ty t = ElaboratesTruth env e t × (ty ≡ types.Bool)
IsWanted env (Place place) e ty t = ElaboratesAt env place e t × (ty ≡ place)

-- its nodes, with that of what is asked
abbrev pub wanted_nodes : Environment → ℕ → Wanted → Expr → List Occurrence
wanted_nodes env start Nothing e = expr_nodes env start e
wanted_nodes env start Truth e = condition_nodes env start e
wanted_nodes env start (Place place) e = value_nodes env start (Some place) e
