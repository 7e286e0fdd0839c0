-- The walk over a whole expression with what is asked of it: what private contracts cite.
use Rattle.std.specs.Prelude.{ℤ, Option, Some, Ok}
use Rattle.df_lang.specs.declared.ty.Ty.TheVariants as types
use Rattle.df_ntree.specs.declared.tree.Literal.{Literal}
use Rattle.df_ntree.specs.Expr.{Expr}
use Rattle.df_ntyping.specs.Environment.{Environment}
use Rattle.df_ntyping.specs.Wanted as pure
use Rattle.df_ntyping.specs.Wanted.{Wanted}
use Rattle.df_ntyping.specs.mirror.Parts.{Typed, Answer, and_then}
use Rattle.df_ntyping.specs.mirror.Literals.{limited_value}
use Rattle.df_ntyping.specs.mirror.Signs.{settled_by}
use Rattle.df_ntyping.specs.mirror.Looking.{finished_by, given, asked, look_by}

abbrev pub wanted_by : (Literal → ℤ) → Environment → Wanted → Expr → Answer Typed
wanted_by value env pure.Nothing e = and_then (look_by value env e) (λ (o : Option Typed). Ok (finished_by value types.Int e o))
wanted_by value env pure.Truth e = and_then (asked env e (look_by value env e)) (λ (o : Option Typed). Ok (finished_by value types.Int e o))
wanted_by value env (pure.Place place) e = and_then (given env (Some place) e (look_by value env e)) (λ (o : Option Typed). Ok (record { ty = place; expr = settled_by value place e o }))

abbrev pub wanted_in : Environment → Wanted → Expr → Answer Typed
wanted_in = wanted_by limited_value
