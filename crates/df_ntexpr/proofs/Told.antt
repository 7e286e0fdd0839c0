-- What the walk answers is what is asked, or the least rule that is broken.
use Rattle.std.proofs.Common.{◌≡◌, ◌+◌, Ok, Err, subst}
use Rattle.df_ntree.specs.Expr.{Expr}
use Rattle.df_ntyping.specs.Environment.{Environment}
use Rattle.df_ntyping.specs.ExprNodes.{width, expr_nodes}
use Rattle.df_ntyping.specs.Literals.{IsReadExpr}
use Rattle.df_ntyping.specs.Laws.{HasTypes}
use Rattle.df_ntyping.specs.Least.{IsTold, BreaksNoneIn}
use Rattle.df_ntyping.specs.Wanted.{Wanted, IsWanted, wanted_nodes}
use Rattle.df_ntyping.specs.mirror.Parts.{Typed, refusal_of}
use Rattle.df_ntyping.specs.mirror.Literals.{limited_value}
use Rattle.df_ntyping.specs.mirror.Wanting.{wanted_in}
use Rattle.df_ntexpr.specs.declared.broken.Broken.{Broken}
use Rattle.df_ntexpr.specs.declared.broken.Halt.{Halt}
use Rattle.df_ntexpr.specs.declared.broken.Halt.TheVariants as halts
use Rattle.df_ntexpr.specs.Parts.{typed_of, breach_of, Gives}
use Rattle.df_ntyping.proofs.WantedTold.{WantedVerdict, limits, wanted_judged, wanted_named, found_told}

judged : (env : Environment) (wanted : Wanted) (e : Expr) → IsReadExpr e → BreaksNoneIn 0 (expr_nodes env 0 e) → HasTypes env e → WantedVerdict env 0 wanted e (wanted_in env wanted e)
judged env wanted e x n h = wanted_judged limited_value env 0 wanted e x.0 (limits e x.1) h (record { none = n })

pub typed_so : (env : Environment) (wanted : Wanted) (e : Expr) (t : Typed) → IsReadExpr e → BreaksNoneIn 0 (expr_nodes env 0 e) → HasTypes env e → wanted_in env wanted e ≡ Ok t → IsWanted env wanted e t.ty t.expr
typed_so env wanted e t x n h p = subst (WantedVerdict env 0 wanted e) p (judged env wanted e x n h)

pub told_so : (env : Environment) (wanted : Wanted) (e : Expr) (halt : Halt) (broken : Broken) → IsReadExpr e → BreaksNoneIn 0 (expr_nodes env 0 e) → HasTypes env e → halt ≡ halts.Broken broken → Gives typed_of (Err halt) (wanted_in env wanted e)
    → IsTold (wanted_nodes env 0 wanted e) (refusal_of (breach_of broken))
told_so env wanted e halt broken x n h is answer =
    let p : wanted_in env wanted e ≡ Err (breach_of broken) = subst (λ (x : Halt). Gives typed_of (Err x) (wanted_in env wanted e)) is answer in
    found_told (wanted_nodes env 0 wanted e) 0 (0 + width e) (breach_of broken) (wanted_named env wanted e (record { none = n })) (subst (WantedVerdict env 0 wanted e) p (judged env wanted e x n h))
