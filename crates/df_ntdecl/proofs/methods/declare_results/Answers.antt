use Rattle.std.proofs.Common.{◌++◌, ◌∷◌, [], get_or, ap, ◌∙◌}
use Rattle.std.proofs.lemmas.List.{get_or_default}
use Rattle.df_ntree.specs.declared.expr.TreeType.TheVariants as trees
use Rattle.df_ntree.specs.declared.expr.BasicType.TheVariants as basics
use Rattle.df_ntree.specs.declared.file.Parameter.{Parameter}
use Rattle.df_lang.specs.declared.ty.Ty.{Ty}
use Rattle.std.specs.Prelude.{Option}
use Rattle.df_ntyping.specs.Environment.{Fixed, with_types}
use Rattle.df_ntdecl.proofs.Declaring.{results_behind, result_step}
use Rattle.df_ntdecl.proofs.methods.declare_results.Goals as goal

abbrev nothing : Parameter
nothing = record { name = record { name = 0; pos = record { line = 0; col = 0 } }; ty = trees.Basic basics.Int (record { line = 0; col = 0 }) }

pub loop-result-preserved : goal.loop-result-preserved
loop-result-preserved c =
    let one = get_or c.args.all.now c.loop-result.result-index nothing in
    let env = c.loop-result.env in
    result_step c.args.all.now c.loop-result.result-index one env c.push_type.new.self c.declare_result.new.self (results_behind c.args.env.now c.args.all.now) c.loop-result-test.true (get_or_default c.args.all.now c.loop-result.result-index nothing one c.loop-result-test.true)
    (c.in_ok-push_type.ensures ∙ ap (λ (ty : Option Ty). with_types env (env.types ++ Fixed ty ∷ [])) c.type_of.ensures) c.in_ok-declare_result.ensures c.loop-result.invariant
