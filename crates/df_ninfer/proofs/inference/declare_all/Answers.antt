use Rattle.std.proofs.lemmas.List.{get_or_default}
use Rattle.std.proofs.Common.{None, get_or, ap, ◌∙◌}
use Rattle.df_ntree.specs.declared.file.Local as declared_local
use Rattle.df_nenv.specs.Environments.{inferred_of}
use Rattle.df_ninfer.specs.Marks.{inferred_by}
use Rattle.df_ninfer.proofs.Looping.{declared_behind, declare_step}
use Rattle.df_ninfer.proofs.inference.declare_all.Goals as goal

abbrev nothing : declared_local.Local
nothing = record { name = record { name = 0; pos = record { line = 0; col = 0 } }; ty = None }

pub loop-i-preserved : goal.loop-i-preserved
loop-i-preserved c =
    let local = get_or c.args.locals.now c.loop-i.i nothing in
    declare_step c.args.locals.now c.loop-i.i local c.loop-i.env c.push_type.new.self c.declare.new.self (declared_behind c.args.env.now c.args.locals.now c.args.has_values c.args.types.now) c.args.has_values c.args.types.now (inferred_of c.inferred-found.result) c.loop-i-test.true
    (get_or_default c.args.locals.now c.loop-i.i nothing local c.loop-i-test.true)
    (c.inferred-found.ensures ∙ ap (inferred_by c.loop-i.env local.ty c.args.has_values) c.type_at.ensures) c.in_ok-push_type.ensures c.in_ok-declare.ensures c.loop-i.invariant
