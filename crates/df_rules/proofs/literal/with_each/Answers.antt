use Rattle.std.proofs.Common.{[], ◌∷◌, arith}
use Rattle.df_form.specs.Clause.{yes}
use Rattle.df_lemmas.proofs.Loops.{made_more, made_all}
use Rattle.df_rules.proofs.literal.with_each.Goals as goal

pub loop-part-preserved : goal.loop-part-preserved
loop-part-preserved c =
    made_more yes c.args.parts.now c.loop-part.part-index (c.args.first ∷ []) 0 c.loop-part.clause.items c.push.new.self.items c.yes_of.result c.loop-part-test.true c.yes_of.ensures c.in_ok-push.ensures.items c.loop-part.invariant

pub returns : goal.returns
returns c = made_all yes c.args.parts.now c.loop-part.part-index (c.args.first ∷ []) c.loop-part.clause.items (omega arith) c.loop-part.invariant
