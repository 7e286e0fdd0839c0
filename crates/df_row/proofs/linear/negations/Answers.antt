use Rattle.std.proofs.Common.{[], arith}
use Rattle.df_form.specs.Clause.{negation}
use Rattle.df_lemmas.proofs.Loops.{made_more, made_all}
use Rattle.df_row.proofs.linear.negations.Goals as goal

pub loop-literal-preserved : goal.loop-literal-preserved
loop-literal-preserved c =
    made_more negation c.args.literals.now c.loop-literal.literal-index [] _ c.loop-literal.negated.items c.push.new.self.items c.negation.result c.loop-literal-test.true c.negation.ensures c.in_ok-push.ensures.items c.loop-literal.invariant

pub returns : goal.returns
returns c = made_all negation c.args.literals.now c.loop-literal.literal-index [] c.loop-literal.negated.items (omega arith) c.loop-literal.invariant
