use Rattle.df_nenc.proofs.Words.{arith, trees_at, conjunction, terms_of}
use Rattle.df_nenc.proofs.Lemmas.{takes_all, stands_as, conjunction_long, trees_long}
use Rattle.df_nenc.proofs.operation.all_of.Goals as goal

pub make-requires : goal.make-requires
make-requires c = takes_all c.args.nodes.now c.args.formulas.now c.requires

pub make-requires-in-len2-up : goal.make-requires-in-len2-up
make-requires-in-len2-up c = takes_all c.args.nodes.now c.args.formulas.now c.requires

pub returns-in-len2-up-clause-stands : goal.returns-in-len2-up-clause-stands
returns-in-len2-up-clause-stands c = stands_as c.make-in-len2-up.result c.make-in-len2-up.new.nodes _ (conjunction (terms_of (trees_at c.args.nodes.now c.args.formulas.now))) (conjunction_long (trees_at c.args.nodes.now c.args.formulas.now) (trees_long c.args.nodes.now c.args.formulas.now (omega arith))) c.make-in-len2-up.ensures.stands
