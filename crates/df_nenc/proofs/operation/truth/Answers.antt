use Rattle.df_nenc.proofs.Words.{sym, ap, true, Or, no_term, node, truth_term}
use Rattle.df_nenc.proofs.Results.{stands_as}
use Rattle.df_nenc.proofs.operation.truth.Goals as goal

pub returns-then-value-clause-stands : goal.returns-then-value-clause-stands
returns-then-value-clause-stands c = stands_as c.none.result c.none.new.nodes (truth_term true) (truth_term c.args.value) (ap truth_term (sym c.if-value.true)) c.none.ensures.stands

pub returns-else-value-clause-stands : goal.returns-else-value-clause-stands
returns-else-value-clause-stands c = stands_as c.none-else-value.result c.none-else-value.new.nodes (node Or no_term) (truth_term c.args.value) (ap truth_term (sym c.if-value.false)) c.none-else-value.ensures.stands
