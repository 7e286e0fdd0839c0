use Rattle.df_nflow.proofs.Words.{grows_not}
use Rattle.df_nflow.proofs.passed.Passed.optional.Goals as goal

pub returns-in-None-clause-grows : goal.returns-in-None-clause-grows
returns-in-None-clause-grows c = grows_not c.args.self.now.ledger.nodes
