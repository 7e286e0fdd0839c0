use Rattle.df_rules.proofs.Growth.{grows_longer}
use Rattle.df_kern.proofs.line.schema_clause.Goals as goal

pub returns-clause-longer : goal.returns-clause-longer
returns-clause-longer c = grows_longer c.args.nodes.now c.clause.new.nodes c.clause.ensures.grows
