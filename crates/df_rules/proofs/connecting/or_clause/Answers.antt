use Rattle.std.proofs.Common.{◌-◌, arith}
use Rattle.df_rules.proofs.Connectives.{or_later}
use Rattle.df_rules.proofs.connecting.or_clause.Goals as goal

pub returns : goal.returns
returns c = rw (or_later c.args.number c.args.parts.now c.args.clause (c.args.clause - 1) (omega arith)) c.part_clause.ensures
