use Rattle.df_form.proofs.Tables.{none_within}
use Rattle.df_form.proofs.node_table.NodeTable.op.Goals as goal

pub unreachable-requires : goal.unreachable-requires
unreachable-requires g c = none_within (g.Self.NodeTable.nodes c.args.self.now) c.args.number c.in-None.ensures.node c.requires
