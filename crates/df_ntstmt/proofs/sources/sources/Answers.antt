use Rattle.std.proofs.Common.{map}
use Rattle.df_lang.specs.StmtView.{source_of}
use Rattle.df_ntree.specs.Expr as tree
use Rattle.df_ntstmt.proofs.LoopedSides.{several}
use Rattle.df_ntstmt.proofs.sources.sources.Goals as goal

pub returns-in-len2-up : goal.returns-in-len2-up
returns-in-len2-up c = rw (several c.args.env.now c.args.places.now c.args.values.now c.in-len2-up.len_at_least) c.apart.ensures
