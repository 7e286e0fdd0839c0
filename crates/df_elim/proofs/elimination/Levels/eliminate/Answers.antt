use Rattle.std.proofs.Common.{refl}
use Rattle.df_level.specs.Levels.{level_rows}
use Rattle.df_elim.proofs.Growing.{has_grown}
use Rattle.df_elim.proofs.elimination.Levels.eliminate.Goals as goal

pub returns : goal.returns
returns c = has_grown c.args.node c.args.self.now (record { variables = c.push.new.self; first = c.args.self.now.first; others = c.push-2.new.self }) (level_rows c.last.result.now) c.in_ok-level.level c.last.ensures c.in_ok-level.ensures.rows c.in_ok-level.ensures.ways refl c.in_ok-push.ensures.items c.in_ok-push-2.ensures.items
