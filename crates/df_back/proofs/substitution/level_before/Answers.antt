use Rattle.std.proofs.Common.{arith}
use Rattle.df_level.specs.Levels.{level_rows}
use Rattle.df_back.proofs.Levels.{level_before}
use Rattle.df_back.proofs.substitution.level_before.Goals as goal

pub returns-else-place-eq0 : goal.returns-else-place-eq0
returns-else-place-eq0 c = level_before (level_rows c.args.first.now) c.args.others.now c.args.place c.index-others-place.result (omega arith) c.requires c.index-others-place.is
