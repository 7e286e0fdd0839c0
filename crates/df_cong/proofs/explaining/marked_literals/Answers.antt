use Rattle.std.proofs.Common.{sym, subst}
use Rattle.df_cong.specs.mirror.Replay.{AreFrom}
use Rattle.df_cong.proofs.Replaying.{from_none}
use Rattle.df_cong.proofs.explaining.marked_literals.Goals as goal

pub loop-place-init : goal.loop-place-init
loop-place-init c = subst (AreFrom c.args.literals.now) (sym c.new-kept.ensures.items) (from_none c.args.literals.now)
