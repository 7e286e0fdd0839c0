use Rattle.std.proofs.Common.{arith}
use Rattle.df_logtext.proofs.Partings.{within_part}
use Rattle.df_logtext.proofs.parting.parts.Goals as goal

pub loop-at-preserved-then-byte-separator : goal.loop-at-preserved-then-byte-separator
loop-at-preserved-then-byte-separator c = record {
  within = omega arith;
  parts = within_part c.args.separator c.args.text.now c.loop-at.begin c.loop-at.at _ _ c.loop-at.invariant.within c.loop-at-test.true c.if-byte-separator.true c.loop-at.invariant.parts;
}
