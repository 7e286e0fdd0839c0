use Rattle.std.proofs.Common.{arith}
use Rattle.df_logtext.specs.ReaderView.{state_of}
use Rattle.df_logtext.specs.View.{names_of}
use Rattle.df_logtext.proofs.ReadBytes.{within_line}
use Rattle.df_logtext.proofs.reading.read_lines.Goals as goal

pub loop-at-preserved-then-byte-ne10 : goal.loop-at-preserved-then-byte-ne10
loop-at-preserved-then-byte-ne10 c = record {
  within = omega arith;
  few = omega arith;
  outcome = within_line (names_of c.args.names.now) (state_of c.loop-at.reader) c.loop-at.number c.args.bytes.now c.loop-at.begin c.loop-at.at _ c.loop-at.invariant.within c.loop-at-test.true c.if-byte-ne10.true c.loop-at.invariant.outcome;
}
