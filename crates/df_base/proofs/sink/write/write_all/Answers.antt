use Rattle.std.proofs.Common.{arith}
use Rattle.std.proofs.lemmas.Grind.{common_steps}
use Rattle.df_base.proofs.WriteLemmas.{Appends-next}
use Rattle.df_base.proofs.sink.write.write_all.Goals as goal

pub loop-done-preserved : goal.loop-done-preserved
loop-done-preserved g c = record {
  within = grind (arith, common_steps, c.in-Ok.ensures.bound);
  written = Appends-next _ _ _ c.args.bytes.now c.loop-done.done c.in-Ok.count c.loop-done.invariant.written c.in-Ok.ensures.bytes;
}
