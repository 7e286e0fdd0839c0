use Rattle.std.proofs.Common.{false, arith}
use Rattle.df_vm_store.specs.Compact.{ranks_from}
use Rattle.df_vm_store.proofs.Kept.{ranks_step, ranks_end}
use Rattle.df_vm_store.proofs.compact.ranks.Goals as goal

pub loop-marked-preserved : goal.loop-marked-preserved
loop-marked-preserved c = record {
  found = ranks_step c.loop-marked.places.items c.push.new.self.items (ranks_from 0 c.args.live.now) c.loop-marked.total _ c.loop-marked.marked-index c.args.live.now false c.loop-marked.invariant.found (omega arith) c.in_ok-push.ensures.items c.after-total.ensures.value;
  small = omega (arith, c.after-total.ensures.bound);
}

pub returns : goal.returns
returns c = ranks_end c.loop-marked.places.items c.push-2.new.self.items (ranks_from 0 c.args.live.now) c.loop-marked.total c.loop-marked.marked-index c.args.live.now c.loop-marked.invariant.found (omega arith) c.in_ok-push-2.ensures.items
