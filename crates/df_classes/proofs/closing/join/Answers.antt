use Rattle.std.proofs.Common.{length}
use Rattle.df_rules.proofs.Results.{on_ok}
use Rattle.df_classes.specs.mirror.State.{label_of}
use Rattle.df_classes.specs.PartitionView.{state_of}
use Rattle.df_classes.proofs.Absorbing.{can_absorb, can_absorb_back, absorbs_at, joins_first, joins_second}
use Rattle.df_classes.proofs.closing.join.Goals as goal

pub absorb-requires : goal.absorb-requires
absorb-requires c =
    let s = state_of c.args.partition.now in
    absorbs_at s (label_of s c.args.pair.right) (label_of s c.args.pair.left) c.label-right.result c.label-left.result c.label-right.ensures c.label-left.ensures (can_absorb_back s c.args.pair c.requires)

pub returns-then-first-second-clause-joins : goal.returns-then-first-second-clause-joins
returns-then-first-second-clause-joins c =
    let s = state_of c.args.partition.now in
    on_ok c.absorb.result
    (joins_second (length s.labels) c.args.users.now (label_of s c.args.pair.left) (label_of s c.args.pair.right) c.label-left.result c.label-right.result s (state_of c.absorb.new.partition) c.args.waiting.now.items c.absorb.new.waiting.items c.label-left.ensures
    c.label-right.ensures)
    c.absorb.ensures.absorbs

pub absorb-requires-2 : goal.absorb-requires-2
absorb-requires-2 c =
    let s = state_of c.args.partition.now in
    absorbs_at s (label_of s c.args.pair.left) (label_of s c.args.pair.right) c.label-left.result c.label-right.result c.label-left.ensures c.label-right.ensures (can_absorb s c.args.pair c.requires)

pub returns-clause-joins : goal.returns-clause-joins
returns-clause-joins c =
    let s = state_of c.args.partition.now in
    on_ok c.absorb-2.result
    (joins_first (length s.labels) c.args.users.now (label_of s c.args.pair.left) (label_of s c.args.pair.right) c.label-left.result c.label-right.result s (state_of c.absorb-2.new.partition) c.args.waiting.now.items c.absorb-2.new.waiting.items c.label-left.ensures
    c.label-right.ensures)
    c.absorb-2.ensures.absorbs
