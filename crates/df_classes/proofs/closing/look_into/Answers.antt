use Rattle.std.proofs.Common.{find, ap, ◌∙◌}
use Rattle.df_rules.proofs.Results.{on_ok}
use Rattle.df_classes.specs.mirror.State.{label_of}
use Rattle.df_classes.specs.mirror.Closure.{apart_from}
use Rattle.df_classes.specs.PartitionView.{state_of}
use Rattle.df_classes.proofs.Advancing.{found_apart, can_join_apart, looks_apart, looks_into, bucket_within}
use Rattle.df_classes.proofs.Results.{on_ok_both}
use Rattle.df_classes.proofs.closing.look_into.Goals as goal

pub merge-requires : goal.merge-requires
merge-requires c =
    let s = state_of c.args.partition.now in
    can_join_apart c.args.nodes.now s c.args.node c.in-Some.other c.requires.ready (found_apart c.args.nodes.now s c.args.node c.bucket.result.now c.in-Some.other c.in-Some.ensures)

pub returns-in-Some-clause-advances : goal.returns-in-Some-clause-advances
returns-in-Some-clause-advances c =
    let nodes = c.args.nodes.now in
    let old = c.args.partition.now in
    on_ok_both c.merge.result
    (looks_apart nodes c.args.users.now c.requires.users old c.merge.new.partition c.args.node c.args.waiting.now.items c.merge.new.waiting.items c.requires.ready c.in-Some.other
    (found_apart nodes (state_of old) c.args.node c.bucket.result.now c.in-Some.other c.in-Some.ensures))
    c.merge.ensures.joins c.merge.ensures.pairs

pub enter-requires : goal.enter-requires
enter-requires c = bucket_within c.args.nodes.now (state_of c.args.partition.now) c.args.node c.args.bucket c.requires.ready c.requires.bucket

pub returns-in-None-clause-advances : goal.returns-in-None-clause-advances
returns-in-None-clause-advances c =
    let nodes = c.args.nodes.now in
    let old = c.args.partition.now in
    let test = apart_from nodes (label_of (state_of old)) c.args.node in
    on_ok c.enter.result
    (looks_into nodes c.args.users.now c.requires.users old c.enter.new.partition c.args.node c.args.bucket c.args.waiting.now.items c.requires.ready c.requires.bucket (c.in-None.ensures ∙ ap (find test) c.bucket.ensures) c.enter.ensures.pairs)
    c.enter.ensures.enters
