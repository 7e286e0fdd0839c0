use Rattle.std.proofs.Common.{length, get_or, pos, refl, ◌∙◌, arith}
use Rattle.std.proofs.lemmas.Option.{slice_get-get_or}
use Rattle.std.proofs.lemmas.Result.{err_from_is_err_and}
use Rattle.df_form.specs.SequentView.{sequent_of}
use Rattle.df_clause.specs.GroundView.{set_of}
use Rattle.df_form.specs.declared.node.Op.TheVariants as ops
use Rattle.df_trig.specs.declared.pattern.Pattern.{Pattern}
use Rattle.df_trig.specs.Matches.{pattern_lines}
use Rattle.df_trig.proofs.Indexed.{index_stays}
use Rattle.df_trig.proofs.PatternLines.{op_stays}
use Rattle.df_trig.proofs.Reaching.{lists_go_on, lists_end_early, lists_all, lists_grow}
use Rattle.df_trig.proofs.rounds.add_patterns.Goals as goal

pub loop-pattern-init : goal.loop-pattern-init
loop-pattern-init g c = record { so_far = refl; few = c.requires.few }

pub add_pattern-requires-clause-index : goal.add_pattern-requires-clause-index
add_pattern-requires-clause-index g c =
    let s = sequent_of c.args.sequent.now in
    let f = pattern_lines s.world (length c.args.lists.now) c.args.first in
    let grown = lists_grow s (set_of c.args.ground.now) (record { sorted = c.len-nodes.ensures.table.sorted }) f c.args.list.now c.loop-pattern.pattern-index (set_of c.loop-pattern.ground) c.loop-pattern.invariant.so_far in
    index_stays c.args.ground.now.nodes c.loop-pattern.ground.nodes c.args.lists.now grown c.requires.index

pub add_pattern-requires-clause-op : goal.add_pattern-requires-clause-op
add_pattern-requires-clause-op g c =
    let s = sequent_of c.args.sequent.now in
    let n = c.loop-pattern.pattern-index in
    let f = pattern_lines s.world (length c.args.lists.now) c.args.first in
    let grown = lists_grow s (set_of c.args.ground.now) (record { sorted = c.len-nodes.ensures.table.sorted }) f c.args.list.now n (set_of c.loop-pattern.ground) c.loop-pattern.invariant.so_far in
    let within = c.requires.index.within in
    let none : Pattern = record { op = ops.Number (pos 0); schema = 0; clause = 0 } in
    op_stays c.args.ground.now.nodes c.loop-pattern.ground.nodes c.args.first grown (omega (arith, within, c.requires.first))
    ∙ c.requires.ops (get_or c.args.list.now n none) (n, slice_get-get_or c.args.list.now n none (omega arith))

pub returns-in_err-add_pattern : goal.returns-in_err-add_pattern
returns-in_err-add_pattern g c =
    let s = sequent_of c.args.sequent.now in
    let n = c.loop-pattern.pattern-index in
    let f = pattern_lines s.world (length c.args.lists.now) c.args.first in
    let q = err_from_is_err_and c.from_residual.result c.from_residual.ensures.1 in
    rw (q.1, q.2) (lists_end_early s (set_of c.args.ground.now) (record { sorted = c.len-nodes.ensures.table.sorted }) f c.args.list.now n _ (set_of c.loop-pattern.ground) (set_of c.add_pattern.new.ground) c.in_err-add_pattern.field-0.0
    (slice_get-get_or c.args.list.now n _ (omega arith)) c.loop-pattern.invariant.so_far c.in_err-add_pattern.ensures)

pub loop-pattern-preserved : goal.loop-pattern-preserved
loop-pattern-preserved g c =
    let s = sequent_of c.args.sequent.now in
    let n = c.loop-pattern.pattern-index in
    let f = pattern_lines s.world (length c.args.lists.now) c.args.first in
    let reaches = c.in_ok-add_pattern.ensures in
    record {
      so_far = lists_go_on s (set_of c.args.ground.now) (record { sorted = c.len-nodes.ensures.table.sorted }) f c.args.list.now n _ (set_of c.loop-pattern.ground) (set_of c.add_pattern.new.ground)
          (slice_get-get_or c.args.list.now n _ (omega arith)) c.loop-pattern.invariant.so_far reaches.0;
      few = reaches.1;
    }

pub returns : goal.returns
returns g c =
    let s = sequent_of c.args.sequent.now in
    let f = pattern_lines s.world (length c.args.lists.now) c.args.first in
    (lists_all s (set_of c.args.ground.now) (record { sorted = c.len-nodes.ensures.table.sorted }) f c.args.list.now c.loop-pattern.pattern-index (set_of c.loop-pattern.ground) (omega arith) c.loop-pattern.invariant.so_far, c.loop-pattern.invariant.few)
