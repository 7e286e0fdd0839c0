use Rattle.std.proofs.Common.{List, length, Err, refl, ap, ◌∙◌, subst, arith}
use Rattle.std.specs.List.{range_with_len}
use Rattle.std.proofs.lemmas.List.FromFn.{length-range_with_len}
use Rattle.std.proofs.lemmas.Result.{err_from_is_err_and}
use Rattle.df_form.specs.Log.{Step}
use Rattle.df_form.specs.SequentView.{sequent_of}
use Rattle.df_clause.specs.GroundSet.{with_lines}
use Rattle.df_clause.specs.GroundView.{set_of}
use Rattle.df_trig.specs.Matches.{first_lines}
use Rattle.df_trig.specs.Rounds.{Reaches}
use Rattle.df_trig.proofs.Indexed.{index_stays}
use Rattle.df_trig.proofs.PatternLines.{first_lines_stay, number_at_place}
use Rattle.df_trig.proofs.Reaching.{lists_go_on, lists_end_early, lists_all, lists_grow}
use Rattle.df_trig.proofs.rounds.add_firsts.Goals as goal

pub loop-first-init : goal.loop-first-init
loop-first-init g c = record { so_far = refl; few = c.requires.few }

pub add_first-requires-clause-index : goal.add_first-requires-clause-index
add_first-requires-clause-index g c =
    let s = sequent_of c.args.sequent.now in
    let count = length c.args.lists.now in
    let f = first_lines s.world count c.args.ground.now.nodes in
    let grown = lists_grow s (set_of c.args.ground.now) (record { sorted = c.len-nodes.ensures.table.sorted }) f (range_with_len 0 count) c.loop-first.first (set_of c.loop-first.ground) c.loop-first.invariant.so_far in
    index_stays c.args.ground.now.nodes c.loop-first.ground.nodes c.args.lists.now grown c.requires.index

pub returns-in_err-add_first : goal.returns-in_err-add_first
returns-in_err-add_first g c =
    let s = sequent_of c.args.sequent.now in
    let count = length c.args.lists.now in
    let n = c.loop-first.first in
    let less = c.len-first-end.ensures in
    let within = c.requires.index.within in
    let f = first_lines s.world count c.args.ground.now.nodes in
    let now = set_of c.loop-first.ground in
    let grown = lists_grow s (set_of c.args.ground.now) (record { sorted = c.len-nodes.ensures.table.sorted }) f (range_with_len 0 count) n now c.loop-first.invariant.so_far in
    let same = first_lines_stay s.world count c.args.ground.now.nodes c.loop-first.ground.nodes n grown (omega (arith, within, less)) in
    let q = err_from_is_err_and c.from_residual.result c.from_residual.ensures.1 in
    rw (q.1, q.2) (lists_end_early s (set_of c.args.ground.now) (record { sorted = c.len-nodes.ensures.table.sorted }) f (range_with_len 0 count) n n now (set_of c.add_first.new.ground) c.in_err-add_first.field-0.0
    (number_at_place count n (omega (arith, less))) c.loop-first.invariant.so_far
    (subst (λ (ls : List Step). Reaches {A = Unit {0}} now (with_lines s now ls) (set_of c.add_first.new.ground) (Err c.in_err-add_first.field-0.0)) same c.in_err-add_first.ensures))

pub loop-first-preserved : goal.loop-first-preserved
loop-first-preserved g c =
    let s = sequent_of c.args.sequent.now in
    let count = length c.args.lists.now in
    let n = c.loop-first.first in
    let less = c.len-first-end.ensures in
    let within = c.requires.index.within in
    let f = first_lines s.world count c.args.ground.now.nodes in
    let now = set_of c.loop-first.ground in
    let grown = lists_grow s (set_of c.args.ground.now) (record { sorted = c.len-nodes.ensures.table.sorted }) f (range_with_len 0 count) n now c.loop-first.invariant.so_far in
    let same = first_lines_stay s.world count c.args.ground.now.nodes c.loop-first.ground.nodes n grown (omega (arith, within, less)) in
    let reaches = c.in_ok-add_first.ensures in
    record {
      so_far = lists_go_on s (set_of c.args.ground.now) (record { sorted = c.len-nodes.ensures.table.sorted }) f (range_with_len 0 count) n n now (set_of c.add_first.new.ground)
          (number_at_place count n (omega (arith, less))) c.loop-first.invariant.so_far (reaches.0 ∙ ap (with_lines s now) same);
      few = reaches.1;
    }

pub returns : goal.returns
returns g c =
    let s = sequent_of c.args.sequent.now in
    let count = length c.args.lists.now in
    let f = first_lines s.world count c.args.ground.now.nodes in
    let long = length-range_with_len 0 count in
    let most = c.len-first-end.ensures in
    (lists_all s (set_of c.args.ground.now) (record { sorted = c.len-nodes.ensures.table.sorted }) f (range_with_len 0 count) c.loop-first.first (set_of c.loop-first.ground) (omega (arith, long, most)) c.loop-first.invariant.so_far, c.loop-first.invariant.few)
