use Rattle.std.proofs.Common.{arith}
use Rattle.std.proofs.lemmas.Result.{err_from_is_err_and}
use Rattle.df_form.specs.SequentView.{sequent_of}
use Rattle.df_form.proofs.Values.{AreSorted}
use Rattle.df_clause.specs.GroundView.{set_of}
use Rattle.df_trig.proofs.Rounding.{round_full, round_ends, no_fewer, round_adds}
use Rattle.df_trig.proofs.rounds.round.Goals as goal

pub returns-in_err-tell_few : goal.returns-in_err-tell_few
returns-in_err-tell_few g c =
    let q = err_from_is_err_and c.from_residual.result c.from_residual.ensures.1 in
    rw (q.1, q.2) (round_full (sequent_of c.args.sequent.now) (set_of c.args.ground.now) (record { sorted = c.len-nodes.ensures.table.sorted }) c.in_err-tell_few.field-0.0 c.in_err-tell_few.ensures)

pub returns-in_err-add_round : goal.returns-in_err-add_round
returns-in_err-add_round g c =
    let q = err_from_is_err_and c.from_residual-in_err-add_round.result c.from_residual-in_err-add_round.ensures.1 in
    rw (q.1, q.2) (round_ends (sequent_of c.args.sequent.now) (set_of c.args.ground.now) (record { sorted = c.len-nodes.ensures.table.sorted }) (set_of c.add_round.new.ground) c.in_ok-tell_few.ensures c.in_err-add_round.field-0.0 c.in_err-add_round.ensures)

pub overflow_sub-added : goal.overflow_sub-added
overflow_sub-added g c =
    let more = no_fewer (sequent_of c.args.sequent.now) (set_of c.args.ground.now) (record { sorted = c.len-nodes.ensures.table.sorted }) (set_of c.add_round.new.ground) c.in_ok-tell_few.ensures c.in_ok-add_round.ensures in
    omega (arith, more, c.instance_count.ensures, c.instance_count-before.ensures)

pub returns : goal.returns
returns g c =
    let s = sequent_of c.args.sequent.now in
    let sorted : AreSorted c.args.ground.now.nodes = record { sorted = c.len-nodes.ensures.table.sorted } in
    let more = no_fewer s (set_of c.args.ground.now) sorted (set_of c.add_round.new.ground) c.in_ok-tell_few.ensures c.in_ok-add_round.ensures in
    round_adds s (set_of c.args.ground.now) sorted (set_of c.add_round.new.ground) c.in_ok-tell_few.ensures _ c.in_ok-add_round.ensures (omega (arith, more, c.instance_count.ensures, c.instance_count-before.ensures))
