use Rattle.std.proofs.Common.{◌-◌, subst, arith}
use Rattle.std.proofs.lemmas.Result.{err_from_is_err_and}
use Rattle.df_form.specs.SequentView.{sequent_of}
use Rattle.df_clause.specs.GroundSet.{GroundSet}
use Rattle.df_clause.specs.GroundView.{set_of}
use Rattle.df_trig.specs.Rounds.{Reaches}
use Rattle.df_trig.proofs.Rounding.{matches_end_early, more_nodes, round_is, after_matches}
use Rattle.df_trig.proofs.rounds.add_round.Goals as goal

pub returns-in_err-add_matches : goal.returns-in_err-add_matches
returns-in_err-add_matches g c =
    let q = err_from_is_err_and c.from_residual.result c.from_residual.ensures.1 in
    rw (q.1, q.2) (matches_end_early (sequent_of c.args.sequent.now) (set_of c.args.ground.now) (record { sorted = c.len-first.ensures.table.sorted }) (set_of c.add_matches.new.ground) c.in_err-add_matches.field-0.0 c.in_err-add_matches.ensures)

pub overflow_sub-count : goal.overflow_sub-count
overflow_sub-count g c =
    let more = more_nodes (sequent_of c.args.sequent.now) (set_of c.args.ground.now) (record { sorted = c.len-first.ensures.table.sorted }) (set_of c.add_matches.new.ground) c.in_ok-add_matches.ensures.0 in
    omega (arith, more, c.len.ensures.len, c.len-first.ensures.len)

pub add_meanings-requires-clause-within : goal.add_meanings-requires-clause-within
add_meanings-requires-clause-within g c =
    let more = more_nodes (sequent_of c.args.sequent.now) (set_of c.args.ground.now) (record { sorted = c.len-first.ensures.table.sorted }) (set_of c.add_matches.new.ground) c.in_ok-add_matches.ensures.0 in
    omega (arith, more, c.len.ensures.len, c.len-first.ensures.len)

pub returns : goal.returns
returns g c =
    let s = sequent_of c.args.sequent.now in
    let whole = round_is s (set_of c.args.ground.now) (record { sorted = c.len-first.ensures.table.sorted }) (set_of c.add_matches.new.ground) c.len-first.result (c.len.result - c.len-first.result) c.in_ok-add_matches.ensures.0 c.len-first.ensures.len (omega (arith, c.len.ensures.len)) in
    let now = set_of c.add_matches.new.ground in
    let new = set_of c.add_meanings.new.ground in
    after_matches s (set_of c.args.ground.now) (record { sorted = c.len-first.ensures.table.sorted }) now _ new c.add_meanings.result c.in_ok-add_matches.ensures.0
    (subst (λ (x : GroundSet). Reaches now x new c.add_meanings.result) whole (c.add_meanings.ensures s))
