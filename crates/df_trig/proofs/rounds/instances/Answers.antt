use Rattle.std.proofs.Common.{◌≡◌, ap, sym, subst, ◌∙◌, arith, length}
use Rattle.std.proofs.lemmas.List.{length-map}
use Rattle.std.proofs.lemmas.Result.{err_from_is_err_and}
use Rattle.df_form.specs.Log.{step_of}
use Rattle.df_form.specs.SequentView.{sequent_of}
use Rattle.df_clause.specs.GroundSet.{GroundSet}
use Rattle.df_clause.specs.GroundView.{set_of}
use Rattle.df_trig.specs.Instances.{instances}
use Rattle.df_trig.proofs.Grounds.{instances_stand}
use Rattle.df_trig.proofs.Rounding.{one_more, too_many}
use Rattle.df_trig.proofs.rounds.instances.Goals as goal

pub returns-in_err-ground-clause-set : goal.returns-in_err-ground-clause-set
returns-in_err-ground-clause-set g c =
    let q = err_from_is_err_and c.from_residual.result c.from_residual.ensures.1 in
    rw (q.1, q.2) tt

pub loop-done-init : goal.loop-done-init
loop-done-init g c = c.in_ok-ground.ensures.set

pub returns-in_err-round-clause-set : goal.returns-in_err-round-clause-set
returns-in_err-round-clause-set g c =
    let q = err_from_is_err_and c.from_residual-in_err-round.result c.from_residual-in_err-round.ensures.1 in
    rw (q.1, q.2) (too_many (sequent_of c.args.sequent.now) c.args.sequent.now.is_sequent c.loop-done._done c.args.rounds (set_of c.loop-done.ground) (set_of c.round.new.ground) c.in_err-round.field-0.0 (omega arith) c.loop-done.invariant c.in_err-round.ensures)

pub loop-done-preserved : goal.loop-done-preserved
loop-done-preserved g c = one_more (sequent_of c.args.sequent.now) c.args.sequent.now.is_sequent c.loop-done._done (set_of c.loop-done.ground) (set_of c.round.new.ground) c.in_ok-round.field-0 c.loop-done.invariant c.in_ok-round.ensures

pub returns-clause-set : goal.returns-clause-set
returns-clause-set g c =
    let all : c.loop-done._done ≡ c.args.rounds = omega arith in
    record { set = c.loop-done.invariant ∙ ap (instances (sequent_of c.args.sequent.now)) all; table = c.len-nodes.ensures.table }

pub returns-clause-lines : goal.returns-clause-lines
returns-clause-lines g c =
    let stands = instances_stand (sequent_of c.args.sequent.now) c.args.sequent.now.is_sequent c.loop-done._done in
    let long = subst (λ (x : GroundSet). length x.clauses ≡ length x.lines) (sym c.loop-done.invariant) stands.long in
    long ∙ length-map c.loop-done.ground.lines.items step_of
