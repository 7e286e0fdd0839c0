use Rattle.std.proofs.Common.{ℕ, ◌∷◌, [], get_or, refl, arith}
use Rattle.std.proofs.lemmas.List.{length-map}
use Rattle.std.proofs.lemmas.Result.{err_from_is_err_and}
use Rattle.df_form.specs.Log.{Step, Schema}
use Rattle.df_form.specs.SequentView.{sequent_of}
use Rattle.df_clause.specs.GroundView.{set_of}
use Rattle.df_clause.proofs.Growing.{goes_on, is_all}
use Rattle.df_trig.specs.Matches.{pair_lines}
use Rattle.df_trig.proofs.PatternLines.{pair_at}
use Rattle.df_trig.proofs.Reaching.{ends_early}
use Rattle.df_trig.proofs.rounds.add_pairs.Goals as goal

pub loop-second-init : goal.loop-second-init
loop-second-init g c = record { so_far = refl; few = c.requires.few }

pub returns-in_err-add_instance : goal.returns-in_err-add_instance
returns-in_err-add_instance g c =
    let p = c.args.pattern.now in
    let others = c.args.others.now in
    let n = c.loop-second.second-index in
    let line : Step = Schema p.schema p.clause (c.args.first ∷ get_or others n 0 ∷ []) in
    let q = err_from_is_err_and c.from_residual.result c.from_residual.ensures.1 in
    rw (q.1, q.2) (ends_early (sequent_of c.args.sequent.now) (set_of c.args.ground.now) (record { sorted = c.len-nodes.ensures.table.sorted }) (pair_lines p c.args.first others) n line (set_of c.loop-second.ground) (set_of c.add_instance.new.ground) c.in_err-add_instance.field-0.0
    (pair_at p c.args.first others n (omega arith)) c.loop-second.invariant.so_far c.in_err-add_instance.ensures)

pub loop-second-preserved : goal.loop-second-preserved
loop-second-preserved g c =
    let p = c.args.pattern.now in
    let others = c.args.others.now in
    let n = c.loop-second.second-index in
    let line : Step = Schema p.schema p.clause (c.args.first ∷ get_or others n 0 ∷ []) in
    let reaches = c.in_ok-add_instance.ensures in
    record {
      so_far = goes_on (sequent_of c.args.sequent.now) (set_of c.args.ground.now) (pair_lines p c.args.first others) n line (set_of c.loop-second.ground) (set_of c.add_instance.new.ground) (pair_at p c.args.first others n (omega arith)) c.loop-second.invariant.so_far reaches.0;
      few = reaches.1;
    }

pub returns : goal.returns
returns g c =
    let p = c.args.pattern.now in
    let others = c.args.others.now in
    let f : ℕ → Step = λ second. Schema p.schema p.clause (c.args.first ∷ second ∷ []) in
    let long = length-map others f in
    (is_all (sequent_of c.args.sequent.now) (set_of c.args.ground.now) (pair_lines p c.args.first others) c.loop-second.second-index (set_of c.loop-second.ground) (omega (arith, long)) c.loop-second.invariant.so_far, c.loop-second.invariant.few)
