use Rattle.std.proofs.Common.{[], refl, ap, ◌∙◌, arith, ◌≡◌, ℕ}
use Rattle.std.specs.List.{range_with_len}
use Rattle.std.proofs.lemmas.Result.{err_from_is_err_and}
use Rattle.df_form.specs.Sequent.{Sequent}
use Rattle.df_clause.specs.GroundSet.{with_meanings}
use Rattle.df_clause.specs.GroundView.{set_of}
use Rattle.df_clause.proofs.Growing.{meaning_more}
use Rattle.df_trig.proofs.Reaching.{meanings_end_early}
use Rattle.df_trig.proofs.rounds.add_meanings.Goals as goal

pub loop-place-init : goal.loop-place-init
loop-place-init c = record { so_far = λ s. refl; few = c.requires.few }

pub returns-in_err-add_meaning : goal.returns-in_err-add_meaning
returns-in_err-add_meaning c = λ s.
    let k = c.loop-place.place in
    let q = err_from_is_err_and c.from_residual.result c.from_residual.ensures.1 in
    rw (q.1, q.2) (meanings_end_early s (set_of c.args.ground.now) (record { sorted = c.len-nodes.ensures.table.sorted }) c.args.first c.args.count k (set_of c.loop-place.ground) (set_of c.add_meaning.new.ground) c.in_err-add_meaning.field-0.0
    (omega arith) (c.loop-place.invariant.so_far s) (c.in_err-add_meaning.ensures s))

pub loop-place-preserved : goal.loop-place-preserved
loop-place-preserved c =
    let any : Sequent = record { world = record { newtypes = [] }; nodes = []; hypotheses = []; goal = 0 } in
    record {
      so_far = λ s. meaning_more s (set_of c.args.ground.now) (set_of c.loop-place.ground) (set_of c.add_meaning.new.ground) c.args.first c.loop-place.place (c.loop-place.invariant.so_far s) (c.in_ok-add_meaning.ensures s).0;
      few = (c.in_ok-add_meaning.ensures any).1;
    }

pub returns : goal.returns
returns c = λ s.
    let all : c.loop-place.place ≡ c.args.count = omega arith in
    (c.loop-place.invariant.so_far s ∙ ap (λ (k : ℕ). with_meanings s (set_of c.args.ground.now) (range_with_len c.args.first k)) all, c.loop-place.invariant.few)
