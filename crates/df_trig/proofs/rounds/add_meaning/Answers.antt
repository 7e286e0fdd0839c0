use Rattle.std.proofs.Common.{[], refl, arith}
use Rattle.std.proofs.lemmas.Result.{err_from_is_err_and}
use Rattle.df_form.specs.Log.{Connective}
use Rattle.df_form.specs.Sequent.{Sequent}
use Rattle.df_clause.specs.Lines.{lines_at}
use Rattle.df_clause.specs.GroundView.{set_of}
use Rattle.df_clause.proofs.Growing.{goes_on, is_all, meaning_line}
use Rattle.df_trig.proofs.Reaching.{ends_early}
use Rattle.df_trig.proofs.rounds.add_meaning.Goals as goal

pub loop-clause-init : goal.loop-clause-init
loop-clause-init c = record { so_far = λ s. refl; few = c.requires.few }

pub returns-in_err-add_connective : goal.returns-in_err-add_connective
returns-in_err-add_connective c = λ s.
    let nodes = c.args.ground.now.nodes in
    let n = c.args.number in
    let k = c.loop-clause.clause in
    let count = c.meaning_count-clause-end.ensures in
    let q = err_from_is_err_and c.from_residual.result c.from_residual.ensures.1 in
    rw (q.1, q.2) (ends_early s (set_of c.args.ground.now) (record { sorted = c.len-nodes.ensures.table.sorted }) (lines_at nodes n) k (Connective n k) (set_of c.loop-clause.ground) (set_of c.add_connective.new.ground) c.in_err-add_connective.field-0.0
    (meaning_line nodes n k (omega (arith, count))) (c.loop-clause.invariant.so_far s) (c.in_err-add_connective.ensures s))

pub loop-clause-preserved : goal.loop-clause-preserved
loop-clause-preserved c =
    let nodes = c.args.ground.now.nodes in
    let n = c.args.number in
    let k = c.loop-clause.clause in
    let count = c.meaning_count-clause-end.ensures in
    let any : Sequent = record { world = record { newtypes = [] }; nodes = []; hypotheses = []; goal = 0 } in
    record {
      so_far = λ s. goes_on s (set_of c.args.ground.now) (lines_at nodes n) k (Connective n k) (set_of c.loop-clause.ground) (set_of c.add_connective.new.ground) (meaning_line nodes n k (omega (arith, count))) (c.loop-clause.invariant.so_far s) (c.in_ok-add_connective.ensures s).0;
      few = (c.in_ok-add_connective.ensures any).1;
    }

pub returns : goal.returns
returns c = λ s.
    let nodes = c.args.ground.now.nodes in
    let n = c.args.number in
    let count = c.meaning_count-clause-end.ensures in
    (is_all s (set_of c.args.ground.now) (lines_at nodes n) c.loop-clause.clause (set_of c.loop-clause.ground) (omega (arith, count)) (c.loop-clause.invariant.so_far s), c.loop-clause.invariant.few)
