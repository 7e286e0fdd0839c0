use Rattle.std.proofs.lemmas.Result.{err_from_is_err_and}
use Rattle.df_form.specs.Log.{Connective}
use Rattle.df_clause.specs.GroundView.{set_of}
use Rattle.df_trig.proofs.Instancing.{unchanged}
use Rattle.df_trig.proofs.Reaching.{told}
use Rattle.df_trig.proofs.rounds.add_connective.Goals as goal

pub returns-in_err-add_connective : goal.returns-in_err-add_connective
returns-in_err-add_connective c = λ s.
    let q = err_from_is_err_and c.from_residual.result c.from_residual.ensures.1 in
    rw (q.1, q.2) (unchanged s (set_of c.args.ground.now) (set_of c.add_connective.new.self) (Connective c.args.number c.args.clause) (record { sorted = c.len-nodes.ensures.table.sorted }) c.in_err-add_connective.ensures)

pub returns : goal.returns
returns c = λ s.
    told s (set_of c.args.ground.now) (set_of c.add_connective.new.self) (Connective c.args.number c.args.clause) c.tell_few.result (record { sorted = c.len-nodes.ensures.table.sorted }) c.requires.few (c.in_ok-add_connective.ensures s) c.tell_few.ensures
