use Rattle.std.proofs.lemmas.Result.{err_from_is_err_and}
use Rattle.df_form.specs.Log.{Schema}
use Rattle.df_form.specs.SequentView.{sequent_of}
use Rattle.df_clause.specs.GroundView.{set_of}
use Rattle.df_trig.proofs.Instancing.{unchanged}
use Rattle.df_trig.proofs.Reaching.{told}
use Rattle.df_trig.proofs.rounds.add_instance.Goals as goal

pub returns-in_err-add_clause : goal.returns-in_err-add_clause
returns-in_err-add_clause g c =
    let p = c.args.pattern.now in
    let q = err_from_is_err_and c.from_residual.result c.from_residual.ensures.1 in
    rw (q.1, q.2) (unchanged (sequent_of c.args.sequent.now) (set_of c.args.ground.now) (set_of c.add_clause.new.ground) (Schema p.schema p.clause c.args.terms.now) (record { sorted = c.len-nodes.ensures.table.sorted }) c.in_err-add_clause.ensures)

pub returns : goal.returns
returns g c =
    let p = c.args.pattern.now in
    told (sequent_of c.args.sequent.now) (set_of c.args.ground.now) (set_of c.add_clause.new.ground) (Schema p.schema p.clause c.args.terms.now) c.tell_few.result (record { sorted = c.len-nodes.ensures.table.sorted }) c.requires.few c.in_ok-add_clause.ensures c.tell_few.ensures
