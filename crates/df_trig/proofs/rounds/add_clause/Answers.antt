use Rattle.std.proofs.Common.{ℕ, List, refl, ap}
use Rattle.std.proofs.lemmas.Result.{err_from_is_err_and}
use Rattle.df_form.specs.Log.{Schema}
use Rattle.df_form.specs.SequentView.{sequent_of}
use Rattle.df_trig.proofs.Instancing.{schema_kept, schema_lacks}
use Rattle.df_trig.proofs.rounds.add_clause.Goals as goal

pub returns-in_err-copy : goal.returns-in_err-copy
returns-in_err-copy g c = let p = err_from_is_err_and c.from_residual.result c.from_residual.ensures.1 in rw (p.1) refl

pub returns-in-Ok : goal.returns-in-Ok
returns-in-Ok g c =
    let p = c.args.pattern.now in
    schema_kept (sequent_of c.args.sequent.now) c.args.ground.now c.keep.new.self c.clause_of.new.nodes p.schema p.clause c.args.terms.now c.len-before.result (Schema p.schema p.clause c.in_ok-copy.copy.items) c.in-Ok.literals.items c.keep.result
    (record { sorted = c.len-before.ensures.table.sorted }) c.in-Ok.ensures c.len-before.ensures.len (ap (λ (terms : List ℕ). Schema p.schema p.clause terms) c.in_ok-copy.ensures.items) c.keep.ensures

pub returns-in-Err-NoSuch : goal.returns-in-Err-NoSuch
returns-in-Err-NoSuch g c =
    let p = c.args.pattern.now in
    let told = rw c.in-Err-NoSuch.field-0-is at c.in-Err-NoSuch.ensures in
    schema_lacks (sequent_of c.args.sequent.now) c.args.ground.now c.args.ground.now c.clause_of.new.nodes p.schema p.clause c.args.terms.now told.0 told.1
