use Rattle.std.proofs.Common.{refl}
use Rattle.df_form.specs.SequentView.{sequent_of}
use Rattle.df_search.proofs.proposed.tested.Goals as goal

pub returns-in-Err : goal.returns-in-Err
returns-in-Err c = λ steps. c.without_model.ensures (sequent_of c.args.sequent.now) steps c.args.rounds c.in-Err.ensures.set

pub returns-then-is_model : goal.returns-then-is_model
returns-then-is_model c _ = record { set = c.in-Ok.set; is_of = c.in-Ok.ensures.set; model = c.if-is_model.ensures.0 refl }
