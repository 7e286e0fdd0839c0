use Rattle.std.proofs.Common.{sym, ◌∙◌}
use Rattle.std.proofs.lemmas.Bool.{eqb-true}
use Rattle.df_form.specs.SequentView.{sequent_of}
use Rattle.df_clause.specs.GroundView.{set_of}
use Rattle.df_trig.proofs.Settled.{round_adds_nothing}
use Rattle.df_search.proofs.exhausting.adds_nothing.Goals as goal

pub returns-in-Ok : goal.returns-in-Ok
returns-in-Ok c = λ nothing.
    let same = eqb-true c.len.result c.len-size.result nothing in
    round_adds_nothing (sequent_of c.args.sequent.now) (set_of c.args.ground.now) (set_of c.round.new.ground) c.in-Ok.field-0 c.in-Ok.ensures (sym c.len.ensures.len ∙ same ∙ c.len-size.ensures.len)
