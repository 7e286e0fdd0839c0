use Rattle.std.proofs.Common.{map, refl}
use Rattle.df_form.specs.Log.{step_of}
use Rattle.df_form.specs.SequentView.{sequent_of}
use Rattle.df_clause.specs.declared.ground.Ground.{Ground}
use Rattle.df_clause.specs.GroundView.{set_of}
use Rattle.df_clause.proofs.Growing.{gathered}
use Rattle.df_clause.proofs.ground.clauses.Goals as goal

pub returns-clause-set : goal.returns-clause-set
returns-clause-set c =
    let s = sequent_of c.args.sequent.now in
    let none : Ground = record { nodes = c.over.result; clauses = c.new.result; lines = c.new-2.result } in
    gathered s (set_of none) (set_of c.add_hypotheses.new.self) (set_of c.add_goal.new.self) (set_of c.add_meanings.new.self) c.len.result
    (λ i. record { nodes = c.over.ensures i; clauses = c.new.ensures i; lines = map step_of (c.new-2.ensures.items i) })
    c.in_ok-add_hypotheses.ensures (c.in_ok-add_goal.ensures s refl) (c.in_ok-add_meanings.ensures s) c.len.ensures.len
