use Rattle.std.proofs.Common.{◌≡◌, true, Option, IfOk, subst}
use Rattle.df_classes.specs.declared.partition.Change.{Change}
use Rattle.df_classes.specs.PartitionView.{state_of}
use Rattle.df_classes.specs.SignsView.{tables_of}
use Rattle.df_classes.specs.mirror.State.{label_of}
use Rattle.df_classes.specs.mirror.Signs.{Carries}
use Rattle.df_classes.proofs.Stamping.{tables_same}
use Rattle.df_classes.proofs.signs.Signs.carry.Goals as goal

pub returns-in-Some-clause-carries : goal.returns-in-Some-clause-carries
returns-in-Some-clause-carries c =
    subst (λ (change : Option Change). IfOk c.carry_change.result (λ calm. calm ≡ true → Carries c.args.nodes.now (label_of (state_of c.args.partition.now)) c.args.held change (tables_of c.args.self.now) (tables_of c.carry_change.new.self)))
    c.in-Some.ensures
    c.carry_change.ensures.carries

pub returns-in-None-clause-carries : goal.returns-in-None-clause-carries
returns-in-None-clause-carries c = λ e.
    subst (λ (change : Option Change). Carries c.args.nodes.now (label_of (state_of c.args.partition.now)) c.args.held change (tables_of c.args.self.now) (tables_of c.args.self.now)) c.in-None.ensures tt

pub returns-in-None-clause-keeps : goal.returns-in-None-clause-keeps
returns-in-None-clause-keeps c = tables_same c.args.held (tables_of c.args.self.now)
