use Rattle.std.proofs.Common.{List, ◌∙◌, subst, reverse}
use Rattle.std.proofs.lemmas.List.{append-nil}
use Rattle.df_groups2.specs.declared.finishing.Step.{Step}
use Rattle.df_groups2.specs.GraphView.{targets_of}
use Rattle.df_groups2.specs.Searching.{IsSearching}
use Rattle.df_groups2.proofs.finishing.Search.run.Goals as goal

pub loop-step-preserved : goal.loop-step-preserved
loop-step-preserved c = λ count s.
    c.in_ok-take.ensures.keeps count
    (subst (λ (steps : List Step). IsSearching (targets_of c.args.graph.now) count c.loop-step.self.entered.items steps (reverse c.loop-step.self.finished.items)) c.in-Some.ensures.items (c.loop-step.invariant count s))

pub returns-clause-keeps : goal.returns-clause-keeps
returns-clause-keeps c = λ count s.
    subst (λ (steps : List Step). IsSearching (targets_of c.args.graph.now) count c.loop-step.self.entered.items steps (reverse c.loop-step.self.finished.items)) (c.in_default.ensures.items ∙ append-nil c.pop.new.self.items) (c.loop-step.invariant count s)
