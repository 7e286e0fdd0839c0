use Rattle.std.proofs.Common.{List, ℕ, subst, length}
use Rattle.std.proofs.lemmas.Result.{IfOk-weaker}
use Rattle.df_types.specs.View.{program_of}
use Rattle.df_types.specs.Calls.{AreGroups}
use Rattle.df_groups2.specs.Graph.{targets_in}
use Rattle.df_groups2.specs.GraphView.{lists_of, targets_of}
use Rattle.df_groups2.specs.Grouping.{AreComponents}
use Rattle.df_groups2.proofs.Reaching.{components_are_groups}
use Rattle.df_groups2.proofs.program.groups.Goals as goal

pub returns : goal.returns
returns c =
    IfOk-weaker c.components.result (λ groups. AreComponents (targets_of c.in_ok-graph.graph) (length (lists_of c.in_ok-graph.graph)) groups.items) (λ groups. AreGroups (program_of c.args.program.now) groups.items)
    (λ groups s. components_are_groups (program_of c.args.program.now) groups.items (subst (λ (lists : List (List ℕ)). AreComponents (targets_in lists) (length lists) groups.items) c.in_ok-graph.ensures s)) c.components.ensures
