use Rattle.std.proofs.Common.{◌≡◌, ◌++◌, true, false, rules, ap, ◌∙◌}
use Rattle.std.specs.Option.{is_none}
use Rattle.df_groups2.specs.GraphView.{targets_of}
use Rattle.df_groups2.specs.Filling.{group_in}
use Rattle.df_groups2.proofs.Fillings.{filling_takes, filling_skips, taking_falls, free_from_test, group_from_test}
use Rattle.df_groups2.proofs.components.Grouping.take.Goals as goal

pub returns-in_ok-extend_from_slice-clause-keeps : goal.returns-in_ok-extend_from_slice-clause-keeps
returns-in_ok-extend_from_slice-clause-keeps c = λ root old s.
    let test : is_none (group_in c.args.self.now.groups.items c.args.vertex) ≡ true = search rules in
    let added : c.extend_from_slice.new.self.items ≡ c.args.pending.now.items ++ targets_of c.args.graph.now c.args.vertex = c.in_ok-extend_from_slice.ensures.items ∙ ap (λ xs. c.args.pending.now.items ++ xs) c.targets.ensures in
    rw added
    (filling_takes (targets_of c.args.graph.now) root c.args.self.now.count old c.args.self.now.groups.items c.args.pending.now.items c.args.vertex (free_from_test c.args.self.now.groups.items c.args.vertex test) s)

pub returns-in_ok-extend_from_slice-clause-falls : goal.returns-in_ok-extend_from_slice-clause-falls
returns-in_ok-extend_from_slice-clause-falls c =
    let test : is_none (group_in c.args.self.now.groups.items c.args.vertex) ≡ true = search rules in
    let added : c.extend_from_slice.new.self.items ≡ c.args.pending.now.items ++ targets_of c.args.graph.now c.args.vertex = c.in_ok-extend_from_slice.ensures.items ∙ ap (λ xs. c.args.pending.now.items ++ xs) c.targets.ensures in
    rw added
    (taking_falls (targets_of c.args.graph.now) c.args.self.now.groups.items c.args.pending.now.items c.args.vertex c.args.self.now.count (free_from_test c.args.self.now.groups.items c.args.vertex test))

pub returns-else-is_free-clause-keeps : goal.returns-else-is_free-clause-keeps
returns-else-is_free-clause-keeps c = λ root old s.
    let test : is_none (group_in c.args.self.now.groups.items c.args.vertex) ≡ false = search rules in
    let has = group_from_test c.args.self.now.groups.items c.args.vertex test in
    filling_skips (targets_of c.args.graph.now) root c.args.self.now.count old c.args.self.now.groups.items c.args.pending.now.items c.args.vertex has.0 has.1 s
