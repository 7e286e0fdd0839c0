use Rattle.std.proofs.Common.{◌≡◌, ◌∙◌, ◌++◌, ◌∷◌, [], ◌-◌, ◌<◌, ◌^◌, sym, ap, subst, length, None, true}
use Rattle.df_form.specs.Node.{Node, number_of}
use Rattle.df_form.specs.Sorting.{is_well_sorted}
use Rattle.df_form.specs.Offset.{of_parts, offset_of}
use Rattle.df_form.proofs.Pushing.{IsPushed, is_pushed, number-not-behind}
use Rattle.df_form.proofs.over.OverArena.push.Goals as goal

pub push_node-requires : goal.push_node-requires
push_node-requires c =
    let node : Node = record { op = c.args.op; parts = c.args.parts.now } in
    number-not-behind c.self.inside.front c.self.inside.own node (subst (λ nodes. number_of nodes node ≡ None) (sym c.self.view_is) c.requires.new)

abbrev node : goal.In_ok-push_node → Node
node c = record { op = c.args.op; parts = c.args.parts.now }

pushed : (c : goal.In_ok-push_node) → IsPushed c.self.inside.front c.self.inside.own c.push_node.new.own (node c) c.push_node.new.offsets.items
pushed c =
    is_pushed c.self.inside.front c.self.inside.own c.push_node.new.own (node c) c.self.inside.offsets.items c.push_node.new.offsets.items c.args.offset
    c.self.invariant.0
    (subst (λ nodes. number_of nodes (node c) ≡ None) (sym c.self.view_is) c.requires.new)
    (subst (λ nodes. is_well_sorted nodes (node c) ≡ true) (sym c.self.view_is) c.requires.sorted)
    (subst (λ nodes. length nodes < 2 ^ 63 - 1) (sym c.self.view_is) c.requires.room)
    c.self.invariant.2
    (subst (λ nodes. c.args.offset ≡ of_parts (offset_of nodes) (length nodes) c.args.op c.args.parts.now) (sym c.self.view_is) c.requires.offset)
    c.in_ok-push_node.ensures.own c.in_ok-push_node.ensures.offsets

pub invariant_of-self-2 : goal.invariant_of-self-2
invariant_of-self-2 c = let all = pushed c in (all.table, all.small, all.known)

pub returns-clause-pushed : goal.returns-clause-pushed
returns-clause-pushed c = (pushed c).whole ∙ ap (λ nodes. nodes ++ node c ∷ []) c.self.view_is
