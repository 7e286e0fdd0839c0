use Rattle.std.proofs.Common.{sym, ◌∙◌}
use Rattle.df_classes.specs.mirror.Signs.{are_one}
use Rattle.df_classes.proofs.Stamping.{one_number, slots_same}
use Rattle.df_classes.proofs.slots.Slots.put.Goals as goal

pub returns-in-Some-clause-puts : goal.returns-in-Some-clause-puts
returns-in-Some-clause-puts c = λ e k is less. one_number c.args.nodes.now c.args.self.now.slots.items c.args.label c.args.held c.args.node c.in-Some.other k (sym c.in-Some.ensures) ((λ i. are_one (sym c.number.ensures i) (sym c.number-in-Some.ensures i)) ∙ sym c.are_one_number.ensures ∙ e) is

pub returns-in-Some-clause-keeps : goal.returns-in-Some-clause-keeps
returns-in-Some-clause-keeps c = slots_same c.args.held c.args.self.now.slots.items

pub set-requires : goal.set-requires
set-requires c = sym c.in-None.ensures

pub returns-in_ok-set-in-None-clause-puts : goal.returns-in_ok-set-in-None-clause-puts
returns-in_ok-set-in-None-clause-puts c = λ e k is less. record { other = c.args.node; there = c.in_ok-set-in-None.ensures.sets less; number = is }
