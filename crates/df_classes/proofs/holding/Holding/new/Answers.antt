use Rattle.std.proofs.Common.{List, [], sym, subst, ap, ◌∙◌}
use Rattle.df_form.specs.declared.log.Lit.{Lit}
use Rattle.df_classes.specs.declared.holding.Level.{Level}
use Rattle.df_classes.specs.HoldingView.{IsHolding}
use Rattle.df_classes.specs.mirror.State.{counted_from}
use Rattle.df_classes.specs.PartitionView.{state_of}
use Rattle.df_classes.proofs.Holds.{ready_alone, holding_none}
use Rattle.df_classes.proofs.holding.Holding.new.Goals as goal

pub close-requires-clause-ready : goal.close-requires-clause-ready
close-requires-clause-ready c = ready_alone c.args.nodes.now (state_of c.in_ok-partition.partition) c.len.result c.len.ensures.len c.in_ok-partition.ensures.state

pub returns-clause-holding : goal.returns-clause-holding
returns-clause-holding c =
    let nodes = c.args.nodes.now in
    let new = c.close.new.partition in
    let holds : IsHolding nodes [] [] new =
    holding_none nodes c.in_ok-partition.partition new c.in_ok-waiting.waiting.items c.len.result c.len.ensures.len c.in_ok-partition.ensures.state c.in_ok-partition.ensures.pairs (c.in_ok-waiting.ensures ∙ ap (counted_from 0) (c.len-2.ensures.len ∙ sym c.len.ensures.len))
    c.in_ok-close.ensures.closes in
    subst (λ (held : List Lit). IsHolding nodes held c.new-3.result.items new) (sym c.new-2.ensures.items) (subst (λ (levels : List Level). IsHolding nodes [] levels new) (sym c.new-3.ensures.items) holds)
