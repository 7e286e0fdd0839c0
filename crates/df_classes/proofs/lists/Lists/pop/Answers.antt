use Rattle.std.proofs.Common.{◌∙◌, ap, arith}
use Rattle.df_classes.specs.mirror.State.{popped}
use Rattle.df_classes.proofs.Starting.{listed_popped}
use Rattle.df_classes.proofs.Results.{without_last_of}
use Rattle.df_classes.proofs.lists.Lists.pop.Goals as goal

pub returns-then-number-len : goal.returns-then-number-len
returns-then-number-len c =
    listed_popped (λ list. list.items) c.self.inside.lists.items c.args.number c.index_mut.result.now c.pop-last.new.self (omega arith) c.index_mut.ensures.value
    (without_last_of c.index_mut.result.now.items c.pop-last.new.self.items c.index_mut.result.now.len c.pop-last.ensures.rest (omega (arith, c.index_mut.result.now.ok.0, c.index_mut.result.now.ok.1)))
    ∙ ap (λ lists. popped lists c.args.number) c.self.view_is
