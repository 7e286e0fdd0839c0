use Rattle.std.proofs.Common.{◌∙◌, ap}
use Rattle.df_classes.specs.mirror.State.{pushed}
use Rattle.df_classes.proofs.Starting.{listed_pushed, listed_same, listed_inside}
use Rattle.df_classes.proofs.Results.{on_err}
use Rattle.df_classes.proofs.lists.Lists.push.Goals as goal

pub returns-in_err-push-clause-err : goal.returns-in_err-push-clause-err
returns-in_err-push-clause-err c =
    on_err c.from_residual.result
    (listed_same (λ list. list.items) c.self.inside.lists.items c.args.number c.index_mut.result.now c.push.new.self (listed_inside (λ list. list.items) c.self.inside.lists.items c.args.self.now c.args.number c.self.view_is c.requires) c.index_mut.ensures.value c.in_err-push.ensures.items ∙ c.self.view_is)

pub returns-clause-pushed : goal.returns-clause-pushed
returns-clause-pushed c =
    listed_pushed (λ list. list.items) c.self.inside.lists.items c.args.number c.index_mut.result.now c.push.new.self (listed_inside (λ list. list.items) c.self.inside.lists.items c.args.self.now c.args.number c.self.view_is c.requires) c.index_mut.ensures.value c.args.member c.in_ok-push.ensures.items
    ∙ ap (λ lists. pushed lists c.args.number c.args.member) c.self.view_is
