use Rattle.std.proofs.Common.{List, ap, sym, subst}
use Rattle.df_form.specs.Clause.{are_literals}
use Rattle.df_form.specs.Node.{Node}
use Rattle.df_classes.specs.mirror.Clash.{AreNumbers}
use Rattle.df_cong.specs.ClassesView.{IsClasses}
use Rattle.df_cong.proofs.classes.Classes.new.Goals as goal

pub first_signs-requires-clause-numbers : goal.first_signs-requires-clause-numbers
first_signs-requires-clause-numbers c = subst (AreNumbers c.args.nodes.now) (sym c.deref.ensures.value) c.in_ok-numbers.ensures

pub invariant_of-result : goal.invariant_of-result
invariant_of-result c =
    subst (λ (nodes : List Node). IsClasses nodes c.in_ok-users.users c.in_ok-numbers.numbers.items c.in_ok-holding.holding c.in_ok-signs.signs) (sym c.in_ok-copy.ensures) (record {
      users_are = c.in_ok-users.ensures;
      numbers_are = c.in_ok-numbers.ensures;
      literals_are = ap (are_literals c.args.nodes.now) c.in_ok-holding.ensures.held;
      holds = c.in_ok-holding.ensures.holding;
      covered = c.in_ok-signs.ensures;
    })

pub returns : goal.returns
returns c = λ i. record { table = c.in_ok-copy.ensures i; literals = c.in_ok-holding.ensures.held i }
