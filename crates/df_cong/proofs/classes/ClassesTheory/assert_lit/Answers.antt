use Rattle.std.proofs.Common.{◌≡◌, [], ◌∷◌, ◌++◌, OnOk, OnErr, IfOk, ap, sym, subst, ◌∙◌}
use Rattle.df_form.specs.Sorting.{is_formula}
use Rattle.df_cong.specs.Theory.{IsAnswer}
use Rattle.df_cong.specs.ClassesView.{Held}
use Rattle.df_classes.specs.mirror.Clash.{AreNumbers}
use Rattle.df_cong.proofs.Answering.{literals_after}
use Rattle.df_cong.proofs.classes.ClassesTheory.assert_lit.Goals as goal

pub assert_on-requires-clause-holding : goal.assert_on-requires-clause-holding
assert_on-requires-clause-holding c = c.self.invariant.holds

pub assert_on-requires-clause-users : goal.assert_on-requires-clause-users
assert_on-requires-clause-users c = c.self.invariant.users_are

pub assert_on-requires-clause-numbers : goal.assert_on-requires-clause-numbers
assert_on-requires-clause-numbers c = subst (AreNumbers c.self.inside.nodes) (sym c.deref.ensures.value) c.self.invariant.numbers_are

pub assert_on-requires-clause-literals : goal.assert_on-requires-clause-literals
assert_on-requires-clause-literals c = c.self.invariant.literals_are

pub assert_on-requires-clause-literal : goal.assert_on-requires-clause-literal
assert_on-requires-clause-literal c = ap (λ (h : Held). is_formula h.table c.args.literal.node) c.self.view_is ∙ c.requires

pub assert_on-requires-clause-covered : goal.assert_on-requires-clause-covered
assert_on-requires-clause-covered c = c.self.invariant.covered

pub invariant_of-self : goal.invariant_of-self
invariant_of-self c =
    let nodes = c.self.inside.nodes in
    let old = c.self.inside.holding in record {
      users_are = c.self.invariant.users_are;
      numbers_are = c.self.invariant.numbers_are;
      literals_are =
          literals_after nodes old.held.items c.assert_on.new.holding.held.items c.args.literal c.assert_on.result c.self.invariant.literals_are (ap (λ (h : Held). is_formula h.table c.args.literal.node) c.self.view_is ∙ c.requires) c.assert_on.ensures.holds
          c.assert_on.ensures.err;
      holds = c.assert_on.ensures.holding;
      covered = c.assert_on.ensures.covered;
    }

pub returns-clause-answer : goal.returns-clause-answer
returns-clause-answer c = subst (λ (h : Held). IfOk c.assert_on.result (IsAnswer h.table c.assert_on.new.holding.held.items)) c.self.view_is c.assert_on.ensures.answer

pub returns-clause-holds : goal.returns-clause-holds
returns-clause-holds c = subst (λ (h : Held). OnOk c.assert_on.result (c.assert_on.new.holding.held.items ≡ h.literals ++ c.args.literal ∷ [])) c.self.view_is c.assert_on.ensures.holds

pub returns-clause-err : goal.returns-clause-err
returns-clause-err c = subst (λ (h : Held). OnErr c.assert_on.result (c.assert_on.new.holding.held.items ≡ h.literals)) c.self.view_is c.assert_on.ensures.err

pub returns-clause-table : goal.returns-clause-table
returns-clause-table c = ap (λ (h : Held). h.table) c.self.view_is
