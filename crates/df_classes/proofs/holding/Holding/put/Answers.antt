use Rattle.std.proofs.Common.{refl, sym, subst}
use Rattle.std.proofs.lemmas.Bool.{not-true, not-false}
use Rattle.df_rules.proofs.Results.{on_ok}
use Rattle.df_classes.specs.HoldingView.{Equates}
use Rattle.df_classes.proofs.Holds.{equates_none, negative_none, positive_puts}
use Rattle.df_classes.proofs.Retreating.{extends_none}
use Rattle.df_classes.proofs.holding.Holding.put.Goals as goal

pub returns-then-not-literal-clause-equates : goal.returns-then-not-literal-clause-equates
returns-then-not-literal-clause-equates c = equates_none c.args.nodes.now c.args.self.now.partition _ c.requires.ready (negative_none c.args.nodes.now c.args.literal (not-true c.args.literal.positive c.if-not-literal.true))

pub returns-then-not-literal-clause-extends : goal.returns-then-not-literal-clause-extends
returns-then-not-literal-clause-extends c = extends_none c.args.self.now.partition c.args.self.now.partition refl refl refl

pub returns-in-Some-clause-equates : goal.returns-in-Some-clause-equates
returns-in-Some-clause-equates c =
    on_ok c.equate.result (subst (Equates c.args.nodes.now c.args.self.now.partition c.equate.new.partition) (sym (positive_puts c.args.nodes.now c.args.literal _ (not-false c.args.literal.positive c.if-not-literal.false) c.in-Some.ensures.sides))) c.equate.ensures.equates

pub returns-in-None-clause-equates : goal.returns-in-None-clause-equates
returns-in-None-clause-equates c =
    equates_none c.args.nodes.now c.args.self.now.partition _ c.requires.ready (positive_puts c.args.nodes.now c.args.literal _ (not-false c.args.literal.positive c.if-not-literal.false) c.in-None.ensures.sides)

pub returns-in-None-clause-extends : goal.returns-in-None-clause-extends
returns-in-None-clause-extends c = extends_none c.args.self.now.partition c.args.self.now.partition refl refl refl
