use Rattle.std.proofs.Common.{sym, ap, ◌∙◌}
use Rattle.df_classes.specs.SignsView.{tables_of, is_torn}
use Rattle.df_classes.proofs.signs.Signs.clashes_with.Goals as goal

pub returns-clause-not_denied : goal.returns-clause-not_denied
returns-clause-not_denied c = λ e. sym c.is_denied.ensures ∙ c.if-is_denied.false

pub returns-clause-not_torn : goal.returns-clause-not_torn
returns-clause-not_torn c = λ e. ap (λ label. is_torn (tables_of c.args.self.now) label c.args.held) (sym c.label.ensures) ∙ sym c.is_torn.ensures ∙ c.if-is_torn.false
