use Rattle.std.proofs.Common.{sym, ◌∙◌, true≢false}
use Rattle.df_rules.proofs.Results.{on_ok}
use Rattle.df_classes.proofs.Stamping.{keeps_all}
use Rattle.df_classes.proofs.stamps.Stamps.carry.Goals as goal

pub returns-then-not-is_marked-clause-carries : goal.returns-then-not-is_marked-clause-carries
returns-then-not-is_marked-clause-carries c = λ e less. absurd (true≢false (sym e ∙ sym c.is_marked.ensures ∙ c.if-not-is_marked.true))

pub returns-then-not-is_marked-clause-keeps : goal.returns-then-not-is_marked-clause-keeps
returns-then-not-is_marked-clause-keeps c = keeps_all c.args.self.now.since.items

pub returns-clause-carries : goal.returns-clause-carries
returns-clause-carries c = on_ok c.mark.result (λ h e less. h less) c.mark.ensures.marks
