use Rattle.std.proofs.Common.{sym, ◌∙◌, arith}
use Rattle.df_rules.proofs.Results.{on_ok}
use Rattle.df_classes.proofs.Stamping.{keeps_all}
use Rattle.df_classes.proofs.stamps.Stamps.mark.Goals as goal

pub returns-then-is_marked-clause-marks : goal.returns-then-is_marked-clause-marks
returns-then-is_marked-clause-marks c = λ less. sym c.is_marked.ensures ∙ c.if-is_marked.true

pub returns-then-is_marked-clause-keeps : goal.returns-then-is_marked-clause-keeps
returns-then-is_marked-clause-keeps c = keeps_all c.args.self.now.since.items

pub set-requires-clause-later : goal.set-requires-clause-later
set-requires-clause-later c = sym c.is_marked.ensures ∙ c.if-is_marked.false

pub returns-then-label-len-clause-marks : goal.returns-then-label-len-clause-marks
returns-then-label-len-clause-marks c = on_ok c.set.result (λ e less. e) c.set.ensures.marks

pub returns-clause-marks : goal.returns-clause-marks
returns-clause-marks c = λ less. absurd (omega (arith, less, c.if-label-len.false, c.len.ensures, c.args.self.now.since.ok.0))

pub returns-clause-keeps : goal.returns-clause-keeps
returns-clause-keeps c = keeps_all c.args.self.now.since.items
