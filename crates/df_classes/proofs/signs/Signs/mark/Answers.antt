use Rattle.df_rules.proofs.Results.{on_ok}
use Rattle.df_classes.specs.SignsView.{tables_of}
use Rattle.df_classes.proofs.Stamping.{positives_kept, negatives_kept, marks_positive, marks_negative}
use Rattle.df_classes.proofs.signs.Signs.mark.Goals as goal

pub returns-then-literal-clause-marks : goal.returns-then-literal-clause-marks
returns-then-literal-clause-marks c = on_ok c.mark.result (λ h less also. marks_positive _ c.args.held c.args.literal c.label-label.result _ _ c.label-label.ensures c.if-literal.true (λ inside. h inside) less) c.mark.ensures.marks

pub returns-then-literal-clause-keeps : goal.returns-then-literal-clause-keeps
returns-then-literal-clause-keeps c = positives_kept c.args.held (tables_of c.args.self.now) c.mark.new.self.since.items c.mark.ensures.keeps

pub returns-clause-marks : goal.returns-clause-marks
returns-clause-marks c = on_ok c.mark-2.result (λ h also less. marks_negative _ c.args.held c.args.literal c.label-label.result _ _ c.label-label.ensures c.if-literal.false (λ inside. h inside) less) c.mark-2.ensures.marks

pub returns-clause-keeps : goal.returns-clause-keeps
returns-clause-keeps c = negatives_kept c.args.held (tables_of c.args.self.now) c.mark-2.new.self.since.items c.mark-2.ensures.keeps
