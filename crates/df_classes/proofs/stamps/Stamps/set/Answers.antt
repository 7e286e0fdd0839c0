use Rattle.df_classes.proofs.Stamping.{keeps_all, stamp_there, stamp_keeps}
use Rattle.df_classes.proofs.stamps.Stamps.set.Goals as goal

pub returns-in_err-push-clause-keeps : goal.returns-in_err-push-clause-keeps
returns-in_err-push-clause-keeps c = keeps_all c.args.self.now.since.items

pub returns-clause-marks : goal.returns-clause-marks
returns-clause-marks c = stamp_there c.args.self.now.since.items c.args.label c.args.held c.requires.label c.requires.later

pub returns-clause-keeps : goal.returns-clause-keeps
returns-clause-keeps c = stamp_keeps c.args.self.now.since.items c.args.label c.args.held c.requires.label c.requires.later
