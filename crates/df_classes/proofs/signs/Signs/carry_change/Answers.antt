use Rattle.df_classes.specs.SignsView.{tables_of}
use Rattle.df_classes.proofs.Stamping.{tables_same}
use Rattle.df_classes.proofs.signs.Signs.carry_change.Goals as goal

pub returns-in-Entered-clause-keeps : goal.returns-in-Entered-clause-keeps
returns-in-Entered-clause-keeps c = tables_same c.args.held (tables_of c.args.self.now)
