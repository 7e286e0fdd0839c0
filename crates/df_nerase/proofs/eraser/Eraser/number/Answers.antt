use Rattle.std.proofs.Common.{◌∙◌, rules}
use Rattle.df_nerase.specs.Eraser.{program_in}
use Rattle.df_nerase.proofs.Erased.{number_there, number_past}
use Rattle.df_nerase.proofs.eraser.Eraser.number.Goals as goal

pub returns-in-Some : goal.returns-in-Some
returns-in-Some c =
    number_there (program_in c.args.self.now).decls c.args.id c.in-Some.number.now (search rules) (search rules)

pub returns-in-None : goal.returns-in-None
returns-in-None c = c.args.self.now.are_all ∙ number_past (program_in c.args.self.now).decls c.args.id (search rules)
