use Rattle.df_kern.proofs.Links.{linked}
use Rattle.df_kern.proofs.classes.Classes.link.Goals as goal

pub returns : goal.returns
returns c = linked c.args.self.now.links.entries c.insert.new.self.entries c.args.self.now.falling c.args.high c.args.low c.requires.falls c.in_ok-insert.ensures.updates.0 c.requires.high c.requires.low
