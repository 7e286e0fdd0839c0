use Rattle.df_kern.proofs.Links.{relinked}
use Rattle.df_kern.proofs.classes.Classes.relink.Goals as goal

pub returns : goal.returns
returns c = relinked c.args.self.now.links.entries c.insert.new.self.entries c.args.self.now.falling c.args.number c.args.lesser c.requires.falls c.in_ok-insert.ensures.updates.0 c.requires.class
