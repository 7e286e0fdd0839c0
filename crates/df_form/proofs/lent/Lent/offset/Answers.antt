use Rattle.std.proofs.Common.{◌∙◌, refl}
use Rattle.df_form.specs.Offset.{offsets}
use Rattle.df_form.proofs.Offsets.{read-front, read-past}
use Rattle.df_form.proofs.lent.Lent.offset.Goals as goal

pub returns-then-number-self : goal.returns-then-number-self
returns-then-number-self c = c.known_offset.ensures ∙ read-front c.self.inside.nodes.now c.args.self.now (offsets c.self.inside.nodes.now) c.self.inside.count c.args.number refl c.self.view_is c.if-number-self.true

pub returns-else-number-self : goal.returns-else-number-self
returns-else-number-self c = read-past c.self.inside.nodes.now c.args.self.now c.self.inside.count c.args.number c.self.view_is c.if-number-self.false
