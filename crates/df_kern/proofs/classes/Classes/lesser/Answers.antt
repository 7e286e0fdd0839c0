use Rattle.std.proofs.Common.{sym, ap, ◌∙◌}
use Rattle.std.specs.Option.{option_map_or}
use Rattle.df_kern.specs.ClassesView.{class_of}
use Rattle.df_kern.proofs.Links.{least-led}
use Rattle.df_kern.proofs.classes.Classes.lesser.Goals as goal

pub returns-clause-class : goal.returns-clause-class
returns-clause-class c =
    least-led c.args.self.now.links.entries c.args.self.now.falling c.args.number
    ∙ ap (λ o. option_map_or (class_of c.args.self.now) o c.args.number) (sym (c.copied.ensures ∙ c.get.ensures.value))
