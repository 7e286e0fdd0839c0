use Rattle.std.proofs.Common.{sym, ap, ◌∙◌}
use Rattle.std.specs.Option.{option_map}
use Rattle.df_form.specs.World.{world_of}
use Rattle.df_axiom.specs.Template.{template_of}
use Rattle.df_trig.proofs.PatternLines.{names_are}
use Rattle.df_trig.proofs.pattern.named_terms.Goals as goal

pub returns-in-Some : goal.returns-in-Some
returns-in-Some c =
    let p = c.args.pattern.now in
    let found = sym (ap (option_map template_of) c.in-Some.is) ∙ c.in_ok-found.ensures in
    names_are (world_of c.args.world) p.op p.schema p.clause (template_of c.in-Some.template) found c.named_by.result c.named_by.ensures

pub returns-in-None : goal.returns-in-None
returns-in-None c = sym c.in_ok-found.ensures ∙ ap (option_map template_of) c.in-None.is
