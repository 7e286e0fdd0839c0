use Rattle.std.proofs.Common.{slice_get, sym, ap, ◌∙◌}
use Rattle.std.specs.Option.{option_map}
use Rattle.std.proofs.lemmas.Option.{slice_get-map}
use Rattle.df_form.specs.Keyed.{node_in}
use Rattle.df_form.proofs.own_nodes.OwnNodes.node.Goals as goal

pub returns-in-Some : goal.returns-in-Some
returns-in-Some c = ap (option_map node_in) c.in-Some.ensures.entry ∙ sym (slice_get-map node_in c.self.inside.nodes.entries c.args.number) ∙ ap (λ nodes. slice_get nodes c.args.number) c.self.view_is

pub returns-in-None : goal.returns-in-None
returns-in-None c = ap (option_map node_in) c.in-None.ensures.entry ∙ sym (slice_get-map node_in c.self.inside.nodes.entries c.args.number) ∙ ap (λ nodes. slice_get nodes c.args.number) c.self.view_is
