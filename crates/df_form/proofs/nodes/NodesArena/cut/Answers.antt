use Rattle.std.proofs.Common.{◌≡◌, ◌∙◌, sym, ap, subst, arith, take, length, length-take}
use Rattle.df_form.specs.Sorting.{IsTable}
use Rattle.df_form.specs.Offset.{offsets}
use Rattle.df_form.proofs.Tables.{table-take}
use Rattle.df_form.proofs.Offsets.{offsets_take}
use Rattle.df_form.proofs.nodes.NodesArena.cut.Goals as goal

known : (c : goal.After-truncate-2) → offsets c.truncate.new.self ≡ c.truncate-2.new.self.items
known c = ap offsets c.truncate.ensures ∙ offsets_take c.self.inside.own c.args.len ∙ ap (take c.args.len) c.self.invariant.2 ∙ sym c.truncate-2.ensures.items

pub invariant_of-self : goal.invariant_of-self
invariant_of-self c =
    let nodes = c.self.inside.own in
    (subst IsTable (sym c.truncate.ensures) (table-take nodes c.args.len c.self.invariant.0), omega (arith, ap length c.truncate.ensures, length-take c.args.len nodes, c.self.invariant.1), known c)

pub returns : goal.returns
returns c = c.truncate.ensures ∙ ap (take c.args.len) c.self.view_is
