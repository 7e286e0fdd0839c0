use Rattle.df_nenc.proofs.Words.{refl, Truths, condition, under}
use Rattle.df_nenc.proofs.Lemmas.{is_term, path_same, owed_as, path_stays, extends_then, extends_nodes}
use Rattle.df_meaning.specs.declared.kind.Kind.TheVariants as kinds
use Rattle.df_nenc.proofs.condition.owe_code.Goals as goal

pub owe-requires : goal.owe-requires
owe-requires c = record { path = path_stays _ _ c.args.path c.is_code.ensures.grows c.requires.path; formula = is_term _ Truths _ _ c.in_ok-formula.ensures.stands refl }

pub returns : goal.returns
returns c =
    let on = path_same c.args.nodes.now c.is_code.new.nodes c.args.path c.is_code.ensures.grows c.requires.path in
    let tree = c.in_ok-formula.ensures.stands.tree_is in
    record { adds = owed_as c.owe.result c.owe.new.nodes _ _ c.args.out.now.items c.owe.new.out.items (λ i. under (on i) (condition c.args.pos kinds.Range (tree i))) c.owe.ensures.adds; extends = extends_then (extends_nodes c.args.nodes.now c.is_code.new.nodes c.args.out.now.items c.is_code.ensures.grows) c.owe.ensures.extends }
