use Rattle.df_nenc.proofs.Words.{refl, ap, ◌∙◌, arith, w128, to_z_pos, Numbers, Chr, literal}
use Rattle.df_form.specs.declared.symbol.Symbol.TheVariants as symbols
use Rattle.df_form.specs.Node.{symbol}
use Rattle.df_form.specs.declared.node.Sort.TheVariants as sorts
use Rattle.df_nenc.proofs.Sorts.{takes_code}
use Rattle.df_nenc.proofs.Lemmas.{is_term, takes_one, one_as}
use Rattle.df_nenc.proofs.operation.character.Goals as goal

pub one-requires : goal.one-requires
one-requires c = takes_one (symbol symbols.Chr) sorts.Number c.literal.new.nodes c.in_ok-code.code takes_code (is_term _ Numbers _ _ c.in_ok-code.ensures.stands refl)

pub returns-clause-stands : goal.returns-clause-stands
returns-clause-stands c = one_as Chr c.one.result c.one.new.nodes _ _ (c.in_ok-code.ensures.stands.tree_is ∙ ap literal (to_z_pos w128 c.args.code (omega arith))) c.one.ensures.stands
