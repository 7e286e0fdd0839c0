use Rattle.df_nenc.proofs.Words.{subst, sort_of_type, IsTerm}
use Rattle.df_form.specs.declared.symbol.Symbol.TheVariants as symbols
use Rattle.df_form.specs.Node.{symbol}
use Rattle.df_form.specs.declared.node.Sort.TheVariants as sorts
use Rattle.df_nenc.proofs.Sorts.{takes_one, takes_character}
use Rattle.df_nenc.proofs.operation.number_in.Goals as goal

pub one-requires : goal.one-requires
one-requires c = takes_one (symbol symbols.Code) sorts.Character c.args.nodes.now c.args.value takes_character (subst (λ v. IsTerm (sort_of_type v) c.args.nodes.now c.args.value) c.in-Char.is c.requires)
