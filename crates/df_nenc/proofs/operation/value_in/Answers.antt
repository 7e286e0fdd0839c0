use Rattle.df_form.specs.declared.symbol.Symbol.TheVariants as symbols
use Rattle.df_form.specs.Node.{symbol}
use Rattle.df_form.specs.declared.node.Sort.TheVariants as sorts
use Rattle.df_nenc.proofs.Sorts.{takes_one, takes_code}
use Rattle.df_nenc.proofs.operation.value_in.Goals as goal

pub one-requires : goal.one-requires
one-requires c = takes_one (symbol symbols.Chr) sorts.Number c.args.nodes.now c.args.number takes_code c.requires
