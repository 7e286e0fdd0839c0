use Rattle.df_tree.proofs.Single.{expression_makes_one}
use Rattle.df_pexpr.proofs.expression.Goals as goal

pub part-requires : goal.part-requires
part-requires c = expression_makes_one
