use Rattle.df_tree.proofs.Single.{type_makes_one}
use Rattle.df_pexpr.proofs.ty.Goals as goal

pub part-requires : goal.part-requires
part-requires c = type_makes_one
