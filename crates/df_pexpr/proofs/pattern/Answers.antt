use Rattle.df_tree.proofs.Single.{pattern_makes_one}
use Rattle.df_pexpr.proofs.pattern.Goals as goal

pub part-requires : goal.part-requires
part-requires c = pattern_makes_one
