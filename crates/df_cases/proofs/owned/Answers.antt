use Rattle.df_cases.proofs.Newtypes.{are_well_typed}
use Rattle.df_cases.proofs.owned.Goals as goal

pub new-requires : goal.new-requires
new-requires c = are_well_typed c.in_ok-first.first c.in_ok-second.second c.in_ok-decls.decls.items c.in_ok-decls.ensures.items
