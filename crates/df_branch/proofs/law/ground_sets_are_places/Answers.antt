use Rattle.df_branch.proofs.GroundPlaces.{ground_place}
use Rattle.df_branch.proofs.law.ground_sets_are_places.Goals as goal

pub returns : goal.returns
returns c = ground_place
