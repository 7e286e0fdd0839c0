-- What is asked of an expression, as the definitions have it.
use Rattle.df_ntyping.specs.Wanted as pure
use Rattle.df_ntexpr.specs.declared.asked.Wanted.{Wanted}
use Rattle.df_ntexpr.specs.declared.asked.Wanted.TheVariants as wanted

abbrev pub wanted_of : Wanted → pure.Wanted
wanted_of wanted.Nothing = pure.Nothing
wanted_of wanted.Truth = pure.Truth
wanted_of (wanted.Place place) = pure.Place place
