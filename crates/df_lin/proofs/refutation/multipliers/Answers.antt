use Rattle.std.proofs.Common.{map, ap}
use Rattle.std.specs.Option.{option_map}
use Rattle.df_form.specs.Log.{combination_of}
use Rattle.df_level.specs.Levels.{rows_of}
use Rattle.df_lin.proofs.Whole.{found}
use Rattle.df_lin.proofs.refutation.multipliers.Goals as goal

pub unreachable-requires : goal.unreachable-requires
unreachable-requires c = found (rows_of c.args.rows.now) c.args.levels.now c.requires.has_false _ (ap (option_map (λ combinations. map combination_of combinations.items)) c.in-None.is) c.in_ok-combinations.ensures
