use Rattle.std.proofs.Common.{Option, Vec, map, subst}
use Rattle.std.specs.Option.{option_map}
use Rattle.std.specs.declared.alloc.Global.{Global}
use Rattle.df_form.specs.declared.log.Combination as declared
use Rattle.df_form.specs.Log.{combination_of}
use Rattle.df_level.specs.Levels.{rows_of}
use Rattle.df_refutation.specs.History.{TellsRefuted}
use Rattle.df_branch.proofs.Refutations.{found}
use Rattle.df_branch.proofs.leaf.combinations.Goals as goal

pub unreachable-requires : goal.unreachable-requires
unreachable-requires c =
    found (rows_of c.args.rows.now) c.args.levels.now c.requires.has_false
    (subst (λ (found : Option (Vec declared.Combination Global)). TellsRefuted (rows_of c.args.rows.now) c.args.levels.now (option_map (λ combinations. map combination_of combinations.items) found)) c.in-None.is c.in_ok-combinations.ensures)
