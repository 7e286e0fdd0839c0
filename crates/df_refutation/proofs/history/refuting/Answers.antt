use Rattle.std.proofs.Common.{map, ap, Vec}
use Rattle.std.specs.Option.{option_map}
use Rattle.std.specs.Global.{Global}
use Rattle.df_form.specs.Log.{combination_of}
use Rattle.df_form.specs.declared.log.Combination as declared_combination
use Rattle.df_refutation.proofs.Keeping.{refuted_still}
use Rattle.df_refutation.proofs.history.refuting.Goals as goal

pub returns : goal.returns
returns c =
    let view = λ (v : Vec declared_combination.Combination Global). map combination_of v.items in
    let found = c.in-Some.combinations in
    let needed = c.in_ok-needed.needed in
    refuted_still c.args.given.now c.args.levels.now (option_map view c.in_ok-combinations.field-0) (view found) (map combination_of c.as_slice.result.now) (view needed) c.in_ok-combinations.ensures (ap (option_map view) c.in-Some.is) (ap (map combination_of) c.as_slice.ensures.value) c.in_ok-needed.ensures
