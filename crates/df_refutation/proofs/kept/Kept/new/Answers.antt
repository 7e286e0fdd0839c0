use Rattle.std.proofs.Common.{map, ap}
use Rattle.df_form.specs.Log.{combination_of}
use Rattle.df_refutation.proofs.Keeping.{keeping_begins}
use Rattle.df_refutation.proofs.kept.Kept.new.Goals as goal

pub returns : goal.returns
returns c = keeping_begins c.args.given (map combination_of c.new.result.items) c.in_ok-own_numbers.field-0.items (ap (map combination_of) c.new.ensures.items) c.in_ok-own_numbers.ensures
