use Rattle.std.proofs.Common.{map}
use Rattle.df_form.specs.Log.{combination_of}
use Rattle.df_refutation.proofs.Keeping.{left_out}
use Rattle.df_refutation.proofs.kept.Kept.leave_out.Goals as goal

pub returns : goal.returns
returns c = λ given way. left_out given way (map combination_of c.args.self.now.combinations.items) c.args.self.now.numbers.items c.push.new.self.items c.in_ok-push.ensures.items
