use Rattle.std.proofs.Common.{arith}
use Rattle.df_classes.proofs.stamps.Stamps.new.Goals as goal

pub returns : goal.returns
returns c = omega (arith, c.in_ok-vec.ensures.len, c.in_ok-vec.field-0.ok.0)
