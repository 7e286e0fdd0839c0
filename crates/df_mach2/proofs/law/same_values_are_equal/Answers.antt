use Rattle.std.proofs.Common.{◌≡◌, true, subst}
use Rattle.df_mach2.specs.Value.{Value, same}
use Rattle.df_mach2.proofs.Equal.{same_equal, same-refl}
use Rattle.df_mach2.proofs.law.same_values_are_equal.Goals as goal

pub returns : goal.returns
returns c v w = (same_equal v w, λ e. subst (λ (x : Value). same v x ≡ true) e (same-refl v))
