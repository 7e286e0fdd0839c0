use Rattle.std.proofs.Common.{◌≡◌, ◌++◌, map, drop, Some}
use Rattle.df_ninfer.proofs.inference.known.Given as goal

abbrev pub invariant-loop-ty : goal.invariant-loop-ty
invariant-loop-ty l =
    l.types.items ++ map Some (drop l.ty-index l.all) ≡ map Some l.all
