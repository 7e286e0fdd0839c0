use Rattle.std.proofs.Common.{◌≡◌, map, take}
use Rattle.df_types.specs.TyView.{ty_of}
use Rattle.df_types.proofs.ty.+copy.Given as goal

-- so far
abbrev pub invariant-copies-loop-ty : goal.invariant-copies-loop-ty
invariant-copies-loop-ty l = map ty_of l.made.items ≡ map ty_of (take l.ty-index l.types.items)
