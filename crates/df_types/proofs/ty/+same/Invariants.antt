use Rattle.std.proofs.Common.{◌≡◌, map, drop}
use Rattle.df_types.specs.Ty.{same_types, tys_of}
use Rattle.df_types.specs.TyView.{ty_of}
use Rattle.df_types.proofs.ty.+same.Given as goal

-- the answer on the rest is the answer on all
abbrev pub invariant-are_same-loop-i : goal.invariant-are_same-loop-i
invariant-are_same-loop-i l =
    same_types (tys_of (map ty_of (drop l.i l.types.items))) (tys_of (map ty_of (drop l.i l.others.items))) ≡ same_types (tys_of (map ty_of l.types.items)) (tys_of (map ty_of l.others.items))
