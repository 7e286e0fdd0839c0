use Rattle.std.proofs.Common.{◌≡◌, drop}
use Rattle.df_ntexpr.specs.Parts.{typed_of}
use Rattle.df_ntyping.specs.mirror.Looking.{cast_all}
use Rattle.df_ntexpr.proofs.looking.cast_all.Given as goal

abbrev pub invariant-loop-i : goal.invariant-loop-i
invariant-loop-i l = cast_all l.env l.pos (typed_of l.typed) (drop l.i l.types) ≡ cast_all l.env l.pos (typed_of l.fn.typed) l.types
