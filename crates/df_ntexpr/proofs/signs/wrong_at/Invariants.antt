use Rattle.std.proofs.Common.{◌≡◌, map, drop, ◌==◌, true}
use Rattle.df_ntexpr.specs.Parts.{row_of, breaches}
use Rattle.df_ntyping.specs.mirror.Signs.{or_breach, wrong_at}
use Rattle.df_ntexpr.proofs.signs.wrong_at.Given as goal

abbrev pub invariant-loop-i : goal.invariant-loop-i
invariant-loop-i l = or_breach (wrong_at (l.i == 0) l.left (map row_of (drop l.i l.rows))) (breaches l.wrong) ≡ wrong_at true l.fn.left (map row_of l.fn.rows)
