use Rattle.std.proofs.Common.{◌≡◌, ℕ, pos, take}
use Rattle.df_level.specs.Levels.{rows_of}
use Rattle.df_back.specs.Ranges.{AreInside, IsRange}
use Rattle.df_back.proofs.range.range_of.Given as goal

abbrev pub invariant-loop-row : goal.invariant-loop-row
invariant-loop-row g l = (count : ℕ) → AreInside count (rows_of l.rows) → g.V.Valuation.numbers l.valuation l.node ≡ pos 0 → IsRange count (g.V.Valuation.numbers l.valuation) l.node (rows_of (take l.row-index l.rows)) l.range
