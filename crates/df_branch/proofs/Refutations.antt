-- Levels of which one is false.
use Rattle.std.proofs.Common.{inl, inr, List, [], ◌∷◌, None}
use Rattle.df_row.specs.Row.{Row}
use Rattle.df_level.specs.declared.level.Level.{Level}
use Rattle.df_refutation.specs.History.{TellsRefuted}
use Rattle.df_elim.specs.Elimination.{HaveFalse}

pub found : (given : List Row) (levels : List Level) → HaveFalse levels → TellsRefuted given levels None → ⊥
found given [] h tells = h
found given (level ∷ others) (inl here) tells = tells.0 here
found given (level ∷ others) (inr later) tells = found given others later tells.1
