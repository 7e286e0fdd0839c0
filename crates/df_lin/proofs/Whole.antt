-- Whole levels of rows.
use Rattle.std.proofs.Common.{◌≡◌, inl, inr, ℕ, true, List, [], ◌∷◌, map, Option, None, Result, Ok, Err, IfOk, subst}
use Rattle.df_form.specs.Log.{Combination}
use Rattle.df_row.specs.Row.{Row}
use Rattle.df_row.specs.Linear.{refutes}
use Rattle.df_level.specs.declared.level.Level.{Level}
use Rattle.df_level.specs.Levels.{IsFirstLevel, level_rows}
use Rattle.df_elim.specs.declared.elimination.Levels.{Levels}
use Rattle.df_elim.specs.Elimination.{HaveFalse, IsRefutation, IsWhole}
use Rattle.df_elim.specs.Elimination.{AreFew as AreFewLevels}
use Rattle.df_refutation.specs.History.{TellsRefuted}
use Rattle.df_back.specs.Ranges.{AreInside}
use Rattle.df_back.proofs.Chains.{divided_zero}
use Rattle.df_lin.specs.Verdict.{AreFew, HaveLevels, AreRefutedBy}

-- where a level is false, combinations are found
pub found : (given : List Row) (levels : List Level) → HaveFalse levels → (answer : Option (List Combination)) → answer ≡ None → TellsRefuted given levels answer → ⊥
found given levels false answer e h = by levels false (let P : Option (List Combination) → Type 0 = TellsRefuted given levels in subst P e h)
  where
    by : (levels : List Level) → HaveFalse levels → TellsRefuted given levels None → ⊥
    by [] false h = absurd false
    by (level ∷ others) (inl here) h = h.0 here
    by (level ∷ others) (inr later) h = by others later h.1

few_rows : (levels : List Level) → AreFewLevels levels → AreFew (map level_rows levels)
few_rows [] few = tt
few_rows (level ∷ others) few = (few.0, few_rows others few.1)

pub have_levels : (rows : List Row) (levels : Levels) → IsWhole rows levels → HaveLevels rows (level_rows levels.first) levels.variables.items (map level_rows levels.others.items)
have_levels rows levels whole = record { elimination = whole.elimination; few = few_rows (levels.first ∷ levels.others.items) whole.few }

-- The first level has coefficients for no other nodes than the rows.
pub first_inside : (count : ℕ) (rows first : List Row) → IsFirstLevel rows first → AreInside count rows → AreInside count first
first_inside count rows first is inside = record { each = λ row there. let from = is.each row there in record { zero_from = λ n past. divided_zero from.0 row n from.2 ((inside.each from.0 from.1).zero_from n past) } }

-- what holds of an answer that is there
pub ok_weaker : {A E : Type 0} (result : Result A E) (P Q : A → Type 0) → ((a : A) → P a → Q a) → IfOk result P → IfOk result Q
ok_weaker (Ok a) P Q go h = go a h
ok_weaker (Err e) P Q go h = tt

-- the verdicts of eliminations
pub refuted_verdict : (rows : List Row) (levels : List Level) (combinations : List Combination) → IsRefutation rows levels → ((count : ℕ) → refutes count rows combinations ≡ true) → AreRefutedBy rows combinations
refuted_verdict rows levels combinations h refuted = record { refuted = refuted; level = h.whole }
