-- The levels by number.
use Rattle.std.proofs.Common.{◌≡◌, ℕ, zero, suc, ◌-◌, ◌<◌, ◌≤◌, List, [], ◌∷◌, map, length, get_or, ap, ◌∙◌, arith}
use Rattle.df_row.specs.Row.{Row}
use Rattle.df_level.specs.declared.level.Level.{Level}
use Rattle.df_level.specs.Levels.{level_rows}
use Rattle.df_back.specs.Ranges.{level_at}

level_after : (first : List Row) (others : List Level) (i : ℕ) (x : Level) → i < length others → x ≡ get_or others i x → level_rows x ≡ level_at first (map level_rows others) (suc i)
level_after first [] i x less is = absurd (omega arith)
level_after first (level ∷ others) zero x less is = ap level_rows is
level_after first (level ∷ others) (suc i) x less is = level_after (level_rows level) others i x (omega arith) is

pub level_before : (first : List Row) (others : List Level) (i : ℕ) (x : Level) → 1 ≤ i → i ≤ length others → x ≡ get_or others (i - 1) x → level_rows x ≡ level_at first (map level_rows others) i
level_before first others i x some le is = let e : suc (i - 1) ≡ i = omega arith in level_after first others (i - 1) x (omega arith) is ∙ ap (level_at first (map level_rows others)) e
