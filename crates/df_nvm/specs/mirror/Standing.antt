-- Where frames that wait stand.
use Rattle.std.specs.Prelude.{ℕ, ◌+◌, Bool, ◌&&◌, nat_eq, nat_le, List, [], ◌∷◌}
use Rattle.df_nvm.specs.declared.machine.Waiting.{Waiting}

-- whether frames that wait, the first on top, fill just so many values
abbrev pub stands : List Waiting → ℕ → Bool
stands [] n = nat_eq n 0
stands (w ∷ ws) n = nat_le (w.base + w.locals) n && stands ws w.base
