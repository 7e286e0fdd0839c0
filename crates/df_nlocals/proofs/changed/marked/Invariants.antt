use Rattle.df_nlocals.proofs.Words.{◌≡◌, ℕ, take}
use Rattle.df_nlocals.proofs.Once.{is_out, is_met}
use Rattle.df_nlocals.proofs.changed.marked.Given as goal

-- those that are left out, so far
abbrev pub invariant-loop-local : goal.invariant-loop-local
invariant-loop-local l = (q : ℕ) → is_met l.met.keys q ≡ is_out (take l.local-index l.out) q
