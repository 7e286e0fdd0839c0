use Rattle.std.proofs.Common.{◌≡◌, ◌-◌, ℕ, suc, length}
use Rattle.df_nghost.specs.mirror.Listed.{holds}
use Rattle.df_nghost.proofs.values.list.Given as goal

abbrev pub invariant-loop-listed : goal.invariant-loop-listed
invariant-loop-listed l = (k : ℕ) → holds l.listed.items k ≡ holds l.fn.listed.items k

abbrev pub decreases-loop-listed : goal.decreases-loop-listed
decreases-loop-listed l = suc l.local - length l.listed.items
