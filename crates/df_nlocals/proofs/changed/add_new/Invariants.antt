use Rattle.df_nlocals.proofs.Words.{◌≡◌, ◌++◌, drop, each_once, changed_in}
use Rattle.df_nlocals.proofs.changed.add_new.Given as goal

-- those so far, in front of those of what is left, are those of all
abbrev pub invariant-loop-one : goal.invariant-loop-one
invariant-loop-one l = changed_in l.all.items ++ each_once l.met.keys (changed_in (drop l.one-index l.changed)) ≡ changed_in l.fn.all.items ++ each_once l.fn.met.keys (changed_in l.changed)
