use Rattle.df_nlocals.proofs.Words.{◌≡◌, ◌++◌, map, drop, Target, target_of, Changed, changed_in}
use Rattle.df_nlocals.proofs.changed.by_update.Given as goal

abbrev pub changed_by : Target → Changed
changed_by target = record { local = target.local; ty = target.ty }

-- the locals so far, in front of those of what is left, are those of all
abbrev pub invariant-loop-target : goal.invariant-loop-target
invariant-loop-target l = changed_in l.changed.items ++ map changed_by (map target_of (drop l.target-index l.target-items)) ≡ changed_in l.fn.changed.items ++ map changed_by (map target_of l.target-items)
