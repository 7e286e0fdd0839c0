use Rattle.std.proofs.Common.{◌≡◌, ◌≤◌, ◌++◌, map, drop}
use Rattle.std.specs.Prelude.{slice_range}
use Rattle.df_logtext.specs.Parting.{parted_from, parted}
use Rattle.df_logtext.proofs.parting.parts.Given as goal

-- the parts so far, and those of what is left
abbrev pub invariant-loop-at : goal.invariant-loop-at
invariant-loop-at l = record {
  within : l.begin ≤ l.at;
  parts : map (λ part. part.now) l.parts.items ++ parted_from l.separator (slice_range l.text l.begin l.at) (drop l.at l.text) ≡ parted l.separator l.text;
}
