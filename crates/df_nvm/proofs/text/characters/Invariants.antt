use Rattle.std.proofs.Common.{◌≡◌, drop}
use Rattle.df_nmach.specs.Step.{characters}
use Rattle.df_nmach.specs.View.{values_of}
use Rattle.df_nvm.proofs.Read.{read}
use Rattle.df_nvm.proofs.text.characters.Given as goal

-- what was read, in front of what is left, is the whole
abbrev pub invariant-loop-value : goal.invariant-loop-value
invariant-loop-value l = read l.text.items (characters (values_of (drop l.value-index l.values))) ≡ characters (values_of l.values)
