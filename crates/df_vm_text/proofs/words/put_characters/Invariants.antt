use Rattle.std.proofs.Common.{◌≡◌, Some, drop}
use Rattle.df_mach2.specs.Value.{values_of}
use Rattle.df_mach2.specs.Text.{then_text, characters}
use Rattle.df_vm_store.specs.View.{values_in}
use Rattle.df_vm_text.specs.Tasks.{piece}
use Rattle.df_vm_text.proofs.words.put_characters.Given as goal

-- what was put, and the characters from here on, are the whole
abbrev pub invariant-loop-index : goal.invariant-loop-index
invariant-loop-index l =
    then_text (Some l.out.items) (characters (values_of (drop l.index (piece (values_in l.store) l.from l.count)))) ≡ then_text (Some l.initial.out.items) (characters (values_of (piece (values_in l.store) l.from l.count)))
