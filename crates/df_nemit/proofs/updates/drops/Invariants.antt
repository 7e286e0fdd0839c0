use Rattle.std.proofs.Common.{◌≡◌, ◌≤◌, ◌++◌, length, replicate}
use Rattle.df_nmach.specs.declared.instruction.Instruction.TheVariants as instructions
use Rattle.df_nemit.proofs.updates.drops.Given as goal

abbrev pub invariant-loop : goal.invariant-loop
invariant-loop l = record {
  longer : length l.fn.code.items ≤ length l.code.items;
  made : l.code.items ≡ l.fn.code.items ++ replicate l.counter instructions.Drop;
}
