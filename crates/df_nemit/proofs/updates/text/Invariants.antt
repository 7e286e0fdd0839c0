use Rattle.std.proofs.Common.{◌≡◌, ◌≤◌, ◌++◌, length, take, map}
use Rattle.df_nmach.specs.declared.instruction.Instruction.TheVariants as instructions
use Rattle.df_nemit.proofs.updates.text.Given as goal

abbrev pub invariant-loop-character : goal.invariant-loop-character
invariant-loop-character l = record {
  longer : length l.fn.code.items ≤ length l.code.items;
  pushed : l.code.items ≡ l.fn.code.items ++ map instructions.Char (take l.character-index l.characters.items);
}
