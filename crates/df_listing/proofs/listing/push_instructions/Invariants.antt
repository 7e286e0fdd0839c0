use Rattle.std.proofs.Common.{◌≡◌, ◌++◌, take}
use Rattle.std.specs.List.{flat_map, AllByRecursion}
use Rattle.df_listing.specs.Listing.{instruction_line}
use Rattle.df_listing.specs.Ordinary.{Fitting}
use Rattle.df_listing.proofs.listing.push_instructions.Given as goal

abbrev pub invariant-loop-instruction : goal.invariant-loop-instruction
invariant-loop-instruction l = record {
  text : l.text.items ≡ l.initial.text.items ++ flat_map instruction_line (take l.instruction-index l.instructions);
  fits : AllByRecursion Fitting (take l.instruction-index l.instructions);
}
