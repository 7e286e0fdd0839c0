use Rattle.std.proofs.Common.{◌≡◌, length}
use Rattle.df_ntree.specs.mirror.Reading.{part_at, all_of}
use Rattle.df_ntree.proofs.Repeat.{with_front}
use Rattle.df_npdecl.proofs.text.Parts.all.Given as goal

abbrev pub invariant-loop-characters : goal.invariant-loop-characters
invariant-loop-characters l = with_front l.characters.items (all_of part_at l.self.rest.now) ≡ all_of part_at l.fn.self.rest.now

abbrev pub decreases-loop-characters : goal.decreases-loop-characters
decreases-loop-characters l = length l.self.rest.now
