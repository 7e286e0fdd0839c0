use Rattle.std.proofs.Common.{◌≡◌, ◌≤◌, ◌+◌, drop}
use Rattle.std.specs.Prelude.{slice_range}
use Rattle.df_logtext.specs.Reading.{read_from, read_text}
use Rattle.df_logtext.specs.ReaderView.{state_of}
use Rattle.df_logtext.specs.View.{names_of}
use Rattle.df_logtext.proofs.reading.read_lines.Given as goal

-- what is left is read to the whole's outcome
abbrev pub invariant-loop-at : goal.invariant-loop-at
invariant-loop-at l = record {
  within : l.begin ≤ l.at;
  few : l.number ≤ l.at + 1;
  outcome : read_from (names_of l.names) (state_of l.reader) l.number (slice_range l.bytes l.begin l.at) (drop l.at l.bytes) ≡ read_text (names_of l.names) l.bytes;
}
