use Rattle.std.proofs.Common.{take}
use Rattle.df_logtext.specs.HasText.{HaveNumbers}
use Rattle.df_logtext.specs.LogText.{parts_lines, text_of_lines}
use Rattle.df_logtext.specs.View.{names_of, logs_of}
use Rattle.df_logtext.specs.Writes.{Writes}
use Rattle.df_logtext.proofs.writing.push_parts.Given as goal

abbrev pub invariant-loop-number : goal.invariant-loop-number
invariant-loop-number l = Writes l.initial.text.items l.text.items (text_of_lines (parts_lines (names_of l.names) 1 (logs_of (take l.number l.logs)))) (HaveNumbers (logs_of (take l.number l.logs)))
