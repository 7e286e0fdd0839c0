-- The exit status of each ending.
use Rattle.std.specs.Prelude.{ℕ}
use Rattle.df_base.specs.declared.status.Status.{Status}
use Rattle.df_base.specs.declared.status.Status.TheVariants.{Done, Unproved, Usage, Refused, Unread, Unwritten, Memory, FuelSpent, NotCompilable, NoMain, BadLog}

abbrev pub code_of : Status → ℕ
code_of Done = 0
code_of Unproved = 1
code_of Usage = 2
code_of Refused = 3
code_of Unread = 4
code_of Unwritten = 5
code_of Memory = 6
code_of FuelSpent = 7
code_of NotCompilable = 8
code_of NoMain = 9
code_of BadLog = 10
