-- The lines that err is told.
use Rattle.std.specs.Prelude.{ℕ, List, ◌++◌, codes}
use Rattle.std.specs.Fmt.{decimal}
use Rattle.df_base.specs.declared.pos.Pos.{Pos}
use Rattle.df_nfront.specs.Line.{pos_text}

abbrev pub usage_line : List ℕ
usage_line = codes "dfy: usage\n"

abbrev pub memory_line : List ℕ
memory_line = codes "dfy: out of memory\n"

abbrev pub fuel_line : List ℕ
fuel_line = codes "dfy: fuel spent\n"

abbrev pub unread_line : List ℕ → List ℕ
unread_line name = name ++ codes ": cannot read\n"

abbrev pub large_line : List ℕ → List ℕ
large_line file = file ++ codes ":1:1: S14 limit\n"

-- the position breaks the rule of this number on what compiles
abbrev pub native_line : List ℕ → Pos → ℕ → List ℕ
native_line file pos rule = pos_text file pos ++ codes "not compilable N" ++ decimal rule ++ codes "\n"

abbrev pub no_main_line : List ℕ → List ℕ
no_main_line file = file ++ codes ": no Main\n"

abbrev pub too_large_line : List ℕ → List ℕ
too_large_line log = log ++ codes ": too large\n"

-- the line of this number is the first with which the bytes begin no log
abbrev pub not_a_log_line : List ℕ → ℕ → List ℕ
not_a_log_line log number = log ++ codes ":" ++ decimal number ++ codes ": not a log\n"

-- the part of this obligation is refused at this step
abbrev pub bad_part_line : List ℕ → ℕ → ℕ → List ℕ
bad_part_line log obligation step = log ++ codes ": obligation " ++ decimal obligation ++ codes " step " ++ decimal step ++ codes "\n"
