-- What the functions on rows of facts answer.
use Rattle.std.specs.Prelude.{◌≡◌, List, map, Option, Some, None, Vec}
use Rattle.std.specs.declared.alloc.Global.{Global}
use Rattle.df_form.specs.declared.log.Lit.{Lit}
use Rattle.df_form.specs.Node.{Node}
use Rattle.df_row.specs.declared.row.Row as kernel
use Rattle.df_row.specs.RowView.{row_of}
use Rattle.df_row.specs.Linear as linear
use Rattle.df_level.specs.declared.row.Row as declared
use Rattle.df_level.specs.Levels.{rows_of}

-- the same rows, without entries of coefficient 0
abbrev pub AreSparse : List kernel.Row → List declared.Row → Type 0
AreSparse rows sparse = rows_of sparse ≡ map row_of rows

-- the rows of literals, or that a number of one is past 128 bits
abbrev pub TellsRows : List Node → List Lit → Option (Vec declared.Row Global) → Type 0
TellsRows nodes literals (Some rows) = linear.rows_of nodes literals ≡ Some (rows_of rows.items)
TellsRows nodes literals None = linear.rows_of nodes literals ≡ None
