-- What stands before the body of a loop, without where it lies in memory.
use Rattle.df_ntexpr.specs.Parts.{typed_of}
use Rattle.df_ntstmt.specs.Said.{clauses_of}
use Rattle.df_ntstmt.specs.declared.statements.Heading as declared
use Rattle.df_ntstmt.specs.mirror.Statements.{Heading}

abbrev pub heading_of : declared.Heading → Heading
heading_of heading = record { guard = typed_of heading.guard; clauses = clauses_of heading.clauses }
