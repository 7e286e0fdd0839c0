-- The code's programs, without where they lie in memory.
use Rattle.df_types.specs.declared.program.Program.{Program}
use Rattle.df_types.specs.Program as pure
use Rattle.df_types.specs.DeclView.{program_with}

abbrev pub program_of : Program → pure.Program
program_of p = program_with p.decls.items
