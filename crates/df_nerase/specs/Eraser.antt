-- The program that an eraser works on.
use Rattle.df_lang.specs.Program.{Program}
use Rattle.df_lang.specs.View.{program_of}
use Rattle.df_nerase.specs.declared.eraser.Eraser.{Eraser}

abbrev pub program_in : Eraser → Program
program_in e = program_of e.program.now
