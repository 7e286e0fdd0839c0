use Rattle.df_lang.specs.View.{program_of}
use Rattle.df_nghost.proofs.Programs.{AreDefinite}
use Rattle.df_nghost.proofs.program.follow_all.Given as goal

-- the methods so far are definite
abbrev pub invariant-loop-decl : goal.invariant-loop-decl
invariant-loop-decl l = AreDefinite (program_of l.program) l.decl-index
