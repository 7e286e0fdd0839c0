use Rattle.std.proofs.Common.{map, take}
use Rattle.df_lang.specs.DeclView.{param_of}
use Rattle.df_lang.specs.View.{program_of}
use Rattle.df_nowed.specs.Obligation.{obligation_in}
use Rattle.df_report.specs.View.{failure_of}
use Rattle.df_nverdict.specs.Verdict.{Judges}
use Rattle.df_nverdict.proofs.judging.failures.Given as goal

abbrev pub invariant-loop-obligation : goal.invariant-loop-obligation
invariant-loop-obligation l =
    let owed = l.entry.owed.now in
    Judges (program_of l.entry.program.now) (map param_of l.entry.params.now) l.budget
    (map (obligation_in owed.declaration owed.nodes owed.known) (take l.obligation-index l.obligation-items)) (map failure_of l.failures.items) l.proofs.items
