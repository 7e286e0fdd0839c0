use Rattle.std.proofs.Common.{◌≤◌, length}
use Rattle.df_lang.specs.View.{program_of}
use Rattle.df_logtext.specs.View.{logs_of}
use Rattle.df_nowed.specs.Obligation.{obligation_in}
use Rattle.df_nproof.proofs.Taking.{SoFar}
use Rattle.df_nproof.proofs.checking.check_method.Given as goal

-- the obligations before this one have their parts
abbrev pub invariant-loop-obligation : goal.invariant-loop-obligation
invariant-loop-obligation l =
    let owed = l.owed in
    record {
      within : l.taken ≤ length l.parts;
      so_far : SoFar (program_of l.program) (obligation_in owed.declaration owed.nodes owed.known) l.obligation-items l.obligation-index (logs_of l.parts) l.first l.taken;
    }
