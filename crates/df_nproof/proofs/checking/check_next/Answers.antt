use Rattle.std.proofs.Common.{◌+◌, slice_get}
use Rattle.df_lang.specs.View.{program_of}
use Rattle.df_logtext.specs.View.{log_of, logs_of}
use Rattle.df_nowed.specs.Obligation.{obligation_in}
use Rattle.df_nproof.proofs.Parts.{log_there, log_past}
use Rattle.df_nproof.proofs.Taking.{part_is_bad, none_is_bad, part_is_next}
use Rattle.df_nproof.proofs.checking.check_next.Goals as goal

pub returns-in_default-clause-bad : goal.returns-in_default-clause-bad
returns-in_default-clause-bad c =
    let owed = c.args.owed.now in
    let o = obligation_in owed.declaration owed.nodes owed.known c.args.obligation.now in
    none_is_bad (program_of c.args.program.now) o (slice_get (logs_of c.args.parts.now) c.args.taken) (c.args.taken + 1) (log_past c.args.parts.now c.args.taken c.in_default.ensures.lookup.3)

pub returns-in-Ok-clause-more : goal.returns-in-Ok-clause-more
returns-in-Ok-clause-more c = c.in-Some.ensures.lookup.3.0

pub returns-in-Ok-clause-next : goal.returns-in-Ok-clause-next
returns-in-Ok-clause-next c =
    let owed = c.args.owed.now in
    let o = obligation_in owed.declaration owed.nodes owed.known c.args.obligation.now in
    part_is_next (program_of c.args.program.now) o (log_of c.in-Some.part.now.items) (slice_get (logs_of c.args.parts.now) c.args.taken)
    (log_there c.args.parts.now c.args.taken c.in-Some.part.now c.in-Some.ensures.lookup.3.0 c.in-Some.ensures.lookup.1) (rw c.deref.ensures.value at c.in-Ok.ensures.derived)

pub returns-in-Err-clause-bad : goal.returns-in-Err-clause-bad
returns-in-Err-clause-bad c =
    let owed = c.args.owed.now in
    let o = obligation_in owed.declaration owed.nodes owed.known c.args.obligation.now in
    part_is_bad (program_of c.args.program.now) o (log_of c.in-Some.part.now.items) (slice_get (logs_of c.args.parts.now) c.args.taken) (c.args.taken + 1) c.in-Err.fault
    (log_there c.args.parts.now c.args.taken c.in-Some.part.now c.in-Some.ensures.lookup.3.0 c.in-Some.ensures.lookup.1) (rw c.deref.ensures.value at c.in-Err.ensures.broken)
