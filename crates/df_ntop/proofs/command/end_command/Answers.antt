use Rattle.std.proofs.Common.{refl}
use Rattle.df_ncmd.specs.View.{command_of}
use Rattle.df_ntop.specs.Call.{store}
use Rattle.df_ntop.proofs.Limits.{limits_of, loads_file}
use Rattle.df_ntop.proofs.command.end_command.Goals as goal

pub end_bulk-requires-clause-bulk : goal.end_bulk-requires-clause-bulk
end_bulk-requires-clause-bulk g c = rw c.in-Bulk.is refl

pub returns-in-Bulk-clause-ends : goal.returns-in-Bulk-clause-ends
returns-in-Bulk-clause-ends g c = c.end_bulk.ensures.ends (store g.F.Files c.args.files.now c.args.files.now)

pub end_files-requires-clause-file : goal.end_files-requires-clause-file
end_files-requires-clause-file g c = loads_file (command_of c.args.command.now) (rw c.in-Verify.is refl)

pub end_files-requires-clause-budget : goal.end_files-requires-clause-budget
end_files-requires-clause-budget g c = limits_of (command_of c.args.command.now) c.requires.limits

pub end_files-requires-in-Prove-clause-file : goal.end_files-requires-in-Prove-clause-file
end_files-requires-in-Prove-clause-file g c = loads_file (command_of c.args.command.now) (rw c.in-Prove.is refl)

pub end_files-requires-in-Prove-clause-budget : goal.end_files-requires-in-Prove-clause-budget
end_files-requires-in-Prove-clause-budget g c = limits_of (command_of c.args.command.now) c.requires.limits

pub end_files-requires-in-Check-clause-file : goal.end_files-requires-in-Check-clause-file
end_files-requires-in-Check-clause-file g c = loads_file (command_of c.args.command.now) (rw c.in-Check.is refl)

pub end_files-requires-in-Check-clause-budget : goal.end_files-requires-in-Check-clause-budget
end_files-requires-in-Check-clause-budget g c = limits_of (command_of c.args.command.now) c.requires.limits

pub end_files-requires-in-Build-clause-file : goal.end_files-requires-in-Build-clause-file
end_files-requires-in-Build-clause-file g c = loads_file (command_of c.args.command.now) (rw c.in-Build.is refl)

pub end_files-requires-in-Build-clause-budget : goal.end_files-requires-in-Build-clause-budget
end_files-requires-in-Build-clause-budget g c = limits_of (command_of c.args.command.now) c.requires.limits

pub end_files-requires-in-Run-clause-file : goal.end_files-requires-in-Run-clause-file
end_files-requires-in-Run-clause-file g c = loads_file (command_of c.args.command.now) (rw c.in-Run.is refl)

pub end_files-requires-in-Run-clause-budget : goal.end_files-requires-in-Run-clause-budget
end_files-requires-in-Run-clause-budget g c = limits_of (command_of c.args.command.now) c.requires.limits
