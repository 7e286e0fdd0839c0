use Rattle.std.proofs.Common.{refl, arith}
use Rattle.df_base.specs.declared.status.Status.TheVariants as statuses
use Rattle.df_ncmd.specs.View.{command_of}
use Rattle.df_ntop.specs.Call.{store, streams}
use Rattle.df_ntop.specs.Command.{file_of, log_of}
use Rattle.df_ntop.specs.Ending.{IsSourceFault, IsLogFault, of_files}
use Rattle.df_ntop.specs.View.{log_file_of}
use Rattle.df_ntop.proofs.Knowing.{told_ends, large_tells, files_ends}
use Rattle.df_ntop.proofs.Limits.{loads_log}
use Rattle.df_ntop.proofs.Loads.{load_ends, source_unread, log_unread, named_log, log_is_loaded, source_is_loaded, without_source, source_of}
use Rattle.df_ntop.proofs.command.end_files.Goals as goal

pub load_source-requires-clause-allowed : goal.load_source-requires-clause-allowed
load_source-requires-clause-allowed g c = c.requires.allowed (file_of (command_of c.args.command.now)) c.requires.file

pub load_log-requires : goal.load_log-requires
load_log-requires g c = λ name named. (c.load_source.ensures.allows name).0 (c.requires.allowed name (loads_log (command_of c.args.command.now) name named))

-- the source is not read
pub returns-in-Err-clause-ends : goal.returns-in-Err-clause-ends
returns-in-Err-clause-ends g c =
    let files = store g.F.Files c.args.files.now c.load_source.new.files in
    let s = streams g.O.Sink c.args.out.now c.args.out.now g.E.Sink c.args.err.now c.args.err.now in
    let command = command_of c.args.command.now in
    load_ends command files (IsSourceFault files command) s files.before c.in-Err.end (omega arith) (λ name fault. source_unread files command name c.requires.file fault) c.in-Err.ensures.fails (refl, refl)

-- the log is not read
pub returns-in-Err-load_log-clause-ends : goal.returns-in-Err-load_log-clause-ends
returns-in-Err-load_log-clause-ends g c =
    let files = store g.F.Files c.args.files.now c.load_log.new.files in
    let s = streams g.O.Sink c.args.out.now c.args.out.now g.E.Sink c.args.err.now c.args.err.now in
    let first = store g.F.Files c.args.files.now c.load_source.new.files in
    let second = store g.F.Files c.load_source.new.files c.load_log.new.files in
    let command = command_of c.args.command.now in
    load_ends command files (IsLogFault second command) s (g.F.Files.fault_count c.load_source.new.files) c.in-Err-load_log.end c.load_source.ensures.counts
    (λ name fault. log_unread files first second command c.in-Ok.source name refl refl refl refl c.in-Ok.ensures.loads fault) c.in-Err-load_log.ensures.fails (refl, refl)

pub end_source-requires-clause-named : goal.end_source-requires-clause-named
end_source-requires-clause-named g c =
    named_log (store g.F.Files c.load_source.new.files c.load_log.new.files) (log_of (command_of c.args.command.now)) (log_file_of c.in-Ok-load_log.log) c.in-Ok-load_log.ensures.loads

pub returns-in-Some-clause-ends : goal.returns-in-Some-clause-ends
returns-in-Some-clause-ends g c =
    let command = command_of c.args.command.now in
    let files = store g.F.Files c.args.files.now c.load_log.new.files in
    let second = store g.F.Files c.load_source.new.files c.load_log.new.files in
    let s = streams g.O.Sink c.args.out.now c.end_source.new.out g.E.Sink c.args.err.now c.end_source.new.err in
    let log = log_file_of c.in-Ok-load_log.log in
    let source = c.in-Some.source in
    let loads = rw c.in-Some.is at c.in-Ok.ensures.loads in
    files_ends command files log source c.as_slice.result.now s c.end_source.result c.as_slice.ensures
    (source_of files command source c.requires.file (source_is_loaded files second (file_of command) source (log_of command) log loads.0 refl c.in-Ok-load_log.ensures.loads loads.1))
    (log_is_loaded files second (file_of command) source (log_of command) log loads.0 refl c.load_source.ensures.held c.in-Ok-load_log.ensures.loads) c.end_source.ensures.ends

-- the source is too long
pub returns-clause-ends : goal.returns-clause-ends
returns-clause-ends g c =
    let command = command_of c.args.command.now in
    let files = store g.F.Files c.args.files.now c.load_log.new.files in
    let s = streams g.O.Sink c.args.out.now c.args.out.now g.E.Sink c.args.err.now c.args.err.now in
    let second = store g.F.Files c.load_source.new.files c.load_log.new.files in
    let loads = rw c.in-None.is at c.in-Ok.ensures.loads in
    told_ends (of_files command files) s statuses.Refused _ c.large_text.result c.told.result (refl, refl)
    (large_tells files command c.file.result.now c.file.ensures c.requires.file (without_source files second command (log_of command) (log_file_of c.in-Ok-load_log.log) refl loads.0 refl loads.1 refl c.in-Ok-load_log.ensures.loads) loads.2) c.large_text.ensures c.told.ensures
