use Rattle.std.proofs.Common.{refl}
use Rattle.df_ncmd.specs.View.{command_of}
use Rattle.df_ntop.specs.Call.{store}
use Rattle.df_ntop.specs.Command.{file_of}
use Rattle.df_ntop.specs.Ending.{IsSourceFault}
use Rattle.df_ntop.proofs.Knowing.{is_longer}
use Rattle.df_ntop.proofs.Loads.{unread_fails}
use Rattle.df_ntop.proofs.loading.load_source.Goals as goal

pub returns-in-Ok-clause-loads : goal.returns-in-Ok-clause-loads
returns-in-Ok-clause-loads g c = (rw c.file.ensures at c.in-Ok.ensures.given, rw c.file.ensures at c.in-Ok.ensures.loaded)

pub returns-in-Err-Failed-clause-fails : goal.returns-in-Err-Failed-clause-fails
returns-in-Err-Failed-clause-fails g c =
    let command = command_of c.args.command.now in
    unread_fails (IsSourceFault (store g.F.Files c.args.files.now c.load.new.self) command) (file_of command) (g.F.Files.fault_count c.args.files.now) (g.F.Files.fault_count c.load.new.self) c.unread_text.result c.told.result (refl, c.in-Err-Failed.ensures.kept)
    (c.in-Err-Failed.ensures.cause.rose (rw c.in-Err-Failed.field-0-is refl)) (rw c.file-in-Err-Failed.ensures at c.unread_text.ensures) c.told.ensures

pub returns-in-Err-Large-clause-loads : goal.returns-in-Err-Large-clause-loads
returns-in-Err-Large-clause-loads g c =
    let name = c.file.result.now in
    (c.in-Err-Large.ensures.kept, c.in-Err-Large.ensures.clean c.in-Err-Large.field-0-0 (rw c.in-Err-Large.field-0-is refl), rw c.file.ensures at (is_longer 4194304 (g.F.Files.holds c.args.files.now) name (c.in-Err-Large.ensures.longer c.in-Err-Large.field-0-0 (rw c.in-Err-Large.field-0-is refl)) (c.in-Err-Large.ensures.there c.in-Err-Large.field-0-0 (rw c.in-Err-Large.field-0-is refl))))
