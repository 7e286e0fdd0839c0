use Rattle.std.proofs.Common.{refl}
use Rattle.df_ncmd.specs.View.{command_of}
use Rattle.df_ntop.specs.Call.{store}
use Rattle.df_ntop.specs.Ending.{IsLogFault}
use Rattle.df_ntop.proofs.Knowing.{is_longer}
use Rattle.df_ntop.proofs.Loads.{unread_fails}
use Rattle.df_ntop.proofs.loading.load_named.Goals as goal

pub returns-in-Ok-clause-loads : goal.returns-in-Ok-clause-loads
returns-in-Ok-clause-loads g c =
    (c.in-Ok.ensures.given, c.in-Ok.ensures.loaded, c.in-Ok.ensures.within)

pub returns-in-Err-Failed-clause-fails : goal.returns-in-Err-Failed-clause-fails
returns-in-Err-Failed-clause-fails g c =
    let command = command_of c.args.command.now in
    unread_fails (IsLogFault (store g.F.Files c.args.files.now c.load.new.self) command) c.args.name.now (g.F.Files.fault_count c.args.files.now) (g.F.Files.fault_count c.load.new.self) c.unread_text.result c.told.result (c.requires.named, c.in-Err-Failed.ensures.kept)
    (c.in-Err-Failed.ensures.cause.rose (rw c.in-Err-Failed.field-0-is refl)) c.unread_text.ensures c.told.ensures

pub returns-in-Err-Large-clause-loads : goal.returns-in-Err-Large-clause-loads
returns-in-Err-Large-clause-loads g c =
    (c.in-Err-Large.ensures.kept, c.in-Err-Large.ensures.clean c.in-Err-Large.field-0-0 (rw c.in-Err-Large.field-0-is refl), is_longer 268435456 (g.F.Files.holds c.args.files.now) c.args.name.now (c.in-Err-Large.ensures.longer c.in-Err-Large.field-0-0 (rw c.in-Err-Large.field-0-is refl)) (c.in-Err-Large.ensures.there c.in-Err-Large.field-0-0 (rw c.in-Err-Large.field-0-is refl)))
