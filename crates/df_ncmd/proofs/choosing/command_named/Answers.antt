use Rattle.df_ncmd.specs.View.{rows_in}
use Rattle.df_ncmd.proofs.Names.{unnamed}
use Rattle.df_ncmd.proofs.choosing.command_named.Goals as goal

pub returns-in_default : goal.returns-in_default
returns-in_default c =
    let here = c.in_default in
    unnamed c.args.name.now (rows_in c.args.given.now) here.not-verify here.not-prove here.not-check here.not-build here.not-run here.not-bulk
