use Rattle.df_ncmd.proofs.Builders.{nameless, wants_command}
use Rattle.df_ncmd.proofs.table.program.Goals as goal

pub returns : goal.returns
returns c =
    let begun = nameless c.new.result c.no_binary_name.result _ c.new.ensures.app c.no_binary_name.ensures in
    wants_command c.no_binary_name.result c.subcommand_required.result _ begun c.subcommand_required.ensures
