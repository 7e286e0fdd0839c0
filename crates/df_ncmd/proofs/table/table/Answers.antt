use Rattle.std.proofs.Common.{ap, codes, ◌∙◌}
use Rattle.std.proofs.lemmas.Result.{IfOk-weaker}
use Rattle.clap.specs.Words.{App, with_subcommand}
use Rattle.df_ncmd.specs.Table.{checking, making}
use Rattle.df_ncmd.specs.Built.{with_compilers, with_provers}
use Rattle.df_ncmd.proofs.table.table.Goals as goal

pub returns : goal.returns
returns c =
    let one = c.in_ok-command.ensures ∙ ap with_provers c.program.ensures in
    let two = c.in_ok-command-2.ensures ∙ ap (λ (a : App). with_subcommand a (checking (codes "check"))) one in
    let three = c.in_ok-command-3.ensures ∙ ap with_compilers two in
    IfOk-weaker c.with_maker.result _ _ (λ command made. made ∙ ap (λ (a : App). with_subcommand a (making (codes "bulk"))) three) c.with_maker.ensures
