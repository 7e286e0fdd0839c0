use Rattle.std.proofs.Common.{sym, subst}
use Rattle.std.specs.Option.{option_and_then}
use Rattle.df_ncmd.specs.Line.{named}
use Rattle.df_ncmd.specs.View.{Gives, command_of, rows_in}
use Rattle.df_ncmd.proofs.Refusals.{met}
use Rattle.df_ncmd.proofs.choosing.command_met.Goals as goal

pub returns-in-Some : goal.returns-in-Some
returns-in-Some c =
    met c.args.matches.now c.subcommand.result c.command_named.result c.subcommand.ensures.name c.subcommand.ensures.rows
    (subst (λ r. Gives command_of c.command_named.result (option_and_then (λ p. named p.0.now (rows_in p.1.now)) r)) (sym c.in-Some.is) c.command_named.ensures)
