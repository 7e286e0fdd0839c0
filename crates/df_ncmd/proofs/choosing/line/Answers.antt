use Rattle.std.proofs.Common.{map, string_bytes}
use Rattle.df_ncmd.proofs.Refusals.{refused_at, taken}
use Rattle.df_ncmd.proofs.choosing.line.Goals as goal

pub returns-in_err-matches : goal.returns-in_err-matches
returns-in_err-matches c =
    refused_at (map string_bytes c.args.words.now) _ _ c.try_get_matches_from.result c.from_residual-in_err-matches.result
    c.in_ok-table.ensures c.in_err-matches.was c.try_get_matches_from.ensures.kinds c.from_residual-in_err-matches.ensures

pub returns : goal.returns
returns c =
    taken (map string_bytes c.args.words.now) _ c.in_ok-matches.matches c.try_get_matches_from.result c.command_met.result
    c.in_ok-table.ensures c.in_ok-matches.was c.try_get_matches_from.ensures.kinds c.in_ok-matches.ensures.matches c.command_met.ensures
