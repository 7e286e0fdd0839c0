use Rattle.df_pexpr.proofs.Walk.{terminal_found}
use Rattle.df_pexpr.proofs.lookup.terminal_at.Goals as goal

pub returns-in-Some : goal.returns-in-Some
returns-in-Some c = terminal_found c.args.tokens.now c.args.at c.in-Some.token.now c.terminal_of.result c.in-Some.ensures.lookup.3.0 c.in-Some.ensures.lookup.1 c.terminal_of.ensures
