use Rattle.std.proofs.Common.{rules, sym, ◌∙◌}
use Rattle.df_ntop.proofs.Searching.{finds_if, finds_none}
use Rattle.df_ntop.proofs.entries.entry.Goals as goal

pub returns-clause-some : goal.returns-clause-some
returns-clause-some c = finds_if c.args.program.now.decls.items c.first_entry.result (search rules)

pub returns-clause-none : goal.returns-clause-none
returns-clause-none c none = finds_none c.args.program.now.decls.items (sym (search rules) ∙ none)
