use Rattle.std.proofs.Common.{◌∙◌, ap}
use Rattle.df_rules.specs.Propagation.{is_empty}
use Rattle.df_kern.proofs.Ends.{ends-of}
use Rattle.df_kern.proofs.checker.ends.Goals as goal

pub returns-in-Some : goal.returns-in-Some
returns-in-Some c = c.has_none.ensures ∙ ap is_empty c.deref.ensures.value ∙ ends-of c.args.clauses.now c.in-Some.clause.now c.in-Some.ensures.value
