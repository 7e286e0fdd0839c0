-- What the closure of a list answers.
use Rattle.std.specs.Prelude.{List}
use Rattle.df_form.specs.declared.log.Lit.{Lit}
use Rattle.df_rules.specs.Known.{IsSetOf}
use Rattle.df_closure.specs.declared.closure.Closure.{Closure}
use Rattle.df_closure.specs.declared.closure.Closure.TheVariants.{Refuted, Closed}
use Rattle.df_closure.specs.Closure.{GroundClause, IsClosed, IsRefuted, after}

abbrev pub Closes : List GroundClause → List Lit → Closure → Type 0
Closes clauses list (Refuted numbers) = IsRefuted clauses list numbers.items
Closes clauses list (Closed known learned reasons) = IsClosed clauses list reasons.items learned.items × IsSetOf (after list learned.items) known
