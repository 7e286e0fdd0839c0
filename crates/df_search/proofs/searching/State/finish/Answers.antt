use Rattle.std.proofs.Common.{IfOk, sym, subst}
use Rattle.df_rules.proofs.Results.{if_ok}
use Rattle.df_search.specs.declared.searching.End.{End}
use Rattle.df_search.specs.declared.searching.Turn.TheVariants as turns
use Rattle.df_search.specs.Searching.{Ends, GoesFrom, lines_at}
use Rattle.df_search.proofs.Coming.{too_wide, many_rows}
use Rattle.df_search.proofs.Ending.{closed_from}
use Rattle.df_search.proofs.searching.State.finish.Goals as goal

pub returns-in-Closed-clause-ends : goal.returns-in-Closed-clause-ends
returns-in-Closed-clause-ends c =
    subst (λ (e : End). IfOk c.close.result (Ends c.args.self.now e c.args.steps c.close.new.self)) (sym c.in-Closed.is) (if_ok c.close.result _ _ c.close.ensures.closes (λ turn closes. closes))

pub returns-in-Closed-clause-longer : goal.returns-in-Closed-clause-longer
returns-in-Closed-clause-longer c =
    subst (λ (e : End). IfOk c.close.result (GoesFrom (lines_at c.args.self.now e) c.close.new.self)) (sym c.in-Closed.is) (closed_from c.args.self.now c.in-Closed.conflict c.close.new.self c.close.result c.close.ensures.longer)

pub returns-in-Wide-clause-ends : goal.returns-in-Wide-clause-ends
returns-in-Wide-clause-ends c =
    subst (λ (e : End). Ends c.args.self.now e c.args.steps c.args.self.now turns.Wide) (sym c.in-Wide.is) (λ s rounds h is_branch few. too_wide s rounds h.0.all c.args.self.now h.0.is is_branch h.1)

pub returns-in-Many-clause-ends : goal.returns-in-Many-clause-ends
returns-in-Many-clause-ends c =
    subst (λ (e : End). Ends c.args.self.now e c.args.steps c.args.self.now (turns.Many c.in-Many.count)) (sym c.in-Many.is)
    (λ s rounds h is_branch few. many_rows s rounds h.0.all c.args.self.now h.0.is is_branch c.in-Many.count h.1)
