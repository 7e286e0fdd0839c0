use Rattle.std.proofs.Common.{ap, map, Vec, Global}
use Rattle.std.specs.Option.{option_map}
use Rattle.df_lang.specs.declared.stmt.Measure.{Measure}
use Rattle.df_lang.specs.ExprView.{expr_of}
use Rattle.df_lang.specs.StmtView.{clause_of, measure_of}
use Rattle.df_lang.specs.Assignment.{reads, reads_of_clauses, reads_of_measures}
use Rattle.df_nghost.specs.mirror.Known.{assigned_of}
use Rattle.df_nghost.proofs.Ways.{with_first}
use Rattle.df_nghost.proofs.Finds.{three_found}
use Rattle.df_nghost.proofs.flow.Flow.head.Goals as goal

pub returns-clause-known : goal.returns-clause-known
returns-clause-known c =
    let measured = reads_of_measures (option_map (λ (measures : Vec Measure Global). map measure_of measures.items) c.args.decreases.now) in
    let at = assigned_of c.args.self.now.assigned in
    ap (with_first at) (three_found at c.args.self.now.first c.first_use-first.result c.first_of_clauses-first.result c.first_of_measure-self.result (reads (expr_of c.args.guard.now)) (reads_of_clauses (map clause_of c.args.invariants.now.items)) measured c.first_use-first.ensures c.first_of_clauses-first.ensures c.first_of_measure-self.ensures)
