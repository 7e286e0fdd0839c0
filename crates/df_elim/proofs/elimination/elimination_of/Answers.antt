use Rattle.std.proofs.lemmas.Result.{err_from_is_err_and}
use Rattle.df_level.specs.Levels.{rows_of, level_rows}
use Rattle.df_elim.specs.Elimination.{low_after}
use Rattle.df_elim.proofs.Growing.{begins, is_refuted, is_whole, goes_on, stops}
use Rattle.df_elim.proofs.elimination.elimination_of.Goals as goal

pub loop-levels-init : goal.loop-levels-init
loop-levels-init c = begins (rows_of c.args.rows.now) c.in_ok-first.first c.new.result.items c.new-2.result.items c.new.ensures.items c.new-2.ensures.items c.in_ok-first.ensures.rows c.in_ok-first.ensures.ways

pub returns-in-Refuted : goal.returns-in-Refuted
returns-in-Refuted c = is_refuted (rows_of c.args.rows.now) c.loop-levels.levels (low_after c.loop-levels.last) (level_rows c.last.result.now) c.last.ensures c.loop-levels.invariant c.in_ok-into_all-in-Refuted.field-0.items c.in-Refuted.ensures c.in_ok-into_all-in-Refuted.ensures

pub returns-in-End : goal.returns-in-End
returns-in-End c = is_whole (rows_of c.args.rows.now) c.loop-levels.levels (low_after c.loop-levels.last) (level_rows c.last.result.now) c.last.ensures c.loop-levels.invariant c.in-End.ensures.0 c.in-End.ensures.1

pub returns-in_err-eliminate-in-Variable : goal.returns-in_err-eliminate-in-Variable
returns-in_err-eliminate-in-Variable c =
    let from = c.from_residual-in_err-eliminate-in-Variable in
    let p = err_from_is_err_and from.result from.ensures.1 in
    rw (p.1, p.2) (stops (rows_of c.args.rows.now) c.loop-levels.levels (low_after c.loop-levels.last) (level_rows c.last.result.now) c.last.ensures c.loop-levels.invariant c.in-Variable.node c.eliminate.new.self c.in_err-eliminate-in-Variable.field-0.0 c.in-Variable.ensures.0 c.in-Variable.ensures.1 c.in_err-eliminate-in-Variable.ensures)

pub loop-levels-preserved : goal.loop-levels-preserved
loop-levels-preserved c = goes_on (rows_of c.args.rows.now) c.loop-levels.levels (low_after c.loop-levels.last) (level_rows c.last.result.now) c.last.ensures c.loop-levels.invariant c.in-Variable.node c.eliminate.new.self c.in-Variable.ensures.1 c.in_ok-eliminate-in-Variable.ensures
