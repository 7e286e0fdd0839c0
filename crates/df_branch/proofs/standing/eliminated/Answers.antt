use Rattle.std.proofs.Common.{map, subst}
use Rattle.df_form.specs.Log.{combination_of}
use Rattle.df_level.specs.Levels.{rows_of, level_rows}
use Rattle.df_elim.specs.Elimination.{TellsElimination}
use Rattle.df_branch.proofs.Leaves.{rows_within}
use Rattle.df_branch.proofs.Unrefuted.{eliminated_unrefuted, stands_there, unsolvable_there, wide_there, many_there}
use Rattle.df_branch.proofs.standing.eliminated.Goals as goal

pub returns-in_ok-combinations-in-Refuted : goal.returns-in_ok-combinations-in-Refuted
returns-in_ok-combinations-in-Refuted c = λ clauses list at.
    let rows = rows_of c.args.rows.now in
    let tells = subst (TellsElimination rows) c.in-Refuted.is c.in_ok-levels.ensures in
    unsolvable_there clauses c.args.nodes.now list c.args.reasons.items c.args.facts.items at rows c.requires.rows_are (map combination_of c.in_ok-combinations-in-Refuted.field-0.items) tells.refuted c.in_ok-combinations-in-Refuted.ensures

pub point_of-requires-clause-within : goal.point_of-requires-clause-within
point_of-requires-clause-within c =
    let rows = rows_of c.args.rows.now in
    let whole = subst (TellsElimination rows) c.in-Open.is c.in_ok-levels.ensures in
    rows_within c.args.nodes.now c.requires.table c.args.facts.items rows c.requires.rows_are c.in-Open.levels whole

pub returns-in_ok-point_of-in-Open : goal.returns-in_ok-point_of-in-Open
returns-in_ok-point_of-in-Open c = λ clauses list at.
    let rows = rows_of c.args.rows.now in
    let whole = subst (TellsElimination rows) c.in-Open.is c.in_ok-levels.ensures in
    stands_there clauses c.args.nodes.now list c.args.reasons.items c.args.facts.items at rows c.requires.rows_are
    (eliminated_unrefuted rows (level_rows c.in-Open.levels.first) c.in-Open.levels.variables.items (map level_rows c.in-Open.levels.others.items) whole.elimination)

pub returns-in-Wide : goal.returns-in-Wide
returns-in-Wide c = λ clauses list at.
    let rows = rows_of c.args.rows.now in
    wide_there clauses c.args.nodes.now list c.args.reasons.items c.args.facts.items at rows c.requires.rows_are (subst (TellsElimination rows) c.in-Wide.is c.in_ok-levels.ensures)

pub returns-in-Many : goal.returns-in-Many
returns-in-Many c = λ clauses list at.
    let rows = rows_of c.args.rows.now in
    many_there clauses c.args.nodes.now list c.args.reasons.items c.args.facts.items at rows c.requires.rows_are c.in-Many.count (subst (TellsElimination rows) c.in-Many.is c.in_ok-levels.ensures)
