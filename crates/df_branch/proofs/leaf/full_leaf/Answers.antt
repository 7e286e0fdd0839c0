use Rattle.std.proofs.Common.{map, ap, Some, None}
use Rattle.df_form.specs.Log.{combination_of}
use Rattle.df_level.specs.Levels.{rows_of}
use Rattle.df_elim.specs.declared.elimination.Elimination.TheVariants as answers
use Rattle.df_branch.proofs.Leaves.{ok_weaker, found_rows, eliminated, wide_row, unsolvable, wide, many, rows_within, filled_place, lent_place}
use Rattle.df_branch.proofs.leaf.full_leaf.Goals as goal

pub returns-in_default : goal.returns-in_default
returns-in_default c = λ clauses branch p.
    let rows = found_rows c.args.nodes.now c.deref.result.now c.args.facts.items c.in_ok-rows.field-0 None c.in_ok-rows.ensures c.deref.ensures.value c.in_default.is in
    wide_row c.args.set.now clauses c.args.nodes.now branch c.args.reasons.items c.args.facts.items p.at c.requires.formulas c.args.labels.now p.labels_are rows

pub returns-in_ok-combinations-in-Refuted : goal.returns-in_ok-combinations-in-Refuted
returns-in_ok-combinations-in-Refuted c = λ clauses branch p.
    let rows = found_rows c.args.nodes.now c.deref.result.now c.args.facts.items c.in_ok-rows.field-0 (Some c.in-Some.rows) c.in_ok-rows.ensures c.deref.ensures.value c.in-Some.is in
    let tells = eliminated c.deref-2.result.now c.in-Some.rows c.in_ok-levels.field-0 (answers.Refuted c.in-Refuted.levels) c.in_ok-levels.ensures c.deref-2.ensures.value c.in-Refuted.is in
    unsolvable c.args.set.now clauses c.args.nodes.now branch c.args.reasons.items c.args.facts.items p.at c.requires.formulas c.args.labels.now p.labels_are (rows_of c.in-Some.rows.items) rows (rows_of c.deref-in-Refuted.result.now) (map combination_of c.in_ok-combinations-in-Refuted.field-0.items) tells.refuted (ap rows_of c.deref-in-Refuted.ensures.value) c.in_ok-combinations-in-Refuted.ensures

pub filled_leaf-requires-clause-within : goal.filled_leaf-requires-clause-within
filled_leaf-requires-clause-within c =
    let rows = found_rows c.args.nodes.now c.deref.result.now c.args.facts.items c.in_ok-rows.field-0 (Some c.in-Some.rows) c.in_ok-rows.ensures c.deref.ensures.value c.in-Some.is in
    let tells = eliminated c.deref-2.result.now c.in-Some.rows c.in_ok-levels.field-0 (answers.Open c.in-Open.levels) c.in_ok-levels.ensures c.deref-2.ensures.value c.in-Open.is in
    rows_within c.args.nodes.now c.requires.table c.args.facts.items (rows_of c.in-Some.rows.items) rows c.in-Open.levels tells

pub returns-in-Open : goal.returns-in-Open
returns-in-Open c =
    let rows = found_rows c.args.nodes.now c.deref.result.now c.args.facts.items c.in_ok-rows.field-0 (Some c.in-Some.rows) c.in_ok-rows.ensures c.deref.ensures.value c.in-Some.is in
    let tells = eliminated c.deref-2.result.now c.in-Some.rows c.in_ok-levels.field-0 (answers.Open c.in-Open.levels) c.in_ok-levels.ensures c.deref-2.ensures.value c.in-Open.is in
    ok_weaker c.filled_leaf.result _ _
    (λ leaf says. λ clauses branch p. says clauses branch
    (lent_place c.args.set.now clauses c.args.nodes.now branch c.in-Open.levels c.args.labels.now c.args.facts.items c.deref-in-Open.result.now c.deref-in-Open.ensures.value
    (filled_place c.args.set.now clauses c.args.nodes.now branch c.args.reasons.items c.args.facts.items p.at c.requires.formulas c.args.labels.now p.labels_are (rows_of c.in-Some.rows.items) rows c.in-Open.levels tells p.filled)))
    c.filled_leaf.ensures

pub returns-in-Wide : goal.returns-in-Wide
returns-in-Wide c = λ clauses branch p.
    let rows = found_rows c.args.nodes.now c.deref.result.now c.args.facts.items c.in_ok-rows.field-0 (Some c.in-Some.rows) c.in_ok-rows.ensures c.deref.ensures.value c.in-Some.is in
    let tells = eliminated c.deref-2.result.now c.in-Some.rows c.in_ok-levels.field-0 answers.Wide c.in_ok-levels.ensures c.deref-2.ensures.value c.in-Wide.is in
    wide c.args.set.now clauses c.args.nodes.now branch c.args.reasons.items c.args.facts.items p.at c.requires.formulas c.args.labels.now p.labels_are (rows_of c.in-Some.rows.items) rows tells

pub returns-in-Many : goal.returns-in-Many
returns-in-Many c = λ clauses branch p.
    let rows = found_rows c.args.nodes.now c.deref.result.now c.args.facts.items c.in_ok-rows.field-0 (Some c.in-Some.rows) c.in_ok-rows.ensures c.deref.ensures.value c.in-Some.is in
    let tells = eliminated c.deref-2.result.now c.in-Some.rows c.in_ok-levels.field-0 (answers.Many c.in-Many.count) c.in_ok-levels.ensures c.deref-2.ensures.value c.in-Many.is in
    many c.args.set.now clauses c.args.nodes.now branch c.args.reasons.items c.args.facts.items p.at c.requires.formulas c.args.labels.now p.labels_are (rows_of c.in-Some.rows.items) rows c.in-Many.count tells
