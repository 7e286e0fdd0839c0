use Rattle.std.proofs.Common.{length, None, Some, refl, sym, ap, ◌∙◌, subst}
use Rattle.df_level.specs.Levels.{rows_of}
use Rattle.df_branch.specs.Standing.{AreMet}
use Rattle.df_branch.proofs.Leaves.{found_rows, rows_inside}
use Rattle.df_branch.proofs.Unrefuted.{met_unrefuted, wide_row_there, stands_there}
use Rattle.df_branch.proofs.standing.closed_standing.Goals as goal

pub returns-in_default : goal.returns-in_default
returns-in_default c = λ clauses list at.
    wide_row_there clauses c.args.nodes.now list c.args.reasons.items c.args.facts.items at (found_rows c.args.nodes.now c.deref.result.now c.args.facts.items c.in_ok-rows.field-0 None c.in_ok-rows.ensures c.deref.ensures.value c.in_default.is)

pub returns-then-are_met : goal.returns-then-are_met
returns-then-are_met c = λ clauses list at.
    let found = found_rows c.args.nodes.now c.deref.result.now c.args.facts.items c.in_ok-rows.field-0 (Some c.in-Some.rows) c.in_ok-rows.ensures c.deref.ensures.value c.in-Some.is in
    let rows = rows_of c.in-Some.rows.items in
    let met = subst (λ xs. AreMet (rows_of xs)) c.deref-2.ensures.value (c.if-are_met.ensures refl) in
    stands_there clauses c.args.nodes.now list c.args.reasons.items c.args.facts.items at rows found
    (met_unrefuted (length c.args.nodes.now) rows (rows_inside c.args.nodes.now c.args.facts.items rows c.requires.table found) met)

pub eliminated-requires-clause-rows_are : goal.eliminated-requires-clause-rows_are
eliminated-requires-clause-rows_are c =
    found_rows c.args.nodes.now c.deref.result.now c.args.facts.items c.in_ok-rows.field-0 (Some c.in-Some.rows) c.in_ok-rows.ensures c.deref.ensures.value c.in-Some.is ∙ ap (λ xs. Some (rows_of xs)) (sym c.deref-3.ensures.value)
