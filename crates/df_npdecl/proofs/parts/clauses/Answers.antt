use Rattle.std.proofs.Common.{ap, map, option_map, Some, None}
use Rattle.std.proofs.lemmas.Result.{err_from_is_err_and}
use Rattle.std.proofs.lemmas.List.{map_push}
use Rattle.df_lemmas.proofs.Options.{none_left}
use Rattle.df_ntree.specs.File.{clause_of}
use Rattle.df_ntree.specs.mirror.Reading.{all_of}
use Rattle.df_ntree.proofs.Repeat.{goes_on, is_done}
use Rattle.df_npexpr.specs.Rest.{rest_of}
use Rattle.df_npexpr.proofs.Loop.{list_fails, seen}
use Rattle.df_npdecl.proofs.Rows.{clause_step, clause_shrinks}
use Rattle.df_npdecl.proofs.parts.clauses.Goals as goal

pub returns-in_err-clause : goal.returns-in_err-clause
returns-in_err-clause c =
    let p = err_from_is_err_and c.from_residual.result c.from_residual.ensures.1 in
    rw (p.1, p.2) (list_fails c.in_err-clause.field-0.0 (clause_step c.args.room) (clause_shrinks c.args.room) (map clause_of c.loop-clauses.clauses.items) (rest_of c.loop-clauses.cursor) (all_of (clause_step c.args.room) (rest_of c.args.cursor.now)) c.in_err-clause.ensures c.loop-clauses.invariant)

pub loop-clauses-smaller : goal.loop-clauses-smaller
loop-clauses-smaller c =
    let e = seen (clause_step c.args.room (rest_of c.loop-clauses.cursor)) (option_map clause_of c.in_ok-clause.field-0) (Some (clause_of c.in-Some.clause)) (rest_of c.next_clause.new.cursor) c.in_ok-clause.ensures (ap (option_map clause_of) c.in-Some.is) in
    (clause_shrinks c.args.room).falls (rest_of c.loop-clauses.cursor) (rest_of c.next_clause.new.cursor) (clause_of c.in-Some.clause) e

pub loop-clauses-preserved : goal.loop-clauses-preserved
loop-clauses-preserved c =
    let e = seen (clause_step c.args.room (rest_of c.loop-clauses.cursor)) (option_map clause_of c.in_ok-clause.field-0) (Some (clause_of c.in-Some.clause)) (rest_of c.next_clause.new.cursor) c.in_ok-clause.ensures (ap (option_map clause_of) c.in-Some.is) in
    rw (c.in_ok-push.ensures.items, map_push clause_of c.loop-clauses.clauses.items c.in-Some.clause) (goes_on (clause_step c.args.room) (clause_shrinks c.args.room) (map clause_of c.loop-clauses.clauses.items) (rest_of c.loop-clauses.cursor) (rest_of c.next_clause.new.cursor) (clause_of c.in-Some.clause) (all_of (clause_step c.args.room) (rest_of c.args.cursor.now)) e c.loop-clauses.invariant)

pub returns : goal.returns
returns c =
    let e = seen (clause_step c.args.room (rest_of c.loop-clauses.cursor)) (option_map clause_of c.in_ok-clause.field-0) None (rest_of c.next_clause.new.cursor) c.in_ok-clause.ensures (ap (option_map clause_of) (none_left c.in_ok-clause.field-0 c.in_default.not-Some)) in
    is_done (clause_step c.args.room) (clause_shrinks c.args.room) (map clause_of c.loop-clauses.clauses.items) (rest_of c.loop-clauses.cursor) (rest_of c.next_clause.new.cursor) (all_of (clause_step c.args.room) (rest_of c.args.cursor.now)) e c.loop-clauses.invariant
