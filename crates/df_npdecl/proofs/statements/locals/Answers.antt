use Rattle.std.proofs.Common.{◌≡◌, ◌∙◌, ap, Some, None, List, ◌∷◌, ◌++◌, []}
use Rattle.std.proofs.lemmas.Result.{err_from_is_err_and}
use Rattle.df_lemmas.proofs.Options.{none_left}
use Rattle.df_ntree.specs.mirror.Reading.{next_by, one_or_more}
use Rattle.df_ntree.specs.mirror.FileReading.{local_at}
use Rattle.df_ntree.proofs.Repeat.{goes_on, is_done}
use Rattle.df_npexpr.specs.Rest.{rest_of}
use Rattle.df_npexpr.proofs.Loop.{list_fails, seen}
use Rattle.df_npdecl.proofs.Rows.{local_shrinks, row_starts}
use Rattle.df_npdecl.proofs.statements.locals.Goals as goal

pub returns-in_err-local-2 : goal.returns-in_err-local-2
returns-in_err-local-2 c =
    let p = err_from_is_err_and c.from_residual-in_err-local-2.result c.from_residual-in_err-local-2.ensures.1 in
    rw (p.1, p.2) (list_fails c.in_err-local-2.field-0.0 (next_by (local_at c.args.room)) (local_shrinks c.args.room) c.loop-locals.locals.items (rest_of c.loop-locals.cursor) (one_or_more (local_at c.args.room) (rest_of c.args.cursor.now)) c.in_err-local-2.ensures c.loop-locals.invariant)

pub loop-locals-smaller : goal.loop-locals-smaller
loop-locals-smaller c =
    let e = seen (next_by (local_at c.args.room) (rest_of c.loop-locals.cursor)) c.in_ok-local-2.field-0 (Some c.in-Some.local) (rest_of c.next_local.new.cursor) c.in_ok-local-2.ensures c.in-Some.is in
    (local_shrinks c.args.room).falls (rest_of c.loop-locals.cursor) (rest_of c.next_local.new.cursor) c.in-Some.local e

pub loop-locals-preserved : goal.loop-locals-preserved
loop-locals-preserved c =
    let e = seen (next_by (local_at c.args.room) (rest_of c.loop-locals.cursor)) c.in_ok-local-2.field-0 (Some c.in-Some.local) (rest_of c.next_local.new.cursor) c.in_ok-local-2.ensures c.in-Some.is in
    rw c.in_ok-push-2.ensures.items (goes_on (next_by (local_at c.args.room)) (local_shrinks c.args.room) c.loop-locals.locals.items (rest_of c.loop-locals.cursor) (rest_of c.next_local.new.cursor) c.in-Some.local (one_or_more (local_at c.args.room) (rest_of c.args.cursor.now)) e c.loop-locals.invariant)

pub returns : goal.returns
returns c =
    let e = seen (next_by (local_at c.args.room) (rest_of c.loop-locals.cursor)) c.in_ok-local-2.field-0 None (rest_of c.next_local.new.cursor) c.in_ok-local-2.ensures (none_left c.in_ok-local-2.field-0 c.in_default.not-Some) in
    is_done (next_by (local_at c.args.room)) (local_shrinks c.args.room) c.loop-locals.locals.items (rest_of c.loop-locals.cursor) (rest_of c.next_local.new.cursor) (one_or_more (local_at c.args.room) (rest_of c.args.cursor.now)) e c.loop-locals.invariant

pub loop-locals-init : goal.loop-locals-init
loop-locals-init c =
    let pushed : c.push.new.self.items ≡ c.in_ok-local.field-0 ∷ [] = c.in_ok-push.ensures.items ∙ ap (λ (l : List _). l ++ c.in_ok-local.field-0 ∷ []) c.new-locals.ensures.items in
    row_starts (local_at c.args.room) c.in_ok-local.field-0 c.push.new.self.items (rest_of c.args.cursor.now) (rest_of c.local.new.cursor) c.in_ok-local.ensures pushed
