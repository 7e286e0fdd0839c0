use Rattle.std.proofs.Common.{Some, None}
use Rattle.std.proofs.lemmas.Result.{err_from_is_err_and}
use Rattle.df_lemmas.proofs.Options.{none_left}
use Rattle.df_ntree.specs.mirror.Reading.{all_of}
use Rattle.df_ntree.proofs.Repeat.{goes_on, is_done}
use Rattle.df_npexpr.specs.Rest.{rest_of}
use Rattle.df_npexpr.proofs.Loop.{list_fails, seen}
use Rattle.df_npexpr.proofs.Readers.{cast_step, cast_shrinks}
use Rattle.df_npexpr.proofs.cursor.Cursor.casts.Goals as goal

pub returns-in_err-ty : goal.returns-in_err-ty
returns-in_err-ty c =
    let p = err_from_is_err_and c.from_residual.result c.from_residual.ensures.1 in
    rw (p.1, p.2)
    (list_fails c.in_err-ty.field-0.0 cast_step cast_shrinks c.loop-types.types.items (rest_of c.loop-types.self) (all_of cast_step (rest_of c.args.self.now)) c.in_err-ty.ensures c.loop-types.invariant)

pub loop-types-smaller : goal.loop-types-smaller
loop-types-smaller c =
    let e = seen (cast_step (rest_of c.loop-types.self)) c.in_ok-ty.field-0 (Some c.in-Some.ty) (rest_of c.next_cast.new.self) c.in_ok-ty.ensures c.in-Some.is in
    cast_shrinks.falls (rest_of c.loop-types.self) (rest_of c.next_cast.new.self) c.in-Some.ty e

pub loop-types-preserved : goal.loop-types-preserved
loop-types-preserved c =
    let e = seen (cast_step (rest_of c.loop-types.self)) c.in_ok-ty.field-0 (Some c.in-Some.ty) (rest_of c.next_cast.new.self) c.in_ok-ty.ensures c.in-Some.is in
    rw c.in_ok-push.ensures.items
    (goes_on cast_step cast_shrinks c.loop-types.types.items (rest_of c.loop-types.self) (rest_of c.next_cast.new.self) c.in-Some.ty (all_of cast_step (rest_of c.args.self.now)) e c.loop-types.invariant)

pub returns : goal.returns
returns c =
    let e = seen (cast_step (rest_of c.loop-types.self)) c.in_ok-ty.field-0 None (rest_of c.next_cast.new.self) c.in_ok-ty.ensures (none_left c.in_ok-ty.field-0 c.in_default.not-Some) in
    is_done cast_step cast_shrinks c.loop-types.types.items (rest_of c.loop-types.self) (rest_of c.next_cast.new.self) (all_of cast_step (rest_of c.args.self.now)) e c.loop-types.invariant
