use Rattle.std.proofs.Common.{Some, None}
use Rattle.std.proofs.lemmas.Result.{err_from_is_err_and}
use Rattle.df_lemmas.proofs.Options.{none_left}
use Rattle.df_ntree.specs.mirror.Reading.{part_at, all_of}
use Rattle.df_ntree.proofs.Repeat.{goes_on, is_done}
use Rattle.df_ntree.proofs.Text.{part_shrinks}
use Rattle.df_npexpr.proofs.Loop.{list_fails, seen}
use Rattle.df_npdecl.proofs.text.Parts.all.Goals as goal

pub returns-in_err-character : goal.returns-in_err-character
returns-in_err-character c =
    let p = err_from_is_err_and c.from_residual.result c.from_residual.ensures.1 in
    rw (p.1, p.2) (list_fails c.in_err-character.field-0.0 part_at part_shrinks c.loop-characters.characters.items c.loop-characters.self.rest.now (all_of part_at c.args.self.now.rest.now) c.in_err-character.ensures c.loop-characters.invariant)

pub loop-characters-smaller : goal.loop-characters-smaller
loop-characters-smaller c =
    let e = seen (part_at c.loop-characters.self.rest.now) c.in_ok-character.field-0 (Some c.in-Some.character) c.next.new.self.rest.now c.in_ok-character.ensures c.in-Some.is in
    part_shrinks.falls c.loop-characters.self.rest.now c.next.new.self.rest.now c.in-Some.character e

pub loop-characters-preserved : goal.loop-characters-preserved
loop-characters-preserved c =
    let e = seen (part_at c.loop-characters.self.rest.now) c.in_ok-character.field-0 (Some c.in-Some.character) c.next.new.self.rest.now c.in_ok-character.ensures c.in-Some.is in
    rw c.in_ok-push.ensures.items (goes_on part_at part_shrinks c.loop-characters.characters.items c.loop-characters.self.rest.now c.next.new.self.rest.now c.in-Some.character (all_of part_at c.args.self.now.rest.now) e c.loop-characters.invariant)

pub returns : goal.returns
returns c =
    let e = seen (part_at c.loop-characters.self.rest.now) c.in_ok-character.field-0 None c.next.new.self.rest.now c.in_ok-character.ensures (none_left c.in_ok-character.field-0 c.in_default.not-Some) in
    is_done part_at part_shrinks c.loop-characters.characters.items c.loop-characters.self.rest.now c.next.new.self.rest.now (all_of part_at c.args.self.now.rest.now) e c.loop-characters.invariant
