use Rattle.std.proofs.Common.{ap, map, option_map, Some, None}
use Rattle.std.proofs.lemmas.Result.{err_from_is_err_and}
use Rattle.std.proofs.lemmas.List.{map_push}
use Rattle.df_lemmas.proofs.Options.{none_left}
use Rattle.df_ntree.specs.File.{declaration_of}
use Rattle.df_ntree.specs.mirror.Reading.{all_of}
use Rattle.df_ntree.proofs.Repeat.{goes_on, is_done}
use Rattle.df_npexpr.specs.Rest.{rest_of}
use Rattle.df_npexpr.proofs.Loop.{list_fails, seen}
use Rattle.df_npdecl.proofs.Rows.{declaration_step, declaration_shrinks}
use Rattle.df_npdecl.proofs.declarations.declarations.Goals as goal

pub returns-in_err-declaration : goal.returns-in_err-declaration
returns-in_err-declaration c =
    let p = err_from_is_err_and c.from_residual.result c.from_residual.ensures.1 in
    rw (p.1, p.2) (list_fails c.in_err-declaration.field-0.0 declaration_step declaration_shrinks (map declaration_of c.loop-declarations.declarations.items) (rest_of c.loop-declarations.cursor) (all_of declaration_step (rest_of c.args.cursor.now)) c.in_err-declaration.ensures c.loop-declarations.invariant)

pub loop-declarations-smaller : goal.loop-declarations-smaller
loop-declarations-smaller c =
    let e = seen (declaration_step (rest_of c.loop-declarations.cursor)) (option_map declaration_of c.in_ok-declaration.field-0) (Some (declaration_of c.in-Some.declaration)) (rest_of c.next_declaration.new.cursor) c.in_ok-declaration.ensures (ap (option_map declaration_of) c.in-Some.is) in
    declaration_shrinks.falls (rest_of c.loop-declarations.cursor) (rest_of c.next_declaration.new.cursor) (declaration_of c.in-Some.declaration) e

pub loop-declarations-preserved : goal.loop-declarations-preserved
loop-declarations-preserved c =
    let e = seen (declaration_step (rest_of c.loop-declarations.cursor)) (option_map declaration_of c.in_ok-declaration.field-0) (Some (declaration_of c.in-Some.declaration)) (rest_of c.next_declaration.new.cursor) c.in_ok-declaration.ensures (ap (option_map declaration_of) c.in-Some.is) in
    rw (c.in_ok-push.ensures.items, map_push declaration_of c.loop-declarations.declarations.items c.in-Some.declaration) (goes_on declaration_step declaration_shrinks (map declaration_of c.loop-declarations.declarations.items) (rest_of c.loop-declarations.cursor) (rest_of c.next_declaration.new.cursor) (declaration_of c.in-Some.declaration) (all_of declaration_step (rest_of c.args.cursor.now)) e c.loop-declarations.invariant)

pub returns : goal.returns
returns c =
    let e = seen (declaration_step (rest_of c.loop-declarations.cursor)) (option_map declaration_of c.in_ok-declaration.field-0) None (rest_of c.next_declaration.new.cursor) c.in_ok-declaration.ensures (ap (option_map declaration_of) (none_left c.in_ok-declaration.field-0 c.in_default.not-Some)) in
    is_done declaration_step declaration_shrinks (map declaration_of c.loop-declarations.declarations.items) (rest_of c.loop-declarations.cursor) (rest_of c.next_declaration.new.cursor) (all_of declaration_step (rest_of c.args.cursor.now)) e c.loop-declarations.invariant
