use Rattle.std.proofs.Common.{vec_len, subst, refl, Some, [], sym, ◌∙◌, ap}
use Rattle.std.proofs.lemmas.List.{append-nil, length-take-le}
use Rattle.std.proofs.lemmas.Result.{err_from_is_err_and}
use Rattle.df_base.specs.declared.refusal.Stop.TheVariants.{Refused}
use Rattle.df_tok.specs.Fault.{IsRefusedAt}
use Rattle.df_tok.proofs.Pieces.{skip_next, lex_next, lexeme_next}
use Rattle.df_tok.proofs.Divisions.{next_within}
use Rattle.df_tok.proofs.Faults.{cannot_from, fault_from}
use Rattle.df_tok.proofs.Results.{passed, refused_is}
use Rattle.df_tok.proofs.reader.add_next.Goals as goal

pub slice_bounds-add_token-end : goal.slice_bounds-add_token-end
slice_bounds-add_token-end c =
    let found = sym c.front_of.ensures ∙ c.in-Some-Lexeme.is ∙ ap Some c.in-Some-Lexeme.field-0-is in
    let r = lex_next c.args.rest.now c.in-Some-Lexeme.form c.in-Some-Lexeme.len found in
    sym (length-take-le c.in-Some-Lexeme.len c.args.rest.now r.within)

pub add_token-requires-clause-form : goal.add_token-requires-clause-form
add_token-requires-clause-form c =
    let found = sym c.front_of.ensures ∙ c.in-Some-Lexeme.is ∙ ap Some c.in-Some-Lexeme.field-0-is in
    let r = lex_next c.args.rest.now c.in-Some-Lexeme.form c.in-Some-Lexeme.len found in
    r.form_is

pub returns-in_err-add_token-in-Some-Lexeme-clause-refused :
    goal.returns-in_err-add_token-in-Some-Lexeme-clause-refused
returns-in_err-add_token-in-Some-Lexeme-clause-refused c = λ r e.
    let found = sym c.front_of.ensures ∙ c.in-Some-Lexeme.is ∙ ap Some c.in-Some-Lexeme.field-0-is in
    let p = err_from_is_err_and c.from_residual.result c.from_residual.ensures.1 in
    let q = c.in_err-add_token-in-Some-Lexeme.ensures.refused r (passed c.from_residual.result c.in_err-add_token-in-Some-Lexeme.field-0.0 (Refused r) p e) in
    cannot_from c.args.names.now c.args.rest.now c.args.pos c.in-Some-Lexeme.form c.in-Some-Lexeme.len _ r found q

pub returns-in-Some-Skipped-clause-found : goal.returns-in-Some-Skipped-clause-found
returns-in-Some-Skipped-clause-found c =
    let found = sym c.front_of.ensures ∙ c.in-Some-Skipped.is ∙ ap Some c.in-Some-Skipped.field-0-is in
    let next = skip_next c.args.names.now c.args.rest.now c.args.pos c.in-Some-Skipped.len found in
    record { more = []; next = next; within = next_within _ _ _ _ _ _ next; items = sym (append-nil _) }

pub returns-in_ok-add_token-in-Some-Lexeme-clause-found :
    goal.returns-in_ok-add_token-in-Some-Lexeme-clause-found
returns-in_ok-add_token-in-Some-Lexeme-clause-found c =
    let found = sym c.front_of.ensures ∙ c.in-Some-Lexeme.is ∙ ap Some c.in-Some-Lexeme.field-0-is in
    let r = lex_next c.args.rest.now c.in-Some-Lexeme.form c.in-Some-Lexeme.len found in
    let a = c.in_ok-add_token-in-Some-Lexeme.ensures.added in
    record { more = _; next = lexeme_next c.args.names.now c.args.rest.now c.args.pos c.in-Some-Lexeme.form c.in-Some-Lexeme.len a.kind _ r a.has; within = r.within; items = a.items }

pub returns-in-None-clause-refused : goal.returns-in-None-clause-refused
returns-in-None-clause-refused c = λ r e.
    let f = fault_from c.args.names.now c.args.rest.now c.args.pos (vec_len c.args.all.now) c.requires.some (sym c.front_of.ensures ∙ c.in-None.is) in
    let same = refused_is (Refused c.fault.result) r c.fault.result e refl in
    subst (IsRefusedAt c.args.names.now c.args.rest.now c.args.pos (vec_len c.args.all.now)) (sym (same ∙ c.fault.ensures)) f
