use Rattle.std.proofs.Common.{vec_len, ◌≡◌, ◌+◌, ◌-◌, length, take, drop, sym, ◌∙◌, ap, arith}
use Rattle.std.proofs.lemmas.Bool.{eqb-true}
use Rattle.std.proofs.lemmas.List.{length-map, length-append, length-drop, length-take-le, take_rest, nil_from_length}
use Rattle.std.proofs.lemmas.Result.{err_from_is_err_and}
use Rattle.df_base.specs.declared.refusal.Stop.TheVariants.{Refused}
use Rattle.df_tok.specs.Token.{view}
use Rattle.df_tok.proofs.Results.{passed}
use Rattle.df_tok.proofs.Divisions.{progress_more, progress_divides, progress_grows, grows_more, grows_most}
use Rattle.df_tok.proofs.Faults.{fault_there}
use Rattle.df_tok.proofs.reader.tokens.Goals as goal
use Rattle.df_tok.specs.Limits.{token_limit}

pub add_next-requires-clause-room : goal.add_next-requires-clause-room
add_next-requires-clause-room c =
    let g = progress_grows _ _ _ _ _ _ c.loop-rest.invariant.progress in
    omega (arith, ap length g.is, length-append c.args.names.now g.more, g.few, length-map c.loop-rest.all.items view, c.loop-rest.invariant.few, c.requires)

pub returns-in_err-len-clause-refused : goal.returns-in_err-len-clause-refused
returns-in_err-len-clause-refused c = λ r e.
    let p = err_from_is_err_and c.from_residual.result c.from_residual.ensures.1 in
    let q = c.in_err-len.ensures.refused r (passed c.from_residual.result c.in_err-len.field-0.0 (Refused r) p e) in
    fault_there _ _ _ _ _ _ (vec_len c.loop-rest.all) r c.loop-rest.invariant.progress (omega (arith, length-map c.loop-rest.all.items view)) c.loop-rest.invariant.few (omega arith) q

pub returns-in_err-len-clause-kept : goal.returns-in_err-len-clause-kept
returns-in_err-len-clause-kept c =
    let g = progress_grows _ _ _ _ _ _ c.loop-rest.invariant.progress in
    grows_most _ _ _ (token_limit + 1) (omega (arith, length-map c.loop-rest.all.items view, c.loop-rest.invariant.few)) (grows_more _ _ _ _ _ g c.in_err-len.ensures.kept)

pub loop-rest-preserved : goal.loop-rest-preserved
loop-rest-preserved c =
    let f = c.in_ok-len.ensures.found in
    let p = progress_more _ _ _ f.more _ _ _ _ _ c.loop-rest.invariant.progress f.next in
    let rest = c.loop-rest.rest.now in
    let n = c.in_ok-len.len in
    let left : length (take (length rest - n) (drop n rest)) + n ≡ length rest = omega (arith, ap length (take_rest rest n), length-drop n rest, f.within) in
    record {
      progress = rw (f.items, take_rest, c.after-pos.ensures.pos) p;
      few = c.in_ok-len.ensures.few;
      within = omega (arith, left, c.loop-rest.invariant.within);
      line = omega (arith, left, c.after-pos.ensures.line, length-take-le n rest f.within, c.loop-rest.invariant.line);
      col = omega (arith, left, c.after-pos.ensures.col, length-take-le n rest f.within, c.loop-rest.invariant.col);
    }

pub returns-clause-divided : goal.returns-clause-divided
returns-clause-divided c = progress_divides _ _ _ _ _ _ c.loop-rest.invariant.progress (nil_from_length _ (eqb-true _ 0 (sym c.is_empty.ensures ∙ c.loop-rest-test.false)))

pub returns-clause-kept : goal.returns-clause-kept
returns-clause-kept c =
    let g = progress_grows _ _ _ _ _ _ c.loop-rest.invariant.progress in
    grows_most _ _ _ (token_limit + 1) (omega (arith, length-map c.loop-rest.all.items view, c.loop-rest.invariant.few)) g
