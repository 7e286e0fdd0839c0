use Rattle.std.proofs.Common.{sym, ◌∙◌}
use Rattle.std.proofs.lemmas.Result.{err_from_is_err_and}
use Rattle.df_base.specs.declared.refusal.Stop.TheVariants.{Refused}
use Rattle.df_tok.specs.Steps.{large, full}
use Rattle.df_tok.proofs.Results.{passed, refused_is}
use Rattle.df_tok.proofs.reader.add_token.Goals as goal

pub returns-in_err-kind-clause-refused : goal.returns-in_err-kind-clause-refused
returns-in_err-kind-clause-refused c = λ r e.
    let p = err_from_is_err_and c.from_residual.result c.from_residual.ensures.1 in
    let q = c.in_err-kind.ensures.refused r (passed c.from_residual.result c.in_err-kind.field-0.0 (Refused r) p e) in
    large q.0 q.1 q.2

pub returns-then-len-eq-TOKEN_LIMIT-clause-refused :
    goal.returns-then-len-eq-TOKEN_LIMIT-clause-refused
returns-then-len-eq-TOKEN_LIMIT-clause-refused c = λ r e.
    full c.in_ok-kind.kind c.kind_of.new.names c.in_ok-kind.ensures.kind (sym c.len.ensures ∙ c.if-len-eq-TOKEN_LIMIT.true) (refused_is c.refused.result r _ e c.refused.ensures)
