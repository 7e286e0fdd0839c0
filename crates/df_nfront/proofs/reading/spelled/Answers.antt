use Rattle.std.proofs.Common.{◌≡◌, ℕ, ◌≤◌, List, [], length, map, Err, ap, arith}
use Rattle.std.proofs.lemmas.List.{length-map}
use Rattle.std.proofs.lemmas.Result.{err_from_is_err_and, IfOk-weaker}
use Rattle.df_base.specs.declared.refusal.Stop.{Stop}
use Rattle.df_tok.specs.declared.token.Token as declared
use Rattle.df_tok.specs.Token.{view}
use Rattle.df_tok.specs.Division.{Divides}
use Rattle.df_nfront.specs.Source.{IsDivided}
use Rattle.df_nfront.proofs.Refusals.{bytes_told, tokens_told}
use Rattle.df_nfront.proofs.reading.spelled.Goals as goal
use Rattle.df_tok.specs.Limits.{byte_limit, token_limit}

is_divided : (source : List ℕ) (before names : List (List ℕ)) (all : List declared.Token) → before ≡ [] → length source ≤ byte_limit → length all ≤ token_limit → Divides before source (map view all) names → IsDivided source names (map view all)
is_divided source before names all none short few divided = record {
  short = short;
  divided = rw (← none) divided;
  few = rw length-map few;
}

pub returns-in_err-tokens-clause-refused : goal.returns-in_err-tokens-clause-refused
returns-in_err-tokens-clause-refused c =
    let p = err_from_is_err_and c.from_residual.result c.from_residual.ensures.1 in
    rw (p.1, p.2) (bytes_told c.args.source.now _ c.args.names.now c.in_err-tokens.field-0.0 c.requires (λ r e. c.in_err-tokens.ensures.refused r (ap (λ (s : Stop). Err s) e)))

pub returns-clause-read : goal.returns-clause-read
returns-clause-read c =
    let few : length c.in_ok-tokens.tokens.all.items ≤ token_limit = omega (arith, c.in_ok-tokens.ensures.few.1, c.in_ok-tokens.tokens.all.ok.0) in
    let divided = is_divided c.args.source.now c.args.names.now _ _ c.requires c.in_ok-tokens.ensures.few.0 few c.in_ok-tokens.ensures.divided in
    IfOk-weaker c.parse.result _ _ (λ file h. record {
      tokens = map view c.in_ok-tokens.tokens.all.items;
      divided = divided;
      spelled = h;
    }) c.parse.ensures.file

pub returns-clause-refused : goal.returns-clause-refused
returns-clause-refused c =
    let few : length c.in_ok-tokens.tokens.all.items ≤ token_limit = omega (arith, c.in_ok-tokens.ensures.few.1, c.in_ok-tokens.tokens.all.ok.0) in
    let divided = is_divided c.args.source.now c.args.names.now _ _ c.requires c.in_ok-tokens.ensures.few.0 few c.in_ok-tokens.ensures.divided in
    tokens_told c.args.source.now _ (map view c.in_ok-tokens.tokens.all.items) c.parse.result divided c.parse.ensures.refused c.parse.ensures.which
