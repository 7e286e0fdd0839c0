-- A loop is made of what stands before its body, and of its body.
use Rattle.std.proofs.Common.{◌≡◌, Bool, List, Result, Ok, Err, refl, sym, ap, ◌∙◌, subst}
use Rattle.std.specs.Prelude.{OnOk}
use Rattle.df_base.specs.declared.pos.Pos.{Pos}
use Rattle.df_base.specs.declared.refusal.Stop.{Stop}
use Rattle.df_lang.specs.Stmt as typed
use Rattle.df_ntree.specs.Expr.{Expr}
use Rattle.df_ntree.specs.File.{Clause, While, Statements}
use Rattle.df_ntyping.specs.Environment.{Environment, enter, inside_loop}
use Rattle.df_ntyping.specs.Node.{OfLoop}
use Rattle.df_ntyping.specs.Wanted as wanteds
use Rattle.df_ntyping.specs.mirror.Parts.{Typed}
use Rattle.df_ntexpr.specs.Replies.{Reply, Replies}
use Rattle.df_ntstmt.specs.mirror.Clauses.{Clauses, clauses_in}
use Rattle.df_ntstmt.specs.mirror.Statements.{Heading, heading_in, looped_in, is_measured, statement_in, statements_in}
use Rattle.df_ntstmt.specs.mirror.Steps.{and_then, typed_in}
use Rattle.df_ntstmt.proofs.Looping.{stops_there}

-- what holds holds where all went well
pub on_ok : {X E : Type 0} (r : Result X E) (P : Type 0) → P → OnOk r P
on_ok (Ok x) P p = p
on_ok (Err e) P p = tt

apart : (guard : Reply Typed) (all : Reply Clauses) (go : Heading → Reply typed.Stmt)
    → and_then (and_then guard (λ (condition : Typed). and_then all (λ (clauses : Clauses). Ok (record { guard = condition; clauses = clauses })))) go ≡ and_then guard (λ (condition : Typed). and_then all (λ (clauses : Clauses). go (record { guard = condition; clauses = clauses })))
apart (Ok condition) (Ok clauses) go = refl
apart (Ok condition) (Err refusal) go = refl
apart (Err refusal) all go = refl

module _ (env : Environment) (at : Pos) (guard : Expr) (clauses : List Clause) (opens : Pos) (body : Statements) where
  abbrev inner : Reply typed.Stmts
  inner = statements_in (inside_loop (enter env)) body

  abbrev ends : Heading → typed.Stmts → Reply typed.Stmt
  ends heading stmts = looped_in (is_measured env guard clauses) heading at stmts

  abbrev behind : Heading → Reply typed.Stmt
  behind heading = and_then inner (ends heading)

  -- the guard, and then the clauses
  abbrev pub in_parts : Reply typed.Stmt
  in_parts = and_then (typed_in env wanteds.Truth guard) (λ (condition : Typed). and_then (clauses_in env env OfLoop clauses) (λ (all : Clauses). behind (record { guard = condition; clauses = all })))

  pub loop_is : in_parts ≡ statement_in env (While at guard clauses opens body)
  loop_is = sym (apart (typed_in env wanteds.Truth guard) (clauses_in env env OfLoop clauses) behind)

  pub heading_stops : {X Z : Type 0} (v : X → Heading) (w : Z → typed.Stmt) (stop : Stop) → Replies v (Err stop) (heading_in env guard clauses) → Replies w (Err stop) (statement_in env (While at guard clauses opens body))
  heading_stops v w stop told = stops_there v w stop (heading_in env guard clauses) behind (statement_in env (While at guard clauses opens body)) told refl

  module _ (heading : Heading) (made : heading_in env guard clauses ≡ Ok heading) where
    headed : behind heading ≡ statement_in env (While at guard clauses opens body)
    headed = sym (ap (λ (reply : Reply Heading). and_then reply behind) made)

    pub body_stops : {X Z : Type 0} (v : X → typed.Stmts) (w : Z → typed.Stmt) (stop : Stop) → Replies v (Err stop) inner → Replies w (Err stop) (statement_in env (While at guard clauses opens body))
    body_stops v w stop told = stops_there v w stop inner (ends heading) (statement_in env (While at guard clauses opens body)) told headed

    pub loop_made : {Z : Type 0} (w : Z → typed.Stmt) (result : Result Z Stop) (stmts : typed.Stmts) (measured : Bool) → inner ≡ Ok stmts → measured ≡ is_measured env guard clauses → Replies w result (looped_in measured heading at stmts) → Replies w result (statement_in env (While at guard clauses opens body))
    loop_made w result stmts measured typed_body same replies =
        subst (Replies w result) (ap (λ (b : Bool). looped_in b heading at stmts) same ∙ sym (ap (λ (reply : Reply typed.Stmts). and_then reply (ends heading)) typed_body) ∙ headed) replies
