-- The walk over statements: their typed forms, or how the first rule is told that they break. What private contracts cite.
use Rattle.std.specs.Prelude.{Bool, true, ◌||◌, List, [], ◌∷◌, map, Option, Ok, Err}
use Rattle.std.specs.List.{list_any}
use Rattle.df_base.specs.declared.pos.Pos.{Pos}
use Rattle.df_lang.specs.Stmt as typed
use Rattle.df_lang.specs.StmtView as view
use Rattle.df_ntree.specs.Expr.{Expr, Call}
use Rattle.df_ntree.specs.File.{Clause, Statement, Nested, Var, Assign, Expression, If, While, Return, Break, Assert, Print, Statements, done, next, Branches, end, more, Branch, Otherwise, without, otherwise}
use Rattle.df_ntyping.specs.Environment.{Environment, enter, inside_loop, past, behind, locals_in_all, locals_in_branches}
use Rattle.df_ntyping.specs.Places.{beginning_of, beginning_of_first}
use Rattle.df_ntyping.specs.Node.{OfLoop}
use Rattle.df_ntyping.specs.rules.Loops.{is_decreases, has_measure}
use Rattle.df_ntyping.specs.Rule as rules
use Rattle.df_ntyping.specs.Wanted as wanteds
use Rattle.df_ntyping.specs.mirror.Parts.{Typed, or_start}
use Rattle.df_ntexpr.specs.Replies.{Reply}
use Rattle.df_ntstmt.specs.mirror.Steps.{and_then, broken, unless, typed_in}
use Rattle.df_ntstmt.specs.declared.places.Place.{Place}
use Rattle.df_ntstmt.specs.mirror.Sides.{call_in, update_in, may_update_in, places_in, returned_places, variables_in, variable_from}
use Rattle.df_ntstmt.specs.mirror.Clauses.{Clauses, clauses_in, operands_in}

-- what is no call is no statement
abbrev pub no_call_in : Environment → Expr → Reply typed.Stmt
no_call_in env e = and_then (typed_in env wanteds.Nothing e) (λ (t : Typed). Err (broken rules.Calls (or_start (beginning_of e))))

-- a statement that is a call drops the results
abbrev pub whole_in : Environment → Expr → Reply typed.Stmt
whole_in env (Call callee arguments) = and_then (call_in env true callee arguments) (λ (call : typed.Call). Ok (typed.CallOf call))
whole_in env e = no_call_in env e

-- a loop has a measure
abbrev pub is_measured : Environment → Expr → List Clause → Bool
is_measured env guard clauses = list_any is_decreases clauses || has_measure env guard

-- the guard and the clauses of a loop
pub record Heading : Type 0 where
  pub guard : Typed
  pub clauses : Clauses

abbrev pub heading_in : Environment → Expr → List Clause → Reply Heading
heading_in env guard clauses =
    and_then (typed_in env wanteds.Truth guard) (λ (condition : Typed).
    and_then (clauses_in env env OfLoop clauses) (λ (all : Clauses). Ok (record { guard = condition; clauses = all })))

-- a loop that has to have a measure
abbrev pub looped_in : Bool → Heading → Pos → typed.Stmts → Reply typed.Stmt
looped_in is_measured heading pos inner =
    and_then (unless is_measured (broken rules.Clauses pos)) (λ (held : Unit {0}). Ok (typed.While pos heading.guard.expr heading.clauses.invariants heading.clauses.decreases inner))

abbrev mutual
  pub statement_in : Environment → Statement → Reply typed.Stmt
  statement_in env (Nested pos body) = and_then (statements_in (enter env) body) (λ (inner : typed.Stmts). Ok (typed.Block pos inner))
  statement_in env (Var pos locals values) =
      and_then (variables_in env env.next values locals) (λ (places : List Place).
      and_then (may_update_in env rules.Assigned pos places values) (λ (update : Option typed.Update). Ok (typed.Var pos (map variable_from places) update)))
  statement_in env (Assign targets values) =
      let pos = or_start (beginning_of_first targets) in
      and_then (places_in env targets) (λ (places : List Place).
      and_then (update_in env rules.Assigned pos places values) (λ (update : typed.Update). Ok (typed.Assign pos update)))
  statement_in env (Expression e) = whole_in env e
  statement_in env (If pos guard opens body others last) =
      let first = past env (locals_in_all body) in
      and_then (typed_in env wanteds.Truth guard) (λ (condition : Typed).
      and_then (statements_in (enter env) body) (λ (inner : typed.Stmts).
      and_then (branches_in first others) (λ (rest : typed.Branches).
      and_then (otherwise_in (past first (locals_in_branches others)) last) (λ (final : typed.Stmts). Ok (typed.If (typed.branch pos condition.expr inner rest) final)))))
  statement_in env (While pos guard clauses opens body) =
      and_then (heading_in env guard clauses) (λ (heading : Heading).
      and_then (statements_in (inside_loop (enter env)) body) (λ (inner : typed.Stmts). looped_in (is_measured env guard clauses) heading pos inner))
  statement_in env (Return pos values) =
      and_then (may_update_in env rules.Returned pos (returned_places env pos env.results) values) (λ (update : Option typed.Update). Ok (typed.Return pos update))
  statement_in env (Break pos) = and_then (unless env.in_loop (broken rules.Broken pos)) (λ (held : Unit {0}). Ok (typed.Break pos))
  statement_in env (Assert pos condition) = and_then (typed_in env wanteds.Truth condition) (λ (t : Typed). Ok (typed.Assert pos t.expr))
  statement_in env (Print pos operands) = and_then (operands_in env operands) (λ (all : List typed.Operand). Ok (typed.Print pos all))

  pub statements_in : Environment → Statements → Reply typed.Stmts
  statements_in env done = Ok typed.done
  statements_in env (next statement others) =
      and_then (statement_in env statement) (λ (one : typed.Stmt).
      and_then (statements_in (behind env statement) others) (λ (rest : typed.Stmts). Ok (typed.next one rest)))

  pub branches_in : Environment → Branches → Reply typed.Branches
  branches_in env end = Ok typed.no_branch
  branches_in env (more pos guard opens body others) =
      and_then (typed_in env wanteds.Truth guard) (λ (condition : Typed).
      and_then (statements_in (enter env) body) (λ (inner : typed.Stmts).
      and_then (branches_in (past env (locals_in_all body)) others) (λ (rest : typed.Branches). Ok (typed.branch pos condition.expr inner rest))))

  pub otherwise_in : Environment → Otherwise → Reply typed.Stmts
  otherwise_in env without = Ok typed.done
  otherwise_in env (otherwise opens body) = statements_in (enter env) body

-- a statement in front of others
abbrev pub stmts_before : List typed.Stmt → typed.Stmts → typed.Stmts
stmts_before [] rest = rest
stmts_before (one ∷ others) rest = typed.next one (stmts_before others rest)

abbrev pub before_stmts : List typed.Stmt → Reply typed.Stmts → Reply typed.Stmts
before_stmts before (Ok rest) = Ok (stmts_before before rest)
before_stmts before (Err refusal) = Err refusal

abbrev pub branches_before : List view.Branch → typed.Branches → typed.Branches
branches_before [] rest = rest
branches_before (one ∷ others) rest = typed.branch one.pos one.guard one.body (branches_before others rest)

abbrev pub before_branches : List view.Branch → Reply typed.Branches → Reply typed.Branches
before_branches before (Ok rest) = Ok (branches_before before rest)
before_branches before (Err refusal) = Err refusal

-- a guard and its block
abbrev pub branch_in : Environment → Branch → Reply view.Branch
branch_in env one =
    and_then (typed_in env wanteds.Truth one.guard) (λ (condition : Typed).
    and_then (statements_in (enter env) one.body.statements) (λ (inner : typed.Stmts). Ok (record { pos = one.pos; guard = condition.expr; body = inner })))
