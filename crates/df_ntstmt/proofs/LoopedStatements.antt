-- The steps of loops over clauses, statements and branches.
use Rattle.std.proofs.Common.{◌≡◌, ℕ, ◌+◌, ◌<◌, List, [], ◌∷◌, ◌++◌, length, map, drop, get_or, Option, Some, None, Ok, Err, refl, sym, ap, subst, ◌∙◌, append_assoc}
use Rattle.df_base.specs.declared.refusal.Stop.{Stop}
use Rattle.df_base.specs.declared.refusal.Stop.TheVariants as stops
use Rattle.df_lang.specs.Stmt as typed
use Rattle.df_lang.specs.StmtView as view
use Rattle.df_ntexpr.specs.Replies.{Reply, Replies}
use Rattle.df_ntree.specs.declared.file.Clause as declared_clause
use Rattle.df_ntree.specs.declared.file.ConditionKind.TheVariants as conditions
use Rattle.df_ntree.specs.File.{Clause, Condition, Decreases, clause_of, Branch}
use Rattle.df_ntyping.specs.Node.{Owner, OfLoop}
use Rattle.df_ntyping.specs.Environment.{Environment, enter}
use Rattle.df_ntyping.specs.Wanted as wanteds
use Rattle.df_ntyping.specs.mirror.Parts.{Typed}
use Rattle.df_ntstmt.specs.mirror.Steps.{and_then, typed_in}
use Rattle.df_ntstmt.specs.mirror.Clauses.{Clauses, both_measures, both, behind_clauses, clause_in, over_kind, clauses_in}
use Rattle.df_ntstmt.specs.mirror.Statements.{stmts_before, before_stmts, branches_before, before_branches, statements_in, branch_in}
use Rattle.df_ntstmt.proofs.Looping.{cut, then_then}

-- ---- clauses

measures_together : (xs ys zs : Option (List typed.Measure)) → both_measures (both_measures xs ys) zs ≡ both_measures xs (both_measures ys zs)
measures_together None ys zs = refl
measures_together (Some xs) None zs = refl
measures_together (Some xs) (Some ys) None = refl
measures_together (Some xs) (Some ys) (Some zs) = ap Some (append_assoc xs ys zs)

together : (xs ys zs : Clauses) → both (both xs ys) zs ≡ both xs (both ys zs)
together xs ys zs = λ i. record {
  preconditions = append_assoc xs.preconditions ys.preconditions zs.preconditions i;
  postconditions = append_assoc xs.postconditions ys.postconditions zs.postconditions i;
  invariants = append_assoc xs.invariants ys.invariants zs.invariants i;
  decreases = measures_together xs.decreases ys.decreases zs.decreases i;
}

clauses_more : (before one : Clauses) (rest : Reply Clauses) → behind_clauses before (and_then rest (λ (others : Clauses). Ok (both one others))) ≡ behind_clauses (both before one) rest
clauses_more before one (Ok others) = ap Ok (sym (together before one others))
clauses_more before one (Err refusal) = refl

pub clauses_go : (before : Clauses) (answer : Reply Clauses) (one : Clauses) (all rest total : Reply Clauses) → all ≡ and_then answer (λ (x : Clauses). and_then rest (λ (others : Clauses). Ok (both x others))) → answer ≡ Ok one → behind_clauses before all ≡ total
    → behind_clauses (both before one) rest ≡ total
clauses_go before answer one all rest total is made so_far =
    sym (clauses_more before one rest) ∙ ap (λ (reply : Reply Clauses). behind_clauses before (and_then reply (λ (x : Clauses). and_then rest (λ (others : Clauses). Ok (both x others))))) (sym made) ∙ ap (behind_clauses before) (sym is) ∙ so_far

pub clauses_stop : {X Z : Type 0} (v : X → Clauses) (w : Z → Clauses) (stop : Stop) (before : Clauses) (answer : Reply Clauses) (go : Clauses → Reply Clauses) (all total : Reply Clauses) → all ≡ and_then answer go → Replies v (Err stop) answer → behind_clauses before all ≡ total
    → Replies w (Err stop) total
clauses_stop v w stops.Memory before answer go all total is h so_far = tt
clauses_stop v w (stops.Refused refusal) before answer go all total is h so_far = sym so_far ∙ ap (behind_clauses before) (is ∙ ap (λ (reply : Reply Clauses). and_then reply go) h)

clause_first : (parameters results : Environment) (owner : Owner) (all : List declared_clause.Clause) (i : ℕ) (item : declared_clause.Clause) → i < length all → item ≡ get_or all i item
    → clauses_in parameters results owner (map clause_of (drop i all)) ≡ and_then (clause_in (over_kind parameters results (clause_of item)) owner (clause_of item)) (λ (one : Clauses). and_then (clauses_in parameters results owner (map clause_of (drop (i + 1) all))) (λ (rest : Clauses). Ok (both one rest)))
clause_first parameters results owner all i item lt is = ap (clauses_in parameters results owner) (cut clause_of all i item lt is)

pub clause_goes : (parameters results : Environment) (owner : Owner) (all : List declared_clause.Clause) (i : ℕ) (item : declared_clause.Clause) (before one : Clauses) (total : Reply Clauses) → i < length all → item ≡ get_or all i item
    → clause_in (over_kind parameters results (clause_of item)) owner (clause_of item) ≡ Ok one → behind_clauses before (clauses_in parameters results owner (map clause_of (drop i all))) ≡ total → behind_clauses (both before one) (clauses_in parameters results owner (map clause_of (drop (i + 1) all))) ≡ total
clause_goes parameters results owner all i item before one total lt is made so_far = clauses_go before _ one _ _ total (clause_first parameters results owner all i item lt is) made so_far

pub clause_stops : {X Z : Type 0} (v : X → Clauses) (w : Z → Clauses) (stop : Stop) (parameters results : Environment) (owner : Owner) (all : List declared_clause.Clause) (i : ℕ) (item : declared_clause.Clause) (before : Clauses) (total : Reply Clauses) → i < length all → item ≡ get_or all i item
    → Replies v (Err stop) (clause_in (over_kind parameters results (clause_of item)) owner (clause_of item)) → behind_clauses before (clauses_in parameters results owner (map clause_of (drop i all))) ≡ total → Replies w (Err stop) total
clause_stops v w stop parameters results owner all i item before total lt is told so_far = clauses_stop v w stop before _ _ _ total (clause_first parameters results owner all i item lt is) told so_far

-- of a loop all see the same
same_kind : (env : Environment) (clause : Clause) → over_kind env env clause ≡ env
same_kind env (Condition conditions.Requires pos e) = refl
same_kind env (Condition conditions.Ensures pos e) = refl
same_kind env (Condition conditions.Invariant pos e) = refl
same_kind env (Decreases pos values) = refl

pub loop_clause_goes : (env : Environment) (all : List declared_clause.Clause) (i : ℕ) (item : declared_clause.Clause) (before one : Clauses) (total : Reply Clauses) → i < length all → item ≡ get_or all i item → clause_in env OfLoop (clause_of item) ≡ Ok one
    → behind_clauses before (clauses_in env env OfLoop (map clause_of (drop i all))) ≡ total → behind_clauses (both before one) (clauses_in env env OfLoop (map clause_of (drop (i + 1) all))) ≡ total
loop_clause_goes env all i item before one total lt is made so_far =
    clause_goes env env OfLoop all i item before one total lt is (ap (λ (e : Environment). clause_in e OfLoop (clause_of item)) (same_kind env (clause_of item)) ∙ made) so_far

pub loop_clause_stops : {X Z : Type 0} (v : X → Clauses) (w : Z → Clauses) (stop : Stop) (env : Environment) (all : List declared_clause.Clause) (i : ℕ) (item : declared_clause.Clause) (before : Clauses) (total : Reply Clauses) → i < length all → item ≡ get_or all i item
    → Replies v (Err stop) (clause_in env OfLoop (clause_of item)) → behind_clauses before (clauses_in env env OfLoop (map clause_of (drop i all))) ≡ total → Replies w (Err stop) total
loop_clause_stops v w stop env all i item before total lt is told so_far =
    clause_stops v w stop env env OfLoop all i item before total lt is (subst (λ (e : Environment). Replies v (Err stop) (clause_in e OfLoop (clause_of item))) (sym (same_kind env (clause_of item))) told) so_far

-- ---- statements

stmts_more : (before : List typed.Stmt) (one : typed.Stmt) (rest : Reply typed.Stmts) → before_stmts before (and_then rest (λ (others : typed.Stmts). Ok (typed.next one others))) ≡ before_stmts (before ++ one ∷ []) rest
stmts_more before one (Ok rest) = ap Ok (joined before rest) where
  joined : (all : List typed.Stmt) (others : typed.Stmts) → stmts_before all (typed.next one others) ≡ stmts_before (all ++ one ∷ []) others
  joined [] others = refl
  joined (x ∷ all) others = ap (typed.next x) (joined all others)
stmts_more before one (Err refusal) = refl

pub stmts_go : (before : List typed.Stmt) (answer : Reply typed.Stmt) (one : typed.Stmt) (rest total : Reply typed.Stmts) → answer ≡ Ok one
    → before_stmts before (and_then answer (λ (x : typed.Stmt). and_then rest (λ (others : typed.Stmts). Ok (typed.next x others)))) ≡ total → before_stmts (before ++ one ∷ []) rest ≡ total
stmts_go before answer one rest total made so_far =
    sym (stmts_more before one rest) ∙ ap (λ (reply : Reply typed.Stmt). before_stmts before (and_then reply (λ (x : typed.Stmt). and_then rest (λ (others : typed.Stmts). Ok (typed.next x others))))) (sym made) ∙ so_far

pub stmts_stop : {X Z : Type 0} (v : X → typed.Stmt) (w : Z → typed.Stmts) (stop : Stop) (before : List typed.Stmt) (answer : Reply typed.Stmt) (go : typed.Stmt → Reply typed.Stmts) (total : Reply typed.Stmts) → Replies v (Err stop) answer → before_stmts before (and_then answer go) ≡ total
    → Replies w (Err stop) total
stmts_stop v w stops.Memory before answer go total h so_far = tt
stmts_stop v w (stops.Refused refusal) before answer go total h so_far = sym so_far ∙ ap (λ (reply : Reply typed.Stmt). before_stmts before (and_then reply go)) h

pub stmts_end : (all : List typed.Stmt) → stmts_before all typed.done ≡ view.stmts_of all
stmts_end [] = refl
stmts_end (x ∷ all) = ap (typed.next x) (stmts_end all)

-- ---- branches

branches_more : (before : List view.Branch) (one : view.Branch) (rest : Reply typed.Branches) → before_branches before (and_then rest (λ (others : typed.Branches). Ok (typed.branch one.pos one.guard one.body others))) ≡ before_branches (before ++ one ∷ []) rest
branches_more before one (Ok rest) = ap Ok (joined before rest) where
  joined : (all : List view.Branch) (others : typed.Branches) → branches_before all (typed.branch one.pos one.guard one.body others) ≡ branches_before (all ++ one ∷ []) others
  joined [] others = refl
  joined (x ∷ all) others = ap (typed.branch x.pos x.guard x.body) (joined all others)
branches_more before one (Err refusal) = refl

pub branches_go : (before : List view.Branch) (answer : Reply view.Branch) (one : view.Branch) (rest total : Reply typed.Branches) → answer ≡ Ok one
    → before_branches before (and_then answer (λ (x : view.Branch). and_then rest (λ (others : typed.Branches). Ok (typed.branch x.pos x.guard x.body others)))) ≡ total → before_branches (before ++ one ∷ []) rest ≡ total
branches_go before answer one rest total made so_far =
    sym (branches_more before one rest) ∙ ap (λ (reply : Reply view.Branch). before_branches before (and_then reply (λ (x : view.Branch). and_then rest (λ (others : typed.Branches). Ok (typed.branch x.pos x.guard x.body others))))) (sym made) ∙ so_far

pub branches_stop : {X Z : Type 0} (v : X → view.Branch) (w : Z → typed.Branches) (stop : Stop) (before : List view.Branch) (answer : Reply view.Branch) (go : view.Branch → Reply typed.Branches) (total : Reply typed.Branches) → Replies v (Err stop) answer
    → before_branches before (and_then answer go) ≡ total → Replies w (Err stop) total
branches_stop v w stops.Memory before answer go total h so_far = tt
branches_stop v w (stops.Refused refusal) before answer go total h so_far = sym so_far ∙ ap (λ (reply : Reply view.Branch). before_branches before (and_then reply go)) h

pub branches_end : (all : List view.Branch) → branches_before all typed.no_branch ≡ view.branches_of all
branches_end [] = refl
branches_end (x ∷ all) = ap (typed.branch x.pos x.guard x.body) (branches_end all)

-- a guard and its block first
pub branch_then : {C : Type 0} (env : Environment) (one : Branch) (go : view.Branch → Reply C)
    → and_then (typed_in env wanteds.Truth one.guard) (λ (condition : Typed). and_then (statements_in (enter env) one.body.statements) (λ (inner : typed.Stmts). go (record { pos = one.pos; guard = condition.expr; body = inner }))) ≡ and_then (branch_in env one) go
branch_then env one go =
    let made : Typed → typed.Stmts → Reply view.Branch = λ condition inner. Ok (record { pos = one.pos; guard = condition.expr; body = inner }) in
    sym (then_then (typed_in env wanteds.Truth one.guard) (λ (condition : Typed). and_then (statements_in (enter env) one.body.statements) (made condition)) go
    ∙ ap (and_then (typed_in env wanteds.Truth one.guard)) (λ i condition. then_then (statements_in (enter env) one.body.statements) (made condition) go i))
