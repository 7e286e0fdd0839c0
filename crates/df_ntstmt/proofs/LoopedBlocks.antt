-- One statement more of a block, and one branch more of a run of `else if`.
use Rattle.std.proofs.Common.{◌≡◌, ℕ, ◌+◌, ◌<◌, ◌≤◌, List, [], ◌∷◌, ◌++◌, length, map, drop, get_or, Ok, Err, refl, sym, ap, subst, ◌∙◌}
use Rattle.std.proofs.lemmas.List.{drop_all}
use Rattle.df_base.specs.declared.refusal.Stop.{Stop}
use Rattle.df_lang.specs.Stmt as typed
use Rattle.df_lang.specs.StmtView as view
use Rattle.df_ntree.specs.declared.file.Statement as declared
use Rattle.df_ntree.specs.declared.file.Branch as declared_branch
use Rattle.df_ntree.specs.File.{Statements, next, Branches, more, Branch, statement_of, statements_of, branch_of, branches_of}
use Rattle.df_ntyping.specs.Environment.{Environment, past, behind, locals_in_all, locals_in_branches}
use Rattle.df_ninfer.specs.Behind.{behind_all}
use Rattle.df_ninfer.proofs.Behind.{past_none, past_more}
use Rattle.df_ntexpr.specs.Replies.{Reply, Replies}
use Rattle.df_ntstmt.specs.mirror.Steps.{and_then}
use Rattle.df_ntstmt.specs.mirror.Statements.{before_stmts, before_branches, statement_in, statements_in, branch_in, branches_in}
use Rattle.df_ntstmt.proofs.Looping.{cut}
use Rattle.df_ntstmt.proofs.LoopedStatements.{stmts_go, stmts_stop, stmts_end, branches_go, branches_stop, branches_end, branch_then}

-- ---- statements

abbrev all_behind : List declared.Statement → ℕ → Statements
all_behind items i = statements_of (map statement_of (drop i items))

statement_first : (items : List declared.Statement) (i : ℕ) (item : declared.Statement) → i < length items → item ≡ get_or items i item → all_behind items i ≡ next (statement_of item) (all_behind items (i + 1))
statement_first items i item lt is = ap statements_of (cut statement_of items i item lt is)

pub statements_go : (env now : Environment) (items : List declared.Statement) (i : ℕ) (item : declared.Statement) (before : List typed.Stmt) (one : typed.Stmt) (total : Reply typed.Stmts) (last : Environment) → i < length items → item ≡ get_or items i item
    → statement_in env (statement_of item) ≡ Ok one → now ≡ behind env (statement_of item) → before_stmts before (statements_in env (all_behind items i)) ≡ total → behind_all env (all_behind items i) ≡ last
    → (before_stmts (before ++ one ∷ []) (statements_in now (all_behind items (i + 1))) ≡ total) × (behind_all now (all_behind items (i + 1)) ≡ last)
statements_go env now items i item before one total last lt is made goes so_far around =
    let rest = all_behind items (i + 1) in
    let first = statement_first items i item lt is in (
      ap (λ (e : Environment). before_stmts (before ++ one ∷ []) (statements_in e rest)) goes
          ∙ stmts_go before (statement_in env (statement_of item)) one (statements_in (behind env (statement_of item)) rest) total made (ap (λ (s : Statements). before_stmts before (statements_in env s)) (sym first) ∙ so_far),
      ap (λ (e : Environment). behind_all e rest) goes ∙ ap (behind_all env) (sym first) ∙ around,
    )

pub statements_stop : {X Z : Type 0} (v : X → typed.Stmt) (w : Z → typed.Stmts) (stop : Stop) (env : Environment) (items : List declared.Statement) (i : ℕ) (item : declared.Statement) (before : List typed.Stmt) (total : Reply typed.Stmts) → i < length items → item ≡ get_or items i item
    → Replies v (Err stop) (statement_in env (statement_of item)) → before_stmts before (statements_in env (all_behind items i)) ≡ total → Replies w (Err stop) total
statements_stop v w stop env items i item before total lt is told so_far =
    let rest = all_behind items (i + 1) in
    stmts_stop v w stop before (statement_in env (statement_of item)) (λ (x : typed.Stmt). and_then (statements_in (behind env (statement_of item)) rest) (λ (others : typed.Stmts). Ok (typed.next x others))) total told
    (ap (λ (s : Statements). before_stmts before (statements_in env s)) (sym (statement_first items i item lt is)) ∙ so_far)

pub statements_done : (env : Environment) (items : List declared.Statement) (i : ℕ) (before : List typed.Stmt) (total : Reply typed.Stmts) (last : Environment) → length items ≤ i → before_stmts before (statements_in env (all_behind items i)) ≡ total → behind_all env (all_behind items i) ≡ last
    → (total ≡ Ok (view.stmts_of before)) × (env ≡ last)
statements_done env items i before total last le so_far around =
    let none : drop i items ≡ [] = drop_all i items le in (
      sym so_far ∙ ap (λ (xs : List declared.Statement). before_stmts before (statements_in env (statements_of (map statement_of xs)))) none ∙ ap Ok (stmts_end before),
      ap (λ (xs : List declared.Statement). behind_all env (statements_of (map statement_of xs))) (sym none) ∙ around,
    )

-- ---- branches

abbrev others_behind : List declared_branch.Branch → ℕ → Branches
others_behind items i = branches_of (map branch_of (drop i items))

abbrev with_others : Branch → Branches → Branches
with_others one others = more one.pos one.guard one.body.pos one.body.statements others

branch_first : (items : List declared_branch.Branch) (i : ℕ) (item : declared_branch.Branch) → i < length items → item ≡ get_or items i item → others_behind items i ≡ with_others (branch_of item) (others_behind items (i + 1))
branch_first items i item lt is = ap branches_of (cut branch_of items i item lt is)

with_branch : (env : Environment) (one : Branch) (others : Branches)
    → branches_in env (with_others one others) ≡ and_then (branch_in env one) (λ (b : view.Branch). and_then (branches_in (past env (locals_in_all one.body.statements)) others) (λ (rest : typed.Branches). Ok (typed.branch b.pos b.guard b.body rest)))
with_branch env one others = branch_then env one (λ (b : view.Branch). and_then (branches_in (past env (locals_in_all one.body.statements)) others) (λ (rest : typed.Branches). Ok (typed.branch b.pos b.guard b.body rest)))

pub others_go : (env now : Environment) (items : List declared_branch.Branch) (i : ℕ) (item : declared_branch.Branch) (before : List view.Branch) (one : view.Branch) (total : Reply typed.Branches) (last : Environment) → i < length items → item ≡ get_or items i item
    → branch_in env (branch_of item) ≡ Ok one → now ≡ past env (locals_in_all (branch_of item).body.statements) → before_branches before (branches_in env (others_behind items i)) ≡ total → past env (locals_in_branches (others_behind items i)) ≡ last
    → (before_branches (before ++ one ∷ []) (branches_in now (others_behind items (i + 1))) ≡ total) × (past now (locals_in_branches (others_behind items (i + 1))) ≡ last)
others_go env now items i item before one total last lt is made goes so_far around =
    let rest = others_behind items (i + 1) in
    let inside = locals_in_all (branch_of item).body.statements in
    let first = branch_first items i item lt is in (
      ap (λ (e : Environment). before_branches (before ++ one ∷ []) (branches_in e rest)) goes
          ∙ branches_go before (branch_in env (branch_of item)) one (branches_in (past env inside) rest) total made (ap (before_branches before) (sym (with_branch env (branch_of item) rest)) ∙ ap (λ (s : Branches). before_branches before (branches_in env s)) (sym first) ∙ so_far),
      ap (λ (e : Environment). past e (locals_in_branches rest)) goes ∙ past_more env inside (locals_in_branches rest) ∙ ap (λ (s : Branches). past env (locals_in_branches s)) (sym first) ∙ around,
    )

pub others_stop : {X Z : Type 0} (v : X → view.Branch) (w : Z → typed.Branches) (stop : Stop) (env : Environment) (items : List declared_branch.Branch) (i : ℕ) (item : declared_branch.Branch) (before : List view.Branch) (total : Reply typed.Branches) → i < length items → item ≡ get_or items i item
    → Replies v (Err stop) (branch_in env (branch_of item)) → before_branches before (branches_in env (others_behind items i)) ≡ total → Replies w (Err stop) total
others_stop v w stop env items i item before total lt is told so_far =
    let rest = others_behind items (i + 1) in
    branches_stop v w stop before (branch_in env (branch_of item)) (λ (x : view.Branch). and_then (branches_in (past env (locals_in_all (branch_of item).body.statements)) rest) (λ (others : typed.Branches). Ok (typed.branch x.pos x.guard x.body others))) total told
    (ap (before_branches before) (sym (with_branch env (branch_of item) rest)) ∙ ap (λ (s : Branches). before_branches before (branches_in env s)) (sym (branch_first items i item lt is)) ∙ so_far)

pub others_done : (env : Environment) (items : List declared_branch.Branch) (i : ℕ) (before : List view.Branch) (total : Reply typed.Branches) (last : Environment) → length items ≤ i → before_branches before (branches_in env (others_behind items i)) ≡ total → past env (locals_in_branches (others_behind items i)) ≡ last
    → (total ≡ Ok (view.branches_of before)) × (env ≡ last)
others_done env items i before total last le so_far around =
    let none : drop i items ≡ [] = drop_all i items le in (
      sym so_far ∙ ap (λ (xs : List declared_branch.Branch). before_branches before (branches_in env (branches_of (map branch_of xs)))) none ∙ ap Ok (branches_end before),
      sym (past_none env) ∙ ap (λ (xs : List declared_branch.Branch). past env (locals_in_branches (branches_of (map branch_of xs)))) (sym none) ∙ around,
    )
