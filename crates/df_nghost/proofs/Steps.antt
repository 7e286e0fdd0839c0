-- Steps of the way through statements.
use Rattle.std.proofs.Common.{◌≡◌, ◌<◌, ◌+◌, ℕ, Bool, true, false, List, map, length, drop, get_or, sym, ap, ◌∙◌}
use Rattle.std.proofs.lemmas.List.{get_or_default}
use Rattle.df_lang.specs.declared.stmt.Stmt.{Stmt}
use Rattle.df_lang.specs.declared.stmt.Branch.{Branch}
use Rattle.df_lang.specs.declared.stmt.Target.{Target}
use Rattle.df_lang.specs.declared.stmt.Stmt.TheFolds.{fold_out-Branch}
use Rattle.df_lang.specs.Expr.{Expr}
use Rattle.df_lang.specs.ExprView.{expr_of}
use Rattle.df_lang.specs.Stmt as pure_stmts
use Rattle.df_lang.specs.Stmt.{Stmts, Branches}
use Rattle.df_lang.specs.StmtView as pure_stmt
use Rattle.df_lang.specs.StmtView.{stmt_of, target_of}
use Rattle.df_lang.specs.Program.{Method}
use Rattle.df_lang.specs.Assignment.{Assigned, join, mark, assign, reads}
use Rattle.df_nghost.specs.declared.assigned.Assigned as declared
use Rattle.df_nghost.specs.declared.join.Join.{Join}
use Rattle.df_nghost.specs.declared.flow.Flow.{Flow}
use Rattle.df_nghost.specs.mirror.Parts.{stmts_in, branch_of, branches_in}
use Rattle.df_nghost.specs.mirror.Known.{assigned_of, joined_with, joined_of, IsBack}
use Rattle.df_nghost.specs.mirror.Way.{Known, known, ways_of, look, turned, way_of, begun, returned, go, go_all, go_branches}
use Rattle.df_nghost.proofs.Points.{marks, back_assigned, back_joined, back_on, back_same}
use Rattle.df_nghost.proofs.Ways.{with_first}
use Rattle.df_nghost.proofs.Lists.{here}

branch_guard : (x : Branch) → (branch_of x).guard ≡ expr_of x.guard
branch_guard x = ap (λ (o : pure_stmt.Branch). o.guard) (fold_out-Branch _ _ _ _ x)

branch_body : (x : Branch) → (branch_of x).body ≡ stmts_in x.body.items
branch_body x = ap (λ (o : pure_stmt.Branch). o.body) (fold_out-Branch _ _ _ _ x)

pub stmt_goes : (m : Method) (k l whole : Known) (items : List Stmt) (i : ℕ) (x : Stmt) → i < length items → x ≡ get_or items i x → l ≡ go m k (stmt_of x)
    → go_all m k (stmts_in (drop i items)) ≡ whole → go_all m l (stmts_in (drop (i + 1) items)) ≡ whole
stmt_goes m k l whole items i x lt is one so_far =
    ap (λ (n : Known). go_all m n (stmts_in (drop (i + 1) items))) one
    ∙ ap (λ (xs : List Stmt). go_all m k (stmts_in xs)) (sym (here items i x lt is)) ∙ so_far

-- behind a loop is known what was before it
pub turn_back : (m : Method) (old mid new : Flow) (body : Stmts) → IsBack old.assigned new.assigned → new.first ≡ mid.first → known mid ≡ go_all m (known old) body
    → known new ≡ turned (known old) (go_all m (known old) body)
turn_back m old mid new body back first one =
    let told : new.first ≡ (go_all m (known old) body).first = first ∙ ap (λ (k : Known). k.first) one in
    λ i. with_first (back_assigned old.assigned new.assigned back i) (told i)

-- a branch has joined: s before its guard, r behind it, t behind its body
pub branch_goes : (m : Method) (a : declared.Assigned) (s r t : Flow) (one other : Join) (whole : Known) (items : List Branch) (i : ℕ) (x : Branch) → i < length items → x ≡ get_or items i x
    → IsBack a s.assigned → known r ≡ look (known s) (reads (expr_of x.guard)) → r.assigned ≡ s.assigned
    → ways_of r.assigned other t.first ≡ way_of (ways_of r.assigned one r.first) (go_all m (known r) (stmts_in x.body.items))
    → go_branches m (assigned_of a) (ways_of a one s.first) (branches_in (drop i items)) ≡ whole
    → go_branches m (assigned_of a) (ways_of a other t.first) (branches_in (drop (i + 1) items)) ≡ whole
branch_goes m a s r t one other whole items i x lt is back guard same way so_far =
    let A : Assigned = assigned_of a in
    let far = back_on a s.assigned r.assigned back (back_same s.assigned r.assigned same) in
    let begins : known r ≡ look (with_first A s.first) (reads (expr_of x.guard)) =
    guard ∙ ap (λ (b : Assigned). look (with_first b s.first) (reads (expr_of x.guard))) (back_assigned a s.assigned back) in
    let joined : joined_of a other ≡ join (joined_of a one) (go_all m (known r) (stmts_in x.body.items)).at =
    sym (back_joined a r.assigned far other) ∙ ap (λ (k : Known). k.at) way ∙ ap (λ (b : Assigned). join b (go_all m (known r) (stmts_in x.body.items)).at) (back_joined a r.assigned far one) in
    let ways : ways_of a other t.first ≡ way_of (ways_of a one s.first) (go_all m (known r) (stmts_in x.body.items)) = λ j. with_first (joined j) ((ap (λ (k : Known). k.first) way) j) in
    let spelled : way_of (ways_of a one s.first) (go_all m (known r) (stmts_in x.body.items)) ≡ way_of (ways_of a one s.first) (go_all m (look (with_first A s.first) (reads (branch_of x).guard)) (branch_of x).body) =
    ap (λ (k : Known). way_of (ways_of a one s.first) (go_all m k (stmts_in x.body.items))) begins
    ∙ ap (λ (e : Expr). way_of (ways_of a one s.first) (go_all m (look (with_first A s.first) (reads e)) (stmts_in x.body.items))) (sym (branch_guard x))
    ∙ ap (λ (b : Stmts). way_of (ways_of a one s.first) (go_all m (look (with_first A s.first) (reads (branch_of x).guard)) b)) (sym (branch_body x)) in
    ap (λ (k : Known). go_branches m A k (branches_in (drop (i + 1) items))) (ways ∙ spelled)
    ∙ ap (λ (xs : List Branch). go_branches m A (ways_of a one s.first) (branches_in xs)) (sym (here items i x lt is))
    ∙ so_far

-- ways that begin at old join: s behind the branches, t behind the last statements, u where they join
pub choice_is : (m : Method) (old s t u : Flow) (none one all : Join) (stmt : pure_stmts.Stmt) (branches : Branches) (otherwise : Stmts) → stmt ≡ pure_stmts.If branches otherwise → none.reached ≡ false
    → ways_of old.assigned one s.first ≡ go_branches m (assigned_of old.assigned) (ways_of old.assigned none old.first) branches → IsBack old.assigned s.assigned
    → ways_of s.assigned all t.first ≡ way_of (ways_of s.assigned one s.first) (go_all m (known s) otherwise) → IsBack s.assigned t.assigned
    → assigned_of u.assigned ≡ joined_of t.assigned all → u.first ≡ t.first → known u ≡ go m (known old) stmt
choice_is m old s t u none one all stmt branches otherwise is unreached ways back last behind goes_on first =
    let A : Assigned = assigned_of old.assigned in
    let gone : Known = go_branches m A (returned (known old)) branches in
    let begins : ways_of old.assigned one s.first ≡ gone =
    ways ∙ ap (λ (b : Assigned). go_branches m A (with_first b old.first) branches) (ap (λ (r : Bool). joined_with r old.assigned.values.listed.items none.taken.items) unreached) in
    let first_there : s.first ≡ gone.first = ap (λ (k : Known). k.first) begins in
    let known_there : known s ≡ begun A gone = λ i. with_first (back_assigned old.assigned s.assigned back i) (first_there i) in
    let there : ways_of s.assigned one s.first ≡ gone = ap (λ (b : Assigned). with_first b s.first) (back_joined old.assigned s.assigned back one) ∙ begins in
    (λ i. with_first ((goes_on ∙ back_joined s.assigned t.assigned behind all) i) (first i))
    ∙ last
    ∙ ap (λ (k : Known). way_of k (go_all m (known s) otherwise)) there
    ∙ ap (λ (k : Known). way_of gone (go_all m k otherwise)) known_there
    ∙ ap (go m (known old)) (sym is)

-- a local takes a value
pub mark_goes : (a b whole : Assigned) (items : List ℕ) (i x : ℕ) → i < length items → x ≡ get_or items i x → b ≡ mark true a x → marks a (drop i items) ≡ whole → marks b (drop (i + 1) items) ≡ whole
mark_goes a b whole items i x lt is one so_far = ap (λ (c : Assigned). marks c (drop (i + 1) items)) one ∙ ap (marks a) (sym (here items i x lt is)) ∙ so_far

-- a target takes a value
pub target_goes : (a b whole : Assigned) (items : List Target) (i : ℕ) (d : Target) → i < length items → b ≡ mark true a (get_or items i d).local
    → assign a (map target_of (drop i items)) ≡ whole → assign b (map target_of (drop (i + 1) items)) ≡ whole
target_goes a b whole items i d lt one so_far =
    let x : Target = get_or items i d in
    ap (λ (c : Assigned). assign c (map target_of (drop (i + 1) items))) one
    ∙ ap (λ (xs : List Target). assign a (map target_of xs)) (sym (here items i x lt (get_or_default items i d x lt))) ∙ so_far
