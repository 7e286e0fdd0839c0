-- One more statement, and one more branch.
use Rattle.std.proofs.Common.{◌≡◌, ℕ, ◌+◌, ◌<◌, ◌≤◌, List, map, length, drop, get_or, refl}
use Rattle.df_nplain.specs.Plain.{Plain}
use Rattle.df_nplain.specs.StmtView.{stmt_of, stmts_of, branch_of, branches_of}
use Rattle.df_nplain.specs.declared.stmt.Branch.{Branch}
use Rattle.df_nplain.specs.declared.stmt.Stmt.{Stmt}
use Rattle.df_nemit.specs.mirror.Emitting.{Draft, Choice, emit_stmt, emit_stmts, emit_branch, emit_branches}
use Rattle.df_nemit.proofs.Walk as walk

module _ (p : Plain) (s : ℕ) where
  abbrev stmts_run : Draft → List Stmt → Draft
  stmts_run d xs = emit_stmts p s d (stmts_of (map stmt_of xs))

  abbrev stmt_step : Draft → Stmt → Draft
  stmt_step d x = emit_stmt p s d (stmt_of x)

  pub stmts_on : (items : List Stmt) (n : ℕ) (x : Stmt) (d next all : Draft) → n < length items → x ≡ get_or items n x → next ≡ emit_stmt p s d (stmt_of x)
      → emit_stmts p s d (stmts_of (map stmt_of (drop n items))) ≡ all → emit_stmts p s next (stmts_of (map stmt_of (drop (n + 1) items))) ≡ all
  stmts_on items n x d next all lt is made so_far = walk.goes_on stmts_run stmt_step (λ d x xs. refl) (λ d. refl) items all n d next x lt is made so_far

  pub stmts_done : (items : List Stmt) (n : ℕ) (d all : Draft) → length items ≤ n → emit_stmts p s d (stmts_of (map stmt_of (drop n items))) ≡ all → d ≡ all
  stmts_done items n d all le so_far = walk.is_done stmts_run stmt_step (λ d x xs. refl) (λ d. refl) items all n d le so_far

  abbrev branches_run : Choice → List Branch → Choice
  branches_run c xs = emit_branches p s c (branches_of (map branch_of xs))

  abbrev branch_step : Choice → Branch → Choice
  branch_step c x = emit_branch p s c (branch_of x).guard (branch_of x).body

  pub branches_on : (items : List Branch) (n : ℕ) (x : Branch) (c next all : Choice) → n < length items → x ≡ get_or items n x → next ≡ emit_branch p s c (branch_of x).guard (branch_of x).body
      → emit_branches p s c (branches_of (map branch_of (drop n items))) ≡ all → emit_branches p s next (branches_of (map branch_of (drop (n + 1) items))) ≡ all
  branches_on items n x c next all lt is made so_far = walk.goes_on branches_run branch_step (λ c x xs. refl) (λ c. refl) items all n c next x lt is made so_far

  pub branches_done : (items : List Branch) (n : ℕ) (c all : Choice) → length items ≤ n → emit_branches p s c (branches_of (map branch_of (drop n items))) ≡ all → c ≡ all
  branches_done items n c all le so_far = walk.is_done branches_run branch_step (λ c x xs. refl) (λ c. refl) items all n c le so_far
