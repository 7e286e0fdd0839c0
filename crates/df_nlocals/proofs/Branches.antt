-- The first of the branches that are left.
use Rattle.df_nlocals.proofs.Words.{◌≡◌, ℕ, ◌+◌, ◌<◌, List, drop, drop_next, get_or, length, ap, ◌∙◌, rules, branch_of, stmts_in, branches_in, the_lemmas, expr_of, branch, Branch}
use Rattle.df_lang.specs.declared.stmt.Branch.{Branch as DeclaredBranch}

pub branch_seen : (b : DeclaredBranch) → branch_of b ≡ record { pos = b.pos; guard = expr_of b.guard; body = stmts_in b.body.items }
branch_seen b = search (rules, the_lemmas)

module _ (bs : List DeclaredBranch) (i : ℕ) (b : DeclaredBranch) (e : b ≡ get_or bs i b) (lt : i < length bs) where
  pub branch_next : branches_in (drop i bs) ≡ branch b.pos (expr_of b.guard) (stmts_in b.body.items) (branches_in (drop (i + 1) bs))
  branch_next = ap branches_in (drop_next bs i b e lt) ∙ ap (λ (x : Branch). branch x.pos x.guard x.body (branches_in (drop (i + 1) bs))) (branch_seen b)
