-- More nodes leave branches as they are, and so do clauses that are bound to later equalities.
use Rattle.std.proofs.Common.{◌≡◌, true, List, ◌++◌, take, length}
use Rattle.df_form.specs.declared.log.Lit.{Lit}
use Rattle.df_form.specs.Node.{Node}
use Rattle.df_form.specs.Sorting.{IsTable}
use Rattle.df_form.specs.Clause.{are_literals}
use Rattle.df_closure.specs.Closure.{GroundClause}
use Rattle.df_closure.specs.Filled.{IsFilled}
use Rattle.df_branch.specs.Evidence.{IsShut, IsUnshut, MayFollow, IsBranchAfter}
use Rattle.df_branch.specs.Next.{IsQuiet, ComesNext}
use Rattle.df_branch.proofs.LaterClauses.{AreLater, shut_more, unshut_more, quiet_more, filled_more, follows_more, next_more, branch_more}
use Rattle.df_branch.proofs.LaterNodes as by_nodes

module _ (clauses added : List GroundClause) (nodes more : List Node) (table : IsTable more) (begins : take (length nodes) more ≡ nodes) (later : AreLater (length nodes) added) where
  pub shut_later : (list : List Lit) → IsShut nodes clauses list → IsShut more (clauses ++ added) list
  shut_later list is = by_nodes.shut_later nodes more table begins (clauses ++ added) list (shut_more clauses added nodes later list is)

  pub unshut_later : (list learned : List Lit) → IsUnshut nodes clauses list learned → IsUnshut more (clauses ++ added) list learned
  unshut_later list learned is = by_nodes.unshut_later nodes more table begins (clauses ++ added) list learned (unshut_more clauses added nodes later list learned is)

  pub filled_later : (known : List Lit) → are_literals nodes known ≡ true → IsFilled clauses known → IsFilled (clauses ++ added) known
  filled_later known formulas is = filled_more clauses added nodes later known formulas is

  pub follows_later : (set : List Node) (list : List Lit) (l : Lit) → MayFollow set nodes clauses list l → MayFollow set more (clauses ++ added) list l
  follows_later set list l is = by_nodes.follows_later nodes more table begins (clauses ++ added) set list l (follows_more clauses added nodes later set list l is)

  pub quiet_list_later : (list learned : List Lit) → IsQuiet nodes clauses list learned → IsQuiet more (clauses ++ added) list learned
  quiet_list_later list learned is = by_nodes.quiet_list_later nodes more table begins (clauses ++ added) list learned (quiet_more clauses added nodes later list learned is)

  pub next_later : (set : List Node) (list : List Lit) (l : Lit) → ComesNext set nodes clauses list l → ComesNext set more (clauses ++ added) list l
  next_later set list l is = by_nodes.next_later nodes more table begins (clauses ++ added) set list l (next_more clauses added nodes later set list l is)

  pub branch_later : (set : List Node) (earlier branch : List Lit) → IsBranchAfter set nodes clauses earlier branch → IsBranchAfter set more (clauses ++ added) earlier branch
  branch_later set earlier branch is = by_nodes.branch_later nodes more table begins (clauses ++ added) set earlier branch (branch_more clauses added nodes later set earlier branch is)
