-- What nodes have to do with their trees, and terms with types.
use Rattle.std.specs.Prelude.{◌≡◌, ◌<◌, ℕ, true, List, length, map}
use Rattle.df_lang.specs.declared.ty.Ty.{Ty}
use Rattle.df_lang.specs.Expr.{Expr}
use Rattle.df_lang.specs.Program.{Program}
use Rattle.df_lang.specs.Typing.{is_expr}
use Rattle.df_form.specs.Node.{Node}
use Rattle.df_form.specs.Sorting.{IsTable, is_well_sorted, sort_at}
use Rattle.df_form.specs.Made.{made}
use Rattle.df_nterm.specs.Term.{node, terms_of, sort_of_type}
use Rattle.df_nterm.specs.Expressions.{term_of}
use Rattle.df_nenc.specs.Tree.{op_of, sort_of, sort_of_term, tree_at, trees_in}
use Rattle.df_nenc.specs.Growing.{Grows}
use Rattle.df_nenc.specs.Standing.{IsTerm, Stands, AreLocals}

-- a node that is made stands for its operation on the trees of its parts
pub record MakesTree (nodes : List Node) (one : Node) : Type 0 where
  pub grows : Grows nodes (made nodes one).nodes
  pub stands : Stands (made nodes one).nodes (node (op_of one.op) (terms_of (map (tree_at nodes) one.parts))) (made nodes one).number

abbrev pub MadeNodesAreTrees : Type 0
MadeNodesAreTrees = (nodes : List Node) (one : Node) → IsTable nodes → is_well_sorted nodes one ≡ true → MakesTree nodes one

-- and no other tree changes
abbrev pub TreesStay : Type 0
TreesStay = (before now : List Node) (n : ℕ) → Grows before now → n < length before → tree_at now n ≡ tree_at before n

-- a node has the sort of its tree
abbrev pub SortsAreThoseOfTrees : Type 0
SortsAreThoseOfTrees = (nodes : List Node) (n : ℕ) → n < length nodes → sort_of (sort_at nodes n) ≡ sort_of_term (tree_at nodes n)

-- different nodes stand for different trees: so two trees are equal exactly where their numbers are
abbrev pub OneNodeForATree : Type 0
OneNodeForATree = (nodes : List Node) (m n : ℕ) → IsTable nodes → m < length nodes → n < length nodes → tree_at nodes m ≡ tree_at nodes n → m ≡ n

-- the term of a well-typed expression has the sort of its type
abbrev pub TermsHaveSortsOfTypes : Type 0
TermsHaveSortsOfTypes = (program : Program) (types : List Ty) (ty : Ty) (old new : List Node) (terms : List ℕ) (e : Expr) (n : ℕ) → is_expr program types ty e ≡ true → AreLocals old types terms → Stands new (term_of (trees_in old terms) e) n
    → IsTerm (sort_of_type ty) new n
