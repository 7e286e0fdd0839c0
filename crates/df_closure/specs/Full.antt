-- Lists of literals beside which nothing is open.
use Rattle.std.specs.Prelude.{◌≡◌, ℕ, Bool, true, false, not, ◌||◌, List, ◌∷◌, slice_get, Some}
use Rattle.std.specs.List.{list_any}
use Rattle.df_form.specs.declared.log.Lit.{Lit}
use Rattle.df_form.specs.declared.node.Sort.TheVariants as sorts
use Rattle.df_form.specs.declared.node.Op.{Op}
use Rattle.df_form.specs.declared.node.Op.TheVariants as ops
use Rattle.df_form.specs.Symbol.{filled, given_by}
use Rattle.df_form.specs.Node.{Node, same_sort}
use Rattle.df_form.specs.Sorting.{sort_at}
use Rattle.df_form.specs.Clause.{yes, no, negation, is_among, literal_truth}
use Rattle.df_rules.specs.Connective.{Added, connective_line}

-- the nodes hold what the clause needs, and one of its literals is known
pub record IsMet (nodes : List Node) (known : List Lit) (added : Added) : Type 0 where
  pub stands : added.nodes ≡ nodes
  pub one : list_any (is_among known) added.clause ≡ true

-- the node or its negation is known
abbrev pub knows_of : List Lit → ℕ → Bool
knows_of known n = is_among known (yes n) || is_among known (no n)

-- each clause that a known connective means has a known literal
abbrev pub AreConnectivesMet : List Node → List Lit → Type 0
AreConnectivesMet nodes known = (n k : ℕ) (added : Added) → knows_of known n ≡ true → connective_line nodes n k ≡ Some added → IsMet nodes known added

-- no literal is known with its negation
abbrev pub IsConsistent : List Lit → Type 0
IsConsistent known = (l : Lit) → is_among known l ≡ true → is_among known (negation l) ≡ true → ⊥

-- No clause of a connective says what its truth is: it is free, a symbol, a comparison of numbers, or an equality of
-- other than numbers.
abbrev pub is_primitive : List Node → Op → List ℕ → Bool
is_primitive nodes (ops.Free free) parts = true
is_primitive nodes (ops.Of symbol payload) parts = same_sort (filled payload (given_by symbol)) sorts.Truth
is_primitive nodes ops.AtMost parts = true
is_primitive nodes ops.Equal (a ∷ others) = not (same_sort (sort_at nodes a) sorts.Number)
is_primitive nodes op parts = false

-- the known ones are true, or false where they are negated
abbrev pub ArePrimitivesTrue : List Node → (ℕ → Bool) → List Lit → Type 0
ArePrimitivesTrue nodes t known = (l : Lit) (node : Node) → is_among known l ≡ true → slice_get nodes l.node ≡ Some node → is_primitive nodes node.op node.parts ≡ true → literal_truth t l ≡ true
