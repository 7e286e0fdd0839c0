-- The nodes of formulas, in postorder of first occurrence: what is left of a walk over a table.
use Rattle.std.specs.Prelude.{◌≡◌, ◌<◌, ◌≤◌, ◌+◌, ℕ, suc, List, [], ◌∷◌, ◌++◌, length, take, drop, slice_get, Option, Some}
use Rattle.std.specs.Option.{option_map_or}
use Rattle.df_form.specs.Node.{Node}
use Rattle.df_form.specs.Sorting.{IsTable}
use Rattle.df_nterm.specs.Term.{Term, Terms, node, no_term, term, terms_of}
use Rattle.df_nenc.specs.Tree.{tree_at, trees_at}
use Rattle.df_nenc.specs.Standing.{Stands}
use Rattle.df_nowed.specs.declared.numbering.Visit.{Visit}
use Rattle.df_nowed.specs.declared.numbering.Renumbering as declared

-- the terms on the stack, and the hypotheses
abbrev pub stack_of : declared.Renumbering → List Term
stack_of r = trees_at r.draft.nodes r.draft.stack.items

abbrev pub hypotheses_of : declared.Renumbering → List Term
hypotheses_of r = trees_at r.draft.nodes r.draft.hypotheses.items

-- the numbers of the parts of a node
abbrev pub parts_at : List Node → ℕ → List ℕ
parts_at nodes n = option_map_or (λ (one : Node). one.parts) (slice_get nodes n) []

-- the new numbers of nodes that were met
pub record AreTerms (table nodes : List Node) (terms : List (Option ℕ)) : Type 0 where
  pub is_table : IsTable table
  pub long : length terms ≡ length table
  pub stand : (n m : ℕ) → slice_get terms n ≡ Some (Some m) → Stands nodes (tree_at table n) m

-- the first parts of the node lie on top
pub record IsVisit (table : List Node) (visit : Visit) (stack : List Term) : Type 0 where
  pub below : visit.node < length table
  pub within : visit.parts ≤ length (parts_at table visit.node)
  pub front : List Term
  pub stack_is : stack ≡ front ++ trees_at table (take visit.parts (parts_at table visit.node))

-- from the one stack visits lead to the other, the next first
abbrev pub Leads : List Node → List Visit → List Term → List Term → Type 0
Leads table [] stack after = stack ≡ after
Leads table (visit ∷ others) stack after = (is : IsVisit table visit stack) × Leads table others (is.front ++ tree_at table visit.node ∷ []) after

-- whatever the one visits lead to from their stack, the others lead to from theirs
abbrev pub LeadsOn : List Node → List Visit → List Term → List Visit → List Term → Type 0
LeadsOn table visits stack others later = (after : List Term) → Leads table visits stack after → Leads table others later after

-- how many steps are left
abbrev mutual
  pub steps_of : Term → ℕ
  steps_of (node op parts) = suc (steps_of_all parts)

  pub steps_of_all : Terms → ℕ
  steps_of_all no_term = 0
  steps_of_all (term a others) = suc (steps_of a) + steps_of_all others

abbrev pub steps_left : List Node → Visit → ℕ
steps_left table visit = suc (steps_of_all (terms_of (trees_at table (drop visit.parts (parts_at table visit.node)))))

abbrev pub all_steps_left : List Node → List Visit → ℕ
all_steps_left table [] = 0
all_steps_left table (visit ∷ others) = steps_left table visit + all_steps_left table others
