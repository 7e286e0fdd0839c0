-- Walks: they never go down, split and join, and stay where nodes are added.
use Rattle.std.proofs.Common.{◌≡◌, ◌⊎◌, ⊎_elim, inl, inr, ℕ, suc, ◌<◌, ◌≤◌, true, nat_lt, List, [], ◌∷◌, ◌++◌, length, slice_get, Some, refl, sym, ◌∙◌, subst, arith}
use Rattle.std.specs.List.{list_all}
use Rattle.std.proofs.lemmas.Bool.{ltb-true, and_parts}
use Rattle.std.proofs.lemmas.Option.{same_Some}
use Rattle.df_lemmas.proofs.Lists.{get_grown, get_last}
use Rattle.df_form.specs.Node.{Node}
use Rattle.df_form.specs.Sequent.{Walk, ends, again, first}

-- what is met is met for good
pub walk_up : (nodes : List Node) (met : ℕ) (ns : List ℕ) (after : ℕ) → Walk nodes met ns after → met ≤ after
walk_up nodes met ns after ends = omega arith
walk_up nodes met ns after (again {n} {others} less rest) = walk_up nodes met others after rest
walk_up nodes met ns after (first {n} {others} {node} at parts rest) =
    let below = walk_up nodes met node.parts n parts in
    let above = walk_up nodes (suc n) others after rest in
    omega arith

-- a walk over numbers below a bound ends where it began, or within the bound
pub walk_within : (nodes : List Node) (bound met : ℕ) (ns : List ℕ) (after : ℕ) → list_all (λ n. nat_lt n bound) ns ≡ true → Walk nodes met ns after → (after ≤ met) ⊎ (after ≤ bound)
walk_within nodes bound met ns after below ends = inl (omega arith)
walk_within nodes bound met ns after below (again {n} {others} less rest) = walk_within nodes bound met others after (and_parts (nat_lt n bound) (list_all (λ k. nat_lt k bound) others) below).1 rest
walk_within nodes bound met ns after below (first {n} {others} {node} at parts rest) =
    let both = and_parts (nat_lt n bound) (list_all (λ k. nat_lt k bound) others) below in
    let here = ltb-true n bound both.0 in
    ⊎_elim (λ (stays : after ≤ suc n). inr (omega arith)) inr (walk_within nodes bound (suc n) others after both.1 rest)

-- a walk goes over one list, then over the other
pub walk-append : (nodes : List Node) (met : ℕ) (xs ys : List ℕ) (middle after : ℕ) → Walk nodes met xs middle → Walk nodes middle ys after → Walk nodes met (xs ++ ys) after
walk-append nodes met xs ys middle after ends then_ys = then_ys
walk-append nodes met xs ys middle after (again {n} {others} less rest) then_ys = again less (walk-append nodes met others ys middle after rest then_ys)
walk-append nodes met xs ys middle after (first {n} {others} {node} at parts rest) then_ys = first at parts (walk-append nodes (suc n) others ys middle after rest then_ys)

pub walk-split : (nodes : List Node) (met : ℕ) (xs ys : List ℕ) (after : ℕ) → Walk nodes met (xs ++ ys) after → (middle : ℕ) × Walk nodes met xs middle × Walk nodes middle ys after
walk-split nodes met [] ys after walk = (met, ends, walk)
walk-split nodes met (x ∷ xs) ys after (again less rest) =
    let later = walk-split nodes met xs ys after rest in
    (later.0, again less later.1, later.2)
walk-split nodes met (x ∷ xs) ys after (first {node} at parts rest) =
    let later = walk-split nodes (suc x) xs ys after rest in
    (later.0, first at parts later.1, later.2)

-- more nodes
pub walk-more : (nodes more : List Node) (met : ℕ) (ns : List ℕ) (after : ℕ) → Walk nodes met ns after → Walk (nodes ++ more) met ns after
walk-more nodes more met ns after ends = ends
walk-more nodes more met ns after (again {n} {others} less rest) = again less (walk-more nodes more met others after rest)
walk-more nodes more met ns after (first {n} {others} {node} at parts rest) = first (get_grown nodes more n node at) (walk-more nodes more met node.parts n parts) (walk-more nodes more (suc n) others after rest)

-- the walk that goes on to a node after its parts: the node stands below the numbers that are met, or is the next
pub walk-known : (nodes : List Node) (met : ℕ) (ns : List ℕ) (parts : List ℕ) (after n : ℕ) → list_all (λ k. nat_lt k n) parts ≡ true → n < after → Walk nodes met (ns ++ parts) after → Walk nodes met (ns ++ n ∷ []) after
walk-known nodes met ns parts after n below less walk =
    let halves = walk-split nodes met ns parts after walk in
    let middle = halves.0 in
    let up = walk_up nodes middle parts after halves.2 in
    let within = walk_within nodes n middle parts after below halves.2 in
    let stays : middle ≡ after = ⊎_elim (λ (w : after ≤ middle). omega arith) (λ (w : after ≤ n). absurd (omega arith)) within in
    let here : Walk nodes after (n ∷ []) after = again less ends in
    walk-append nodes met ns (n ∷ []) middle after halves.1 (subst (λ m. Walk nodes m (n ∷ []) after) (sym stays) here)

pub walk-new : (nodes : List Node) (met : ℕ) (ns : List ℕ) (node : Node) → Walk nodes met (ns ++ node.parts) (length nodes) → Walk (nodes ++ node ∷ []) met (ns ++ length nodes ∷ []) (suc (length nodes))
walk-new nodes met ns node walk =
    let more = node ∷ [] in
    let halves = walk-split nodes met ns node.parts (length nodes) walk in
    let middle = halves.0 in
    let here : Walk (nodes ++ more) middle (length nodes ∷ []) (suc (length nodes)) = first (get_last nodes node) (walk-more nodes more middle node.parts (length nodes) halves.2) ends in
    walk-append (nodes ++ more) met ns (length nodes ∷ []) middle (suc (length nodes)) (walk-more nodes more met ns middle halves.1) here

-- before a node that is not met yet come its parts
pub walk_parts : (nodes : List Node) (met n : ℕ) (others : List ℕ) (after : ℕ) (node : Node) → slice_get nodes n ≡ Some node → met ≤ n → Walk nodes met (n ∷ others) after → Walk nodes met node.parts n
walk_parts nodes met n others after node at past (again less rest) = absurd (omega arith)
walk_parts nodes met n others after node at past (first at_too parts rest) = subst (λ (x : Node). Walk nodes met x.parts n) (same_Some _ _ (sym at_too ∙ at)) parts

-- there is one number that a walk ends at

pub one_end : (nodes : List Node) (met : ℕ) (ns : List ℕ) (after other : ℕ) → Walk nodes met ns after → Walk nodes met ns other → after ≡ other
one_end nodes met [] after other ends ends = refl
one_end nodes met (n ∷ others) after other (again less rest) (again less_too rest_too) = one_end nodes met others after other rest rest_too
one_end nodes met (n ∷ others) after other (again less rest) (first {node} at parts rest_too) = let up = walk_up nodes met node.parts n parts in absurd (omega arith)
one_end nodes met (n ∷ others) after other (first {node} at parts rest) (again less rest_too) = let up = walk_up nodes met node.parts n parts in absurd (omega arith)
one_end nodes met (n ∷ others) after other (first at parts rest) (first at_too parts_too rest_too) = one_end nodes (suc n) others after other rest rest_too
