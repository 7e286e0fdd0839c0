-- An operation in place of the terms that lie on top.
use Rattle.df_nowed.proofs.Words.{◌≡◌, ◌⊎◌, inl, inr, ℕ, zero, suc, ◌≤◌, ◌+◌, ◌-◌, true, List, [], ◌∷◌, ◌++◌, map, take, drop, length, nat_lt, slice_get, slice_set, slice_index_or, replicate, Option, None, Some, refl, sym, ap, ◌∙◌, arith, subst, ltb-true, list_all, and_parts, and_from, lt-ltb, map-append, length-map, length-append, drop-map, take-append-drop, length-set, length-replicate, get_or_at, take-map, same_Some, slice_get_within, all_parts, all_weaker, head_same, tail_same, map_agree, is_or_not, Sort, Node, IsTable, is_well_sorted, sort_at, takes, AreSorted, parts_below, parts_taken, Term, node, terms_of, op_of, sort_of, sort_of_term, tree_at, trees_at, Grows, Stands, grown_tree, tree_of, tree_sort, made_tree, sort_again, sort_back, AreTerms}
use Rattle.std.proofs.Math.Seq.{take-append_seam, drop-append_seam}
use Rattle.df_form.specs.Made.{made}
use Rattle.df_form.specs.Draft.{last_terms, other_terms, node_on}
use Rattle.df_nenc.specs.Laws.{MakesTree}
use Rattle.df_nenc.proofs.Growing.{stays}

pub sort_same : (a b : Sort) → sort_of a ≡ sort_of b → a ≡ b
sort_same a b e = sym (sort_again a) ∙ ap sort_back e ∙ sort_again b

-- one that was met once more
pub again_on : (table nodes after : List Node) (stack later : List ℕ) (n m : ℕ) → tree_at nodes m ≡ tree_at table n → after ≡ nodes → later ≡ stack ++ m ∷ [] → trees_at after later ≡ trees_at nodes stack ++ tree_at table n ∷ []
again_on table nodes after stack later n m tree same e =
    (λ i. trees_at (same i) (e i)) ∙ map-append (tree_at nodes) stack (m ∷ []) ∙ ap (λ (t : Term). trees_at nodes stack ++ t ∷ []) tree

-- the one on top
pub last_on : (stack others : List ℕ) (number size d : ℕ) → stack ≡ others ++ number ∷ [] → size ≡ length stack → slice_index_or stack (size - 1) d ≡ number
last_on stack others number size d e long =
    let all = ap (λ (ns : List ℕ). length ns) e ∙ length-append others (number ∷ []) in
    ap (λ (ns : List ℕ). slice_index_or ns (size - 1) d) e ∙ get_or_at others number [] d (size - 1) (omega arith)

-- where trees are equal, so are sorts
sorts_same : (table nodes : List Node) (ms ns : List ℕ) → list_all (λ n. nat_lt n (length nodes)) ms ≡ true → list_all (λ n. nat_lt n (length table)) ns ≡ true
    → trees_at nodes ms ≡ trees_at table ns → map (sort_at nodes) ms ≡ map (sort_at table) ns
sorts_same table nodes [] [] all others e = refl
sorts_same table nodes [] (n ∷ ns) all others e = absurd cc
sorts_same table nodes (m ∷ ms) [] all others e = absurd cc
sorts_same table nodes (m ∷ ms) (n ∷ ns) all others e =
    let here = and_parts (nat_lt m (length nodes)) (list_all (λ n. nat_lt n (length nodes)) ms) all in
    let there = and_parts (nat_lt n (length table)) (list_all (λ n. nat_lt n (length table)) ns) others in
    let tree = head_same (tree_at nodes m) (tree_at table n) (trees_at nodes ms) (trees_at table ns) e in
    let sort = sort_same (sort_at nodes m) (sort_at table n) (tree_sort nodes m (ltb-true m (length nodes) here.0) ∙ ap sort_of_term tree ∙ sym (tree_sort table n (ltb-true n (length table) there.0))) in
    let rest = sorts_same table nodes ms ns here.1 there.1 (tail_same (tree_at nodes m) (tree_at table n) (trees_at nodes ms) (trees_at table ns) e) in
    λ i. sort i ∷ rest i

-- ---- the terms of nodes that were met

pub get_set_same : {A : Type 0} (xs : List A) (n : ℕ) (x y : A) → slice_get (slice_set xs n x) n ≡ Some y → x ≡ y
get_set_same [] n x y e = absurd cc
get_set_same (z ∷ xs) zero x y e = same_Some x y e
get_set_same (z ∷ xs) (suc n) x y e = get_set_same xs n x y e

pub get_set_other : {A : Type 0} (xs : List A) (n k : ℕ) (x y : A) → (k ≡ n → ⊥) → slice_get (slice_set xs n x) k ≡ Some y → slice_get xs k ≡ Some y
get_set_other [] n k x y h e = e
get_set_other (z ∷ xs) zero zero x y h e = absurd (h refl)
get_set_other (z ∷ xs) zero (suc k) x y h e = e
get_set_other (z ∷ xs) (suc n) zero x y h e = e
get_set_other (z ∷ xs) (suc n) (suc k) x y h e = get_set_other xs n k x y (λ same. h (ap suc same)) e

pub none_there : (size k m : ℕ) → slice_get (replicate size None) k ≡ Some (Some m) → ⊥
none_there zero k m e = cc
none_there (suc size) zero m e = cc
none_there (suc size) (suc k) m e = none_there size k m e

-- none was met
pub none_met : (table nodes : List Node) (size : ℕ) (terms : List (Option ℕ)) → IsTable table → size ≡ length table → terms ≡ replicate size None → AreTerms table nodes terms
none_met table nodes size terms is_table long e = record {
  is_table = is_table;
  long = ap (λ (ts : List (Option ℕ)). length ts) e ∙ length-replicate size None ∙ long;
  stand = λ n m there. absurd (none_there size n m (ap (λ (ts : List (Option ℕ)). slice_get ts n) (sym e) ∙ there));
}

module _ (table nodes : List Node) (is_table : IsTable table) (is_nodes : IsTable nodes) (stack : List ℕ) (known : list_all (λ n. nat_lt n (length nodes)) stack ≡ true)
    (n : ℕ) (one : Node) (at : slice_get table n ≡ Some one) (count : ℕ) (many : count ≡ length one.parts) (front : List Term) (lies : trees_at nodes stack ≡ front ++ trees_at table one.parts) where
  long : length stack ≡ length front + length one.parts
  long =
      sym (length-map stack (tree_at nodes)) ∙ ap (λ (ts : List Term). length ts) lies ∙ length-append front (trees_at table one.parts)
      ∙ ap (λ (k : ℕ). length front + k) (length-map one.parts (tree_at table))

  pub enough : count ≤ length stack
  enough = let l = long in omega arith

  start : length stack - count ≡ length front
  start = let l = long in omega arith

  taken_trees : trees_at nodes (last_terms count stack) ≡ trees_at table one.parts
  taken_trees =
      sym (drop-map (tree_at nodes) (length stack - count) stack)
      ∙ ap (drop (length stack - count)) lies
      ∙ ap (λ (k : ℕ). drop k (front ++ trees_at table one.parts)) start
      ∙ drop-append_seam front (trees_at table one.parts)

  left_trees : trees_at nodes (other_terms count stack) ≡ front
  left_trees =
      sym (take-map (tree_at nodes) (length stack - count) stack)
      ∙ ap (take (length stack - count)) lies
      ∙ ap (λ (k : ℕ). take k (front ++ trees_at table one.parts)) start
      ∙ take-append_seam front (trees_at table one.parts)

  both_known : (list_all (λ n. nat_lt n (length nodes)) (other_terms count stack) ≡ true) × (list_all (λ n. nat_lt n (length nodes)) (last_terms count stack) ≡ true)
  both_known =
      all_parts (λ n. nat_lt n (length nodes)) (other_terms count stack) (last_terms count stack)
      (ap (list_all (λ n. nat_lt n (length nodes))) (take-append-drop (length stack - count) stack) ∙ known)

  sorted : AreSorted table
  sorted = record { sorted = is_table.sorted }

  parts_inside : list_all (λ n. nat_lt n (length table)) one.parts ≡ true
  parts_inside =
      let less = slice_get_within table n one at in
      all_weaker (λ part. nat_lt part n) (λ part. nat_lt part (length table)) one.parts (λ part below. lt-ltb part (length table) (omega (arith, ltb-true part n below))) (parts_below table n one sorted at)

  pub takes_them : takes one.op (map (sort_at nodes) (last_terms count stack)) ≡ true
  takes_them = ap (takes one.op) (sorts_same table nodes (last_terms count stack) one.parts both_known.1 parts_inside taken_trees) ∙ parts_taken table n one sorted at

  well_sorted : is_well_sorted nodes (node_on one.op count stack) ≡ true
  well_sorted =
      and_from (list_all (λ part. nat_lt part (length nodes)) (last_terms count stack)) (takes one.op (map (sort_at nodes) (last_terms count stack))) both_known.1 takes_them

  makes : MakesTree nodes (node_on one.op count stack)
  makes = made_tree nodes (node_on one.op count stack) is_nodes well_sorted

  pub grows : Grows nodes (made nodes (node_on one.op count stack)).nodes
  grows = makes.grows

  pub stands : Stands (made nodes (node_on one.op count stack)).nodes (tree_at table n) (made nodes (node_on one.op count stack)).number
  stands = record {
    below = makes.stands.below;
    tree_is = makes.stands.tree_is ∙ ap (λ (ts : List Term). node (op_of one.op) (terms_of ts)) taken_trees ∙ sym (tree_of table n one sorted at);
  }

  pub stack_then : trees_at (made nodes (node_on one.op count stack)).nodes (other_terms count stack ++ (made nodes (node_on one.op count stack)).number ∷ []) ≡ front ++ tree_at table n ∷ []
  stack_then =
      let now = (made nodes (node_on one.op count stack)).nodes in
      let number = (made nodes (node_on one.op count stack)).number in
      let same : trees_at now (other_terms count stack) ≡ trees_at nodes (other_terms count stack) =
      map_agree (λ k. nat_lt k (length nodes)) (tree_at now) (tree_at nodes) (other_terms count stack) (λ k below. grown_tree nodes now grows k (ltb-true k (length nodes) below)) both_known.0 in
      map-append (tree_at now) (other_terms count stack) (number ∷ [])
      ∙ ap (λ (ts : List Term). ts ++ tree_at now number ∷ []) (same ∙ left_trees)
      ∙ ap (λ (t : Term). front ++ t ∷ []) stands.tree_is

  pub terms_then : (terms : List (Option ℕ)) (top : ℕ) (after : List Node) → AreTerms table nodes terms → after ≡ (made nodes (node_on one.op count stack)).nodes → top ≡ (made nodes (node_on one.op count stack)).number
      → AreTerms table after (slice_set terms n (Some top))
  terms_then terms top after are e f = record {
    is_table = is_table;
    long = length-set terms n (Some top) ∙ are.long;
    stand = λ k m there. by_place k m there (is_or_not k n);
  }
    where
      by_place : (k m : ℕ) → slice_get (slice_set terms n (Some top)) k ≡ Some (Some m) → (k ≡ n) ⊎ (k ≡ n → ⊥) → Stands after (tree_at table k) m
      by_place k m there (inl same) =
          let here : slice_get (slice_set terms n (Some top)) n ≡ Some (Some m) = ap (slice_get (slice_set terms n (Some top))) (sym same) ∙ there in
          let is : top ≡ m = same_Some top m (get_set_same terms n (Some top) (Some m) here) in
          let now : Stands after (tree_at table n) m = subst (λ (ns : List Node). Stands ns (tree_at table n) m) (sym e) (subst (Stands (made nodes (node_on one.op count stack)).nodes (tree_at table n)) (sym f ∙ is) stands) in
          subst (λ (j : ℕ). Stands after (tree_at table j) m) (sym same) now
      by_place k m there (inr h) =
          subst (λ (ns : List Node). Stands ns (tree_at table k) m) (sym e) (stays nodes (made nodes (node_on one.op count stack)).nodes (tree_at table k) m grows (are.stand k m (get_set_other terms n k (Some top) (Some m) h there)))
