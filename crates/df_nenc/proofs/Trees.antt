-- Trees of nodes, and the trees of those that are made.
use Rattle.df_nenc.proofs.Words.{◌≡◌, ℕ, suc, ◌<◌, ◌≤◌, List, [], ◌∷◌, ◌++◌, map, take, drop, length, Some, slice_get, nat_lt, refl, sym, ap, ◌∙◌, arith, append_assoc, ltb-true, true, subst, option_map_or, list_all, get_or_append_left, get_or_at, length-take-le, append-nil, slice_get_within, and_parts, get_below, get_split, map_agree, Op, Node, IsTable, is_well_sorted, sort_at, takes, Made, made, AreSorted, parts_below, Term, node, terms_of, op_of, sort_of, sort_of_op, sort_of_term, tree_among, tree_over, trees_after, Grows, Stands}
use Rattle.df_form.specs.declared.node.Sort.TheVariants as sorts
use Rattle.df_form.specs.declared.node.Op.TheVariants as ops
use Rattle.df_form.specs.Sorting as sorting
use Rattle.df_form.proofs.Making.{made_stands}
use Rattle.df_form.specs.declared.symbol.Symbol.{Symbol}
use Rattle.df_form.specs.declared.symbol.Symbol.TheVariants as symbols
use Rattle.df_form.specs.declared.symbol.Payload.{Payload}
use Rattle.df_form.specs.Symbol.{symbols as table, same_symbol}
use Rattle.df_nenc.specs.Tree.{of_symbol, tree_at}
use Rattle.df_nenc.specs.Laws.{MakesTree}

onto : (known : List Term) (nodes : List Node) → (rest : List Term) × (trees_after known nodes ≡ known ++ rest) × (length rest ≡ length nodes)
onto known [] = ([], sym (append-nil known), refl)
onto known (one ∷ nodes) =
    let others = onto (known ++ tree_over known one ∷ []) nodes in
    (tree_over known one ∷ others.0, others.1 ∙ append_assoc known (tree_over known one ∷ []) others.0, ap suc others.2)

after_append : (known : List Term) (first second : List Node) → trees_after known (first ++ second) ≡ trees_after (trees_after known first) second
after_append known [] second = refl
after_append known (one ∷ first) second = after_append (known ++ tree_over known one ∷ []) first second

length-trees : (nodes : List Node) → length (trees_after [] nodes) ≡ length nodes
length-trees nodes = let all = onto [] nodes in ap (λ z. length z) all.1 ∙ all.2

-- more nodes
pub grown_tree : (before now : List Node) → Grows before now → (n : ℕ) → n < length before → tree_at now n ≡ tree_at before n
unfolding tree_at
grown_tree before now g n lt =
    let known = trees_after [] before in
    let all = onto known g.more in
    let is : trees_after [] now ≡ known ++ all.0 = ap (trees_after []) g.is ∙ after_append [] before g.more ∙ all.1 in
    let inside : n < length known = omega (arith, length-trees before) in
    ap (λ z. tree_among z n) is ∙ get_or_append_left known all.0 _ n inside

front_grows : (nodes : List Node) (n : ℕ) (one : Node) → slice_get nodes n ≡ Some one → Grows (take n nodes) nodes
front_grows nodes n one e = record { more = one ∷ drop (suc n) nodes; is = get_split nodes n one e }

tree_here : (nodes : List Node) (n : ℕ) (one : Node) → slice_get nodes n ≡ Some one → tree_at nodes n ≡ tree_over (trees_after [] (take n nodes)) one
unfolding tree_at
tree_here nodes n one e =
    let lt = slice_get_within nodes n one e in
    let le : n ≤ length nodes = omega arith in
    let front = take n nodes in
    let long : length front ≡ n = length-take-le n nodes le in
    let known = trees_after [] front in
    let rest = drop (suc n) nodes in
    let tree = tree_over known one in
    let others = onto (known ++ tree ∷ []) rest in
    let is : trees_after [] nodes ≡ (known ++ tree ∷ []) ++ others.0 = ap (trees_after []) (get_split nodes n one e) ∙ after_append [] front (one ∷ rest) ∙ others.1 in
    let place : length known ≡ n = length-trees front ∙ long in
    ap (λ z. tree_among z n) (is ∙ append_assoc known (tree ∷ []) others.0) ∙ get_or_at known tree others.0 _ n place

over_front : (front : List Node) (one : Node) → tree_over (trees_after [] front) one ≡ node (op_of one.op) (terms_of (map (tree_at front) one.parts))
unfolding tree_at
over_front front one = refl

-- of an operation, those of its parts
pub tree_of : (nodes : List Node) (n : ℕ) (one : Node) → AreSorted nodes → slice_get nodes n ≡ Some one → tree_at nodes n ≡ node (op_of one.op) (terms_of (map (tree_at nodes) one.parts))
tree_of nodes n one all e =
    let lt = slice_get_within nodes n one e in
    let le : n ≤ length nodes = omega arith in
    let front = take n nodes in
    let long : length front ≡ n = length-take-le n nodes le in
    let same : map (tree_at nodes) one.parts ≡ map (tree_at front) one.parts = map_agree (λ part. nat_lt part n) (tree_at nodes) (tree_at front) one.parts
    (λ part below. grown_tree front nodes (front_grows nodes n one e) part (omega (arith, long, ltb-true part n below))) (parts_below nodes n one all e) in
    tree_here nodes n one e ∙ over_front front one ∙ ap (λ z. node (op_of one.op) (terms_of z)) (sym same)

symbol_sort : (s : Symbol) (payload : Payload) → sort_of (sorting.sort_of (ops.Of s payload)) ≡ sort_of_op (of_symbol s payload)
unfolding table same_symbol
symbol_sort symbols.Div payload = refl
symbol_sort symbols.Mod payload = refl
symbol_sort symbols.Code payload = refl
symbol_sort symbols.Chr payload = refl
symbol_sort symbols.Is payload = refl

op_sort : (op : Op) → sort_of (sorting.sort_of op) ≡ sort_of_op (op_of op)
op_sort (ops.Number n) = refl
op_sort (ops.Of s payload) = symbol_sort s payload
op_sort op = refl

-- a node has the sort of its tree
pub tree_sort : (nodes : List Node) (n : ℕ) → n < length nodes → sort_of (sorting.sort_at nodes n) ≡ sort_of_term (tree_at nodes n)
tree_sort nodes n lt =
    let at = get_below nodes n lt in
    let one = at.0 in
    let is : slice_get nodes n ≡ Some one = at.1 in
    ap (λ o. sort_of (option_map_or (λ (node : Node). sorting.sort_of node.op) o sorts.Number)) is ∙ op_sort one.op ∙ sym (ap sort_of_term (tree_here nodes n one is))

pub made_tree : (nodes : List Node) (one : Node) → IsTable nodes → is_well_sorted nodes one ≡ true → MakesTree nodes one
made_tree nodes one table sorted =
    let all : AreSorted nodes = record { sorted = table.sorted } in
    let m = made nodes one in
    let made = made_stands nodes one all sorted in
    let grows : Grows nodes m.nodes = record { more = made.grows.more; is = made.grows.is } in
    let parts = and_parts (list_all (λ part. nat_lt part (length nodes)) one.parts) (takes one.op (map (sort_at nodes) one.parts)) sorted in
    let same : map (tree_at m.nodes) one.parts ≡ map (tree_at nodes) one.parts = map_agree (λ part. nat_lt part (length nodes)) (tree_at m.nodes) (tree_at nodes) one.parts
    (λ part below. grown_tree nodes m.nodes grows part (ltb-true part (length nodes) below)) parts.0 in
    record {
      grows = grows;
      stands = record {
        below = slice_get_within m.nodes m.number one made.there;
        tree_is = tree_of m.nodes m.number one made.sorted made.there ∙ ap (λ z. node (op_of one.op) (terms_of z)) same;
      };
    }

pub makes : (nodes after : List Node) (one : Node) (n : ℕ) → IsTable nodes → is_well_sorted nodes one ≡ true → made nodes one ≡ record { nodes = after; number = n } → Stands after (node (op_of one.op) (terms_of (map (tree_at nodes) one.parts))) n
makes nodes after one n table sorted e = subst (λ (m : Made). Stands m.nodes (node (op_of one.op) (terms_of (map (tree_at nodes) one.parts))) m.number) e (made_tree nodes one table sorted).stands

pub makes_grow : (nodes after : List Node) (one : Node) (n : ℕ) → IsTable nodes → is_well_sorted nodes one ≡ true → made nodes one ≡ record { nodes = after; number = n } → Grows nodes after
makes_grow nodes after one n table sorted e = subst (λ (m : Made). Grows nodes m.nodes) e (made_tree nodes one table sorted).grows
