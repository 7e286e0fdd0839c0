-- The values of nodes: each is that of its operation at those of its parts, and more nodes change none.
use Rattle.std.proofs.Common.{◌≡◌, ℕ, suc, ◌<◌, ◌≤◌, ◌⊎◌, inl, inr, true, List, [], ◌∷◌, ◌++◌, map, take, drop, length, Some, slice_get, nat_lt, refl, sym, ap, ◌∙◌, arith, subst, append_assoc, ltb-true, lt-ltb}
use Rattle.std.specs.Option.{option_map_or}
use Rattle.std.specs.List.{list_all}
use Rattle.std.proofs.lemmas.List.{get_or_append_left, get_or_at, length-append, length-take-le, take-append-le, take_at, append-nil}
use Rattle.std.proofs.lemmas.Option.{slice_get_within}
use Rattle.std.proofs.lemmas.Bool.{and_parts}
use Rattle.df_lemmas.proofs.Lists.{get_grown, get_below, get_split, get_pushed, map_agree}
use Rattle.df_form.specs.World.{World}
use Rattle.df_meaning.specs.Value.{Value}
use Rattle.df_form.specs.declared.node.Sort.TheVariants as sorts
use Rattle.df_form.specs.declared.node.Sort.{Sort}
use Rattle.df_form.specs.Node.{Node}
use Rattle.df_form.specs.Sorting.{takes, sort_at, sort_of, is_well_sorted}
use Rattle.df_form.specs.Truth.{Assignment, value_at, apply, values_after, values}

-- nodes that begin with others
pub record Grows (before now : List Node) : Type 0 where
  pub more : List Node
  pub is : now ≡ before ++ more

pub grows_not : (nodes : List Node) → Grows nodes nodes
grows_not nodes = record { more = []; is = sym (append-nil nodes) }

pub grows_by : (nodes : List Node) (node : Node) → Grows nodes (nodes ++ node ∷ [])
grows_by nodes node = record { more = node ∷ []; is = refl }

pub grows_twice : (a b c : List Node) → Grows a b → Grows b c → Grows a c
grows_twice a b c g h = record { more = g.more ++ h.more; is = h.is ∙ ap (λ z. z ++ h.more) g.is ∙ append_assoc a g.more h.more }

pub grown_get : (before now : List Node) → Grows before now → (n : ℕ) (node : Node) → slice_get before n ≡ Some node → slice_get now n ≡ Some node
grown_get before now g n node e = rw g.is (get_grown before g.more n node e)

pub grown_length : (before now : List Node) → Grows before now → length before ≤ length now
grown_length before now g = let e = ap (λ z. length z) g.is ∙ length-append before g.more in omega arith

pub grown_below : (before now : List Node) → Grows before now → (n : ℕ) → nat_lt n (length before) ≡ true → nat_lt n (length now) ≡ true
grown_below before now g n lt = let le = grown_length before now g in lt-ltb n (length now) (omega (arith, ltb-true n (length before) lt))

pub grown_sort : (before now : List Node) → Grows before now → (n : ℕ) → n < length before → sort_at now n ≡ sort_at before n
grown_sort before now g n lt =
    let at = get_below before n lt in
    let here : slice_get before n ≡ Some at.0 = at.1 in
    let there : slice_get now n ≡ Some at.0 = grown_get before now g n at.0 here in
    ap (λ o. option_map_or (λ (node : Node). sort_of node.op) o sorts.Number) (there ∙ sym here)

-- each node is well sorted after those before it
pub record AreSorted (nodes : List Node) : Type 0 where
  pub sorted : (n : ℕ) (node : Node) → slice_get nodes n ≡ Some node → is_well_sorted (take n nodes) node ≡ true

pub one_more_sorted : (nodes : List Node) (node : Node) → AreSorted nodes → is_well_sorted nodes node ≡ true → AreSorted (nodes ++ node ∷ [])
one_more_sorted nodes node all one = record { sorted = λ n other e. next n other (get_pushed nodes node n other e) }
  where
    next : (n : ℕ) (other : Node) → (slice_get nodes n ≡ Some other) ⊎ ((n ≡ length nodes) × (node ≡ other)) → is_well_sorted (take n (nodes ++ node ∷ [])) other ≡ true
    next n other (inl e) =
        let lt = slice_get_within nodes n other e in
        let le : n ≤ length nodes = omega arith in
        let same = take-append-le n nodes (node ∷ []) le in
        subst (λ (front : List Node). is_well_sorted front other ≡ true) (sym same) (all.sorted n other e)
    next n other (inr e) =
        let same = take_at nodes (node ∷ []) n (sym e.0) in
        subst (λ (front : List Node). is_well_sorted front other ≡ true) (sym same) (subst (λ (other : Node). is_well_sorted nodes other ≡ true) e.1 one)

-- what the sorting of a node says of its parts among all nodes
pub parts_below : (nodes : List Node) (n : ℕ) (node : Node) → AreSorted nodes → slice_get nodes n ≡ Some node → list_all (λ part. nat_lt part n) node.parts ≡ true
parts_below nodes n node all e =
    let lt = slice_get_within nodes n node e in
    let le : n ≤ length nodes = omega arith in
    let parts = and_parts (list_all (λ part. nat_lt part (length (take n nodes))) node.parts) (takes node.op (map (sort_at (take n nodes)) node.parts)) (all.sorted n node e) in
    subst (λ (k : ℕ). list_all (λ part. nat_lt part k) node.parts ≡ true) (length-take-le n nodes le) parts.0

pub front_grows : (nodes : List Node) (n : ℕ) (node : Node) → slice_get nodes n ≡ Some node → Grows (take n nodes) nodes
front_grows nodes n node e = record { more = node ∷ drop (suc n) nodes; is = get_split nodes n node e }

pub parts_taken : (nodes : List Node) (n : ℕ) (node : Node) → AreSorted nodes → slice_get nodes n ≡ Some node → takes node.op (map (sort_at nodes) node.parts) ≡ true
parts_taken nodes n node all e =
    let lt = slice_get_within nodes n node e in
    let le : n ≤ length nodes = omega arith in
    let front = take n nodes in
    let parts = and_parts (list_all (λ part. nat_lt part (length front)) node.parts) (takes node.op (map (sort_at front) node.parts)) (all.sorted n node e) in
    let same : map (sort_at nodes) node.parts ≡ map (sort_at front) node.parts = map_agree (λ part. nat_lt part (length front)) (sort_at nodes) (sort_at front) node.parts
    (λ part below. grown_sort front nodes (front_grows nodes n node e) part (ltb-true part (length front) below)) parts.0 in
    subst (λ (found : List Sort). takes node.op found ≡ true) (sym same) parts.1

module _ (depth : ℕ) (world : World) (assignment : Assignment) where
  values_onto : (known : List Value) (nodes : List Node) → (rest : List Value) × (values_after depth world assignment known nodes ≡ known ++ rest) × (length rest ≡ length nodes)
  values_onto known [] = ([], sym (append-nil known), refl)
  values_onto known (node ∷ nodes) =
      let value = apply depth world assignment node.op (map (value_at known) node.parts) in
      let others = values_onto (known ++ value ∷ []) nodes in
      (value ∷ others.0, others.1 ∙ append_assoc known (value ∷ []) others.0, ap suc others.2)

  values_append : (known : List Value) (first second : List Node) → values_after depth world assignment known (first ++ second) ≡ values_after depth world assignment (values_after depth world assignment known first) second
  values_append known [] second = refl
  values_append known (node ∷ first) second = values_append (known ++ apply depth world assignment node.op (map (value_at known) node.parts) ∷ []) first second

  length-values : (nodes : List Node) → length (values depth world assignment nodes) ≡ length nodes
  length-values nodes = let all = values_onto [] nodes in ap (λ z. length z) all.1 ∙ all.2

  -- the value of a number
  abbrev pub worth : List Node → ℕ → Value
  worth nodes n = value_at (values depth world assignment nodes) n

  pub grown_value : (before now : List Node) → Grows before now → (n : ℕ) → n < length before → worth now n ≡ worth before n
  grown_value before now g n lt =
      let known = values depth world assignment before in
      let all = values_onto known g.more in
      let is : values depth world assignment now ≡ known ++ all.0 = ap (values depth world assignment) g.is ∙ values_append [] before g.more ∙ all.1 in
      let inside : n < length known = omega (arith, length-values before) in
      ap (λ z. value_at z n) is ∙ get_or_append_left known all.0 _ n inside

  pub value_is : (nodes : List Node) (n : ℕ) (node : Node) → AreSorted nodes → slice_get nodes n ≡ Some node → worth nodes n ≡ apply depth world assignment node.op (map (worth nodes) node.parts)
  value_is nodes n node all e =
      let lt = slice_get_within nodes n node e in
      let le : n ≤ length nodes = omega arith in
      let front = take n nodes in
      let long : length front ≡ n = length-take-le n nodes le in
      let known = values depth world assignment front in
      let value = apply depth world assignment node.op (map (value_at known) node.parts) in
      let rest = drop (suc n) nodes in
      let others = values_onto (known ++ value ∷ []) rest in
      let is : values depth world assignment nodes ≡ (known ++ value ∷ []) ++ others.0 = ap (values depth world assignment) (get_split nodes n node e) ∙ values_append [] front (node ∷ rest) ∙ others.1 in
      let place : length known ≡ n = length-values front ∙ long in
      let here : worth nodes n ≡ value = ap (λ z. value_at z n) (is ∙ append_assoc known (value ∷ []) others.0) ∙ get_or_at known value others.0 _ n place in
      let same : map (worth nodes) node.parts ≡ map (value_at known) node.parts = map_agree (λ part. nat_lt part n) (worth nodes) (value_at known) node.parts
      (λ part below. grown_value front nodes (front_grows nodes n node e) part (omega (arith, long, ltb-true part n below))) (parts_below nodes n node all e) in
      here ∙ ap (λ z. apply depth world assignment node.op z) (sym same)
