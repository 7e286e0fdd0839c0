-- Tables of nodes: where a node stands, and one more node.
use Rattle.std.proofs.Common.{take-take, ◌≡◌, ◌⊎◌, ⊎_elim, inl, inr, length-take, ℕ, suc, ◌+◌, ◌<◌, ◌≤◌, Bool, true, false, cond, List, [], ◌∷◌, ◌++◌, length, take, slice_get, Option, None, Some, not, nat_lt, get_or, true≢false, subst, refl, sym, ap, ◌∙◌, arith, length-append}
use Rattle.std.proofs.lemmas.List.{take_all, take-append-le, get_or_append_left, get_or-take}
use Rattle.std.proofs.Math.Seq.{take-append_seam, take-suc}
use Rattle.std.proofs.lemmas.List.Sums.{prefix_len_passes}
use Rattle.std.proofs.lemmas.Bool.Decides.{nat_tests}
use Rattle.std.proofs.lemmas.List.Quantifiers.{position-Some}
use Rattle.std.specs.Prelude.{position}
use Rattle.std.specs.List.{position_or_len, prefix_len}
use Rattle.std.proofs.lemmas.Option.{slice_get_within, slice_get-get_or, get_or_from_slice_get, slice_get_cases, same_Some, none-some}
use Rattle.std.proofs.lemmas.Bool.{cases_lt}
use Rattle.df_lemmas.proofs.Lists.{get_below, get_grown, get_last}
use Rattle.df_form.specs.Node.{Node, same_node, number_of}
use Rattle.df_form.specs.Sorting.{IsTable, is_well_sorted}
use Rattle.df_form.specs.Made.{Made, made, made_where}
use Rattle.df_form.proofs.Same.{same_node_equal, same_node-refl}

-- no node stands twice
abbrev pub IsDistinct : List Node → Type 0
IsDistinct nodes = (m n : ℕ) (node : Node) → slice_get nodes m ≡ Some node → slice_get nodes n ≡ Some node → m ≡ n

-- a search finds the node
pub number_of_some : (nodes : List Node) (node : Node) (n : ℕ) → number_of nodes node ≡ Some n → slice_get nodes n ≡ Some node
number_of_some nodes node n e =
    let found = position-Some (same_node node) nodes n node e in
    let same = same_node_equal node (get_or nodes n node) found.1 in
    slice_get-get_or nodes n node found.0 ∙ ap Some (sym same)

passes_prefix : {A : Type 0} (q : A → Bool) (xs : List A) (n : ℕ) (x : A) → length xs ≤ prefix_len q xs → slice_get xs n ≡ Some x → q x ≡ true
passes_prefix q xs n x all at =
    let within = slice_get_within xs n x at in
    let passes = prefix_len_passes q xs n x (omega (arith, within, all)) in
    ap q (sym (get_or_from_slice_get xs n x x at)) ∙ passes

none_past : (a b : ℕ) → cond (nat_lt a b) (Some a) None ≡ None → b ≤ a
none_past a b e = by (nat_lt a b) refl
  where
    by : (v : Bool) → nat_lt a b ≡ v → b ≤ a
    by true v = absurd (no_some (sym (ap (λ t. cond t (Some a) None) v) ∙ e))
      where
        no_some : Some a ≡ None → ⊥
        no_some h = cc
    by false v = grind (arith, nat_tests)

-- what a search does not find is not there
pub not_found : {A : Type 0} (test : A → Bool) (xs : List A) (n : ℕ) (x : A) → position test xs ≡ None → slice_get xs n ≡ Some x → test x ≡ true → ⊥
not_found test xs n x e at passes =
    let past = none_past (position_or_len test xs) (length xs) e in
    let other : not (test x) ≡ true = passes_prefix (λ y. not (test y)) xs n x past at in
    absurd (true≢false (sym other ∙ ap not passes))

pub number_of_none : (nodes : List Node) (node : Node) (n : ℕ) → number_of nodes node ≡ None → slice_get nodes n ≡ Some node → ⊥
number_of_none nodes node n e at = not_found (same_node node) nodes n node e at (same_node-refl node)

-- where nodes are distinct a search finds this number
pub number_of_at : (nodes : List Node) (node : Node) (n : ℕ) → IsDistinct nodes → slice_get nodes n ≡ Some node → number_of nodes node ≡ Some n
number_of_at nodes node n distinct at = by (number_of nodes node) refl
  where
    by : (r : Option ℕ) → number_of nodes node ≡ r → number_of nodes node ≡ Some n
    by None e = absurd (number_of_none nodes node n e at)
    by (Some m) e = e ∙ ap Some (distinct m n node (number_of_some nodes node m e) at)

-- what `made` gives where the node stands, and where it is new
pub made_old : (nodes : List Node) (node : Node) (n : ℕ) → number_of nodes node ≡ Some n → made nodes node ≡ record { nodes = nodes; number = n }
made_old nodes node n e = ap (made_where nodes node) e

pub made_new : (nodes : List Node) (node : Node) → number_of nodes node ≡ None → made nodes node ≡ record { nodes = nodes ++ node ∷ []; number = length nodes }
made_new nodes node e = ap (made_where nodes node) e

-- a new node is in none of the nodes before it
pub number_of_new : (nodes : List Node) (node : Node) → IsDistinct (nodes ++ node ∷ []) → number_of nodes node ≡ None
number_of_new nodes node distinct = by (number_of nodes node) refl
  where
    by : (r : Option ℕ) → number_of nodes node ≡ r → number_of nodes node ≡ None
    by None e = e
    by (Some m) e =
        let at = number_of_some nodes node m e in
        let same = distinct m (length nodes) node (get_grown nodes (node ∷ []) m node at) (get_last nodes node) in
        let within = slice_get_within nodes m node at in
        absurd (omega (arith, within, same))

-- within the nodes there is one
pub none_within : (nodes : List Node) (n : ℕ) → None ≡ slice_get nodes n → n < length nodes → ⊥
none_within nodes n none less = let there = get_below nodes n less in none-some there.0 (none ∙ there.1)

-- one more node
get-before : (nodes : List Node) (node x : Node) (n : ℕ) → n < length nodes → slice_get (nodes ++ node ∷ []) n ≡ Some x → slice_get nodes n ≡ Some x
get-before nodes node x n less at =
    let here = slice_get-get_or nodes n x less in
    let there = get_or_append_left nodes (node ∷ []) x n less in
    here ∙ ap Some (sym there ∙ get_or_from_slice_get (nodes ++ node ∷ []) n x x at)

sorted-append : (nodes : List Node) (node : Node) → IsTable nodes → is_well_sorted nodes node ≡ true → (n : ℕ) (x : Node) → slice_get (nodes ++ node ∷ []) n ≡ Some x → is_well_sorted (take n (nodes ++ node ∷ [])) x ≡ true
sorted-append nodes node table sorted n x at = ⊎_elim early late (cases_lt n (length nodes))
  where
    early : n < length nodes → is_well_sorted (take n (nodes ++ node ∷ [])) x ≡ true
    early less = ap (λ before. is_well_sorted before x) (take-append-le n nodes (node ∷ []) (omega (arith, less))) ∙ table.sorted n x (get-before nodes node x n less at)

    late : length nodes ≤ n → is_well_sorted (take n (nodes ++ node ∷ [])) x ≡ true
    late past =
        let within = slice_get_within (nodes ++ node ∷ []) n x at in
        let last : n ≡ length nodes = omega (arith, within, past, length-append nodes (node ∷ [])) in
        let e : x ≡ node = same_Some _ _ (sym at ∙ ap (λ k. slice_get (nodes ++ node ∷ []) k) last ∙ get_last nodes node) in
        ap (λ k. is_well_sorted (take k (nodes ++ node ∷ [])) x) last ∙ ap (λ before. is_well_sorted before x) (take-append_seam nodes (node ∷ [])) ∙ ap (is_well_sorted nodes) e ∙ sorted

pub table-append : (nodes : List Node) (node : Node) → IsTable nodes → is_well_sorted nodes node ≡ true → IsDistinct (nodes ++ node ∷ []) → IsTable (nodes ++ node ∷ [])
table-append nodes node table sorted distinct = record { sorted = sorted-append nodes node table sorted; distinct = distinct }

-- fewer nodes
pub get-take : {A : Type 0} (nodes : List A) (k n : ℕ) (x : A) → slice_get (take k nodes) n ≡ Some x → (n < k) × (slice_get nodes n ≡ Some x)
get-take nodes k n x at =
    let within = slice_get_within (take k nodes) n x at in
    let less : n < k = omega (arith, within, length-take k nodes) in
    let inside : n < length nodes = omega (arith, within, length-take k nodes) in
    let e = get_or-take k nodes n x less in
    (less, slice_get-get_or nodes n x inside ∙ ap Some (sym e ∙ get_or_from_slice_get (take k nodes) n x x at))

pub table-take : (nodes : List Node) (k : ℕ) → IsTable nodes → IsTable (take k nodes)
table-take nodes k table = record {
  sorted = λ n x at. let there = get-take nodes k n x at in ap (λ before. is_well_sorted before x) (take-take n k nodes (omega (arith, there.0))) ∙ table.sorted n x there.1;
  distinct = λ m n x at_m at_n. table.distinct m n x (get-take nodes k m x at_m).1 (get-take nodes k n x at_n).1;
}

-- a table is copied from its front on, node by node
pub copied-next : (nodes copy after : List Node) (node : Node) (n : ℕ) → IsTable nodes → copy ≡ take (length copy) nodes → slice_get nodes (length copy) ≡ Some node → made copy node ≡ record { nodes = after; number = n } → (after ≡ take (length after) nodes) × (length after ≡ length copy + 1) × (length copy < length nodes)
copied-next nodes copy after node n table so_far at made_is =
    let k = length copy in
    let less = slice_get_within nodes k node at in
    let here = get_or_from_slice_get nodes k node node at in
    let whole : take (suc k) nodes ≡ copy ++ node ∷ [] = take-suc nodes k node less ∙ (λ i. sym so_far i ++ here i ∷ []) in
    let new = number_of_new copy node (subst IsDistinct whole (table-take nodes (suc k) table).distinct) in
    let is : after ≡ copy ++ node ∷ [] = ap (λ (m : Made). m.nodes) (sym made_is ∙ made_new copy node new) in
    let long : length after ≡ suc k = omega (arith, ap length is, length-append copy (node ∷ [])) in
    (is ∙ sym whole ∙ ap (λ i. take i nodes) (sym long), omega arith, less)

pub copied-whole : (nodes copy : List Node) → copy ≡ take (length copy) nodes → slice_get nodes (length copy) ≡ None → copy ≡ nodes
copied-whole nodes copy so_far past = so_far ∙ take_all (length copy) nodes (by (slice_get_cases nodes (length copy)).1)
  where
    by : ((x : Node) × (length copy < length nodes) × (slice_get nodes (length copy) ≡ Some x) × (get_or nodes (length copy) x ≡ x)) ⊎ ((length nodes ≤ length copy) × (slice_get nodes (length copy) ≡ None)) → length nodes ≤ length copy
    by (inl there) = absurd (none-some _ (sym past ∙ there.2))
    by (inr there) = there.0

pub copied_none : (nodes copy : List Node) → copy ≡ [] → copy ≡ take (length copy) nodes
copied_none nodes copy none = none ∙ ap (λ xs. take (length xs) nodes) (sym none)

-- with a node that is not there yet nodes stay distinct
pub distinct-append : (nodes : List Node) (node : Node) → IsDistinct nodes → number_of nodes node ≡ None → IsDistinct (nodes ++ node ∷ [])
distinct-append nodes node distinct new m n x at_m at_n = by (side m x at_m) (side n x at_n)
  where
    side : (k : ℕ) (y : Node) → slice_get (nodes ++ node ∷ []) k ≡ Some y → (slice_get nodes k ≡ Some y) ⊎ ((k ≡ length nodes) × (y ≡ node))
    side k y at = ⊎_elim early late (cases_lt k (length nodes))
      where
        early : k < length nodes → (slice_get nodes k ≡ Some y) ⊎ ((k ≡ length nodes) × (y ≡ node))
        early less = inl (get-before nodes node y k less at)

        late : length nodes ≤ k → (slice_get nodes k ≡ Some y) ⊎ ((k ≡ length nodes) × (y ≡ node))
        late past =
            let within = slice_get_within (nodes ++ node ∷ []) k y at in
            let last : k ≡ length nodes = omega (arith, within, past, length-append nodes (node ∷ [])) in
            inr (last, same_Some _ _ (sym at ∙ ap (λ j. slice_get (nodes ++ node ∷ []) j) last ∙ get_last nodes node))

    by : (slice_get nodes m ≡ Some x) ⊎ ((m ≡ length nodes) × (x ≡ node)) → (slice_get nodes n ≡ Some x) ⊎ ((n ≡ length nodes) × (x ≡ node)) → m ≡ n
    by (inl a) (inl b) = distinct m n x a b
    by (inl a) (inr b) = absurd (number_of_none nodes node m new (a ∙ ap Some b.1))
    by (inr a) (inl b) = absurd (number_of_none nodes node n new (b ∙ ap Some a.1))
    by (inr a) (inr b) = a.0 ∙ sym b.0

-- a table with one more node, which fits
pub table_next : (nodes : List Node) (node : Node) → IsTable nodes → is_well_sorted nodes node ≡ true → number_of nodes node ≡ None → IsTable (nodes ++ node ∷ [])
table_next nodes node table sorted new = table-append nodes node table sorted (distinct-append nodes node table.distinct new)

pub table_none : IsTable []
table_none = record { sorted = λ n node at. absurd (none-some _ at); distinct = λ m n node at_m at_n. absurd (none-some _ at_m) }
