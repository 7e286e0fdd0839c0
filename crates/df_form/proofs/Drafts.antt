-- What an operation that is put on the last terms of a draft keeps.
use Rattle.std.proofs.Common.{◌≡◌, ◌⊎◌, inl, inr, ℕ, suc, ◌-◌, ◌<◌, ◌≤◌, Bool, true, nat_lt, List, [], ◌∷◌, ◌++◌, map, length, take, drop, slice_get, get_or, Option, None, Some, Result, OnOk, false, cond, refl, sym, ap, ◌∙◌, subst, arith, length-append, length-drop, append_assoc}
use Rattle.std.specs.declared.alloc.AllocError.{AllocError}
use Rattle.std.specs.List.{list_all}
use Rattle.std.specs.Option.{option_map_or}
use Rattle.std.proofs.lemmas.Bool.{ltb-true, lt-ltb, and_parts, and_from}
use Rattle.std.proofs.lemmas.List.{map-append, length-take-le, take-append-drop, take_all}
use Rattle.std.proofs.lemmas.List.Folds.{list_all-append}
use Rattle.std.proofs.lemmas.Option.{slice_get_within, slice_get_cases}
use Rattle.df_lemmas.proofs.Lists.{get_grown, get_last}
use Rattle.df_form.specs.declared.node.Op.{Op}
use Rattle.df_form.specs.declared.node.Sort.TheVariants as sorts
use Rattle.df_form.specs.Node.{Node, same_sort, number_of}
use Rattle.df_form.specs.Sorting.{IsTable, is_formula, is_well_sorted, sort_of, sort_at, takes}
use Rattle.df_form.specs.Made.{Made, made}
use Rattle.df_form.specs.Sequent.{Walk, ends, again}
use Rattle.df_form.proofs.Tables.{number_of_some, made_old, made_new, table_next}
use Rattle.df_form.proofs.Walks.{walk-known, walk-new, walk-append}
pub use Rattle.std.proofs.lemmas.Bool.{lt-ltb as less_test}

-- the numbers are those of nodes
abbrev pub are_known : List Node → List ℕ → Bool
are_known nodes ns = list_all (λ n. nat_lt n (length nodes)) ns

pub all_imply : (p q : ℕ → Bool) → ((n : ℕ) → p n ≡ true → q n ≡ true) → (ns : List ℕ) → list_all p ns ≡ true → list_all q ns ≡ true
all_imply p q imply [] all = refl
all_imply p q imply (n ∷ ns) all =
    let both = and_parts (p n) (list_all p ns) all in
    and_from (q n) (list_all q ns) (imply n both.0) (all_imply p q imply ns both.1)

-- more nodes
pub known-more : (nodes more : List Node) (n : ℕ) → nat_lt n (length nodes) ≡ true → nat_lt n (length (nodes ++ more)) ≡ true
known-more nodes more n known =
    let less = ltb-true n (length nodes) known in
    lt-ltb n (length (nodes ++ more)) (omega (arith, length-append nodes more))

get-same : (nodes more : List Node) (n : ℕ) → n < length nodes → slice_get (nodes ++ more) n ≡ slice_get nodes n
get-same nodes more n less = by (slice_get_cases nodes n).1
  where
    by : ((x : Node) × (n < length nodes) × (slice_get nodes n ≡ Some x) × (get_or nodes n x ≡ x)) ⊎ ((length nodes ≤ n) × (slice_get nodes n ≡ None)) → slice_get (nodes ++ more) n ≡ slice_get nodes n
    by (inl there) = get_grown nodes more n there.0 there.2 ∙ sym there.2
    by (inr past) = let far = past.0 in absurd (omega arith)

pub sort-more : (nodes more : List Node) (n : ℕ) → n < length nodes → sort_at (nodes ++ more) n ≡ sort_at nodes n
sort-more nodes more n less = ap (λ (o : Option Node). option_map_or (λ node. sort_of node.op) o sorts.Number) (get-same nodes more n less)

formula-more : (nodes more : List Node) (n : ℕ) → is_formula nodes n ≡ true → is_formula (nodes ++ more) n ≡ true
formula-more nodes more n formula =
    let both = and_parts (nat_lt n (length nodes)) (same_sort (sort_at nodes n) sorts.Truth) formula in
    let sort = sort-more nodes more n (ltb-true n (length nodes) both.0) in
    and_from (nat_lt n (length (nodes ++ more))) (same_sort (sort_at (nodes ++ more) n) sorts.Truth) (known-more nodes more n both.0) (ap (λ s. same_sort s sorts.Truth) sort ∙ both.1)

sorts-more : (nodes more : List Node) (ns : List ℕ) → are_known nodes ns ≡ true → map (sort_at (nodes ++ more)) ns ≡ map (sort_at nodes) ns
sorts-more nodes more [] known = refl
sorts-more nodes more (n ∷ ns) known =
    let both = and_parts (nat_lt n (length nodes)) (are_known nodes ns) known in
    let head = sort-more nodes more n (ltb-true n (length nodes) both.0) in
    let tail = sorts-more nodes more ns both.1 in
    λ i. head i ∷ tail i

pub sort_here : (nodes : List Node) (n : ℕ) (node : Node) → slice_get nodes n ≡ Some node → sort_at nodes n ≡ sort_of node.op
sort_here nodes n node at = ap (λ (o : Option Node). option_map_or (λ node. sort_of node.op) o sorts.Number) at

-- what an operation is put on
pub record IsReady (nodes : List Node) (node : Node) (hypotheses front : List ℕ) : Type 0 where
  pub table : IsTable nodes
  pub sorted : is_well_sorted nodes node ≡ true
  pub formulas : list_all (is_formula nodes) hypotheses ≡ true
  pub known : are_known nodes front ≡ true

-- the walk over what is there
abbrev pub IsWalked : List Node → List ℕ → List ℕ → Type 0
IsWalked nodes hypotheses stack = Walk nodes 0 (hypotheses ++ stack) (length nodes)

-- the nodes and the number once it is put there
pub record IsApplied (nodes : List Node) (node : Node) (hypotheses front : List ℕ) (after : Made) : Type 0 where
  pub table : IsTable after.nodes
  pub formulas : list_all (is_formula after.nodes) hypotheses ≡ true
  pub known : are_known after.nodes (front ++ after.number ∷ []) ≡ true
  pub sort : sort_at after.nodes after.number ≡ sort_of node.op
  pub sorts : map (sort_at after.nodes) front ≡ map (sort_at nodes) front
  pub walked : IsWalked nodes hypotheses (front ++ node.parts) → IsWalked after.nodes hypotheses (front ++ after.number ∷ [])

pub one_more : (nodes : List Node) (ns : List ℕ) (n : ℕ) → are_known nodes ns ≡ true → n < length nodes → are_known nodes (ns ++ n ∷ []) ≡ true
one_more nodes ns n known less =
    let last : are_known nodes (n ∷ []) ≡ true = and_from (nat_lt n (length nodes)) true (lt-ltb n (length nodes) less) refl in
    list_all-append (λ k. nat_lt k (length nodes)) ns (n ∷ []) ∙ and_from (are_known nodes ns) (are_known nodes (n ∷ [])) known last

applied_known : (nodes : List Node) (node : Node) (hypotheses front : List ℕ) (n : ℕ) → IsReady nodes node hypotheses front → slice_get nodes n ≡ Some node → IsApplied nodes node hypotheses front (record { nodes = nodes; number = n })
applied_known nodes node hypotheses front n ready at =
    let less = slice_get_within nodes n node at in
    let before = (and_parts (list_all (λ part. nat_lt part (length (take n nodes))) node.parts) (takes node.op (map (sort_at (take n nodes)) node.parts)) (ready.table.sorted n node at)).0 in
    let below : list_all (λ part. nat_lt part n) node.parts ≡ true = ap (λ k. list_all (λ part. nat_lt part k) node.parts) (sym (length-take-le n nodes (omega (arith, less)))) ∙ before in
    record {
      table = ready.table;
      formulas = ready.formulas;
      known = one_more nodes front n ready.known less;
      sort = sort_here nodes n node at;
      sorts = refl;
      walked = λ walk.
          let joined = subst (λ ns. Walk nodes 0 ns (length nodes)) (sym (append_assoc hypotheses front node.parts)) walk in
          subst (λ ns. Walk nodes 0 ns (length nodes)) (append_assoc hypotheses front (n ∷ [])) (walk-known nodes 0 (hypotheses ++ front) node.parts (length nodes) n below less joined);
    }

applied_new : (nodes : List Node) (node : Node) (hypotheses front : List ℕ) → IsReady nodes node hypotheses front → number_of nodes node ≡ None → IsApplied nodes node hypotheses front (record { nodes = nodes ++ node ∷ []; number = length nodes })
applied_new nodes node hypotheses front ready new =
    let whole = nodes ++ node ∷ [] in
    let long : length whole ≡ suc (length nodes) = omega (arith, length-append nodes (node ∷ [])) in
    record {
      table = table_next nodes node ready.table ready.sorted new;
      formulas = all_imply (is_formula nodes) (is_formula whole) (formula-more nodes (node ∷ [])) hypotheses ready.formulas;
      known = one_more whole front (length nodes) (all_imply (λ n. nat_lt n (length nodes)) (λ n. nat_lt n (length whole)) (known-more nodes (node ∷ [])) front ready.known) (omega (arith, long));
      sort = sort_here whole (length nodes) node (get_last nodes node);
      sorts = sorts-more nodes (node ∷ []) front ready.known;
      walked = λ walk.
          let joined = subst (λ ns. Walk nodes 0 ns (length nodes)) (sym (append_assoc hypotheses front node.parts)) walk in
          let on = subst (Walk whole 0 ((hypotheses ++ front) ++ length nodes ∷ [])) (sym long) (walk-new nodes 0 (hypotheses ++ front) node joined) in
          subst (λ ns. Walk whole 0 ns (length whole)) (append_assoc hypotheses front (length nodes ∷ [])) on;
    }

pub applied : (nodes : List Node) (node : Node) (hypotheses front : List ℕ) (after : Made) → IsReady nodes node hypotheses front → made nodes node ≡ after → IsApplied nodes node hypotheses front after
applied nodes node hypotheses front after ready is = subst (IsApplied nodes node hypotheses front) is (by (number_of nodes node) refl)
  where
    by : (r : Option ℕ) → number_of nodes node ≡ r → IsApplied nodes node hypotheses front (made nodes node)
    by None e = subst (IsApplied nodes node hypotheses front) (sym (made_new nodes node e)) (applied_new nodes node hypotheses front ready e)
    by (Some n) e = subst (IsApplied nodes node hypotheses front) (sym (made_old nodes node n e)) (applied_known nodes node hypotheses front n ready (number_of_some nodes node n e))

-- the last terms of a stack are parts
known_parts : (nodes : List Node) (stack : List ℕ) (k : ℕ) → are_known nodes stack ≡ true → (are_known nodes (take k stack) ≡ true) × (are_known nodes (drop k stack) ≡ true)
known_parts nodes stack k known =
    let split = list_all-append (λ n. nat_lt n (length nodes)) (take k stack) (drop k stack) in
    let whole = ap (are_known nodes) (take-append-drop k stack) in
    and_parts (are_known nodes (take k stack)) (are_known nodes (drop k stack)) (sym split ∙ whole ∙ known)

pub sorted_parts : (nodes : List Node) (op : Op) (stack parts : List ℕ) (k : ℕ) → are_known nodes stack ≡ true → parts ≡ drop k stack → takes op (map (sort_at nodes) (drop k stack)) ≡ true → is_well_sorted nodes (record { op = op; parts = parts }) ≡ true
sorted_parts nodes op stack parts k known is taken =
    let below = (known_parts nodes stack k known).1 in
    ap (λ ns. is_well_sorted nodes (record { op = op; parts = ns })) is ∙ and_from (are_known nodes (drop k stack)) (takes op (map (sort_at nodes) (drop k stack))) below taken

pub ready : (nodes : List Node) (op : Op) (hypotheses stack : List ℕ) (k : ℕ) → IsTable nodes → list_all (is_formula nodes) hypotheses ≡ true → are_known nodes stack ≡ true → takes op (map (sort_at nodes) (drop k stack)) ≡ true → IsReady nodes (record { op = op; parts = drop k stack }) hypotheses (take k stack)
ready nodes op hypotheses stack k table formulas known taken = record {
  table = table;
  sorted = sorted_parts nodes op stack (drop k stack) k known refl taken;
  formulas = formulas;
  known = (known_parts nodes stack k known).0;
}

pub nothing_walked : (nodes : List Node) (hypotheses stack : List ℕ) → nodes ≡ [] → hypotheses ≡ [] → stack ≡ [] → IsWalked nodes hypotheses stack
nothing_walked nodes hypotheses stack a b c =
    let none : Walk [] 0 [] 0 = ends in
    subst (λ (ns : List Node). Walk ns 0 (hypotheses ++ stack) (length ns)) (sym a) (subst (λ hs. Walk [] 0 (hs ++ stack) 0) (sym b) (subst (λ ss. Walk [] 0 ss 0) (sym c) none))

pub last_is : (stack seen parts : List ℕ) (start k : ℕ) → parts ≡ take (length seen - start) (drop start seen) → seen ≡ stack → start ≡ k → parts ≡ drop k stack
last_is stack seen parts start k is same begins =
    let all = take_all (length seen - start) (drop start seen) (omega (arith, length-drop start seen)) in
    is ∙ all ∙ (λ i. drop (begins i) (same i))

pub made_on : (nodes : List Node) (op : Op) (stack seen parts : List ℕ) (start k : ℕ) (after : Made) → parts ≡ take (length seen - start) (drop start seen) → seen ≡ stack → start ≡ k → made nodes (record { op = op; parts = parts }) ≡ after → made nodes (record { op = op; parts = drop k stack }) ≡ after
made_on nodes op stack seen parts start k after is same begins made_is =
    let e = last_is stack seen parts start k is same begins in
    (λ i. made nodes (record { op = op; parts = sym e i })) ∙ made_is

-- the sorts of what is on the stack then
pub sorts_then : (nodes after : List Node) (node : Node) (hypotheses front stack : List ℕ) (number : ℕ) → IsApplied nodes node hypotheses front (record { nodes = after; number = number }) → stack ≡ front ++ number ∷ [] → map (sort_at after) stack ≡ map (sort_at nodes) front ++ sort_of node.op ∷ []
sorts_then nodes after node hypotheses front stack number now is =
    ap (map (sort_at after)) is ∙ map-append (sort_at after) front (number ∷ []) ∙ (λ i. now.sorts i ++ now.sort i ∷ [])

-- a term that stands already goes on the stack
pub walked_again : (nodes : List Node) (hypotheses stack : List ℕ) (n : ℕ) → n < length nodes → IsWalked nodes hypotheses stack → IsWalked nodes hypotheses (stack ++ n ∷ [])
walked_again nodes hypotheses stack n less walk =
    subst (λ ns. Walk nodes 0 ns (length nodes)) (append_assoc hypotheses stack (n ∷ [])) (walk-append nodes 0 (hypotheses ++ stack) (n ∷ []) (length nodes) (length nodes) walk (again less ends))

-- an operation on all of the stack, on which more terms were put
drop-all : (stack : List ℕ) (count : ℕ) → count ≡ length stack → drop (length stack - count) stack ≡ stack
drop-all stack count is = let e : length stack - count ≡ 0 = omega arith in ap (λ k. drop k stack) e

take-none : (stack : List ℕ) (count : ℕ) → count ≡ length stack → take (length stack - count) stack ≡ []
take-none stack count is = let e : length stack - count ≡ 0 = omega arith in ap (λ k. take k stack) e

all_stacked : (before more stack : List ℕ) (index : ℕ) → stack ≡ before ++ take index more → length more ≤ index → stack ≡ before ++ more
all_stacked before more stack index is past = is ∙ ap (λ xs. before ++ xs) (take_all index more past)

pub sorts_stacked : (nodes now : List Node) (op : Op) (before more stack : List ℕ) (index count : ℕ) → stack ≡ before ++ take index more → length more ≤ index → count ≡ length stack → now ≡ nodes → takes op (map (sort_at nodes) (before ++ more)) ≡ true → takes op (map (sort_at now) (drop (length stack - count) stack)) ≡ true
sorts_stacked nodes now op before more stack index count is past counted same taken =
    let all = drop-all stack count counted ∙ all_stacked before more stack index is past in
    (λ i. takes op (map (sort_at (same i)) (all i))) ∙ taken

made_stacked : (nodes now : List Node) (op : Op) (before more stack : List ℕ) (index count : ℕ) → stack ≡ before ++ take index more → length more ≤ index → count ≡ length stack → now ≡ nodes → made now (record { op = op; parts = drop (length stack - count) stack }) ≡ made nodes (record { op = op; parts = before ++ more })
made_stacked nodes now op before more stack index count is past counted same =
    let all = drop-all stack count counted ∙ all_stacked before more stack index is past in
    λ i. made (same i) (record { op = op; parts = all i })

pub nodes_stacked : (result : Result (Unit {0}) AllocError) (after nodes now : List Node) (op : Op) (before more stack : List ℕ) (index count : ℕ) → stack ≡ before ++ take index more → length more ≤ index → count ≡ length stack → now ≡ nodes → OnOk result (after ≡ (made now (record { op = op; parts = drop (length stack - count) stack })).nodes) → OnOk result (after ≡ (made nodes (record { op = op; parts = before ++ more })).nodes)
nodes_stacked result after nodes now op before more stack index count is past counted same ok =
    subst (λ (m : Made). OnOk result (after ≡ m.nodes)) (made_stacked nodes now op before more stack index count is past counted same) ok

pub stack_stacked : (result : Result (Unit {0}) AllocError) (after : List ℕ) (nodes now : List Node) (op : Op) (before more stack : List ℕ) (index count : ℕ) → stack ≡ before ++ take index more → length more ≤ index → count ≡ length stack → now ≡ nodes → OnOk result (after ≡ take (length stack - count) stack ++ (made now (record { op = op; parts = drop (length stack - count) stack })).number ∷ []) → OnOk result (after ≡ (made nodes (record { op = op; parts = before ++ more })).number ∷ [])
stack_stacked result after nodes now op before more stack index count is past counted same ok =
    let front = subst (λ (xs : List ℕ). OnOk result (after ≡ xs ++ (made now (record { op = op; parts = drop (length stack - count) stack })).number ∷ [])) (take-none stack count counted) ok in
    subst (λ (m : Made). OnOk result (after ≡ m.number ∷ [])) (made_stacked nodes now op before more stack index count is past counted same) front

-- whether or not there is room for it
pub known_either : (nodes : List Node) (stack after : List ℕ) (n : ℕ) (b : Bool) → after ≡ cond b (stack ++ n ∷ []) stack → n < length nodes → are_known nodes stack ≡ true → are_known nodes after ≡ true
known_either nodes stack after n true is less known = ap (are_known nodes) is ∙ one_more nodes stack n known less
known_either nodes stack after n false is less known = ap (are_known nodes) is ∙ known

pub walked_either : (nodes : List Node) (hypotheses stack after : List ℕ) (n : ℕ) (b : Bool) → after ≡ cond b (stack ++ n ∷ []) stack → n < length nodes → IsWalked nodes hypotheses stack → IsWalked nodes hypotheses after
walked_either nodes hypotheses stack after n true is less walk = subst (IsWalked nodes hypotheses) (sym is) (walked_again nodes hypotheses stack n less walk)
walked_either nodes hypotheses stack after n false is less walk = subst (IsWalked nodes hypotheses) (sym is) walk
