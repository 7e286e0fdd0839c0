-- Two sequents whose nodes are numbered are the same, where they are the same under other numbers.
use Rattle.std.proofs.Common.{◌≡◌, ◌⊎◌, ⊎_elim, ℕ, zero, suc, ◌<◌, ◌≤◌, Bool, true, nat_lt, List, [], ◌∷◌, ◌++◌, map, take, length, slice_get, Some, refl, sym, ap, ◌∙◌, subst, arith}
use Rattle.std.specs.List.{list_all}
use Rattle.std.proofs.lemmas.Bool.{ltb-true, and_parts}
use Rattle.std.proofs.lemmas.List.{length-take-le, map-append}
use Rattle.std.proofs.lemmas.List.Folds.{list_all-append}
use Rattle.std.proofs.lemmas.Option.{slice_get_within, same_Some}
use Rattle.df_lemmas.proofs.Lists.{get_below}
use Rattle.df_form.specs.declared.node.Sort.TheVariants as sorts
use Rattle.df_form.specs.Node.{Node, same_sort}
use Rattle.df_form.specs.Sorting.{IsTable, is_formula, sort_at, takes}
use Rattle.df_form.specs.Sequent.{Sequent, IsSequent, IsNumbered, Walk, ends, again, first}
use Rattle.df_form.specs.Renaming.{IsRenaming, renamed}
use Rattle.df_form.proofs.Walks.{walk_up}

-- the numbers keep the nodes of one in the other
abbrev Renames : (ℕ → ℕ) → List Node → List Node → Type 0
Renames f one other = (n : ℕ) (node : Node) → slice_get one n ≡ Some node → slice_get other (f n) ≡ Some (renamed f node)

-- no number below the bound changes
abbrev IsSame : (ℕ → ℕ) → ℕ → Type 0
IsSame f bound = (n : ℕ) → n < bound → f n ≡ n

-- no two numbers below the bound become one
abbrev IsInjective : (ℕ → ℕ) → ℕ → Type 0
IsInjective f bound = (m n : ℕ) → m < bound → n < bound → f m ≡ f n → m ≡ n

abbrev are_below : ℕ → List ℕ → Bool
are_below bound ns = list_all (λ n. nat_lt n bound) ns

cons_equal : {m n : ℕ} {ms ns : List ℕ} → m ∷ ms ≡ n ∷ ns → (m ≡ n) × (ms ≡ ns)
cons_equal h = (cc, cc)

lists_injective : (f : ℕ → ℕ) (bound a b : ℕ) → IsInjective f bound → a ≤ bound → b ≤ bound → (ms ns : List ℕ) → are_below a ms ≡ true → are_below b ns ≡ true → map f ms ≡ map f ns → ms ≡ ns
lists_injective f bound a b injective in_a in_b [] [] below_a below_b e = refl
lists_injective f bound a b injective in_a in_b [] (n ∷ ns) below_a below_b e = cc
lists_injective f bound a b injective in_a in_b (m ∷ ms) [] below_a below_b e = cc
lists_injective f bound a b injective in_a in_b (m ∷ ms) (n ∷ ns) below_a below_b e =
    let one = and_parts (nat_lt m a) (are_below a ms) below_a in
    let other = and_parts (nat_lt n b) (are_below b ns) below_b in
    let less_a = ltb-true m a one.0 in
    let less_b = ltb-true n b other.0 in
    let parts = cons_equal e in
    let head = injective m n (omega arith) (omega arith) parts.0 in
    let tail = lists_injective f bound a b injective in_a in_b ms ns one.1 other.1 parts.1 in
    λ i. head i ∷ tail i

-- the parts of a node stand before it
parts_before : (nodes : List Node) (n : ℕ) (node : Node) → IsTable nodes → slice_get nodes n ≡ Some node → are_below n node.parts ≡ true
parts_before nodes n node table at =
    let less = slice_get_within nodes n node at in
    let before = (and_parts (are_below (length (take n nodes)) node.parts) (takes node.op (map (sort_at (take n nodes)) node.parts)) (table.sorted n node at)).0 in
    ap (λ k. are_below k node.parts) (sym (length-take-le n nodes (omega (arith, less)))) ∙ before

injective : (f : ℕ → ℕ) (one other : List Node) → IsTable one → Renames f one other → (bound : ℕ) → bound ≤ length one → IsInjective f bound
injective f one other table renames zero within m n less_m less_n e = absurd (omega arith)
injective f one other table renames (suc bound) within m n less_m less_n e =
    let a = get_below one m (omega arith) in
    let b = get_below one n (omega arith) in
    let same : renamed f a.0 ≡ renamed f b.0 = same_Some _ _ (sym (renames m a.0 a.1) ∙ ap (slice_get other) e ∙ renames n b.0 b.1) in
    let op = ap (λ (node : Node). node.op) same in
    let parts = lists_injective f bound m n (injective f one other table renames bound (omega arith)) (omega arith) (omega arith) a.0.parts b.0.parts (parts_before one m a.0 table a.1) (parts_before one n b.0 table b.1) (ap (λ (node : Node). node.parts) same) in
    let equal : a.0 ≡ b.0 = λ i. record { op = op i; parts = parts i } in
    table.distinct m n a.0 a.1 (b.1 ∙ ap Some (sym equal))

same_next : (f : ℕ → ℕ) (n : ℕ) → IsSame f n → f n ≡ n → IsSame f (suc n)
same_next f n below here k less = ⊎_elim (below k) (λ (e : k ≡ n). ap f e ∙ here ∙ sym e) (cases k n less)
  where
    cases : (a b : ℕ) → a < suc b → (a < b) ⊎ (a ≡ b)
    cases a b h = grind arith

-- two walks side by side
together : (f : ℕ → ℕ) (one other : List Node) → Renames f one other → IsInjective f (length one) → (met : ℕ) (ns : List ℕ) (after end : ℕ) → IsSame f met → Walk one met ns after → Walk other met (map f ns) end → (after ≡ end) × IsSame f after
together f one other renames injective met [] after end same ends ends = (refl, same)
together f one other renames injective met (n ∷ others) after end same (again less rest) (again less_too rest_too) = together f one other renames injective met others after end same rest rest_too
together f one other renames injective met (n ∷ others) after end same (again less rest) (first {node} at parts rest_too) =
    let up = walk_up other met node.parts (f n) parts in
    let here = same n less in
    absurd (omega arith)
together f one other renames injective met (n ∷ others) after end same (first {node} at parts rest) (again less rest_too) =
    let up = walk_up one met node.parts n parts in
    let within = slice_get_within one n node at in
    let twice = same (f n) less in
    let here = injective (f n) n (omega arith) within twice in
    absurd (omega arith)
together f one other renames injective met (n ∷ others) after end same (first {node} at parts rest) (first at_too parts_too rest_too) =
    let e = same_Some _ _ (sym at_too ∙ renames n node at) in
    let other_parts : Walk other met (map f node.parts) (f n) = subst (λ (x : Node). Walk other met x.parts (f n)) e parts_too in
    let before = together f one other renames injective met node.parts n (f n) same parts other_parts in
    let rest_there = subst (λ k. Walk other (suc k) (map f others) end) (sym before.0) rest_too in
    together f one other renames injective (suc n) others after end (same_next f n before.1 (sym before.0)) rest rest_there

same_list : (f : ℕ → ℕ) (bound : ℕ) → IsSame f bound → (ns : List ℕ) → are_below bound ns ≡ true → map f ns ≡ ns
same_list f bound same [] below = refl
same_list f bound same (n ∷ ns) below =
    let both = and_parts (nat_lt n bound) (are_below bound ns) below in
    let head = same n (ltb-true n bound both.0) in
    let tail = same_list f bound same ns both.1 in
    λ i. head i ∷ tail i

-- lists that have the same nodes at each number are the same
pub same_items : (xs ys : List Node) → length xs ≡ length ys → ((n : ℕ) (x : Node) → slice_get xs n ≡ Some x → slice_get ys n ≡ Some x) → ys ≡ xs
same_items [] [] long items = refl
same_items [] (y ∷ ys) long items = absurd (omega arith)
same_items (x ∷ xs) [] long items = absurd (omega arith)
same_items (x ∷ xs) (y ∷ ys) long items =
    let head : y ≡ x = same_Some _ _ (items 0 x refl) in
    let tail = same_items xs ys (omega arith) (λ n z at. items (suc n) z at) in
    λ i. head i ∷ tail i

are_numbers : (nodes : List Node) (ns : List ℕ) → list_all (is_formula nodes) ns ≡ true → are_below (length nodes) ns ≡ true
are_numbers nodes [] formulas = refl
are_numbers nodes (n ∷ ns) formulas =
    let both = and_parts (is_formula nodes n) (list_all (is_formula nodes) ns) formulas in
    let known = and_parts (nat_lt n (length nodes)) (same_sort (sort_at nodes n) sorts.Truth) both.0 in
    rw (known.0) (are_numbers nodes ns both.1)

same_node : (f : ℕ → ℕ) (bound : ℕ) → IsSame f bound → (node : Node) → are_below bound node.parts ≡ true → renamed f node ≡ node
same_node f bound same node below = let parts = same_list f bound same node.parts below in λ i. record { op = node.op; parts = parts i }

pub one_sequent : (one other : Sequent) (f : ℕ → ℕ) → IsSequent one → IsNumbered one → IsNumbered other → IsRenaming f one other → (other.nodes ≡ one.nodes) × (other.hypotheses ≡ one.hypotheses) × (other.goal ≡ one.goal)
one_sequent one other f is_one walk walk_too renaming =
    let len = length one.nodes in
    let roots = one.hypotheses ++ one.goal ∷ [] in
    let e : other.hypotheses ++ other.goal ∷ [] ≡ map f roots = (λ i. renaming.hypotheses i ++ renaming.goal i ∷ []) ∙ sym (map-append f one.hypotheses (one.goal ∷ [])) in
    let walk_there = subst (λ ns. Walk other.nodes 0 ns (length other.nodes)) e walk_too in
    let within : len ≤ len = omega arith in
    let none : IsSame f 0 = λ n less. absurd (omega arith) in
    let both = together f one.nodes other.nodes renaming.nodes (injective f one.nodes other.nodes is_one.table renaming.nodes len within) 0 roots len (length other.nodes) none walk walk_there in
    let known = sym (list_all-append (λ n. nat_lt n len) one.hypotheses (one.goal ∷ [])) ∙ are_numbers one.nodes roots is_one.formulas in
    let halves = and_parts (are_below len one.hypotheses) (are_below len (one.goal ∷ [])) known in
    let goal = (and_parts (nat_lt one.goal len) true halves.1).0 in
    (same_items one.nodes other.nodes both.0 (items both.1), renaming.hypotheses ∙ same_list f len both.1 one.hypotheses halves.0, renaming.goal ∙ both.1 one.goal (ltb-true one.goal len goal))
  where
    items : IsSame f (length one.nodes) → (n : ℕ) (x : Node) → slice_get one.nodes n ≡ Some x → slice_get other.nodes n ≡ Some x
    items same n x at =
        let less = slice_get_within one.nodes n x at in
        let below : IsSame f n = λ k less_k. same k (omega arith) in
        ap (slice_get other.nodes) (sym (same n less)) ∙ renaming.nodes n x at ∙ ap Some (same_node f n below x (parts_before one.nodes n x is_one.table at))
