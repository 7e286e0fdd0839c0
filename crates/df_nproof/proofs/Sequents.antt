-- An obligation has one sequent: its nodes are numbered as they are met.
use Rattle.std.proofs.Common.{◌≡◌, ◌⊎◌, ⊎_elim, ℕ, suc, ◌<◌, ◌≤◌, true, nat_lt, List, [], ◌∷◌, ◌++◌, map, length, slice_get, Some, refl, sym, ap, subst, ◌∙◌, arith}
use Rattle.std.specs.List.{list_all}
use Rattle.std.proofs.lemmas.Bool.{and_parts, ltb-true}
use Rattle.std.proofs.lemmas.List.{map-append}
use Rattle.std.proofs.lemmas.Option.{slice_get_within}
use Rattle.df_lemmas.proofs.Lists.{get_below, head_same, tail_same}
use Rattle.df_lang.specs.Program.{Program}
use Rattle.df_form.specs.Node.{Node}
use Rattle.df_form.specs.Sorting.{IsTable, is_formula, sort_at}
use Rattle.df_form.specs.Sequent.{Sequent, IsSequent, IsNumbered, Walk, ends, again, first}
use Rattle.df_form.proofs.Renamings.{same_items}
use Rattle.df_form.proofs.Values.{AreSorted, parts_below, parts_taken}
use Rattle.df_form.proofs.Walks.{walk_up}
use Rattle.df_nenc.specs.Laws.{OneNodeForATree}
use Rattle.df_nenc.specs.Tree.{op_of, tree_at, trees_at}
use Rattle.df_nenc.proofs.Different.{same_op, same_parts}
use Rattle.df_nenc.proofs.Trees.{tree_of}
use Rattle.df_npass.specs.Methods.{Obligation}
use Rattle.df_nverdict.specs.Sequents.{IsSequentOf}

module _ (apart : OneNodeForATree) (one other : List Node) (one_table : IsTable one) (other_table : IsTable other) where
  one_sorted : AreSorted one
  one_sorted = record { sorted = one_table.sorted }

  other_sorted : AreSorted other
  other_sorted = record { sorted = other_table.sorted }

  -- the numbers below this one stand for the same trees in both
  abbrev AreSame : ℕ → Type 0
  AreSame met = (n : ℕ) → n < met → tree_at one n ≡ tree_at other n

  same_next : (n m : ℕ) → AreSame n → n ≡ m → tree_at one n ≡ tree_at other m → AreSame (suc n)
  same_next n m below equal here k less = ⊎_elim (below k) (λ (e : k ≡ n). ap (tree_at one) e ∙ here ∙ ap (tree_at other) (sym (e ∙ equal))) (cases k n less)
    where
      cases : (a b : ℕ) → a < suc b → (a < b) ⊎ (a ≡ b)
      cases a b h = grind arith

  -- two nodes with one tree have one operation, and parts with the same trees
  same_heads : (n m : ℕ) (a b : Node) → slice_get one n ≡ Some a → slice_get other m ≡ Some b → tree_at one n ≡ tree_at other m → (a.op ≡ b.op) × (map (tree_at one) a.parts ≡ map (tree_at other) b.parts)
  same_heads n m a b here there e =
      let trees = sym (tree_of one n a one_sorted here) ∙ e ∙ tree_of other m b other_sorted there in
      (same_op a.op b.op (map (sort_at one) a.parts) (map (sort_at other) b.parts) _ _ (parts_taken one n a one_sorted here) (parts_taken other m b other_sorted there) trees, same_parts (op_of a.op) (op_of b.op) (map (tree_at one) a.parts) (map (tree_at other) b.parts) trees)

  -- two walks side by side, over numbers that stand for the same trees
  together : (met : ℕ) (ns ms : List ℕ) (after end : ℕ) → AreSame met → map (tree_at one) ns ≡ map (tree_at other) ms → Walk one met ns after → Walk other met ms end → (after ≡ end) × AreSame after
  together met [] [] after end same e ends ends = (refl, same)
  together met [] (m ∷ ms) after end same e walk walk_too = absurd cc
  together met (n ∷ ns) [] after end same e walk walk_too = absurd cc
  together met (n ∷ ns) (m ∷ ms) after end same e (again less rest) (again less_too rest_too) =
      together met ns ms after end same (tail_same (tree_at one n) (tree_at other m) (map (tree_at one) ns) (map (tree_at other) ms) e) rest rest_too
  together met (n ∷ ns) (m ∷ ms) after end same e (again less rest) (first {node = b} there parts rest_too) =
      let up = walk_up other met b.parts m parts in
      let within = slice_get_within other m b there in
      let trees : tree_at other n ≡ tree_at other m = sym (same n less) ∙ head_same (tree_at one n) (tree_at other m) (map (tree_at one) ns) (map (tree_at other) ms) e in
      let met_before : n ≡ m = apart other n m other_table (omega (arith, less, up, within)) within trees in
      absurd (omega arith)
  together met (n ∷ ns) (m ∷ ms) after end same e (first {node = a} here parts rest) (again less rest_too) =
      let up = walk_up one met a.parts n parts in
      let within = slice_get_within one n a here in
      let trees : tree_at one n ≡ tree_at one m = head_same (tree_at one n) (tree_at other m) (map (tree_at one) ns) (map (tree_at other) ms) e ∙ sym (same m less) in
      let met_before : n ≡ m = apart one n m one_table within (omega (arith, less, up, within)) trees in
      absurd (omega arith)
  together met (n ∷ ns) (m ∷ ms) after end same e (first {node = a} here parts rest) (first {node = b} there parts_too rest_too) =
      let trees = head_same (tree_at one n) (tree_at other m) (map (tree_at one) ns) (map (tree_at other) ms) e in
      let heads = same_heads n m a b here there trees in
      let before = together met a.parts b.parts n m same heads.1 parts parts_too in
      let rest_there = subst (λ k. Walk other (suc k) ms end) (sym before.0) rest_too in
      together (suc n) ns ms after end (same_next n m before.1 before.0 trees) (tail_same (tree_at one n) (tree_at other m) (map (tree_at one) ns) (map (tree_at other) ms) e) rest rest_there

  module _ (long : length one ≡ length other) (same : AreSame (length one)) where
    -- numbers that stand for the same trees are the same
    same_number : (n m : ℕ) → n < length one → m < length other → tree_at one n ≡ tree_at other m → n ≡ m
    same_number n m less less_too e = apart other n m other_table (omega (arith, long, less)) less_too (sym (same n less) ∙ e)

    same_numbers : (bound : ℕ) → bound ≤ length one → (ns ms : List ℕ) → list_all (λ n. nat_lt n bound) ns ≡ true → list_all (λ m. nat_lt m bound) ms ≡ true → map (tree_at one) ns ≡ map (tree_at other) ms → ns ≡ ms
    same_numbers bound le [] [] all all_too e = refl
    same_numbers bound le [] (m ∷ ms) all all_too e = absurd cc
    same_numbers bound le (n ∷ ns) [] all all_too e = absurd cc
    same_numbers bound le (n ∷ ns) (m ∷ ms) all all_too e =
        let a = and_parts (nat_lt n bound) (list_all (λ n. nat_lt n bound) ns) all in
        let b = and_parts (nat_lt m bound) (list_all (λ m. nat_lt m bound) ms) all_too in
        let below : n < bound = ltb-true n bound a.0 in
        let below_too : m < bound = ltb-true m bound b.0 in
        let head = same_number n m (omega (arith, below, le)) (omega (arith, below_too, le, long)) (head_same (tree_at one n) (tree_at other m) (map (tree_at one) ns) (map (tree_at other) ms) e) in
        let tail = same_numbers bound le ns ms a.1 b.1 (tail_same (tree_at one n) (tree_at other m) (map (tree_at one) ns) (map (tree_at other) ms) e) in
        λ i. head i ∷ tail i

    same_node : (n : ℕ) (a : Node) → slice_get one n ≡ Some a → slice_get other n ≡ Some a
    same_node n a here =
        let less = slice_get_within one n a here in
        let there = get_below other n (omega (arith, long, less)) in
        let heads = same_heads n n a there.0 here there.1 (same n less) in
        let parts = same_numbers n (omega (arith, less)) a.parts there.0.parts (parts_below one n a one_sorted here) (parts_below other n there.0 other_sorted there.1) heads.1 in
        let node : there.0 ≡ a = λ i. record { op = sym heads.0 i; parts = sym parts i } in
        there.1 ∙ ap Some node

    same_nodes : other ≡ one
    same_nodes = same_items one other long same_node

-- the numbers of the formulas of a sequent lie among its nodes
formulas_below : (s : Sequent) → IsSequent s → (list_all (λ n. nat_lt n (length s.nodes)) s.hypotheses ≡ true) × (s.goal < length s.nodes)
formulas_below s is = halves s.hypotheses is.formulas
  where
    halves : (hs : List ℕ) → list_all (is_formula s.nodes) (hs ++ s.goal ∷ []) ≡ true → (list_all (λ n. nat_lt n (length s.nodes)) hs ≡ true) × (s.goal < length s.nodes)
    halves [] e =
        let here = and_parts (is_formula s.nodes s.goal) true e in
        let known = and_parts (nat_lt s.goal (length s.nodes)) _ here.0 in
        (refl, ltb-true s.goal (length s.nodes) known.0)
    halves (h ∷ hs) e =
        let both = and_parts (is_formula s.nodes h) (list_all (is_formula s.nodes) (hs ++ s.goal ∷ [])) e in
        let known = and_parts (nat_lt h (length s.nodes)) _ both.0 in
        let rest = halves hs both.1 in
        (rw (known.0) (rest.0), rest.1)

module _ (apart : OneNodeForATree) (one other : Sequent) (is_one : IsSequent one) (is_other : IsSequent other) (walk : IsNumbered one) (walk_too : IsNumbered other)
    (world : other.world ≡ one.world) (hypotheses : trees_at one.nodes one.hypotheses ≡ trees_at other.nodes other.hypotheses) (goal : tree_at one.nodes one.goal ≡ tree_at other.nodes other.goal) where
  roots : map (tree_at one.nodes) (one.hypotheses ++ one.goal ∷ []) ≡ map (tree_at other.nodes) (other.hypotheses ++ other.goal ∷ [])
  roots = map-append (tree_at one.nodes) one.hypotheses (one.goal ∷ []) ∙ (λ i. hypotheses i ++ goal i ∷ []) ∙ sym (map-append (tree_at other.nodes) other.hypotheses (other.goal ∷ []))

  both : (length one.nodes ≡ length other.nodes) × ((n : ℕ) → n < length one.nodes → tree_at one.nodes n ≡ tree_at other.nodes n)
  both = together apart one.nodes other.nodes is_one.table is_other.table 0 (one.hypotheses ++ one.goal ∷ []) (other.hypotheses ++ other.goal ∷ []) (length one.nodes) (length other.nodes) (λ n less. absurd (omega arith)) roots walk walk_too

  one_sequent : other ≡ one
  one_sequent =
      let long = both.0 in
      let same = both.1 in
      let below = formulas_below one is_one in
      let below_too = formulas_below other is_other in
      let nodes = same_nodes apart one.nodes other.nodes is_one.table is_other.table long same in
      let hs = same_numbers apart one.nodes other.nodes is_one.table is_other.table long same (length one.nodes) (omega arith) one.hypotheses other.hypotheses below.0
      (subst (λ (k : ℕ). list_all (λ n. nat_lt n k) other.hypotheses ≡ true) (sym long) below_too.0) hypotheses in
      let g = same_number apart one.nodes other.nodes is_one.table is_other.table long same one.goal other.goal below.1 below_too.1 goal in
      λ i. record { world = world i; nodes = nodes i; hypotheses = sym hs i; goal = sym g i }

-- the sequents of an obligation
pub one_sequent_of : OneNodeForATree → (program : Program) (o : Obligation) (one other : Sequent) → IsSequentOf program o one → IsSequentOf program o other → IsNumbered one → IsNumbered other → other ≡ one
one_sequent_of apart program o one other is_one is_other walk walk_too =
    let owed = is_one.owed ∙ sym is_other.owed in
    one_sequent apart one other is_one.sequent is_other.sequent walk walk_too (is_other.world ∙ sym is_one.world)
    (ap (λ (x : Obligation). x.hypotheses) owed) (ap (λ (x : Obligation). x.goal) owed)
