-- How many nodes stand inside one another, by the height.
use Rattle.std.proofs.Common.{◌≡◌, ℕ, zero, suc, ◌+◌, ◌*◌, ◌≤◌, max, nat_lt, Bool, true, false, ◌||◌, List, [], ◌∷◌, Some, slice_get, if◌then◌else◌, inl, inr, refl, subst, arith, ltb-true}
use Rattle.std.specs.List.{list_all}
use Rattle.std.proofs.lemmas.Bool.{and_parts, or_cases}
use Rattle.std.proofs.lemmas.Option.{same_Some}
use Rattle.df_tree.specs.declared.production.Counting.{Counting}
use Rattle.df_tree.specs.declared.production.Counting.TheVariants.{Never, Always, IfMore, Each}
use Rattle.df_tree.specs.declared.production.Form.{Form}
use Rattle.df_tree.specs.declared.production.Form.TheVariants.{All, One, Many}
use Rattle.df_tree.specs.declared.production.Part.{Part}
use Rattle.df_tree.specs.Tree.{Tree, Leaf, Node, Trees, none, more}
use Rattle.df_tree.specs.Row.{Row}
use Rattle.df_tree.specs.Grammar.{row, part_of, May, IsTree, Are, height_limit, one_more, has_more, counted, height_over, all_over, each_over, height}
use Rattle.df_tree.proofs.Fine.{rank_of, top_rank, is_word, bound, row_low, row_rank}
use Rattle.df_tree.proofs.Chosen.{all_among}

-- for each height one of each rank
abbrev pub deepest : ℕ
deepest = 10251

abbrev mutual
  -- how many nodes stand inside one another
  pub depth : Tree → ℕ
  depth (Leaf x) = 0
  depth (Node n ts) = depth_all ts + 1

  pub depth_all : Trees → ℕ
  depth_all none = 0
  depth_all (more t ts) = max (depth t) (depth_all ts)

pub one_more_is : (h : ℕ) → one_more h ≤ height_limit → one_more h ≡ h + 1
one_more_is h le = pick (nat_lt h height_limit) le
  where
    pick : (b : Bool) → (if b then h + 1 else height_limit + 1) ≤ height_limit → (if b then h + 1 else height_limit + 1) ≡ h + 1
    pick true le = refl
    pick false le = absurd (omega (arith, le))

counted_raises : (c : Counting) (before inside each : ℕ) (filled : Bool) → (each ≤ height_limit → before ≤ each) → counted c before inside each filled ≤ height_limit → before ≤ counted c before inside each filled
counted_raises Never before inside each filled h le = omega arith
counted_raises Always before inside each filled h le = omega arith
counted_raises IfMore before inside each filled h le = omega arith
counted_raises Each before inside each filled h le = h le

mutual
  pub raises : (before : ℕ) (t : Tree) → height_over before t ≤ height_limit → before ≤ height_over before t
  raises before (Leaf x) le = omega arith
  raises before (Node n ts) le = counted_raises (row n).counting before (all_over 0 ts) (each_over before ts) (has_more ts) (λ l. raises_each before ts l) le

  pub raises_all : (before : ℕ) (ts : Trees) → all_over before ts ≤ height_limit → before ≤ all_over before ts
  raises_all before none le = omega arith
  raises_all before (more t ts) le =
      let later : height_over before t ≤ all_over (height_over before t) ts = raises_all (height_over before t) ts le in
      omega (arith, later, raises before t (omega (arith, later, le)))

  pub raises_each : (before : ℕ) (ts : Trees) → each_over before ts ≤ height_limit → before ≤ each_over before ts
  raises_each before none le = omega arith
  raises_each before (more t ts) le =
      let here : ℕ = max before (height_over 0 t) in
      let later : one_more here ≤ each_over (one_more here) ts = raises_each (one_more here) ts le in
      omega (arith, later, one_more_is here (omega (arith, later, le)))

-- The trees are of a lower rank, or tokens.
abbrev EachLow : ℕ → Trees → Type 0
EachLow b none = Unit {0}
EachLow b (more t ts) = ((nat_lt (rank_of (part_of t)) b || is_word (part_of t)) ≡ true) × EachLow b ts

all_get : (test : Part → Bool) (parts : List Part) (k : ℕ) (p : Part) → list_all test parts ≡ true → slice_get parts k ≡ Some p → test p ≡ true
all_get test [] k p all e = absurd cc
all_get test (q ∷ qs) zero p all e = subst (λ s. test s ≡ true) (same_Some q p e) (and_parts (test q) (list_all test qs) all).0
all_get test (q ∷ qs) (suc k) p all e = all_get test qs k p (and_parts (test q) (list_all test qs) all).1 e

pub may_pass : (test : Part → Bool) (form : Form) (parts : List Part) (k : ℕ) (p : Part) → list_all test parts ≡ true → May form parts k p → test p ≡ true
may_pass test All parts k p all may = all_get test parts k p all may
may_pass test One parts k p all may = all_among test parts p all may.1
may_pass test Many parts k p all may = all_among test parts p all may

each_low : (b : ℕ) (r : Row) (k : ℕ) (ts : Trees) → list_all (λ p. nat_lt (rank_of p) b || is_word p) r.parts ≡ true → Are r k ts → EachLow b ts
each_low b r k none all right = tt
each_low b r k (more t ts) all right = (may_pass (λ p. nat_lt (rank_of p) b || is_word p) r.form r.parts k (part_of t) all right.0, each_low b r (suc k) ts all right.2)

child_deep : (b h : ℕ) (t : Tree) → (nat_lt (rank_of (part_of t)) b || is_word (part_of t)) ≡ true → depth t ≤ (top_rank + 1) * h + rank_of (part_of t) + 1 → depth t ≤ (top_rank + 1) * h + b
child_deep b h (Leaf x) low le = omega arith
child_deep b h (Node n ts) low le = elim (or_cases (nat_lt (row n).rank b) false low) [
  | inl e ↦ omega (arith, ltb-true (row n).rank b e, le)
  | inr e ↦ absurd (let f : false ≡ true = e in cc)
]

counted_deep : (c : Counting) (rank before inside each : ℕ) (filled : Bool) (deep_inside deep_each : ℕ) → rank ≤ top_rank
    → (inside ≤ height_limit → deep_inside ≤ (top_rank + 1) * inside + bound c rank) → (c ≡ Each → each ≤ height_limit → deep_inside ≤ (top_rank + 1) * each)
    → counted c before inside each filled ≤ height_limit → deep_inside + 1 ≤ (top_rank + 1) * counted c before inside each filled + rank + 1
counted_deep Never rank before inside each filled d e low in_all in_each le = omega (arith, in_all (omega (arith, le)))
counted_deep Always rank before inside each filled d e low in_all in_each le =
    let m : one_more inside ≡ inside + 1 = one_more_is inside (omega (arith, le)) in
    omega (arith, m, in_all (omega (arith, le, m)))
counted_deep IfMore rank before inside each true d e low in_all in_each le =
    let m : one_more inside ≡ inside + 1 = one_more_is inside (omega (arith, le)) in
    omega (arith, m, in_all (omega (arith, le, m)))
counted_deep IfMore rank before inside each false d e low in_all in_each le = omega (arith, in_all (omega (arith, le)))
counted_deep Each rank before inside each filled d e low in_all in_each le = omega (arith, in_each refl le)

mutual
  deep : (before : ℕ) (t : Tree) → IsTree t → height_over before t ≤ height_limit → depth t ≤ (top_rank + 1) * height_over before t + rank_of (part_of t) + 1
  deep before (Leaf x) right le = omega arith
  deep before (Node n ts) right le =
      let low : EachLow (bound (row n).counting (row n).rank) ts = each_low (bound (row n).counting (row n).rank) (row n) 0 ts (row_low n) right in
      counted_deep (row n).counting (row n).rank before (all_over 0 ts) (each_over before ts) (has_more ts) (depth_all ts) 0 (row_rank n)
      (λ l. deep_all (bound (row n).counting (row n).rank) 0 (row n) 0 ts right low l)
      (λ each l. deep_each before (row n) 0 ts right (subst (λ c. EachLow (bound c (row n).rank) ts) each low) l) le

  deep_all : (b before : ℕ) (r : Row) (k : ℕ) (ts : Trees) → Are r k ts → EachLow b ts → all_over before ts ≤ height_limit → depth_all ts ≤ (top_rank + 1) * all_over before ts + b
  deep_all b before r k none right low le = omega arith
  deep_all b before r k (more t ts) right low le =
      let later : height_over before t ≤ all_over (height_over before t) ts = raises_all (height_over before t) ts le in
      let first : depth t ≤ (top_rank + 1) * height_over before t + b = child_deep b (height_over before t) t low.0 (deep before t right.1 (omega (arith, later, le))) in
      let others : depth_all ts ≤ (top_rank + 1) * all_over (height_over before t) ts + b = deep_all b (height_over before t) r (suc k) ts right.2 low.1 le in
      omega (arith, later, first, others)

  deep_each : (before : ℕ) (r : Row) (k : ℕ) (ts : Trees) → Are r k ts → EachLow (top_rank + 1) ts → each_over before ts ≤ height_limit → depth_all ts ≤ (top_rank + 1) * each_over before ts
  deep_each before r k none right low le = omega arith
  deep_each before r k (more t ts) right low le =
      let here : ℕ = max before (height_over 0 t) in
      let later : one_more here ≤ each_over (one_more here) ts = raises_each (one_more here) ts le in
      let m : one_more here ≡ here + 1 = one_more_is here (omega (arith, later, le)) in
      let first : depth t ≤ (top_rank + 1) * height_over 0 t + (top_rank + 1) = child_deep (top_rank + 1) (height_over 0 t) t low.0 (deep 0 t right.1 (omega (arith, later, le, m))) in
      let others : depth_all ts ≤ (top_rank + 1) * each_over (one_more here) ts = deep_each (one_more here) r (suc k) ts right.2 low.1 le in
      omega (arith, later, m, first, others)

pub low_is_shallow : (t : Tree) → IsTree t → height t ≤ height_limit → depth t ≤ deepest
low_is_shallow t right le = omega (arith, deep 0 t right le, tree_rank t)
  where
    tree_rank : (t : Tree) → rank_of (part_of t) ≤ top_rank
    tree_rank (Leaf x) = omega arith
    tree_rank (Node n ts) = row_rank n
