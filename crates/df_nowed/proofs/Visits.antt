-- Visits of the nodes of a table: what is left of a walk, step by step.
use Rattle.df_nowed.proofs.Words.{◌≡◌, ℕ, zero, suc, ◌<◌, List, [], ◌∷◌, ◌++◌, take, length, reverse, slice_get, slice_index_or, Option, None, Some, refl, sym, ap, ◌∙◌, arith, append_assoc, append-nil, true, nat_lt, ltb-true, and_parts, list_all, parts_below, option_map_or, map-append, reverse-append, same_Some, slice_get_within, get_below, Node, IsTable, AreSorted, Term, terms_of, tree_at, trees_at, tree_of, Visit, parts_at, Leads, steps_of, steps_of_all, steps_left}
use Rattle.df_form.proofs.Worlds.{got}

-- ---- lists by places

pub take_more : {A : Type 0} (xs : List A) (k : ℕ) (x : A) → slice_get xs k ≡ Some x → take (suc k) xs ≡ take k xs ++ x ∷ []
take_more [] k x e = absurd cc
take_more (y ∷ ys) zero x e = ap (λ z. z ∷ []) (same_Some y x e)
take_more (y ∷ ys) (suc k) x e = ap (λ zs. y ∷ zs) (take_more ys k x e)

take_all : {A : Type 0} (xs : List A) (k : ℕ) → slice_get xs k ≡ None → take k xs ≡ xs
take_all [] zero e = refl
take_all [] (suc k) e = refl
take_all (y ∷ ys) zero e = absurd cc
take_all (y ∷ ys) (suc k) e = ap (λ zs. y ∷ zs) (take_all ys k e)

-- what was looked up
pub there_in : (xs ys : List ℕ) (k x : ℕ) → xs ≡ ys → k < length xs → x ≡ slice_index_or xs k x → slice_get ys k ≡ Some x
there_in xs ys k x same less e = ap (λ (ns : List ℕ). slice_get ns k) (sym same) ∙ got xs k x less e

pub next_first : (vs : List Visit) (v : Visit) → reverse (vs ++ v ∷ []) ≡ v ∷ reverse vs
next_first vs v = reverse-append vs (v ∷ [])

pub parts_there : (table : List Node) (n : ℕ) (one : Node) → slice_get table n ≡ Some one → parts_at table n ≡ one.parts
parts_there table n one at = ap (λ (o : Option Node). option_map_or (λ (x : Node). x.parts) o []) at

module _ (table : List Node) where
  -- a node is to be visited
  pub to_begin : (n : ℕ) → n < length table → (others : List Visit) (stack after : List Term) → Leads table others (stack ++ tree_at table n ∷ []) after → Leads table (record { node = n; parts = 0 } ∷ others) stack after
  to_begin n less others stack after h = (record { below = less; within = omega arith; front = stack; stack_is = sym (append-nil stack) }, h)

  -- with the next part
  pub to_next : (v : Visit) (m part : ℕ) (others : List Visit) (stack after : List Term) → m ≡ suc v.parts → slice_get (parts_at table v.node) v.parts ≡ Some part
      → Leads table (v ∷ others) stack after → Leads table (record { node = v.node; parts = m } ∷ others) (stack ++ tree_at table part ∷ []) after
  to_next v m part others stack after e at h =
      let parts = parts_at table v.node in
      let less = slice_get_within parts v.parts part at in
      let more : take m parts ≡ take v.parts parts ++ part ∷ [] = ap (λ (k : ℕ). take k parts) e ∙ take_more parts v.parts part at in (
        record {
          below = h.0.below;
          within = omega arith;
          front = h.0.front;
          stack_is =
              ap (λ (s : List Term). s ++ tree_at table part ∷ []) h.0.stack_is
              ∙ append_assoc h.0.front (trees_at table (take v.parts parts)) (tree_at table part ∷ [])
              ∙ ap (λ (s : List Term). h.0.front ++ s) (sym (map-append (tree_at table) (take v.parts parts) (part ∷ [])) ∙ ap (trees_at table) (sym more));
        },
        h.1,
      )

  -- all parts lie there
  pub all_there : (v : Visit) (others : List Visit) (stack after : List Term) (one : Node) → slice_get table v.node ≡ Some one → slice_get one.parts v.parts ≡ None
      → (h : Leads table (v ∷ others) stack after) → stack ≡ h.0.front ++ trees_at table one.parts
  all_there v others stack after one at none h =
      h.0.stack_is ∙ ap (λ (parts : List ℕ). h.0.front ++ trees_at table (take v.parts parts)) (parts_there table v.node one at)
      ∙ ap (λ (parts : List ℕ). h.0.front ++ trees_at table parts) (take_all one.parts v.parts none)

  -- ---- steps

  pub steps_begin : IsTable table → (n : ℕ) → n < length table → steps_left table (record { node = n; parts = 0 }) ≡ steps_of (tree_at table n)
  steps_begin is n less =
      let found = get_below table n less in
      let sorted : AreSorted table = record { sorted = is.sorted } in
      ap (λ (parts : List ℕ). suc (steps_of_all (terms_of (trees_at table parts)))) (parts_there table n found.0 found.1)
      ∙ sym (ap steps_of (tree_of table n found.0 sorted found.1))

-- ---- parts stand before their node

part_there : (bound : ℕ) (parts : List ℕ) (k part : ℕ) → list_all (λ n. nat_lt n bound) parts ≡ true → slice_get parts k ≡ Some part → part < bound
part_there bound [] k part all at = absurd cc
part_there bound (n ∷ others) zero part all at =
    let below = ltb-true n bound (and_parts (nat_lt n bound) (list_all (λ m. nat_lt m bound) others) all).0 in
    omega (arith, below, same_Some n part at)
part_there bound (n ∷ others) (suc k) part all at = part_there bound others k part (and_parts (nat_lt n bound) (list_all (λ m. nat_lt m bound) others) all).1 at

pub part_below : (table : List Node) → IsTable table → (n : ℕ) (one : Node) → slice_get table n ≡ Some one → (k part : ℕ) → slice_get one.parts k ≡ Some part → part < length table
part_below table is n one at k part there =
    let less = slice_get_within table n one at in
    let before = part_there n one.parts k part (parts_below table n one (record { sorted = is.sorted }) at) there in
    omega (arith, less, before)
