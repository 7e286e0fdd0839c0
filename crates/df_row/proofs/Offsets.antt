-- A node stands for its base and its constant: the expansion of a sum of rows is the sum of the expansions.
use Rattle.std.proofs.Common.{◌≡◌, ⊎_elim, ℕ, zero, suc, ◌<◌, ◌≤◌, ℤ, pos, negsuc, ◌+ℤ◌, ◌*ℤ◌, Bool, true, false, cond, nat_eq, nat_lt, List, [], ◌∷◌, length, slice_get, Option, Some, None, refl, sym, ap, ◌∙◌, arith}
use Rattle.std.proofs.lemmas.Int.{ints}
use Rattle.std.proofs.lemmas.Bool.{cases_lt, eqb-true}
use Rattle.std.proofs.Math.IntN.{*ℤ-zero, +ℤ_idr}
use Rattle.std.specs.List.{list_all}
use Rattle.df_lemmas.proofs.Integers.{sum_times, times_over_sum}
use Rattle.df_lemmas.proofs.Numbers.{equal_self, more_unequal}
use Rattle.df_form.specs.declared.node.Op.{Op}
use Rattle.df_form.specs.declared.node.Op.TheVariants as ops
use Rattle.df_form.specs.declared.offset.Offset.{Offset}
use Rattle.df_form.specs.Node.{Node}
use Rattle.df_form.specs.Offset.{fits, itself, on_base, of_sum, of_parts, offset_of}
use Rattle.df_form.specs.Sorting.{IsTable}
use Rattle.df_form.proofs.Offsets.{offset_is, offset_past, past_end, base_within, two_below}
use Rattle.df_form.proofs.Values.{AreSorted, parts_below}
use Rattle.df_row.specs.declared.expansion.Term.{Term}
use Rattle.df_row.specs.declared.expansion.Term.TheVariants as terms
use Rattle.df_row.specs.Row.{Row, constant_row, with_more, with_constant, without, expanded_at, expanded_below, expanded_difference}
use Rattle.df_row.specs.RowView.{IsLastBelow, term_of, with_term, with_base, with_offset}
use Rattle.df_row.proofs.Rows.{at_term, as_term, skip, goes_down, is_down, constant_zero}

-- the sum of two rows, number by number
abbrev pub plus : Row → Row → Row
plus r s = record { coefficient = λ n. r.coefficient n +ℤ s.coefficient n; constant = r.constant +ℤ s.constant }

abbrev nothing : Row
nothing = constant_row (pos 0)

-- a step on a sum
more_one : (b : Bool) (x y r s c d : ℤ) → cond b ((x +ℤ y) +ℤ (c +ℤ d)) (r +ℤ s) ≡ cond b (x +ℤ c) r +ℤ cond b (y +ℤ d) s
more_one true x y r s c d = omega (arith, ints)
more_one false x y r s c d = refl

more_plus : (n : ℕ) (c d : ℤ) (r s : Row) → with_more n (c +ℤ d) (plus r s) ≡ plus (with_more n c r) (with_more n d s)
more_plus n c d r s = λ i. record { coefficient = λ m. more_one (nat_eq m n) (r.coefficient n) (s.coefficient n) (r.coefficient m) (s.coefficient m) c d i; constant = r.constant +ℤ s.constant }

swap_sums : (x y c d : ℤ) → (x +ℤ y) +ℤ (c +ℤ d) ≡ (x +ℤ c) +ℤ (y +ℤ d)
swap_sums x y c d = omega (arith, ints)

constant_plus : (c d : ℤ) (r s : Row) → with_constant (c +ℤ d) (plus r s) ≡ plus (with_constant c r) (with_constant d s)
constant_plus c d r s = λ i. record { coefficient = λ m. r.coefficient m +ℤ s.coefficient m; constant = swap_sums r.constant s.constant c d i }

without_one : (b : Bool) (r s : ℤ) → cond b (pos 0) (r +ℤ s) ≡ cond b (pos 0) r +ℤ cond b (pos 0) s
without_one true r s = refl
without_one false r s = refl

without_plus : (n : ℕ) (r s : Row) → without n (plus r s) ≡ plus (without n r) (without n s)
without_plus n r s = λ i. record { coefficient = λ m. without_one (nat_eq m n) (r.coefficient m) (s.coefficient m) i; constant = r.constant +ℤ s.constant }

term_plus : (term : Term) (c d : ℤ) (r s p q : Row) → with_term term (c +ℤ d) (plus r s) (plus p q) ≡ plus (with_term term c r p) (with_term term d s q)
term_plus (terms.Literal k) c d r s p q = ap (λ z. with_constant z (plus p q)) (times_over_sum c d k) ∙ constant_plus (c *ℤ k) (d *ℤ k) p q
term_plus (terms.Sum a b) c d r s p q = ap (with_more b (c +ℤ d)) (more_plus a c d p q) ∙ more_plus b c d (with_more a c p) (with_more a d q)
term_plus (terms.Multiple k b) c d r s p q = ap (λ z. with_more b z (plus p q)) (times_over_sum c d k) ∙ more_plus b (c *ℤ k) (d *ℤ k) p q
term_plus terms.Atom c d r s p q = refl

at_plus : (nodes : List Node) (n : ℕ) (node : Option Node) (r s : Row) → expanded_at nodes n node (plus r s) ≡ plus (expanded_at nodes n node r) (expanded_at nodes n node s)
at_plus nodes n node r s =
    let term = term_of nodes node in
    at_term nodes n node (plus r s)
    ∙ ap (with_term term (r.coefficient n +ℤ s.coefficient n) (plus r s)) (without_plus n r s)
    ∙ term_plus term (r.coefficient n) (s.coefficient n) r s (without n r) (without n s)
    ∙ (λ i. plus (sym (at_term nodes n node r) i) (sym (at_term nodes n node s) i))

-- the expansion of a sum
pub below_plus : (nodes : List Node) (n : ℕ) (r s : Row) → expanded_below nodes n (plus r s) ≡ plus (expanded_below nodes n r) (expanded_below nodes n s)
below_plus nodes zero r s = refl
below_plus nodes (suc n) r s =
    let found = slice_get nodes n in
    ap (expanded_below nodes n) (at_plus nodes n found r s) ∙ below_plus nodes n (expanded_at nodes n found r) (expanded_at nodes n found s)

-- more of a node, or of its base, is a sum
none_more : (z c : ℤ) → z +ℤ c ≡ z +ℤ (pos 0 +ℤ c)
none_more z c = omega (arith, ints)

added_at : (f : ℕ → ℤ) (n : ℕ) (c : ℤ) (m : ℕ) → cond (nat_eq m n) (f n +ℤ c) (f m) ≡ f m +ℤ cond (nat_eq m n) (pos 0 +ℤ c) (pos 0)
added_at f n c m = by (nat_eq m n) refl
  where
    by : (v : Bool) → nat_eq m n ≡ v → cond v (f n +ℤ c) (f m) ≡ f m +ℤ cond v (pos 0 +ℤ c) (pos 0)
    by true e = ap (λ k. f k +ℤ c) (sym (eqb-true m n e)) ∙ none_more (f m) c
    by false e = sym (+ℤ_idr (f m))

more_is : (n : ℕ) (c : ℤ) (row : Row) → with_more n c row ≡ plus row (with_more n c nothing)
more_is n c row = λ i. record { coefficient = λ m. added_at row.coefficient n c m i; constant = sym (+ℤ_idr row.constant) i }

base_is : (base : Option ℕ) (c k : ℤ) (row : Row) → with_constant k (with_base base c row) ≡ plus row (with_constant k (with_base base c nothing))
base_is None c k row = λ i. record { coefficient = λ m. sym (+ℤ_idr (row.coefficient m)) i; constant = none_more row.constant k i }
base_is (Some n) c k row = λ i. record { coefficient = λ m. added_at row.coefficient n c m i; constant = none_more row.constant k i }

offset_is_sum : (offset : Offset) (c : ℤ) (row : Row) → with_offset offset c row ≡ plus row (with_offset offset c nothing)
offset_is_sum offset c row = base_is offset.base c (c *ℤ offset.constant) row

itself_row : (n : ℕ) (c : ℤ) (row : Row) → with_offset (itself n) c row ≡ with_more n c row
itself_row n c row = ap (λ z. with_constant z (with_more n c row)) (*ℤ-zero c) ∙ constant_zero (with_more n c row)

-- constants one after the other
regroup : (z p q : ℤ) → z +ℤ (p +ℤ q) ≡ (z +ℤ p) +ℤ q
regroup z p q = omega (arith, ints)

twice : (z c j k : ℤ) → z +ℤ (c *ℤ (j +ℤ k)) ≡ (z +ℤ (c *ℤ j)) +ℤ (c *ℤ k)
twice z c j k = ap (λ x. z +ℤ x) (sum_times c j k) ∙ regroup z (c *ℤ j) (c *ℤ k)

left_base : (base : Option ℕ) (c j k : ℤ) → with_constant (c *ℤ (j +ℤ k)) (with_base base c nothing) ≡ with_constant (c *ℤ k) (with_constant (c *ℤ j) (with_base base c nothing))
left_base base c j k = let row = with_base base c nothing in λ i. record { coefficient = row.coefficient; constant = twice row.constant c j k i }

right_base : (n : ℕ) (c j k : ℤ) → with_constant (c *ℤ (j +ℤ k)) (with_more n c nothing) ≡ with_constant (c *ℤ k) (with_more n c (with_constant (c *ℤ j) nothing))
right_base n c j k = let row = with_more n c nothing in λ i. record { coefficient = row.coefficient; constant = twice (pos 0) c j k i }

-- a row of one node
one_here : (n : ℕ) (c : ℤ) → c ≡ cond (nat_eq n n) (pos 0 +ℤ c) (pos 0)
one_here n c = let e : c ≡ pos 0 +ℤ c = omega (arith, ints) in e ∙ sym (ap (λ t. cond t (pos 0 +ℤ c) (pos 0)) (equal_self n))

without_it : (b : Bool) (c : ℤ) → pos 0 ≡ cond b (pos 0) (cond b (pos 0 +ℤ c) (pos 0))
without_it true c = refl
without_it false c = refl

without_one_node : (n : ℕ) (c : ℤ) → nothing ≡ without n (with_more n c nothing)
without_one_node n c = λ i. record { coefficient = λ m. without_it (nat_eq m n) c i; constant = pos 0 }

last_one : (m n : ℕ) (c : ℤ) → n < m → IsLastBelow m (with_more n c nothing) (Some n)
last_one m n c less = (less, λ k low high. ap (λ t. cond t (pos 0 +ℤ c) (pos 0)) (more_unequal k n low))

base_zero : (base : Option ℕ) (c : ℤ) (n : ℕ) → ((x : ℕ) → base ≡ Some x → x < n) → (k : ℕ) → n ≤ k → (with_base base c nothing).coefficient k ≡ pos 0
base_zero None c n below k low = refl
base_zero (Some x) c n below k low = let less = below x refl in ap (λ t. cond t (pos 0 +ℤ c) (pos 0)) (more_unequal k x (omega arith))

module _ (nodes : List Node) (table : IsTable nodes) where
  abbrev below : ℕ → Row → Row
  below m row = expanded_below nodes m row

  sorted : AreSorted nodes
  sorted = record { sorted = table.sorted }

  -- so many times the node, and its base and constant, expand to the same
  abbrev Stands : ℕ → ℕ → ℤ → Type 0
  Stands m n c = below m (with_offset (offset_of nodes n) c nothing) ≡ below m (with_more n c nothing)

  constant_below : (m : ℕ) (k : ℤ) → below m (constant_row k) ≡ constant_row k
  constant_below m k = is_down nodes m (constant_row k) (λ n less. refl)

  itself_stands : (m n : ℕ) (c : ℤ) → offset_of nodes n ≡ itself n → Stands m n c
  itself_stands m n c is = ap (λ o. below m (with_offset o c nothing)) is ∙ ap (below m) (itself_row n c nothing)

  opened : (m n : ℕ) (c : ℤ) (found : Option Node) → n < m → slice_get nodes n ≡ found → below m (with_more n c nothing) ≡ below n (with_term (term_of nodes found) c (with_more n c nothing) nothing)
  opened m n c found less at =
      let row = with_more n c nothing in
      goes_down nodes m n row (last_one m n c less)
      ∙ ap (λ o. below n (expanded_at nodes n o row)) at
      ∙ ap (below n) (as_term nodes n found row nothing (term_of nodes found) c refl (one_here n c) (without_one_node n c))

  -- a sum expands to what its sides stand for
  sides : (m n a b : ℕ) (c : ℤ) → n < m → slice_get nodes n ≡ Some (record { op = ops.Plus; parts = a ∷ b ∷ [] }) → Stands n a c → Stands n b c → below m (with_more n c nothing) ≡ below n (with_offset (offset_of nodes b) c (with_offset (offset_of nodes a) c nothing))
  sides m n a b c less at left right =
      let one = with_more a c nothing in
      let other = with_more b c nothing in
      let first = with_offset (offset_of nodes a) c nothing in
      let second = with_offset (offset_of nodes b) c nothing in
      opened m n c (Some (record { op = ops.Plus; parts = a ∷ b ∷ [] })) less at
      ∙ ap (below n) (more_is b c one)
      ∙ below_plus nodes n one other
      ∙ (λ i. plus (sym left i) (sym right i))
      ∙ sym (below_plus nodes n first second)
      ∙ ap (below n) (sym (offset_is_sum (offset_of nodes b) c first))

  sum_stands : (m n a b : ℕ) (c : ℤ) → n < m → a < n → b < n → slice_get nodes n ≡ Some (record { op = ops.Plus; parts = a ∷ b ∷ [] }) → Stands n a c → Stands n b c → offset_of nodes n ≡ of_sum n (offset_of nodes a) (offset_of nodes b) → Stands m n c
  sum_stands m n a b c less low_a low_b at left right is = by (fits (j +ℤ k)) (offset_of nodes a).base (offset_of nodes b).base refl refl is
    where
      j : ℤ
      j = (offset_of nodes a).constant

      k : ℤ
      k = (offset_of nodes b).constant

      on : (base : Option ℕ) → ((x : ℕ) → base ≡ Some x → x < n) → offset_of nodes n ≡ record { base = base; constant = j +ℤ k } → with_constant (c *ℤ (j +ℤ k)) (with_base base c nothing) ≡ with_offset (offset_of nodes b) c (with_offset (offset_of nodes a) c nothing) → Stands m n c
      on base early is same =
          let row = with_constant (c *ℤ (j +ℤ k)) (with_base base c nothing) in
          ap (λ o. below m (with_offset o c nothing)) is
          ∙ skip nodes row n m (omega (arith, less)) (λ x low high. base_zero base c n early x low)
          ∙ ap (below n) same
          ∙ sym (sides m n a b c less at left right)

      by : (fit : Bool) (one other : Option ℕ) → (offset_of nodes a).base ≡ one → (offset_of nodes b).base ≡ other → offset_of nodes n ≡ cond fit (on_base n one other (j +ℤ k)) (itself n) → Stands m n c
      by false one other l r is = itself_stands m n c is
      by true one None l r is = on one (λ x e. let le = base_within nodes sorted a x (l ∙ e) in omega (arith, le, low_a)) is (left_base one c j k ∙ (λ i. with_constant (c *ℤ k) (with_base (sym r i) c (with_constant (c *ℤ j) (with_base (sym l i) c nothing)))))
      by true None (Some y) l r is = on (Some y) (λ x e. let le = base_within nodes sorted b x (r ∙ e) in omega (arith, le, low_b)) is (right_base y c j k ∙ (λ i. with_constant (c *ℤ k) (with_base (sym r i) c (with_constant (c *ℤ j) (with_base (sym l i) c nothing)))))
      by true (Some x) (Some y) l r is = itself_stands m n c is

  node_stands : (m n : ℕ) (c : ℤ) (op : Op) (parts : List ℕ) → n < m → slice_get nodes n ≡ Some (record { op = op; parts = parts }) → offset_of nodes n ≡ of_parts (offset_of nodes) n op parts → list_all (λ part. nat_lt part n) parts ≡ true → ((x : ℕ) → x < n → Stands n x c) → Stands m n c
  node_stands m n c (ops.Number k) parts less at is low inside =
      ap (λ o. below m (with_offset o c nothing)) is
      ∙ constant_below m (pos 0 +ℤ (c *ℤ k))
      ∙ sym (constant_below n (pos 0 +ℤ (c *ℤ k)))
      ∙ sym (opened m n c (Some (record { op = ops.Number k; parts = parts })) less at)
  node_stands m n c ops.Plus (a ∷ b ∷ []) less at is low inside =
      let both = two_below a b n low in
      sum_stands m n a b c less both.0 both.1 at (inside a both.0) (inside b both.1) is
  node_stands m n c op parts less at is low inside = itself_stands m n c is

  found_stands : (m n : ℕ) (c : ℤ) (found : Option Node) → n < m → slice_get nodes n ≡ found → ((x : ℕ) → x < n → Stands n x c) → Stands m n c
  found_stands m n c None less none inside = itself_stands m n c (offset_past nodes n (past_end nodes n none))
  found_stands m n c (Some node) less at inside = node_stands m n c node.op node.parts less at (offset_is nodes n node sorted at) (parts_below nodes n node sorted at) inside

  stands : (bound m n : ℕ) (c : ℤ) → n < bound → n < m → Stands m n c
  stands zero m n c small less = absurd (omega arith)
  stands (suc bound) m n c small less = found_stands m n c (slice_get nodes n) less refl (λ x low. stands bound n x c (omega (arith, low, small)) low)

  all_stand : (n : ℕ) (c : ℤ) → Stands (length nodes) n c
  all_stand n c = ⊎_elim (λ less. stands (suc n) (length nodes) n c (omega arith) less) (λ past. itself_stands (length nodes) n c (offset_past nodes n past)) (cases_lt n (length nodes))

  -- so beside anything
  offset_row : (n : ℕ) (c : ℤ) (row : Row) → below (length nodes) (with_offset (offset_of nodes n) c row) ≡ below (length nodes) (with_more n c row)
  offset_row n c row =
      let count = length nodes in
      ap (below count) (offset_is_sum (offset_of nodes n) c row)
      ∙ below_plus nodes count row (with_offset (offset_of nodes n) c nothing)
      ∙ ap (plus (below count row)) (all_stand n c)
      ∙ sym (below_plus nodes count row (with_more n c nothing))
      ∙ ap (below count) (sym (more_is n c row))

  more_same : (n : ℕ) (c : ℤ) (row other : Row) → below (length nodes) row ≡ below (length nodes) other → below (length nodes) (with_more n c row) ≡ below (length nodes) (with_more n c other)
  more_same n c row other same =
      let count = length nodes in
      let one = with_more n c nothing in
      ap (below count) (more_is n c row)
      ∙ below_plus nodes count row one
      ∙ ap (λ r. plus r (below count one)) same
      ∙ sym (below_plus nodes count other one)
      ∙ ap (below count) (sym (more_is n c other))

  -- a difference from the bases
  pub from_bases : (a b : ℕ) (k : ℤ) → below (length nodes) (with_offset (offset_of nodes a) (negsuc 0) (with_offset (offset_of nodes b) (pos 1) (constant_row k))) ≡ expanded_difference nodes (length nodes) a b k
  from_bases a b k =
      let first = with_offset (offset_of nodes b) (pos 1) (constant_row k) in
      offset_row a (negsuc 0) first ∙ more_same a (negsuc 0) first (with_more b (pos 1) (constant_row k)) (offset_row b (pos 1) (constant_row k))
