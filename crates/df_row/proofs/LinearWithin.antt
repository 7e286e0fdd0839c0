-- Rows have coefficients for nodes of the table alone.
use Rattle.std.proofs.Common.{◌≡◌, ℕ, zero, suc, ◌<◌, ◌≤◌, ℤ, pos, negsuc, ◌+ℤ◌, ◌*ℤ◌, int_le, Bool, true, false, ◌&&◌, cond, nat_eq, nat_lt, List, [], ◌∷◌, ◌++◌, map, length, take, length-take, slice_get, Option, Some, None, refl, sym, ap, subst, ◌∙◌, arith}
use Rattle.std.proofs.lemmas.Bool.Decides.{nat_tests}
use Rattle.std.proofs.lemmas.Option.{cond_some, none-some, same_Some, option_and_then_some}
use Rattle.std.specs.List.{list_all}
use Rattle.std.specs.Ordering.{int_eq}
use Rattle.std.specs.Option.{option_map}
use Rattle.std.proofs.lemmas.Bool.{and_parts, ltb-true}
use Rattle.df_lemmas.proofs.Numbers.{more_unequal}
use Rattle.df_form.specs.declared.log.Lit.{Lit}
use Rattle.df_form.specs.declared.log.Multiple.{Multiple}
use Rattle.df_form.specs.Log.{Combination}
use Rattle.df_form.specs.declared.node.Sort.{Sort}
use Rattle.df_form.specs.declared.node.Sort.TheVariants as sorts
use Rattle.df_form.specs.declared.node.Op.{Op}
use Rattle.df_form.specs.declared.node.Op.TheVariants as ops
use Rattle.df_form.specs.Node.{Node}
use Rattle.df_form.specs.Sorting.{IsTable, sort_at, takes}
use Rattle.df_row.specs.declared.linear.Comparison.{Comparison}
use Rattle.df_row.specs.declared.linear.Comparison.TheVariants as comparisons
use Rattle.df_row.specs.declared.expansion.Term.{Term}
use Rattle.df_row.specs.declared.expansion.Term.TheVariants as terms
use Rattle.df_row.specs.Row.{Row, constant_row, with_coefficient, with_more, with_constant, without, literal_number, expanded_at, expanded_below, expanded_difference, difference}
use Rattle.df_row.specs.RowView.{IsWithin, product_term, term_of_parts, term_of, with_term}
use Rattle.df_row.specs.Linear.{with_multiple, sum_from, divides, divided, quotient, combined, rows_of_node, rows_of, all_below}
use Rattle.df_row.specs.LinearView.{AreWithin, IsComparisonBelow, compared_by_sort, compared_parts, comparison_of, rows_of_comparison}
use Rattle.df_row.proofs.Rows.{at_term, narrow_row_is}
use Rattle.df_row.proofs.RowQuotients.{zero_quotient}
use Rattle.df_row.proofs.LinearRows.{node_rows, map_some}
use Rattle.df_row.proofs.LinearSums.{multiple_within}

-- the parts of a node stand in the table
abbrev pub AreBelow : ℕ → List ℕ → Type 0
AreBelow count parts = list_all (λ part. nat_lt part count) parts ≡ true

less_more : (part low high : ℕ) → low ≤ high → nat_lt part low ≡ true → nat_lt part high ≡ true
less_more part low high h e = grind (arith, nat_tests)

below_more : (parts : List ℕ) (low high : ℕ) → low ≤ high → AreBelow low parts → AreBelow high parts
below_more [] low high h e = refl
below_more (part ∷ parts) low high h e =
    let both = and_parts (nat_lt part low) (list_all (λ part. nat_lt part low) parts) e in
    rw (less_more part low high h both.0) (below_more parts low high h both.1)

pub parts_below : (nodes : List Node) → IsTable nodes → (n : ℕ) (node : Node) → slice_get nodes n ≡ Some node → AreBelow (length nodes) node.parts
parts_below nodes table n node at =
    let both = and_parts (list_all (λ part. nat_lt part (length (take n nodes))) node.parts) (takes node.op (map (sort_at (take n nodes)) node.parts)) (table.sorted n node at) in
    below_more node.parts (length (take n nodes)) (length nodes) (omega (arith, length-take n nodes)) both.0

two_below : (a b count : ℕ) → AreBelow count (a ∷ b ∷ []) → (a < count) × (b < count)
two_below a b count e =
    let outer = and_parts (nat_lt a count) (nat_lt b count && true) e in
    let inner = and_parts (nat_lt b count) true outer.1 in
    (ltb-true a count outer.0, ltb-true b count inner.0)

-- steps of rows
module _ (count : ℕ) where
  within_put : (row : Row) (n : ℕ) (c : ℤ) → n < count → IsWithin count row → IsWithin count (record { coefficient = with_coefficient row.coefficient n c; constant = row.constant })
  within_put row n c less inside = record { zero_from = λ m h. ap (λ t. cond t c (row.coefficient m)) (more_unequal m n (omega (arith, less, h))) ∙ inside.zero_from m h }

  within_without : (row : Row) (n : ℕ) → IsWithin count row → IsWithin count (without n row)
  within_without row n inside = record { zero_from = λ m h. by (nat_eq m n) (row.coefficient m) (inside.zero_from m h) }
    where
      by : (b : Bool) (z : ℤ) → z ≡ pos 0 → cond b (pos 0) z ≡ pos 0
      by true z e = refl
      by false z e = e

  within_more : (n : ℕ) (c : ℤ) (row : Row) → n < count → IsWithin count row → IsWithin count (with_more n c row)
  within_more n c row less inside = within_put row n (row.coefficient n +ℤ c) less inside

  within_constant : (c : ℤ) (row : Row) → IsWithin count row → IsWithin count (with_constant c row)
  within_constant c row inside = record { zero_from = inside.zero_from }

  abbrev IsTermBelow : Term → Type 0
  IsTermBelow (terms.Literal k) = Unit {0}
  IsTermBelow (terms.Sum a b) = (a < count) × (b < count)
  IsTermBelow (terms.Multiple k b) = b < count
  IsTermBelow terms.Atom = Unit {0}

  product_below : (b : ℕ) (k : Option ℤ) → b < count → IsTermBelow (product_term b k)
  product_below b None h = tt
  product_below b (Some k) h = h

  term_below : (nodes : List Node) (op : Op) (parts : List ℕ) → AreBelow count parts → IsTermBelow (term_of_parts nodes op parts)
  term_below nodes ops.Plus (a ∷ b ∷ []) e = two_below a b count e
  term_below nodes ops.Times (a ∷ b ∷ []) e = product_below b (literal_number (slice_get nodes a)) (two_below a b count e).1
  term_below nodes op parts e = tt

  within_term : (term : Term) (c : ℤ) (row taken : Row) → IsTermBelow term → IsWithin count row → IsWithin count taken → IsWithin count (with_term term c row taken)
  within_term (terms.Literal k) c row taken below inside out = within_constant (c *ℤ k) taken out
  within_term (terms.Sum a b) c row taken below inside out = within_more b c (with_more a c taken) below.1 (within_more a c taken below.0 out)
  within_term (terms.Multiple k b) c row taken below inside out = within_more b (c *ℤ k) taken below out
  within_term terms.Atom c row taken below inside out = inside

  node_below : (nodes : List Node) → ((n : ℕ) (node : Node) → slice_get nodes n ≡ Some node → AreBelow count node.parts) → (n : ℕ) (o : Option Node) → slice_get nodes n ≡ o → IsTermBelow (term_of nodes o)
  node_below nodes below n None at = tt
  node_below nodes below n (Some node) at = term_below nodes node.op node.parts (below n node at)

  within_at : (nodes : List Node) → ((n : ℕ) (node : Node) → slice_get nodes n ≡ Some node → AreBelow count node.parts) → (n : ℕ) (row : Row) → IsWithin count row → IsWithin count (expanded_at nodes n (slice_get nodes n) row)
  within_at nodes below n row inside = subst (IsWithin count) (sym (at_term nodes n (slice_get nodes n) row)) (within_term (term_of nodes (slice_get nodes n)) (row.coefficient n) row (without n row) (node_below nodes below n (slice_get nodes n) refl) inside (within_without row n inside))

  within_below : (nodes : List Node) → ((n : ℕ) (node : Node) → slice_get nodes n ≡ Some node → AreBelow count node.parts) → (n : ℕ) (row : Row) → IsWithin count row → IsWithin count (expanded_below nodes n row)
  within_below nodes below zero row inside = inside
  within_below nodes below (suc n) row inside = within_below nodes below n (expanded_at nodes n (slice_get nodes n) row) (within_at nodes below n row inside)

  within_start : (k : ℤ) → IsWithin count (constant_row k)
  within_start k = record { zero_from = λ n h. refl }

  within_expanded : (nodes : List Node) → ((n : ℕ) (node : Node) → slice_get nodes n ≡ Some node → AreBelow count node.parts) → (high a b : ℕ) (k : ℤ) → a < count → b < count → IsWithin count (expanded_difference nodes high a b k)
  within_expanded nodes below high a b k p q = within_below nodes below high (with_more a (negsuc 0) (with_more b (pos 1) (constant_row k))) (within_more a (negsuc 0) (with_more b (pos 1) (constant_row k)) p (within_more b (pos 1) (constant_row k) q (within_start k)))

  within_difference : (nodes : List Node) → ((n : ℕ) (node : Node) → slice_get nodes n ≡ Some node → AreBelow count node.parts) → (high a b : ℕ) (k : ℤ) (new : Row) → difference nodes high a b k ≡ Some new → a < count → b < count → IsWithin count new
  within_difference nodes below high a b k new e p q = subst (IsWithin count) (sym (narrow_row_is high (expanded_difference nodes high a b k) new e).0) (within_expanded nodes below high a b k p q)

-- lists of rows
within_none : (count : ℕ) → AreWithin count []
within_none count = record { each = λ n row e. absurd (none-some row e) }

within_head : (count : ℕ) (r : Row) (rows : List Row) → IsWithin count r → AreWithin count rows → AreWithin count (r ∷ rows)
within_head count r rows inside all = record { each = at }
  where
    at : (n : ℕ) (row : Row) → slice_get (r ∷ rows) n ≡ Some row → IsWithin count row
    at zero row e = subst (IsWithin count) (same_Some r row e) inside
    at (suc n) row e = all.each n row e

pub within_append : (count : ℕ) (xs ys : List Row) → AreWithin count xs → AreWithin count ys → AreWithin count (xs ++ ys)
within_append count [] ys p q = q
within_append count (x ∷ xs) ys p q = within_head count x (xs ++ ys) (p.each 0 x refl) (within_append count xs ys (record { each = λ n row e. p.each (suc n) row e }) q)

within_one : (count : ℕ) (r : Row) → IsWithin count r → AreWithin count (r ∷ [])
within_one count r inside = within_head count r [] inside (within_none count)

pub within_push : (count : ℕ) (rows : List Row) (r : Row) → AreWithin count rows → IsWithin count r → AreWithin count (rows ++ r ∷ [])
within_push count rows r all inside = within_append count rows (r ∷ []) all (within_one count r inside)

-- the rows of literals
module _ (count : ℕ) (nodes : List Node) (below : (n : ℕ) (node : Node) → slice_get nodes n ≡ Some node → AreBelow count node.parts) where
  compared_below : (sort : Sort) (positive : Bool) (op : Op) (a b : ℕ) → (a < count) × (b < count) → IsComparisonBelow count (compared_by_sort sort positive op a b)
  compared_below sorts.Number true ops.AtMost a b h = h
  compared_below sorts.Number false ops.AtMost a b h = h
  compared_below sorts.Number true ops.Equal a b h = h
  compared_below sorts.Number false ops.Equal a b h = tt
  compared_below sorts.Number true op a b h = tt
  compared_below sorts.Number false op a b h = tt
  compared_below sorts.Truth positive op a b h = tt
  compared_below sorts.Character positive op a b h = tt

  compared_parts_below : (positive : Bool) (op : Op) (parts : List ℕ) → AreBelow count parts → IsComparisonBelow count (compared_parts nodes positive op parts)
  compared_parts_below positive op [] e = tt
  compared_parts_below positive op (a ∷ []) e = tt
  compared_parts_below positive op (a ∷ b ∷ []) e = compared_below (sort_at nodes a) positive op a b (two_below a b count e)
  compared_parts_below positive op (a ∷ b ∷ d ∷ others) e = tt

  comparison_below : (positive : Bool) (n : ℕ) (o : Option Node) → slice_get nodes n ≡ o → IsComparisonBelow count (comparison_of nodes positive o)
  comparison_below positive n None at = tt
  comparison_below positive n (Some node) at = compared_parts_below positive node.op node.parts (below n node at)

  one_within : (high a b : ℕ) (k : ℤ) (rows : List Row) → option_map (λ r. r ∷ []) (difference nodes high a b k) ≡ Some rows → a < count → b < count → AreWithin count rows
  one_within high a b k rows e p q = map_some (λ r. r ∷ []) (difference nodes high a b k) rows e (λ r at is. subst (AreWithin count) is (within_one count r (within_difference count nodes below high a b k r at p q)))

  comparison_within : (high : ℕ) (comparison : Comparison) (rows : List Row) → rows_of_comparison nodes high comparison ≡ Some rows → IsComparisonBelow count comparison → AreWithin count rows
  comparison_within high (comparisons.AtMost a b) rows e h = one_within high a b (pos 0) rows e h.0 h.1
  comparison_within high (comparisons.Above a b) rows e h = one_within high b a (negsuc 0) rows e h.1 h.0
  comparison_within high (comparisons.Equal a b) rows e h = option_and_then_some (λ r. option_map (λ s. r ∷ s ∷ []) (difference nodes high b a (pos 0))) (difference nodes high a b (pos 0)) rows e (λ r at then. map_some (λ s. r ∷ s ∷ []) (difference nodes high b a (pos 0)) rows then (λ s next is. subst (AreWithin count) is (within_head count r (s ∷ []) (within_difference count nodes below high a b (pos 0) r at h.0 h.1) (within_one count s (within_difference count nodes below high b a (pos 0) s next h.1 h.0)))))
  comparison_within high comparisons.Other rows e h = subst (AreWithin count) (same_Some [] rows e) (within_none count)

  literal_within : (positive : Bool) (n : ℕ) (rows : List Row) → rows_of_node nodes positive (slice_get nodes n) ≡ Some rows → AreWithin count rows
  literal_within positive n rows e = comparison_within (length nodes) (comparison_of nodes positive (slice_get nodes n)) rows (sym (node_rows nodes positive (slice_get nodes n)) ∙ e) (comparison_below positive n (slice_get nodes n) refl)

  rows_within : (literals : List Lit) (rows : List Row) → rows_of nodes literals ≡ Some rows → AreWithin count rows
  rows_within [] rows e = subst (AreWithin count) (same_Some [] rows e) (within_none count)
  rows_within (l ∷ others) rows e = option_and_then_some (λ first. option_map (λ more. first ++ more) (rows_of nodes others)) (rows_of_node nodes l.positive (slice_get nodes l.node)) rows e (λ first at then. map_some (λ more. first ++ more) (rows_of nodes others) rows then (λ more next is. subst (AreWithin count) is (within_append count first more (literal_within l.positive l.node first at) (rows_within others more next))))

-- in a table
module _ (nodes : List Node) (table : IsTable nodes) where
  pub table_compared : (positive : Bool) (n : ℕ) → IsComparisonBelow (length nodes) (comparison_of nodes positive (slice_get nodes n))
  table_compared positive n = comparison_below (length nodes) nodes (parts_below nodes table) positive n (slice_get nodes n) refl

  pub table_expanded : (a b : ℕ) (k : ℤ) → a < length nodes → b < length nodes → IsWithin (length nodes) (expanded_difference nodes (length nodes) a b k)
  table_expanded a b k p q = within_expanded (length nodes) nodes (parts_below nodes table) (length nodes) a b k p q

pub table_within : (nodes : List Node) (literals : List Lit) (rows : List Row) → IsTable nodes → rows_of nodes literals ≡ Some rows → AreWithin (length nodes) rows
table_within nodes literals rows table e = rows_within (length nodes) nodes (parts_below nodes table) literals rows e

-- what combinations give
from_within : (count : ℕ) (rows : List Row) (sum : Row) (members : List Multiple) (new : Row) → sum_from count rows sum members ≡ Some new → AreWithin count rows → IsWithin count sum → IsWithin count new
from_within count rows sum [] new e all inside = subst (IsWithin count) (same_Some sum new e) inside
from_within count rows sum (m ∷ others) new e all inside = option_and_then_some (λ s. sum_from count rows s others) (with_multiple count sum m.factor (slice_get rows m.row)) new e (λ mid at then. from_within count rows mid others new then all (step mid at (slice_get rows m.row) refl))
  where
    step : (mid : Row) → with_multiple count sum m.factor (slice_get rows m.row) ≡ Some mid → (o : Option Row) → slice_get rows m.row ≡ o → IsWithin count mid
    step mid at None is = absurd (none-some mid (sym (ap (with_multiple count sum m.factor) is) ∙ at))
    step mid at (Some other) is = multiple_within count sum other mid m.factor (sym (ap (with_multiple count sum m.factor) is) ∙ at) (all.each m.row other is) inside

divided_within : (count : ℕ) (d : ℤ) (row new : Row) → divided count d row ≡ Some new → IsWithin count row → IsWithin count new
divided_within count d row new e inside =
    let both = cond_some (divides count d row) (record { coefficient = λ n. quotient (row.coefficient n) d; constant = quotient row.constant d }) new e in
    let low : int_le (pos 1) d ≡ true = (and_parts (int_le (pos 1) d) (all_below count (λ n. int_eq (d *ℤ quotient (row.coefficient n) d) (row.coefficient n))) both.0).0 in
    subst (IsWithin count) both.1 (record { zero_from = λ n h. ap (λ z. quotient z d) (inside.zero_from n h) ∙ zero_quotient d low })

pub combined_within : (count : ℕ) (rows : List Row) (c : Combination) (new : Row) → combined count rows c ≡ Some new → AreWithin count rows → IsWithin count new
combined_within count rows c new e all = option_and_then_some (divided count c.divisor) (sum_from count rows (constant_row (pos 0)) c.members) new e (λ sum at then. divided_within count c.divisor sum new then (from_within count rows (constant_row (pos 0)) c.members sum at all (within_start count (pos 0))))
