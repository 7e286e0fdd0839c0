-- Tables of the first nodes, and that they go on to all.
use Rattle.std.proofs.Common.{◌≡◌, ℕ, zero, suc, ◌+◌, ◌<◌, ◌≤◌, ◌⊎◌, inl, inr, ℤ, pos, ◌+ℤ◌, ◌*ℤ◌, Bool, true, false, List, [], ◌∷◌, ◌++◌, map, length, Option, None, Some, slice_get, nat_lt, refl, sym, ap, ◌∙◌, arith, cond, ltb-true}
use Rattle.std.specs.List.{list_all}
use Rattle.std.proofs.lemmas.Bool.{and_parts}
use Rattle.std.proofs.lemmas.List.{length-append, get_or_append_left, get_or_push}
use Rattle.std.proofs.lemmas.Option.{same_Some, slice_get_within, none-some}
use Rattle.df_row.proofs.RowNarrow.{unfit}
use Rattle.df_lemmas.proofs.Lists.{get_below, map_agree}
use Rattle.df_form.specs.declared.node.Op.{Op}
use Rattle.df_form.specs.declared.node.Op.TheVariants as ops
use Rattle.df_form.specs.Node.{Node}
use Rattle.df_form.proofs.Values.{Grows, grown_get, AreSorted, parts_below}
use Rattle.df_row.specs.Row.{fits, literal_number}
use Rattle.df_row.specs.RowView.{narrow}
use Rattle.df_table.specs.TableModel.{number_at}
use Rattle.df_model.specs.TableNumbers.{Basis, is_summed, narrow_product, product_number, narrow_by, number_by, first_factor, number_in}
use Rattle.df_model.specs.Tabulation.{IsTabulated, IsWholeTable, IsWideTable}

narrow_some : (z y : ℤ) → narrow z ≡ Some y → z ≡ y
narrow_some z y e = by (fits z) e
  where
    by : (b : Bool) → cond b (Some z) None ≡ Some y → z ≡ y
    by true e = same_Some z y e
    by false e = absurd cc

-- the number, where it has 128 bits
product_some : (factor : Option ℤ) (x own z : ℤ) → narrow_product factor x own ≡ Some z → product_number factor x own ≡ z
product_some None x own z e = same_Some own z e
product_some (Some k) x own z e = narrow_some (k *ℤ x) z e

product_none : (factor : Option ℤ) (x own : ℤ) → narrow_product factor x own ≡ None → fits (product_number factor x own) ≡ false
product_none None x own e = absurd cc
product_none (Some k) x own e = unfit (k *ℤ x) e

pub number_some : (basis : Basis) (n : ℕ) (factor : Option ℤ) (op : Op) (parts : List ℤ) (z : ℤ) → narrow_by basis n factor op parts ≡ Some z → number_by basis n factor op parts ≡ z
number_some basis n factor ops.Plus parts z e = narrow_some (number_at parts 0 +ℤ number_at parts 1) z e
number_some basis n factor ops.Times parts z e = product_some factor (number_at parts 1) (basis.number n) z e
number_some basis n factor op parts z e = same_Some _ z e

pub number_none : (basis : Basis) (n : ℕ) (factor : Option ℤ) (op : Op) (parts : List ℤ) → narrow_by basis n factor op parts ≡ None → fits (number_by basis n factor op parts) ≡ false
number_none basis n factor ops.Plus parts e = unfit (number_at parts 0 +ℤ number_at parts 1) e
number_none basis n factor ops.Times parts e = product_none factor (number_at parts 1) (basis.number n) e
number_none basis n factor op parts e = absurd cc

summed_none : (basis : Basis) (n : ℕ) (factor : Option ℤ) (op : Op) (parts : List ℤ) → narrow_by basis n factor op parts ≡ None → is_summed factor op ≡ true
summed_none basis n factor ops.Plus parts e = refl
summed_none basis n (Some k) ops.Times parts e = refl
summed_none basis n None ops.Times parts e = absurd cc
summed_none basis n factor op parts e = absurd cc

pub tabulated_none : (basis : Basis) (nodes : List Node) (table : List ℤ) → table ≡ [] → IsTabulated basis nodes table
tabulated_none basis nodes table e = let long = ap (λ (all : List ℤ). length all) e in record { short = omega arith; numbers = λ n node less at. absurd (omega arith) }

module _ (basis : Basis) (nodes : List Node) (sorted : AreSorted nodes) where
  -- a longer table gives a node the same number
  same_in : (table longer : List ℤ) (n : ℕ) (node : Node) → ((p : ℕ) → p < n → number_at longer p ≡ number_at table p) → slice_get nodes n ≡ Some node → number_in basis nodes longer n node ≡ number_in basis nodes table n node
  same_in table longer n node same at =
      ap (number_by basis n (first_factor nodes node.parts) node.op) (map_agree (λ p. nat_lt p n) (number_at longer) (number_at table) node.parts (λ p below. same p (ltb-true p n below)) (parts_below nodes n node sorted at))

  module _ (table : List ℤ) (node : Node) (has : IsTabulated basis nodes table) (next : slice_get nodes (length table) ≡ Some node) where
    pub tabulated_more : (z : ℤ) (longer : List ℤ) → number_in basis nodes table (length table) node ≡ z → longer ≡ table ++ z ∷ [] → IsTabulated basis nodes longer
    tabulated_more z longer e is = record { short = omega (arith, long, within); numbers = numbers }
      where
        long : length longer ≡ length table + 1
        long = ap (λ (all : List ℤ). length all) is ∙ length-append table (z ∷ [])

        within : length table < length nodes
        within = slice_get_within nodes (length table) node next

        front : (p : ℕ) → p < length table → number_at longer p ≡ number_at table p
        front p less = ap (λ (all : List ℤ). number_at all p) is ∙ get_or_append_left table (z ∷ []) (pos 0) p less

        split : (m k : ℕ) → m < k + 1 → (m < k) ⊎ (k ≡ m)
        split m k less = grind arith

        by : (m : ℕ) (other : Node) → slice_get nodes m ≡ Some other → (m < length table) ⊎ (length table ≡ m) → number_at longer m ≡ number_in basis nodes longer m other
        by m other at (inl less) = front m less ∙ has.numbers m other less at ∙ sym (same_in table longer m other (λ p below. front p (omega (arith, below, less))) at)
        by m other at (inr last) =
            let same : node ≡ other = same_Some node other (sym next ∙ ap (slice_get nodes) last ∙ at) in
            ap (λ (all : List ℤ). number_at all m) is ∙ get_or_push table z (pos 0) m last ∙ sym e
            ∙ (λ i. number_in basis nodes table (last i) (same i))
            ∙ sym (same_in table longer m other (λ p below. front p (omega (arith, below, last))) at)

        numbers : (m : ℕ) (other : Node) → m < length longer → slice_get nodes m ≡ Some other → number_at longer m ≡ number_in basis nodes longer m other
        numbers m other less at = by m other at (split m (length table) (omega (arith, less, long)))

    pub tabulated_wide : narrow_by basis (length table) (first_factor nodes node.parts) node.op (map (number_at table) node.parts) ≡ None → IsWideTable basis nodes
    tabulated_wide e = record {
      table = table;
      tabulated = has;
      node = node;
      next = next;
      summed = summed_none basis (length table) (first_factor nodes node.parts) node.op (map (number_at table) node.parts) e;
      wide = number_none basis (length table) (first_factor nodes node.parts) node.op (map (number_at table) node.parts) e;
    }

  pub tabulated_all : (table : List ℤ) → IsTabulated basis nodes table → slice_get nodes (length table) ≡ None → IsWholeTable basis nodes table
  tabulated_all table has e = record { tabulated = has; covers = by (nat_lt (length table) (length nodes)) refl }
    where
      by : (b : Bool) → nat_lt (length table) (length nodes) ≡ b → length table ≡ length nodes
      by true less = let at = get_below nodes (length table) (ltb-true (length table) (length nodes) less) in absurd (none-some at.0 (sym e ∙ at.1))
      by false past = let least = has.short in grind arith

  -- a table goes on to one of all nodes
  abbrev pub GoesOn : List ℤ → Type 0
  GoesOn table = (whole : List ℤ) × IsWholeTable basis nodes whole × ((n : ℕ) → n < length table → number_at whole n ≡ number_at table n)

  kept_twice : (x y z : ℤ) → x ≡ y → y ≡ z → x ≡ z
  kept_twice x y z e f = e ∙ f

  pub goes_on : (k : ℕ) (table : List ℤ) → IsTabulated basis nodes table → length table + k ≡ length nodes → GoesOn table
  goes_on zero table has e = (table, record { tabulated = has; covers = omega arith }, λ n less. refl)
  goes_on (suc k) table has e =
      let at = get_below nodes (length table) (omega arith) in
      let z = number_in basis nodes table (length table) at.0 in
      let more = tabulated_more table at.0 has at.1 z (table ++ z ∷ []) refl refl in
      let long = length-append table (z ∷ []) in
      let rest = goes_on k (table ++ z ∷ []) more (omega (arith, long, e)) in
      (rest.0, rest.1, λ n less. kept_twice (number_at rest.0 n) (number_at (table ++ z ∷ []) n) (number_at table n) (rest.2 n (omega (arith, less, long))) (get_or_append_left table (z ∷ []) (pos 0) n less))

module _ (basis : Basis) (set nodes : List Node) (sorted : AreSorted set) (grows : Grows set nodes) where
  same_factor : (n : ℕ) (parts : List ℕ) → n < length set → list_all (λ p. nat_lt p n) parts ≡ true → first_factor set parts ≡ first_factor nodes parts
  same_factor n [] less below = refl
  same_factor n (a ∷ others) less below =
      let first = ltb-true a n (and_parts (nat_lt a n) (list_all (λ p. nat_lt p n) others) below).0 in
      let at = get_below set a (omega (arith, first, less)) in
      ap literal_number (at.1 ∙ sym (grown_get set nodes grows a at.0 at.1))

  -- a table of the first nodes is one among more nodes
  pub tabulated_among : (table : List ℤ) → length set ≤ length nodes → IsTabulated basis set table → IsTabulated basis nodes table
  tabulated_among table longer has = record { short = let short = has.short in omega (arith, short, longer); numbers = numbers }
    where
      numbers : (n : ℕ) (node : Node) → n < length table → slice_get nodes n ≡ Some node → number_at table n ≡ number_in basis nodes table n node
      numbers n node less at =
          let short = has.short in
          let within : n < length set = omega (arith, less, short) in
          let here = get_below set n within in
          let same = same_Some here.0 node (sym (grown_get set nodes grows n here.0 here.1) ∙ at) in
          let there = here.1 ∙ ap Some same in
          has.numbers n node less there ∙ ap (λ (factor : Option ℤ). number_by basis n factor node.op (map (number_at table) node.parts)) (same_factor n node.parts within (parts_below set n node sorted there))
