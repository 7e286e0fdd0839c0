-- Full lists hold: by the numbers of nodes, each known formula is true.
use Rattle.std.proofs.Common.{◌≡◌, ℕ, zero, suc, ◌<◌, ◌⊎◌, inl, inr, ℤ, int_le, Bool, true, false, not, ◌&&◌, List, [], ◌∷◌, map, length, Some, slice_get, nat_lt, refl, sym, ap, ◌∙◌, arith, subst, true≢false, ltb-true}
use Rattle.std.specs.List.{list_all}
use Rattle.std.proofs.lemmas.Option.{slice_get_within}
use Rattle.std.proofs.lemmas.Bool.{and_from, or_cases, cases_Bool, and_parts}
use Rattle.df_form.proofs.Drafts.{sort_here}
use Rattle.df_lemmas.proofs.Lists.{get_below}
use Rattle.df_meaning.specs.Value.{same_truth}
use Rattle.df_form.specs.declared.log.Lit.{Lit}
use Rattle.df_form.specs.declared.node.Sort.{Sort}
use Rattle.df_form.specs.declared.node.Sort.TheVariants as sorts
use Rattle.df_form.specs.declared.node.Op.{Op}
use Rattle.df_form.specs.declared.node.Op.TheVariants as ops
use Rattle.df_form.specs.Node.{Node, same_sort}
use Rattle.df_form.specs.Made.{made}
use Rattle.df_form.specs.Sorting.{sort_of, sort_at, is_formula, takes}
use Rattle.df_form.specs.Clause.{yes, no, same_literal, is_among, are_literals}
use Rattle.df_form.proofs.Values.{grown_get, parts_below, parts_taken}
use Rattle.df_form.proofs.Making.{made_stands, IsNumber, grown_number}
use Rattle.df_form.proofs.Same.{same_sort_equal, values_alike}
use Rattle.df_rules.specs.Bound.{at_most}
use Rattle.df_rules.specs.Connective.{equal_by_sort}
use Rattle.df_rules.proofs.SoundNodes.{at_most_sorted}
use Rattle.df_rules.proofs.SoundClauses.{same_literal_is}
use Rattle.df_closure.specs.Full.{is_primitive, ArePrimitivesTrue}
use Rattle.df_closure.proofs.Atoms.{two_below}
use Rattle.df_closure.proofs.Readings.{equal_is_both}
use Rattle.df_closure.proofs.Knowing.{and_false, one_left, two_left, rest_yes, rest_no}
use Rattle.df_closure.proofs.FullConnectives.{IsReadList, Knows, AreTrueBelow, met, not_holds, implies_holds, iff_holds, and_holds, or_holds}

pub passes_among : (test : Lit → Bool) (literals : List Lit) (l : Lit) → list_all test literals ≡ true → is_among literals l ≡ true → test l ≡ true
passes_among test [] l all e = absurd (true≢false (sym e))
passes_among test (first ∷ others) l all e = next (and_parts (test first) (list_all test others) all) (or_cases (same_literal l first) (is_among others l) e) (passes_among test others l)
  where
    next : (test first ≡ true) × (list_all test others ≡ true) → (same_literal l first ≡ true) ⊎ (is_among others l ≡ true) → (list_all test others ≡ true → is_among others l ≡ true → test l ≡ true) → test l ≡ true
    next parts (inl here) go = subst (λ (m : Lit). test m ≡ true) (sym (same_literal_is l first here)) parts.0
    next parts (inr rest) go = go parts.1 rest

module _ (nodes : List Node) (known : List Lit) (v : ℕ → ℤ) (t : ℕ → Bool) (r : IsReadList nodes known v t) (primitives : ArePrimitivesTrue nodes t known) where
  abbrev HasLit : Bool → ℕ → Type 0
  HasLit b m = Knows nodes known v t r b m

  abbrev IsDone : ℕ → Type 0
  IsDone n = AreTrueBelow nodes known v t r n

  primitive_true : (b : Bool) (m : ℕ) (node : Node) → HasLit b m → slice_get nodes m ≡ Some node → is_primitive nodes node.op node.parts ≡ true → same_truth b (t m) ≡ true
  primitive_true b m node is there primitive = primitives (record { positive = b; node = m }) node is there primitive

  equality_is : (n p q : ℕ) → slice_get nodes n ≡ Some (record { op = ops.Equal; parts = p ∷ q ∷ [] }) → sort_at nodes p ≡ sorts.Number → t n ≡ (int_le (v p) (v q) && int_le (v q) (v p))
  equality_is n p q there sort = r.reading.equal n p q there sort ∙ equal_is_both (v p) (v q)

  -- an equality of numbers, by its two comparisons
  equal_holds : (n p q : ℕ) → slice_get nodes n ≡ Some (record { op = ops.Equal; parts = p ∷ q ∷ [] }) → IsNumber nodes p → IsNumber nodes q → (b : Bool) → HasLit b n → same_truth b (t n) ≡ true
  equal_holds n p q there is_p is_q true is =
      let node : Node = record { op = ops.Equal; parts = p ∷ q ∷ [] } in
      let up = made nodes (at_most p q) in
      let down = made nodes (at_most q p) in
      let first = met nodes known v t r n node there true 0 (record { nodes = up.nodes; clause = no n ∷ yes up.number ∷ [] }) is (ap (λ (s : Sort). equal_by_sort s nodes n p q 0) is_p.sort) in
      let second = met nodes known v t r n node there true 1 (record { nodes = down.nodes; clause = no n ∷ yes down.number ∷ [] }) is (ap (λ (s : Sort). equal_by_sort s nodes n p q 1) is_p.sort) in
      let up_there = subst (λ (ns : List Node). slice_get ns up.number ≡ Some (at_most p q)) first.stands (made_stands nodes (at_most p q) r.sorted (at_most_sorted nodes p q is_p is_q)).there in
      let down_there = subst (λ (ns : List Node). slice_get ns down.number ≡ Some (at_most q p)) second.stands (made_stands nodes (at_most q p) r.sorted (at_most_sorted nodes q p is_q is_p)).there in
      let one : t up.number ≡ true = primitive_true true up.number (at_most p q) (one_left known (yes up.number) (rest_yes known r.consistent n (yes up.number ∷ []) is first.one)) up_there refl in
      let other : t down.number ≡ true = primitive_true true down.number (at_most q p) (one_left known (yes down.number) (rest_yes known r.consistent n (yes down.number ∷ []) is second.one)) down_there refl in
      equality_is n p q there is_p.sort
      ∙ and_from _ _ (sym (r.reading.at_most up.number p q up_there) ∙ one) (sym (r.reading.at_most down.number q p down_there) ∙ other)
  equal_holds n p q there is_p is_q false is =
      let node : Node = record { op = ops.Equal; parts = p ∷ q ∷ [] } in
      let up = made nodes (at_most p q) in
      let down = made up.nodes (at_most q p) in
      let met_one = met nodes known v t r n node there false 2 (record { nodes = down.nodes; clause = yes n ∷ no up.number ∷ no down.number ∷ [] }) is (ap (λ (s : Sort). equal_by_sort s nodes n p q 2) is_p.sort) in
      let up_stands = made_stands nodes (at_most p q) r.sorted (at_most_sorted nodes p q is_p is_q) in
      let down_stands = made_stands up.nodes (at_most q p) up_stands.sorted
      (at_most_sorted up.nodes q p (grown_number nodes up.nodes up_stands.grows q is_q) (grown_number nodes up.nodes up_stands.grows p is_p)) in
      let up_there = subst (λ (ns : List Node). slice_get ns up.number ≡ Some (at_most p q)) met_one.stands (grown_get up.nodes down.nodes down_stands.grows up.number (at_most p q) up_stands.there) in
      let down_there = subst (λ (ns : List Node). slice_get ns down.number ≡ Some (at_most q p)) met_one.stands down_stands.there in
      ap not (equality_is n p q there is_p.sort)
      ∙ and_false _ _ (next up.number down.number up_there down_there (two_left known (no up.number) (no down.number) (rest_no known r.consistent n (no up.number ∷ no down.number ∷ []) is met_one.one)))
    where
      next : (up down : ℕ) → slice_get nodes up ≡ Some (at_most p q) → slice_get nodes down ≡ Some (at_most q p) → HasLit false up ⊎ HasLit false down
          → (not (int_le (v p) (v q)) ≡ true) ⊎ (not (int_le (v q) (v p)) ≡ true)
      next up down up_there down_there (inl here) = inl (ap not (sym (r.reading.at_most up p q up_there)) ∙ primitive_true false up (at_most p q) here up_there refl)
      next up down up_there down_there (inr here) = inr (ap not (sym (r.reading.at_most down q p down_there)) ∙ primitive_true false down (at_most q p) here down_there refl)

  -- the parts of an operation are of the sorts that it takes
  taken : (n : ℕ) (node : Node) → slice_get nodes n ≡ Some node → takes node.op (map (sort_at nodes) node.parts) ≡ true
  taken n node there = parts_taken nodes n node r.sorted there

  two_numbers : (n p q : ℕ) → slice_get nodes n ≡ Some (record { op = ops.Equal; parts = p ∷ q ∷ [] }) → sort_at nodes p ≡ sorts.Number → IsNumber nodes p × IsNumber nodes q
  two_numbers n p q there sort =
      let node : Node = record { op = ops.Equal; parts = p ∷ q ∷ [] } in
      let below = two_below n p q (parts_below nodes n node r.sorted there) in
      let within = slice_get_within nodes n node there in
      let alike = values_alike (sort_at nodes p) (sort_at nodes q) (taken n node there) in
      (record { below = omega (arith, below.0, within); sort = sort }, record { below = omega (arith, below.1, within); sort = sym alike ∙ sort })

  equality_holds : (n p q : ℕ) → slice_get nodes n ≡ Some (record { op = ops.Equal; parts = p ∷ q ∷ [] }) → (b : Bool) → HasLit b n → same_truth b (t n) ≡ true
  equality_holds n p q there b is = by (cases_Bool (same_sort (sort_at nodes p) sorts.Number))
    where
      by : (same_sort (sort_at nodes p) sorts.Number ≡ true) ⊎ (same_sort (sort_at nodes p) sorts.Number ≡ false) → same_truth b (t n) ≡ true
      by (inl number) = let numbers = two_numbers n p q there (same_sort_equal (sort_at nodes p) sorts.Number number) in equal_holds n p q there numbers.0 numbers.1 b is
      by (inr other) = primitive_true b n (record { op = ops.Equal; parts = p ∷ q ∷ [] }) is there (ap not other)

  -- a known node of each operation
  op_holds : (n : ℕ) (op : Op) (parts : List ℕ) → slice_get nodes n ≡ Some (record { op = op; parts = parts }) → same_sort (sort_of op) sorts.Truth ≡ true → IsDone n → (b : Bool) → HasLit b n → same_truth b (t n) ≡ true
  op_holds n (ops.Number k) parts there sort below b is = absurd (true≢false (sym sort))
  op_holds n (ops.Free free) parts there sort below b is = primitive_true b n (record { op = ops.Free free; parts = parts }) is there refl
  op_holds n ops.Plus parts there sort below b is = absurd (true≢false (sym sort))
  op_holds n ops.Times parts there sort below b is = absurd (true≢false (sym sort))
  op_holds n (ops.Of symbol payload) parts there sort below b is = primitive_true b n (record { op = ops.Of symbol payload; parts = parts }) is there sort
  op_holds n ops.Equal (p ∷ q ∷ []) there sort below b is = equality_holds n p q there b is
  op_holds n ops.Equal [] there sort below b is = absurd (true≢false (sym (taken n (record { op = ops.Equal; parts = [] }) there)))
  op_holds n ops.Equal (p ∷ []) there sort below b is = absurd (true≢false (sym (taken n (record { op = ops.Equal; parts = p ∷ [] }) there)))
  op_holds n ops.Equal (p ∷ q ∷ o ∷ others) there sort below b is = absurd (true≢false (sym (taken n (record { op = ops.Equal; parts = p ∷ q ∷ o ∷ others }) there)))
  op_holds n ops.AtMost parts there sort below b is = primitive_true b n (record { op = ops.AtMost; parts = parts }) is there refl
  op_holds n ops.Not (p ∷ []) there sort below b is = not_holds nodes known v t r n p there below b is
  op_holds n ops.Not [] there sort below b is = absurd (true≢false (sym (taken n (record { op = ops.Not; parts = [] }) there)))
  op_holds n ops.Not (p ∷ q ∷ others) there sort below b is = absurd (true≢false (sym (taken n (record { op = ops.Not; parts = p ∷ q ∷ others }) there)))
  op_holds n ops.And parts there sort below b is = and_holds nodes known v t r n parts there below b is
  op_holds n ops.Or parts there sort below b is = or_holds nodes known v t r n parts there below b is
  op_holds n ops.Implies (p ∷ q ∷ []) there sort below b is = implies_holds nodes known v t r n p q there below b is
  op_holds n ops.Implies [] there sort below b is = absurd (true≢false (sym (taken n (record { op = ops.Implies; parts = [] }) there)))
  op_holds n ops.Implies (p ∷ []) there sort below b is = absurd (true≢false (sym (taken n (record { op = ops.Implies; parts = p ∷ [] }) there)))
  op_holds n ops.Implies (p ∷ q ∷ o ∷ others) there sort below b is = absurd (true≢false (sym (taken n (record { op = ops.Implies; parts = p ∷ q ∷ o ∷ others }) there)))
  op_holds n ops.Iff (p ∷ q ∷ []) there sort below b is = iff_holds nodes known v t r n p q there below b is
  op_holds n ops.Iff [] there sort below b is = absurd (true≢false (sym (taken n (record { op = ops.Iff; parts = [] }) there)))
  op_holds n ops.Iff (p ∷ []) there sort below b is = absurd (true≢false (sym (taken n (record { op = ops.Iff; parts = p ∷ [] }) there)))
  op_holds n ops.Iff (p ∷ q ∷ o ∷ others) there sort below b is = absurd (true≢false (sym (taken n (record { op = ops.Iff; parts = p ∷ q ∷ o ∷ others }) there)))

  module _ (literals : are_literals nodes known ≡ true) where
    node_holds : (n : ℕ) → IsDone n → (b : Bool) → HasLit b n → same_truth b (t n) ≡ true
    node_holds n below b is =
        let formula = passes_among (λ (l : Lit). is_formula nodes l.node) known (record { positive = b; node = n }) literals is in
        let parts = and_parts (nat_lt n (length nodes)) (same_sort (sort_at nodes n) sorts.Truth) formula in
        let at = get_below nodes n (ltb-true n (length nodes) parts.0) in
        op_holds n at.0.op at.0.parts at.1 (ap (λ (s : Sort). same_sort s sorts.Truth) (sym (sort_here nodes n at.0 at.1)) ∙ parts.1) below b is

    all_hold : (n : ℕ) → IsDone n
    all_hold zero b m less is = absurd (omega arith)
    all_hold (suc n) b m less is = next (split m n less) (all_hold n)
      where
        split : (m n : ℕ) → m < suc n → (m < n) ⊎ (m ≡ n)
        split m n less = grind arith

        next : (m < n) ⊎ (m ≡ n) → IsDone n → same_truth b (t m) ≡ true
        next (inl lt) go = go b m lt is
        next (inr e) go = node_holds m (subst IsDone (sym e) go) b is

    pub known_hold : (l : Lit) → is_among known l ≡ true → same_truth l.positive (t l.node) ≡ true
    known_hold l is = node_holds l.node (all_hold l.node) l.positive is
