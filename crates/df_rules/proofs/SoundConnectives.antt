-- The clauses of connectives hold.
use Rattle.std.proofs.Common.{◌≡◌, ℕ, zero, suc, ◌⊎◌, inl, inr, ℤ, int_le, int_eq, Bool, true, false, not, ◌&&◌, ◌||◌, List, [], ◌∷◌, map, length, Some, slice_get, nat_lt, refl, sym, ap, ◌∙◌, arith, subst, ltb-true, lt-ltb}
use Rattle.std.specs.List.{list_all, list_any, AllByRecursion}
use Rattle.std.proofs.lemmas.Int.{ints}
use Rattle.std.proofs.lemmas.Bool.Decides.{Decides-int_eq, same_from_decides}
use Rattle.std.proofs.lemmas.Option.{same_Some, slice_get_within}
use Rattle.std.proofs.lemmas.Bool.{and_from, and_parts}
use Rattle.std.proofs.lemmas.List.Folds.{list_all-map}
use Rattle.df_form.proofs.Drafts.{sort_here}
use Rattle.df_lemmas.proofs.Alls.{all_joined}
use Rattle.df_lemmas.proofs.Lists.{get_below, all_weaker, any_mapped}
use Rattle.df_lemmas.proofs.Options.{then_some, map_some}
use Rattle.df_form.specs.World.{World}
use Rattle.df_meaning.specs.Value.{Value, Number, Truth, Character, Text, truth_of, number_of, same_truth, same_value}
use Rattle.df_form.specs.declared.node.Sort.{Sort}
use Rattle.df_form.specs.declared.node.Sort.TheVariants as sorts
use Rattle.df_form.specs.declared.node.Op.{Op}
use Rattle.df_form.specs.declared.node.Op.TheVariants as ops
use Rattle.df_form.specs.Node.{Node}
use Rattle.df_form.specs.Made.{made}
use Rattle.df_form.specs.Sorting.{sort_at, sort_of}
use Rattle.df_form.specs.Truth.{Assignment, has_sort, truth, values, value_at, number_at, apply}
use Rattle.df_form.specs.Clause.{Clause, yes, no}
use Rattle.df_rules.specs.Bound.{at_most}
use Rattle.df_rules.specs.Connective.{Added, chosen, not_clauses, and_clauses, or_clauses, implies_clauses, iff_clauses, equal_clause, equal_by_sort, connective_clause, connective_line}
use Rattle.df_form.proofs.Values.{grows_not, grows_twice, grown_get, AreSorted, parts_below, parts_taken, worth, value_is}
use Rattle.df_form.proofs.Making.{made_stands, IsNumber, grown_number}
use Rattle.df_form.proofs.Same.{values_alike}
use Rattle.df_form.proofs.Sorts.{apply_sorted}
use Rattle.df_rules.proofs.SoundNodes.{at_most_sorted}
use Rattle.df_rules.proofs.SoundClauses.{Holds, is_held, chosen_holds, IsLine}

-- The tests of clauses, by the truths of their nodes: b, c and d are that the nodes stand there.
not_down : (b c n p : Bool) → b ≡ true → c ≡ true → n ≡ not p → ((b && not n) || ((c && not p) || false)) ≡ true
not_down b c n true e f g = simp (e, f, g)
not_down b c n false e f g = simp (e, f, g)

not_up : (b c n p : Bool) → b ≡ true → c ≡ true → n ≡ not p → ((b && n) || ((c && p) || false)) ≡ true
not_up b c n true e f g = simp (e, f, g)
not_up b c n false e f g = simp (e, f, g)

implies_down : (b c d n p q : Bool) → b ≡ true → c ≡ true → d ≡ true → n ≡ (not p || q) → ((b && not n) || ((c && not p) || ((d && q) || false))) ≡ true
implies_down b c d n true true e f g h = simp (e, f, g, h)
implies_down b c d n true false e f g h = simp (e, f, g, h)
implies_down b c d n false q e f g h = simp (e, f, g, h)

implies_left : (b c n p q : Bool) → b ≡ true → c ≡ true → n ≡ (not p || q) → ((b && n) || ((c && p) || false)) ≡ true
implies_left b c n true true e f g = simp (e, f, g)
implies_left b c n true false e f g = simp (e, f, g)
implies_left b c n false q e f g = simp (e, f, g)

implies_right : (b c n p q : Bool) → b ≡ true → c ≡ true → n ≡ (not p || q) → ((b && n) || ((c && not q) || false)) ≡ true
implies_right b c n true true e f g = simp (e, f, g)
implies_right b c n true false e f g = simp (e, f, g)
implies_right b c n false q e f g = simp (e, f, g)

iff_forward : (b c d n p q : Bool) → b ≡ true → c ≡ true → d ≡ true → n ≡ same_truth p q → ((b && not n) || ((c && not p) || ((d && q) || false))) ≡ true
iff_forward b c d n true true e f g h = simp (e, f, g, h)
iff_forward b c d n true false e f g h = simp (e, f, g, h)
iff_forward b c d n false true e f g h = simp (e, f, g, h)
iff_forward b c d n false false e f g h = simp (e, f, g, h)

iff_back : (b c d n p q : Bool) → b ≡ true → c ≡ true → d ≡ true → n ≡ same_truth p q → ((b && not n) || ((c && p) || ((d && not q) || false))) ≡ true
iff_back b c d n true true e f g h = simp (e, f, g, h)
iff_back b c d n true false e f g h = simp (e, f, g, h)
iff_back b c d n false true e f g h = simp (e, f, g, h)
iff_back b c d n false false e f g h = simp (e, f, g, h)

iff_from_false : (b c d n p q : Bool) → b ≡ true → c ≡ true → d ≡ true → n ≡ same_truth p q → ((b && n) || ((c && p) || ((d && q) || false))) ≡ true
iff_from_false b c d n true true e f g h = simp (e, f, g, h)
iff_from_false b c d n true false e f g h = simp (e, f, g, h)
iff_from_false b c d n false true e f g h = simp (e, f, g, h)
iff_from_false b c d n false false e f g h = simp (e, f, g, h)

iff_from_true : (b c d n p q : Bool) → b ≡ true → c ≡ true → d ≡ true → n ≡ same_truth p q → ((b && n) || ((c && not p) || ((d && not q) || false))) ≡ true
iff_from_true b c d n true true e f g h = simp (e, f, g, h)
iff_from_true b c d n true false e f g h = simp (e, f, g, h)
iff_from_true b c d n false true e f g h = simp (e, f, g, h)
iff_from_true b c d n false false e f g h = simp (e, f, g, h)

-- n is the `and` of p and q
pub and_left : (b c n p q : Bool) → b ≡ true → c ≡ true → n ≡ (p && q) → ((b && not n) || ((c && p) || false)) ≡ true
and_left b c n true true e f g = simp (e, f, g)
and_left b c n true false e f g = simp (e, f, g)
and_left b c n false q e f g = simp (e, f, g)

pub and_right : (b c n p q : Bool) → b ≡ true → c ≡ true → n ≡ (p && q) → ((b && not n) || ((c && q) || false)) ≡ true
and_right b c n true true e f g = simp (e, f, g)
and_right b c n true false e f g = simp (e, f, g)
and_right b c n false q e f g = simp (e, f, g)

pub and_up : (b c d n p q : Bool) → b ≡ true → c ≡ true → d ≡ true → n ≡ (p && q) → ((b && n) || ((c && not p) || ((d && not q) || false))) ≡ true
and_up b c d n true true e f g h = simp (e, f, g, h)
and_up b c d n true false e f g h = simp (e, f, g, h)
and_up b c d n false q e f g h = simp (e, f, g, h)

-- the truths of parts, with those of any number of others
all_down : (b n : Bool) (below is : ℕ → Bool) (parts : List ℕ) → b ≡ true → list_all below parts ≡ true → (n ≡ true → list_all is parts ≡ true)
    → AllByRecursion (λ p. ((b && not n) || ((below p && is p) || false)) ≡ true) parts
all_down b n below is [] e f g = tt
all_down b n below is (p ∷ others) e f g =
    let under = and_parts (below p) (list_all below others) f in
    (one n (below p) (is p) under.0 (λ t. (and_parts (is p) (list_all is others) (g t)).0), all_down b n below is others e under.1 (λ t. (and_parts (is p) (list_all is others) (g t)).1))
  where
    one : (n c q : Bool) → c ≡ true → (n ≡ true → q ≡ true) → ((b && not n) || ((c && q) || false)) ≡ true
    one true c q f g = rw (e, f, g refl) refl
    one false c q f g = rw e refl

all_up : (below is : ℕ → Bool) (parts : List ℕ) → list_all below parts ≡ true → (list_all is parts ≡ true) ⊎ (list_any (λ p. below p && not (is p)) parts ≡ true)
all_up below is [] f = inl refl
all_up below is (p ∷ others) f = next (below p) (is p) refl (and_parts (below p) (list_all below others) f).0 (all_up below is others (and_parts (below p) (list_all below others) f).1)
  where
    next : (c q : Bool) → is p ≡ q → c ≡ true → (list_all is others ≡ true) ⊎ (list_any (λ p. below p && not (is p)) others ≡ true)
        → ((q && list_all is others) ≡ true) ⊎ (((c && not q) || list_any (λ p. below p && not (is p)) others) ≡ true)
    next c true e f (inl h) = inl h
    next c true e f (inr h) = inr (rw (f, h) refl)
    next c false e f h = inr (rw f refl)

any_down : (below is : ℕ → Bool) (parts : List ℕ) → list_all below parts ≡ true → list_any is parts ≡ true → list_any (λ p. below p && is p) parts ≡ true
any_down below is [] f g = g
any_down below is (p ∷ others) f g = next (below p) (is p) (and_parts (below p) (list_all below others) f).0 g (any_down below is others (and_parts (below p) (list_all below others) f).1)
  where
    next : (c q : Bool) → c ≡ true → (q || list_any is others) ≡ true → (list_any is others ≡ true → list_any (λ p. below p && is p) others ≡ true)
        → ((c && q) || list_any (λ p. below p && is p) others) ≡ true
    next c true f g h = rw f refl
    next c false f g h = rw (f, h g) refl

any_up : (b n : Bool) (below is : ℕ → Bool) (parts : List ℕ) → b ≡ true → list_all below parts ≡ true → (list_any is parts ≡ true → n ≡ true)
    → AllByRecursion (λ p. ((b && n) || ((below p && not (is p)) || false)) ≡ true) parts
any_up b n below is [] e f g = tt
any_up b n below is (p ∷ others) e f g =
    let under = and_parts (below p) (list_all below others) f in
    (one (below p) (is p) under.0 g, any_up b n below is others e under.1 (λ t. g (later (is p) t)))
  where
    later : (q : Bool) → list_any is others ≡ true → (q || list_any is others) ≡ true
    later true t = refl
    later false t = t

    one : (c q : Bool) → c ≡ true → ((q || list_any is others) ≡ true → n ≡ true) → ((b && n) || ((c && not q) || false)) ≡ true
    one c true f g = rw (e, f, g refl) refl
    one c false f g = either_way n
      where
        either_way : (n : Bool) → ((b && n) || ((c && true) || false)) ≡ true
        either_way true = simp (e, f)
        either_way false = simp (e, f)

all_mapped : {A B : Type 0} (P : B → Type 0) (f : A → B) (xs : List A) → AllByRecursion (λ x. P (f x)) xs → AllByRecursion P (map f xs)
all_mapped P f [] all = tt
all_mapped P f (x ∷ xs) all = (all.0, all_mapped P f xs all.1)

-- equality of numbers is both ways of <=
equal_is_both : (a b : ℤ) → int_eq a b ≡ (int_le a b && int_le b a)
equal_is_both a b = same_from_decides (int_eq a b) (int_le a b && int_le b a) (Decides-int_eq a b) (from_both, both_from)
  where
    from_both : (int_le a b && int_le b a) ≡ true → a ≡ b
    from_both e = let parts = and_parts (int_le a b) (int_le b a) e in omega (arith, ints, parts.0, parts.1)

    both_from : a ≡ b → (int_le a b && int_le b a) ≡ true
    both_from e = and_from (int_le a b) (int_le b a) (grind (arith, ints)) (grind (arith, ints))

module _ (depth : ℕ) (world : World) (assignment : Assignment) where
  number_sorted : (value : Value) → has_sort sorts.Number value ≡ true → (k : ℤ) × (value ≡ Number k)
  number_sorted (Number k) e = (k, refl)
  number_sorted (Truth b) e = absurd cc
  number_sorted (Character c) e = absurd cc
  number_sorted (Text t) e = absurd cc

  -- the value of a number is one
  pub number_worth : (nodes : List Node) (n : ℕ) → AreSorted nodes → IsNumber nodes n → (k : ℤ) × (worth depth world assignment nodes n ≡ Number k)
  number_worth nodes n all is =
      let at = get_below nodes n is.below in
      let value = worth depth world assignment nodes n in
      let sort : sort_of at.0.op ≡ sorts.Number = sym (sort_here nodes n at.0 at.1) ∙ is.sort in
      let sorted : has_sort (sort_of at.0.op) value ≡ true =
      subst (λ (v : Value). has_sort (sort_of at.0.op) v ≡ true) (sym (value_is depth world assignment nodes n at.0 all at.1)) (apply_sorted depth world assignment at.0.op (map (worth depth world assignment nodes) at.0.parts)) in
      number_sorted value (subst (λ (s : Sort). has_sort s value ≡ true) sort sorted)

  pub node_truth : (nodes : List Node) (n : ℕ) (node : Node) → AreSorted nodes → slice_get nodes n ≡ Some node
      → truth depth world assignment nodes n ≡ truth_of (apply depth world assignment node.op (map (worth depth world assignment nodes) node.parts))
  node_truth nodes n node all e = ap truth_of (value_is depth world assignment nodes n node all e)

  -- a line that makes no node
  pub chosen_line : (nodes : List Node) (clauses : List Clause) (k : ℕ) (added : Added) → AreSorted nodes → AllByRecursion (Holds depth world assignment nodes) clauses → chosen nodes clauses k ≡ Some added
      → IsLine depth world assignment nodes added
  chosen_line nodes clauses k added sorted all e =
      let found = map_some (λ (clause : Clause). record { nodes = nodes; clause = clause }) (slice_get clauses k) added e in
      subst (IsLine depth world assignment nodes) found.2
      (record { grows = grows_not nodes; sorted = sorted; holds = chosen_holds depth world assignment nodes clauses k found.0 all found.1 })

  pub stands_below : (nodes : List Node) (n : ℕ) (node : Node) → slice_get nodes n ≡ Some node → nat_lt n (length nodes) ≡ true
  stands_below nodes n node e = lt-ltb n (length nodes) (slice_get_within nodes n node e)

  pub each_below : (nodes : List Node) (n : ℕ) (node : Node) → AreSorted nodes → slice_get nodes n ≡ Some node → list_all (λ part. nat_lt part (length nodes)) node.parts ≡ true
  each_below nodes n node all e =
      let lt = slice_get_within nodes n node e in
      all_weaker (λ part. nat_lt part n) (λ part. nat_lt part (length nodes)) node.parts (λ part below. lt-ltb part (length nodes) (omega (arith, ltb-true part n below))) (parts_below nodes n node all e)

  not_line : (nodes : List Node) (n k p : ℕ) (added : Added) → AreSorted nodes → slice_get nodes n ≡ Some (record { op = ops.Not; parts = p ∷ [] }) → chosen nodes (not_clauses n p) k ≡ Some added
      → IsLine depth world assignment nodes added
  not_line nodes n k p added all e =
      let node : Node = record { op = ops.Not; parts = p ∷ [] } in
      let is = node_truth nodes n node all e in
      let here = stands_below nodes n node e in
      let parts = and_parts (nat_lt p (length nodes)) true (each_below nodes n node all e) in
      chosen_line nodes (not_clauses n p) k added all (not_down _ _ _ _ here parts.0 is, (not_up _ _ _ _ here parts.0 is, tt))

  and_line : (nodes : List Node) (n k : ℕ) (parts : List ℕ) (added : Added) → AreSorted nodes → slice_get nodes n ≡ Some (record { op = ops.And; parts = parts }) → chosen nodes (and_clauses n parts) k ≡ Some added
      → IsLine depth world assignment nodes added
  and_line nodes n k parts added all e =
      let node : Node = record { op = ops.And; parts = parts } in
      let holds = Holds depth world assignment nodes in
      let below = λ (part : ℕ). nat_lt part (length nodes) in
      let is = λ (part : ℕ). truth depth world assignment nodes part in
      let same : is n ≡ list_all is parts = node_truth nodes n node all e ∙ list_all-map truth_of (worth depth world assignment nodes) parts in
      let here = stands_below nodes n node e in
      let under = each_below nodes n node all e in
      let down = all_down (below n) (is n) below is parts here under (λ t. sym same ∙ t) in
      let up = last (below n) (is n) parts here same (all_up below is parts under) in
      chosen_line nodes (and_clauses n parts) k added all
      (all_joined holds (map (λ p. no n ∷ yes p ∷ []) parts) ((yes n ∷ map no parts) ∷ []) (all_mapped holds (λ p. no n ∷ yes p ∷ []) parts down) (up, tt))
    where
      last : (b m : Bool) (parts : List ℕ) → b ≡ true → m ≡ list_all (λ part. truth depth world assignment nodes part) parts
          → (list_all (λ part. truth depth world assignment nodes part) parts ≡ true) ⊎ (list_any (λ part. nat_lt part (length nodes) && not (truth depth world assignment nodes part)) parts ≡ true)
          → ((b && m) || list_any (is_held depth world assignment nodes) (map no parts)) ≡ true
      last b m parts e f (inl h) = rw (e, f ∙ h) refl
      last b m parts e f (inr h) = rw (any_mapped (is_held depth world assignment nodes) no parts ∙ h) (ends (b && m))
        where
          ends : (b : Bool) → (b || true) ≡ true
          ends true = refl
          ends false = refl

  or_line : (nodes : List Node) (n k : ℕ) (parts : List ℕ) (added : Added) → AreSorted nodes → slice_get nodes n ≡ Some (record { op = ops.Or; parts = parts }) → chosen nodes (or_clauses n parts) k ≡ Some added
      → IsLine depth world assignment nodes added
  or_line nodes n k parts added all e =
      let node : Node = record { op = ops.Or; parts = parts } in
      let holds = Holds depth world assignment nodes in
      let below = λ (part : ℕ). nat_lt part (length nodes) in
      let is = λ (part : ℕ). truth depth world assignment nodes part in
      let same : is n ≡ list_any is parts = node_truth nodes n node all e ∙ any_mapped truth_of (worth depth world assignment nodes) parts in
      let here = stands_below nodes n node e in
      let under = each_below nodes n node all e in
      let up = any_up (below n) (is n) below is parts here under (λ t. same ∙ t) in
      let down = first (below n) (is n) here (λ t. any_mapped (is_held depth world assignment nodes) yes parts ∙ any_down below is parts under (sym same ∙ t)) in
      chosen_line nodes (or_clauses n parts) k added all (down, all_mapped holds (λ p. yes n ∷ no p ∷ []) parts up)
    where
      first : (b m : Bool) → b ≡ true → (m ≡ true → list_any (is_held depth world assignment nodes) (map yes parts) ≡ true) → ((b && not m) || list_any (is_held depth world assignment nodes) (map yes parts)) ≡ true
      first b true e f = rw (e, f refl) refl
      first b false e f = rw e refl

  implies_line : (nodes : List Node) (n k p q : ℕ) (added : Added) → AreSorted nodes → slice_get nodes n ≡ Some (record { op = ops.Implies; parts = p ∷ q ∷ [] }) → chosen nodes (implies_clauses n p q) k ≡ Some added
      → IsLine depth world assignment nodes added
  implies_line nodes n k p q added all e =
      let node : Node = record { op = ops.Implies; parts = p ∷ q ∷ [] } in
      let is = node_truth nodes n node all e in
      let here = stands_below nodes n node e in
      let first = and_parts (nat_lt p (length nodes)) (nat_lt q (length nodes) && true) (each_below nodes n node all e) in
      let second = and_parts (nat_lt q (length nodes)) true first.1 in
      chosen_line nodes (implies_clauses n p q) k added all (
        implies_down _ _ _ _ _ _ here first.0 second.0 is,
        (
          implies_left _ _ _ _ (truth depth world assignment nodes q) here first.0 is,
          (implies_right _ _ _ (truth depth world assignment nodes p) _ here second.0 is, tt),
        ),
      )

  iff_line : (nodes : List Node) (n k p q : ℕ) (added : Added) → AreSorted nodes → slice_get nodes n ≡ Some (record { op = ops.Iff; parts = p ∷ q ∷ [] }) → chosen nodes (iff_clauses n p q) k ≡ Some added
      → IsLine depth world assignment nodes added
  iff_line nodes n k p q added all e =
      let node : Node = record { op = ops.Iff; parts = p ∷ q ∷ [] } in
      let is = node_truth nodes n node all e in
      let here = stands_below nodes n node e in
      let first = and_parts (nat_lt p (length nodes)) (nat_lt q (length nodes) && true) (each_below nodes n node all e) in
      let second = and_parts (nat_lt q (length nodes)) true first.1 in
      chosen_line nodes (iff_clauses n p q) k added all (
        iff_forward _ _ _ _ _ _ here first.0 second.0 is,
        (
          iff_back _ _ _ _ _ _ here first.0 second.0 is,
          (
            iff_from_false _ _ _ _ _ _ here first.0 second.0 is,
            (iff_from_true _ _ _ _ _ _ here first.0 second.0 is, tt),
          ),
        ),
      )

  -- the truth of a comparison
  pub at_most_truth : (nodes : List Node) (n a b : ℕ) → AreSorted nodes → slice_get nodes n ≡ Some (at_most a b)
      → truth depth world assignment nodes n ≡ int_le (number_at (values depth world assignment nodes) a) (number_at (values depth world assignment nodes) b)
  at_most_truth nodes n a b all e = node_truth nodes n (at_most a b) all e

  equal_values : (v w : Value) (j k : ℤ) → v ≡ Number j → w ≡ Number k → same_value v w ≡ int_eq j k
  equal_values v w j k e f = rw (e, f) refl

  -- the truth of an equality of numbers
  pub equal_truth : (nodes : List Node) (n a b : ℕ) → AreSorted nodes → slice_get nodes n ≡ Some (record { op = ops.Equal; parts = a ∷ b ∷ [] }) → IsNumber nodes a → IsNumber nodes b
      → truth depth world assignment nodes n ≡ (int_le (number_at (values depth world assignment nodes) a) (number_at (values depth world assignment nodes) b) && int_le (number_at (values depth world assignment nodes) b) (number_at (values depth world assignment nodes) a))
  equal_truth nodes n a b all e p q =
      let known = values depth world assignment nodes in
      let first = number_worth nodes a all p in
      let second = number_worth nodes b all q in
      let same = equal_values (value_at known a) (value_at known b) first.0 second.0 first.1 second.1 in
      let left : first.0 ≡ number_at known a = ap number_of (sym first.1) in
      let right : second.0 ≡ number_at known b = ap number_of (sym second.1) in
      node_truth nodes n (record { op = ops.Equal; parts = a ∷ b ∷ [] }) all e ∙ same ∙ (λ i. int_eq (left i) (right i)) ∙ equal_is_both (number_at known a) (number_at known b)

  -- the number of a node
  abbrev pub number_in : List Node → ℕ → ℤ
  number_in nodes n = number_at (values depth world assignment nodes) n

  equal_line : (nodes : List Node) (n k a b : ℕ) (added : Added) → AreSorted nodes → slice_get nodes n ≡ Some (record { op = ops.Equal; parts = a ∷ b ∷ [] }) → IsNumber nodes a → IsNumber nodes b → equal_clause nodes n a b k ≡ Some added
      → IsLine depth world assignment nodes added
  equal_line nodes n zero a b added all e p q is =
      let node : Node = record { op = ops.Equal; parts = a ∷ b ∷ [] } in
      let up = made nodes (at_most a b) in
      let now = up.nodes in
      let first = made_stands nodes (at_most a b) all (at_most_sorted nodes a b p q) in
      let there = grown_get nodes now first.grows n node e in
      let equal = equal_truth now n a b first.sorted there (grown_number nodes now first.grows a p) (grown_number nodes now first.grows b q) in
      let more = at_most_truth now up.number a b first.sorted first.there in
      let holds = and_left _ _ _ _ (int_le (number_in now b) (number_in now a)) (stands_below now n node there) (stands_below now up.number (at_most a b) first.there) (equal ∙ ap (λ t. t && int_le (number_in now b) (number_in now a)) (sym more)) in
      subst (IsLine depth world assignment nodes) (same_Some _ added is) (record { grows = first.grows; sorted = first.sorted; holds = holds })
  equal_line nodes n (suc zero) a b added all e p q is =
      let node : Node = record { op = ops.Equal; parts = a ∷ b ∷ [] } in
      let down = made nodes (at_most b a) in
      let now = down.nodes in
      let first = made_stands nodes (at_most b a) all (at_most_sorted nodes b a q p) in
      let there = grown_get nodes now first.grows n node e in
      let equal = equal_truth now n a b first.sorted there (grown_number nodes now first.grows a p) (grown_number nodes now first.grows b q) in
      let more = at_most_truth now down.number b a first.sorted first.there in
      let holds = and_right _ _ _ (int_le (number_in now a) (number_in now b)) _ (stands_below now n node there) (stands_below now down.number (at_most b a) first.there) (equal ∙ ap (λ t. int_le (number_in now a) (number_in now b) && t) (sym more)) in
      subst (IsLine depth world assignment nodes) (same_Some _ added is) (record { grows = first.grows; sorted = first.sorted; holds = holds })
  equal_line nodes n (suc (suc zero)) a b added all e p q is =
      let node : Node = record { op = ops.Equal; parts = a ∷ b ∷ [] } in
      let up = made nodes (at_most a b) in
      let down = made up.nodes (at_most b a) in
      let now = down.nodes in
      let first = made_stands nodes (at_most a b) all (at_most_sorted nodes a b p q) in
      let a_first = grown_number nodes up.nodes first.grows a p in
      let b_first = grown_number nodes up.nodes first.grows b q in
      let second = made_stands up.nodes (at_most b a) first.sorted (at_most_sorted up.nodes b a b_first a_first) in
      let there = grown_get up.nodes now second.grows n node (grown_get nodes up.nodes first.grows n node e) in
      let up_there = grown_get up.nodes now second.grows up.number (at_most a b) first.there in
      let equal = equal_truth now n a b second.sorted there (grown_number up.nodes now second.grows a a_first) (grown_number up.nodes now second.grows b b_first) in
      let one = at_most_truth now up.number a b second.sorted up_there in
      let other = at_most_truth now down.number b a second.sorted second.there in
      let holds = and_up _ _ _ _ _ _ (stands_below now n node there) (stands_below now up.number (at_most a b) up_there) (stands_below now down.number (at_most b a) second.there) (equal ∙ (λ i. sym one i && sym other i)) in
      subst (IsLine depth world assignment nodes) (same_Some _ added is) (record { grows = grows_twice nodes up.nodes now first.grows second.grows; sorted = second.sorted; holds = holds })
  equal_line nodes n (suc (suc (suc k))) a b added all e p q is = absurd cc

  by_sort : (sort : Sort) (nodes : List Node) (n k a b : ℕ) (added : Added) → sort_at nodes a ≡ sort → AreSorted nodes → slice_get nodes n ≡ Some (record { op = ops.Equal; parts = a ∷ b ∷ [] }) → equal_by_sort sort nodes n a b k ≡ Some added
      → IsLine depth world assignment nodes added
  by_sort sorts.Number nodes n k a b added sort all e is =
      let node : Node = record { op = ops.Equal; parts = a ∷ b ∷ [] } in
      let first = and_parts (nat_lt a (length nodes)) (nat_lt b (length nodes) && true) (each_below nodes n node all e) in
      let second = and_parts (nat_lt b (length nodes)) true first.1 in
      let alike = values_alike (sort_at nodes a) (sort_at nodes b) (parts_taken nodes n node all e) in
      equal_line nodes n k a b added all e (record { below = ltb-true a (length nodes) first.0; sort = sort }) (record { below = ltb-true b (length nodes) second.0; sort = sym alike ∙ sort }) is
  by_sort sorts.Truth nodes n k a b added sort all e is = absurd cc
  by_sort sorts.Character nodes n k a b added sort all e is = absurd cc

  connective_of : (nodes : List Node) (n k : ℕ) (op : Op) (parts : List ℕ) (added : Added) → AreSorted nodes → slice_get nodes n ≡ Some (record { op = op; parts = parts }) → connective_clause nodes n k op parts ≡ Some added
      → IsLine depth world assignment nodes added
  connective_of nodes n k ops.Not (p ∷ []) added all e is = not_line nodes n k p added all e is
  connective_of nodes n k ops.And parts added all e is = and_line nodes n k parts added all e is
  connective_of nodes n k ops.Or parts added all e is = or_line nodes n k parts added all e is
  connective_of nodes n k ops.Implies (p ∷ q ∷ []) added all e is = implies_line nodes n k p q added all e is
  connective_of nodes n k ops.Iff (p ∷ q ∷ []) added all e is = iff_line nodes n k p q added all e is
  connective_of nodes n k ops.Equal (p ∷ q ∷ []) added all e is = by_sort (sort_at nodes p) nodes n k p q added refl all e is
  connective_of nodes n k op parts added all e is = absurd cc

  pub connective_is_line : (nodes : List Node) (n k : ℕ) (added : Added) → AreSorted nodes → connective_line nodes n k ≡ Some added → IsLine depth world assignment nodes added
  connective_is_line nodes n k added all is =
      let found = then_some (λ (node : Node). connective_clause nodes n k node.op node.parts) (slice_get nodes n) added is in
      connective_of nodes n k found.0.op found.0.parts added all found.1 found.2
