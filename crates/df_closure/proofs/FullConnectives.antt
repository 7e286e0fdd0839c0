-- Known connectives are true by their parts.
use Rattle.std.proofs.Common.{◌≡◌, ℕ, suc, ◌<◌, ◌⊎◌, inl, inr, ℤ, Bool, true, false, not, ◌&&◌, ◌||◌, List, [], ◌∷◌, ◌++◌, map, length, Option, Some, slice_get, nat_lt, refl, sym, ap, ◌∙◌, subst, true≢false, ltb-true}
use Rattle.std.specs.Option.{option_and_then}
use Rattle.std.specs.List.{list_all, list_any}
use Rattle.std.proofs.lemmas.Bool.{and_from, or_cases, or_left, or_right, and_parts}
use Rattle.df_lemmas.proofs.Lists.{get_last}
use Rattle.df_meaning.specs.Value.{same_truth}
use Rattle.df_form.specs.declared.log.Lit.{Lit}
use Rattle.df_form.specs.declared.node.Op.TheVariants as ops
use Rattle.df_form.specs.Node.{Node}
use Rattle.df_form.specs.Clause.{Clause, yes, no, is_among}
use Rattle.df_form.proofs.Values.{AreSorted, parts_below}
use Rattle.df_rules.specs.Connective.{Added, and_clauses, connective_clause}
use Rattle.df_closure.specs.Full.{IsMet, IsConsistent, AreConnectivesMet}
use Rattle.df_closure.specs.Reading.{IsReading}
use Rattle.df_closure.proofs.Knowing.{and_false, known_of, one_left, two_left, rest_yes, rest_no}

-- truths of connectives by those of two parts
implies_true : (a b : Bool) → (not a ≡ true) ⊎ (b ≡ true) → (not a || b) ≡ true
implies_true true b (inl e) = absurd (true≢false (sym e))
implies_true true b (inr e) = e
implies_true false b e = refl

implies_false : (a b : Bool) → a ≡ true → not b ≡ true → not (not a || b) ≡ true
implies_false true b e f = f
implies_false false b e f = absurd (true≢false (sym e))

iff_true : (a b : Bool) → (not a ≡ true) ⊎ (b ≡ true) → (a ≡ true) ⊎ (not b ≡ true) → same_truth a b ≡ true
iff_true true true e f = refl
iff_true true false (inl e) f = absurd (true≢false (sym e))
iff_true true false (inr e) f = absurd (true≢false (sym e))
iff_true false true e (inl f) = absurd (true≢false (sym f))
iff_true false true e (inr f) = absurd (true≢false (sym f))
iff_true false false e f = refl

iff_false : (a b : Bool) → (a ≡ true) ⊎ (b ≡ true) → (not a ≡ true) ⊎ (not b ≡ true) → not (same_truth a b) ≡ true
iff_false true true e (inl f) = absurd (true≢false (sym f))
iff_false true true e (inr f) = absurd (true≢false (sym f))
iff_false true false e f = refl
iff_false false true e f = refl
iff_false false false (inl e) f = absurd (true≢false (sym e))
iff_false false false (inr e) f = absurd (true≢false (sym e))

-- What is needed of a list: what it knows of connectives is met, and no literal is known with its negation.
pub record IsReadList (nodes : List Node) (known : List Lit) (v : ℕ → ℤ) (t : ℕ → Bool) : Type 0 where
  pub sorted : AreSorted nodes
  pub reading : IsReading nodes v t
  pub connectives : AreConnectivesMet nodes known
  pub consistent : IsConsistent known

module _ (nodes : List Node) (known : List Lit) (v : ℕ → ℤ) (t : ℕ → Bool) (r : IsReadList nodes known v t) where
  -- a literal by its sign and its node
  abbrev pub Knows : Bool → ℕ → Type 0
  Knows b m = is_among known (record { positive = b; node = m }) ≡ true

  abbrev Known : Clause → Type 0
  Known clause = list_any (is_among known) clause ≡ true

  -- what is known of the nodes below is true
  abbrev pub AreTrueBelow : ℕ → Type 0
  AreTrueBelow n = (b : Bool) (m : ℕ) → m < n → Knows b m → same_truth b (t m) ≡ true

  module _ (n : ℕ) (node : Node) (there : slice_get nodes n ≡ Some node) where
    pub met : (b : Bool) (k : ℕ) (added : Added) → Knows b n → connective_clause nodes n k node.op node.parts ≡ Some added → IsMet nodes known added
    met b k added is e = r.connectives n k added (known_of known b n is) (ap (λ (o : Option Node). option_and_then (λ (m : Node). connective_clause nodes n k m.op m.parts) o) there ∙ e)

  pub not_holds : (n p : ℕ) → slice_get nodes n ≡ Some (record { op = ops.Not; parts = p ∷ [] }) → AreTrueBelow n → (b : Bool) → Knows b n → same_truth b (t n) ≡ true
  not_holds n p there below true is =
      let node : Node = record { op = ops.Not; parts = p ∷ [] } in
      let lt = ltb-true p n (and_parts (nat_lt p n) true (parts_below nodes n node r.sorted there)).0 in
      let clause = met n node there true 0 (record { nodes = nodes; clause = no n ∷ no p ∷ [] }) is refl in
      r.reading.negated n p there ∙ below false p lt (one_left known (no p) (rest_yes known r.consistent n (no p ∷ []) is clause.one))
  not_holds n p there below false is =
      let node : Node = record { op = ops.Not; parts = p ∷ [] } in
      let lt = ltb-true p n (and_parts (nat_lt p n) true (parts_below nodes n node r.sorted there)).0 in
      let clause = met n node there false 1 (record { nodes = nodes; clause = yes n ∷ yes p ∷ [] }) is refl in
      let part : t p ≡ true = below true p lt (one_left known (yes p) (rest_no known r.consistent n (yes p ∷ []) is clause.one)) in
      ap not (r.reading.negated n p there ∙ ap not part)

  -- two parts below the node
  two_below : (n p q : ℕ) (node : Node) → slice_get nodes n ≡ Some node → node.parts ≡ p ∷ q ∷ [] → (p < n) × (q < n)
  two_below n p q node there e =
      let all = subst (λ (parts : List ℕ). list_all (λ part. nat_lt part n) parts ≡ true) e (parts_below nodes n node r.sorted there) in
      let first = and_parts (nat_lt p n) (nat_lt q n && true) all in
      (ltb-true p n first.0, ltb-true q n (and_parts (nat_lt q n) true first.1).0)

  -- what two literals of parts say
  two_true : (n p q : ℕ) (b c : Bool) → AreTrueBelow n → p < n → q < n → Known (record { positive = b; node = p } ∷ record { positive = c; node = q } ∷ []) → (same_truth b (t p) ≡ true) ⊎ (same_truth c (t q) ≡ true)
  two_true n p q b c below lt1 lt2 e = next (two_left known (record { positive = b; node = p }) (record { positive = c; node = q }) e)
    where
      next : Knows b p ⊎ Knows c q → (same_truth b (t p) ≡ true) ⊎ (same_truth c (t q) ≡ true)
      next (inl here) = inl (below b p lt1 here)
      next (inr here) = inr (below c q lt2 here)

  pub implies_holds : (n p q : ℕ) → slice_get nodes n ≡ Some (record { op = ops.Implies; parts = p ∷ q ∷ [] }) → AreTrueBelow n → (b : Bool) → Knows b n → same_truth b (t n) ≡ true
  implies_holds n p q there below true is =
      let node : Node = record { op = ops.Implies; parts = p ∷ q ∷ [] } in
      let lt = two_below n p q node there refl in
      let clause = met n node there true 0 (record { nodes = nodes; clause = no n ∷ no p ∷ yes q ∷ [] }) is refl in
      r.reading.implied n p q there ∙ implies_true (t p) (t q) (two_true n p q false true below lt.0 lt.1 (rest_yes known r.consistent n (no p ∷ yes q ∷ []) is clause.one))
  implies_holds n p q there below false is =
      let node : Node = record { op = ops.Implies; parts = p ∷ q ∷ [] } in
      let lt = two_below n p q node there refl in
      let first = met n node there false 1 (record { nodes = nodes; clause = yes n ∷ yes p ∷ [] }) is refl in
      let second = met n node there false 2 (record { nodes = nodes; clause = yes n ∷ no q ∷ [] }) is refl in
      let left = below true p lt.0 (one_left known (yes p) (rest_no known r.consistent n (yes p ∷ []) is first.one)) in
      let right = below false q lt.1 (one_left known (no q) (rest_no known r.consistent n (no q ∷ []) is second.one)) in
      ap not (r.reading.implied n p q there) ∙ implies_false (t p) (t q) left right

  pub iff_holds : (n p q : ℕ) → slice_get nodes n ≡ Some (record { op = ops.Iff; parts = p ∷ q ∷ [] }) → AreTrueBelow n → (b : Bool) → Knows b n → same_truth b (t n) ≡ true
  iff_holds n p q there below true is =
      let node : Node = record { op = ops.Iff; parts = p ∷ q ∷ [] } in
      let lt = two_below n p q node there refl in
      let first = met n node there true 0 (record { nodes = nodes; clause = no n ∷ no p ∷ yes q ∷ [] }) is refl in
      let second = met n node there true 1 (record { nodes = nodes; clause = no n ∷ yes p ∷ no q ∷ [] }) is refl in
      r.reading.alike n p q there
      ∙ iff_true (t p) (t q) (two_true n p q false true below lt.0 lt.1 (rest_yes known r.consistent n (no p ∷ yes q ∷ []) is first.one)) (two_true n p q true false below lt.0 lt.1 (rest_yes known r.consistent n (yes p ∷ no q ∷ []) is second.one))
  iff_holds n p q there below false is =
      let node : Node = record { op = ops.Iff; parts = p ∷ q ∷ [] } in
      let lt = two_below n p q node there refl in
      let first = met n node there false 2 (record { nodes = nodes; clause = yes n ∷ yes p ∷ yes q ∷ [] }) is refl in
      let second = met n node there false 3 (record { nodes = nodes; clause = yes n ∷ no p ∷ no q ∷ [] }) is refl in
      ap not (r.reading.alike n p q there)
      ∙ iff_false (t p) (t q) (two_true n p q true true below lt.0 lt.1 (rest_no known r.consistent n (yes p ∷ yes q ∷ []) is first.one)) (two_true n p q false false below lt.0 lt.1 (rest_no known r.consistent n (no p ∷ no q ∷ []) is second.one))

  -- what is known of each part
  all_true : (n : ℕ) → AreTrueBelow n → Knows true n → (parts : List ℕ) (more : List Clause) → list_all (λ part. nat_lt part n) parts ≡ true
      → ((k : ℕ) (clause : Clause) → slice_get (map (λ p. no n ∷ yes p ∷ []) parts ++ more) k ≡ Some clause → Known clause) → list_all t parts ≡ true
  all_true n below is [] more lt at = refl
  all_true n below is (p ∷ others) more lt at =
      let first = and_parts (nat_lt p n) (list_all (λ part. nat_lt part n) others) lt in
      and_from (t p) (list_all t others) (below true p (ltb-true p n first.0) (one_left known (yes p) (rest_yes known r.consistent n (yes p ∷ []) is (at 0 (no n ∷ yes p ∷ []) refl))))
      (all_true n below is others more first.1 (λ k clause e. at (suc k) clause e))

  none_true : (n : ℕ) → AreTrueBelow n → Knows false n → (parts : List ℕ) → list_all (λ part. nat_lt part n) parts ≡ true
      → ((k : ℕ) (clause : Clause) → slice_get (map (λ p. yes n ∷ no p ∷ []) parts) k ≡ Some clause → Known clause) → not (list_any t parts) ≡ true
  none_true n below is [] lt at = refl
  none_true n below is (p ∷ others) lt at =
      let first = and_parts (nat_lt p n) (list_all (λ part. nat_lt part n) others) lt in
      neither_true (t p) (list_any t others) (below false p (ltb-true p n first.0) (one_left known (no p) (rest_no known r.consistent n (no p ∷ []) is (at 0 (yes n ∷ no p ∷ []) refl))))
      (none_true n below is others first.1 (λ k clause e. at (suc k) clause e))
    where
      neither_true : (a b : Bool) → not a ≡ true → not b ≡ true → not (a || b) ≡ true
      neither_true true b e f = absurd (true≢false (sym e))
      neither_true false b e f = f

  one_false : (n : ℕ) → AreTrueBelow n → (parts : List ℕ) → list_all (λ part. nat_lt part n) parts ≡ true → Known (map no parts) → not (list_all t parts) ≡ true
  one_false n below [] lt e = absurd (true≢false (sym e))
  one_false n below (p ∷ others) lt e =
      let first = and_parts (nat_lt p n) (list_all (λ part. nat_lt part n) others) lt in
      and_false (t p) (list_all t others) (next first.0 (or_cases (is_among known (no p)) (list_any (is_among known) (map no others)) e) (one_false n below others first.1))
    where
      next : nat_lt p n ≡ true → Knows false p ⊎ Known (map no others) → (Known (map no others) → not (list_all t others) ≡ true) → (not (t p) ≡ true) ⊎ (not (list_all t others) ≡ true)
      next lt (inl here) go = inl (below false p (ltb-true p n lt) here)
      next lt (inr rest) go = inr (go rest)

  one_true : (n : ℕ) → AreTrueBelow n → (parts : List ℕ) → list_all (λ part. nat_lt part n) parts ≡ true → Known (map yes parts) → list_any t parts ≡ true
  one_true n below [] lt e = absurd (true≢false (sym e))
  one_true n below (p ∷ others) lt e =
      let first = and_parts (nat_lt p n) (list_all (λ part. nat_lt part n) others) lt in
      next first.0 (or_cases (is_among known (yes p)) (list_any (is_among known) (map yes others)) e) (one_true n below others first.1)
    where
      next : nat_lt p n ≡ true → Knows true p ⊎ Known (map yes others) → (Known (map yes others) → list_any t others ≡ true) → (t p || list_any t others) ≡ true
      next lt (inl here) go = or_left (t p) (list_any t others) (below true p (ltb-true p n lt) here)
      next lt (inr rest) go = or_right (t p) (list_any t others) (go rest)

  pub and_holds : (n : ℕ) (parts : List ℕ) → slice_get nodes n ≡ Some (record { op = ops.And; parts = parts }) → AreTrueBelow n → (b : Bool) → Knows b n → same_truth b (t n) ≡ true
  and_holds n parts there below true is =
      let node : Node = record { op = ops.And; parts = parts } in
      let chosen_is = λ (k : ℕ) (clause : Clause) (e : slice_get (and_clauses n parts) k ≡ Some clause). (met n node there true k (record { nodes = nodes; clause = clause }) is (rw e refl)).one in
      r.reading.all n parts there
      ∙ all_true n below is parts ((yes n ∷ map no parts) ∷ []) (parts_below nodes n node r.sorted there) chosen_is
  and_holds n parts there below false is =
      let node : Node = record { op = ops.And; parts = parts } in
      let last = get_last (map (λ p. no n ∷ yes p ∷ []) parts) (yes n ∷ map no parts) in
      let clause = met n node there false (length (map (λ p. no n ∷ yes p ∷ []) parts)) (record { nodes = nodes; clause = yes n ∷ map no parts }) is (rw last refl) in
      ap not (r.reading.all n parts there)
      ∙ one_false n below parts (parts_below nodes n node r.sorted there) (rest_no known r.consistent n (map no parts) is clause.one)

  pub or_holds : (n : ℕ) (parts : List ℕ) → slice_get nodes n ≡ Some (record { op = ops.Or; parts = parts }) → AreTrueBelow n → (b : Bool) → Knows b n → same_truth b (t n) ≡ true
  or_holds n parts there below true is =
      let node : Node = record { op = ops.Or; parts = parts } in
      let clause = met n node there true 0 (record { nodes = nodes; clause = no n ∷ map yes parts }) is refl in
      r.reading.any n parts there
      ∙ one_true n below parts (parts_below nodes n node r.sorted there) (rest_yes known r.consistent n (map yes parts) is clause.one)
  or_holds n parts there below false is =
      let node : Node = record { op = ops.Or; parts = parts } in
      let chosen_is = λ (k : ℕ) (clause : Clause) (e : slice_get (map (λ p. yes n ∷ no p ∷ []) parts) k ≡ Some clause). (met n node there false (suc k) (record { nodes = nodes; clause = clause }) is (rw e refl)).one in
      ap not (r.reading.any n parts there)
      ∙ none_true n below is parts (parts_below nodes n node r.sorted there) chosen_is
