-- One more literal: the signs and numbers of classes cover it too, and where they show no clash there is none.
use Rattle.std.proofs.Common.{◌≡◌, ℕ, ℤ, ◌+◌, ◌<◌, ◌≤◌, ◌⊎◌, inl, inr, true, false, nat_lt, List, [], ◌∷◌, ◌++◌, length, map, drop, Contains, Option, None, Some, slice_get, refl, sym, ap, ◌∙◌, subst, arith, true≢false}
use Rattle.std.specs.List.{list_any}
use Rattle.std.proofs.lemmas.Bool.{and_parts, and_from, or_left, or_right, ltb-true}
use Rattle.std.proofs.lemmas.Option.{same_Some, none-some, slice_get_within}
use Rattle.std.proofs.lemmas.List.Elements.{Contains-append_left, Contains-push, Contains-push_cases}
use Rattle.df_form.specs.declared.log.Lit.{Lit}
use Rattle.df_form.specs.declared.log.Pair.{Pair}
use Rattle.df_form.specs.declared.node.Sort.TheVariants as sorts
use Rattle.df_form.specs.Node.{Node, same_sort}
use Rattle.df_form.specs.Sorting.{is_formula, sort_at}
use Rattle.df_form.specs.Clause.{yes, no, negation, are_literals}
use Rattle.df_row.specs.Row.{literal_number}
use Rattle.df_rules.specs.Congruence.{equality}
use Rattle.df_rules.specs.CongruenceLine.{is_paired, number_at}
use Rattle.df_classes.specs.declared.partition.Change.{Change}
use Rattle.df_classes.specs.Equal.{AreEqual, IsContradicted, equals, opposites, numbers}
use Rattle.df_classes.specs.HoldingView.{held_equalities}
use Rattle.df_classes.specs.SignsView.{is_torn, may_be_denied, clashes_at, clashes_by, TakesIn}
use Rattle.df_classes.specs.mirror.State.{State, label_of, list_at, back}
use Rattle.df_classes.specs.mirror.Closure.{StandsBut, AreUsers}
use Rattle.df_classes.specs.mirror.Clash.{is_denied}
use Rattle.df_classes.specs.mirror.Signs.{is_stamped, HasNumber, Tables, KeepsTables, AreWide, CarriesNode, Carries, Marks, Covers}
use Rattle.df_classes.proofs.Labels.{labels_are_exact}
use Rattle.df_classes.proofs.Standing.{standing_labels}
use Rattle.df_classes.proofs.Parts.{all_at}
use Rattle.df_classes.proofs.Clashes.{there_any, mapped_there, there_mapped, same_label}
use Rattle.df_classes.proofs.Stamping.{stamped_later, number_stays, number_later}
use Rattle.df_classes.proofs.Moves.{MovedFrom, moved_from}

-- ---- nodes

-- the node of a literal is one
pub formula_inside : (nodes : List Node) (n : ℕ) → is_formula nodes n ≡ true → n < length nodes
formula_inside nodes n e = ltb-true n (length nodes) (and_parts (nat_lt n (length nodes)) (same_sort (sort_at nodes n) sorts.Truth) e).0

pub number_inside : (nodes : List Node) (n : ℕ) (k : ℤ) → number_at nodes n ≡ Some k → n < length nodes
number_inside nodes n k e = by (slice_get nodes n) refl
  where
    by : (o : Option Node) → slice_get nodes n ≡ o → n < length nodes
    by None is = absurd (none-some k (sym (ap literal_number is) ∙ e))
    by (Some node) is = slice_get_within nodes n node is

-- the sides of an equality are its parts
pub record HasSides (nodes : List Node) (n : ℕ) (pair : Pair) : Type 0 where
  pub node : Node
  pub at : slice_get nodes n ≡ Some node
  pub left : Contains node.parts pair.left
  pub right : Contains node.parts pair.right

-- ---- the step

module _ (nodes : List Node) (users : List (List ℕ)) (users_are : AreUsers nodes users) (before : List Lit) (l : Lit) (first_pairs pairs : List Pair) (was s : State) (trail : List Change) (from t : ℕ) (old new : Tables)
    (stood : StandsBut nodes (held_equalities nodes before) first_pairs was []) (stands : StandsBut nodes (held_equalities nodes (before ++ l ∷ [])) pairs s []) (led : back (drop from trail) s ≡ was) (count : t ≡ length before + 1)
    (literals : are_literals nodes (before ++ l ∷ []) ≡ true) (wide : AreWide (length nodes) old) (keeps : KeepsTables t old new) (covers : Covers nodes before (label_of was) (length before) old) (takes : TakesIn nodes users s t l trail from old new) where
  moves : (n : ℕ) → (label_of was n ≡ label_of s n) ⊎ MovedFrom trail from n (label_of was n)
  moves n = moved_from trail from s was n led

  carried : (n : ℕ) → MovedFrom trail from n (label_of was n) → CarriesNode nodes (label_of s) t n (label_of was n) old new
  carried n h = subst (λ (c : Option Change). Carries nodes (label_of s) t c old new) h.at (takes.carries h.place h.late h.early)

  no_clash : (n : ℕ) → MovedFrom trail from n (label_of was n) → clashes_at nodes users (label_of s) t new n ≡ false
  no_clash n h = sym (ap (clashes_by nodes users (label_of s) t new) h.at) ∙ takes.calm h.place h.late h.early

  node_inside : (m : Lit) → Contains (before ++ l ∷ []) m → m.node < length nodes
  node_inside m there = formula_inside nodes m.node (all_at (λ (x : Lit). is_formula nodes x.node) (before ++ l ∷ []) m literals there)

  later : length before ≤ t
  later = omega (arith, count)

  -- ---- what is known

  positive_known : (m : Lit) → Contains before m → m.positive ≡ true → is_stamped new.positives (label_of s m.node) t ≡ true
  positive_known m there e = by (moves m.node)
    where
      known : is_stamped old.positives (label_of was m.node) t ≡ true
      known = stamped_later old.positives (label_of was m.node) (length before) t later ((covers.signs m there).positive e)

      inside : label_of s m.node < length old.positives
      inside = let less = stands.partition.within m.node (node_inside m (Contains-append_left before (l ∷ []) m there)) in omega (arith, less, wide.positives)

      by : (label_of was m.node ≡ label_of s m.node) ⊎ MovedFrom trail from m.node (label_of was m.node) → is_stamped new.positives (label_of s m.node) t ≡ true
      by (inl same) = subst (λ (c : ℕ). is_stamped new.positives c t ≡ true) same (keeps.positives.stay (label_of was m.node) t (omega arith) known)
      by (inr h) = (carried m.node h).positive known inside

  negative_known : (m : Lit) → Contains before m → m.positive ≡ false → is_stamped new.negatives (label_of s m.node) t ≡ true
  negative_known m there e = by (moves m.node)
    where
      known : is_stamped old.negatives (label_of was m.node) t ≡ true
      known = stamped_later old.negatives (label_of was m.node) (length before) t later ((covers.signs m there).negative e)

      inside : label_of s m.node < length old.negatives
      inside = let less = stands.partition.within m.node (node_inside m (Contains-append_left before (l ∷ []) m there)) in omega (arith, less, wide.negatives)

      by : (label_of was m.node ≡ label_of s m.node) ⊎ MovedFrom trail from m.node (label_of was m.node) → is_stamped new.negatives (label_of s m.node) t ≡ true
      by (inl same) = subst (λ (c : ℕ). is_stamped new.negatives c t ≡ true) same (keeps.negatives.stay (label_of was m.node) t (omega arith) known)
      by (inr h) = (carried m.node h).negative known inside

  last_known : Marks (label_of s) t l new
  last_known = takes.marks (stands.partition.within l.node (node_inside l (Contains-push before l)))

  sign_known : (m : Lit) → Contains (before ++ l ∷ []) m → Marks (label_of s) t m new
  sign_known m there = by (Contains-push_cases before l m there)
    where
      by : Contains before m ⊎ (l ≡ m) → Marks (label_of s) t m new
      by (inl is) = record { positive = positive_known m is; negative = negative_known m is }
      by (inr e) = subst (λ (x : Lit). Marks (label_of s) t x new) e last_known

  number_known : (n : ℕ) (k : ℤ) → number_at nodes n ≡ Some k → HasNumber nodes new.slots (label_of s n) t k
  number_known n k e = by (moves n)
    where
      known : HasNumber nodes old.slots (label_of was n) t k
      known = number_later nodes old.slots (label_of was n) (length before) t k later (covers.each_number n k e)

      inside : label_of s n < length old.slots
      inside = let less = stands.partition.within n (number_inside nodes n k e) in omega (arith, less, wide.slots)

      by : (label_of was n ≡ label_of s n) ⊎ MovedFrom trail from n (label_of was n) → HasNumber nodes new.slots (label_of s n) t k
      by (inl same) = subst (λ (c : ℕ). HasNumber nodes new.slots c t k) same (number_stays nodes t (label_of was n) t k old.slots new.slots (omega arith) keeps.slots known)
      by (inr h) = (carried n h).number k e inside

  pub covers_on : Covers nodes (before ++ l ∷ []) (label_of s) t new
  covers_on = record { signs = sign_known; each_number = number_known }

  -- ---- no clash

  now_one : (a b : ℕ) → AreEqual nodes (held_equalities nodes (before ++ l ∷ [])) a b → label_of s a ≡ label_of s b
  now_one a b h = (labels_are_exact nodes (held_equalities nodes (before ++ l ∷ [])) (label_of s) (standing_labels nodes (held_equalities nodes (before ++ l ∷ [])) pairs s stands) a b).1 h

  were_equal : (a b : ℕ) → label_of was a ≡ label_of was b → AreEqual nodes (held_equalities nodes before) a b
  were_equal a b e = (standing_labels nodes (held_equalities nodes before) first_pairs was stood).equal a b e

  -- both sides stay, or one of them has moved
  both_or_one : (a b : ℕ) → label_of s a ≡ label_of s b → (label_of was a ≡ label_of was b) ⊎ (MovedFrom trail from a (label_of was a) ⊎ MovedFrom trail from b (label_of was b))
  both_or_one a b e = by (moves a) (moves b)
    where
      by : (label_of was a ≡ label_of s a) ⊎ MovedFrom trail from a (label_of was a) → (label_of was b ≡ label_of s b) ⊎ MovedFrom trail from b (label_of was b)
          → (label_of was a ≡ label_of was b) ⊎ (MovedFrom trail from a (label_of was a) ⊎ MovedFrom trail from b (label_of was b))
      by (inl f) (inl g) = inl (f ∙ e ∙ sym g)
      by (inr h) other = inr (inl h)
      by (inl f) (inr h) = inr (inr h)

  -- a denied equality
  denied_now : (n : ℕ) (pair : Pair) → equality nodes n ≡ Some pair → label_of s pair.left ≡ label_of s pair.right → is_denied nodes (label_of s) (no n) ≡ true
  denied_now n pair is e = ap (is_paired (label_of s)) is ∙ same_label nodes (label_of s) pair.left pair.right e

  user_clashes : (n a : ℕ) (node : Node) → slice_get nodes n ≡ Some node → Contains node.parts a → is_stamped new.negatives (label_of s n) t ≡ true → is_denied nodes (label_of s) (no n) ≡ true → clashes_at nodes users (label_of s) t new a ≡ true
  user_clashes n a node at part known denied =
      or_right (is_torn new (label_of s a) t) (list_any (may_be_denied nodes (label_of s) t new) (list_at users a))
      (there_any (may_be_denied nodes (label_of s) t new) (list_at users a) n (users_are n a node at part) (and_from (is_stamped new.negatives (label_of s n) t) (is_denied nodes (label_of s) (no n)) known denied))

  torn_clashes : (m n a : ℕ) → label_of s a ≡ label_of s m → label_of s a ≡ label_of s n → is_stamped new.positives (label_of s m) t ≡ true → is_stamped new.negatives (label_of s n) t ≡ true → is_torn new (label_of s a) t ≡ true
  torn_clashes m n a e f positive negative =
      and_from (is_stamped new.positives (label_of s a) t) (is_stamped new.negatives (label_of s a) t) (subst (λ (c : ℕ). is_stamped new.positives c t ≡ true) (sym e) positive) (subst (λ (c : ℕ). is_stamped new.negatives c t ≡ true) (sym f) negative)

  module _ (quiet : IsContradicted nodes (map negation before) → ⊥) where
    -- of literals that were held before
    denied_before : (n : ℕ) (pair : Pair) → Contains before (no n) → equality nodes n ≡ Some pair → HasSides nodes n pair → label_of s pair.left ≡ label_of s pair.right → ⊥
    denied_before n pair there is sides e = by (both_or_one pair.left pair.right e)
      where
        known : is_stamped new.negatives (label_of s n) t ≡ true
        known = negative_known (no n) there refl

        by : (label_of was pair.left ≡ label_of was pair.right) ⊎ (MovedFrom trail from pair.left (label_of was pair.left) ⊎ MovedFrom trail from pair.right (label_of was pair.right)) → ⊥
        by (inl same) = quiet (equals (mapped_there before (no n) there) is (were_equal pair.left pair.right same))
        by (inr (inl h)) = true≢false (sym (user_clashes n pair.left sides.node sides.at sides.left known (denied_now n pair is e)) ∙ no_clash pair.left h)
        by (inr (inr h)) = true≢false (sym (user_clashes n pair.right sides.node sides.at sides.right known (denied_now n pair is e)) ∙ no_clash pair.right h)

    torn_before : (m n : ℕ) → Contains before (yes m) → Contains before (no n) → label_of s m ≡ label_of s n → ⊥
    torn_before m n positive negative e = by (both_or_one m n e)
      where
        torn : (a : ℕ) → label_of s a ≡ label_of s m → label_of s a ≡ label_of s n → clashes_at nodes users (label_of s) t new a ≡ true
        torn a f g =
            or_left (is_torn new (label_of s a) t) (list_any (may_be_denied nodes (label_of s) t new) (list_at users a))
            (torn_clashes m n a f g (positive_known (yes m) positive refl) (negative_known (no n) negative refl))

        by : (label_of was m ≡ label_of was n) ⊎ (MovedFrom trail from m (label_of was m) ⊎ MovedFrom trail from n (label_of was n)) → ⊥
        by (inl same) = quiet (opposites (mapped_there before (yes m) positive) (mapped_there before (no n) negative) (were_equal m n same))
        by (inr (inl h)) = true≢false (sym (torn m refl e) ∙ no_clash m h)
        by (inr (inr h)) = true≢false (sym (torn n (sym e) refl) ∙ no_clash n h)

    -- of the last one, or one before
    denied_not : (n : ℕ) (pair : Pair) → Contains (before ++ l ∷ []) (no n) → equality nodes n ≡ Some pair → HasSides nodes n pair → label_of s pair.left ≡ label_of s pair.right → ⊥
    denied_not n pair there is sides e = by (Contains-push_cases before l (no n) there)
      where
        by : Contains before (no n) ⊎ (l ≡ no n) → ⊥
        by (inl old) = denied_before n pair old is sides e
        by (inr same) = true≢false (sym (denied_now n pair is e) ∙ subst (λ (x : Lit). is_denied nodes (label_of s) x ≡ false) same takes.not_denied)

    torn_not : (m n : ℕ) → Contains (before ++ l ∷ []) (yes m) → Contains (before ++ l ∷ []) (no n) → label_of s m ≡ label_of s n → ⊥
    torn_not m n positive negative e = by (Contains-push_cases before l (yes m) positive) (Contains-push_cases before l (no n) negative)
      where
        known : is_stamped new.positives (label_of s m) t ≡ true
        known = (sign_known (yes m) positive).positive refl

        denied : is_stamped new.negatives (label_of s n) t ≡ true
        denied = (sign_known (no n) negative).negative refl

        by : Contains before (yes m) ⊎ (l ≡ yes m) → Contains before (no n) ⊎ (l ≡ no n) → ⊥
        by (inl old) (inl other) = torn_before m n old other e
        by (inr same) other = true≢false (sym (torn_clashes m n m refl e known denied) ∙ subst (λ (x : Lit). is_torn new (label_of s x.node) t ≡ false) same takes.not_torn)
        by (inl old) (inr same) = true≢false (sym (torn_clashes m n n (sym e) refl known denied) ∙ subst (λ (x : Lit). is_torn new (label_of s x.node) t ≡ false) same takes.not_torn)

    numbers_not : (m n : ℕ) (j k : ℤ) → number_at nodes m ≡ Some j → number_at nodes n ≡ Some k → (j ≡ k → ⊥) → label_of s m ≡ label_of s n → ⊥
    numbers_not m n j k left right apart e =
        let one = number_known m j left in
        let two = subst (λ (c : ℕ). HasNumber nodes new.slots c t k) (sym e) (number_known n k right) in
        let same : one.other ≡ two.other = same_Some one.other two.other (sym one.there ∙ two.there) in
        apart (same_Some j k (sym one.number ∙ ap (number_at nodes) same ∙ two.number))

    pub quiet_on : ((n : ℕ) (pair : Pair) → equality nodes n ≡ Some pair → HasSides nodes n pair) → IsContradicted nodes (map negation (before ++ l ∷ [])) → ⊥
    quiet_on sides (equals {n} {pair} there is h) = denied_not n pair (there_mapped (before ++ l ∷ []) (yes n) there) is (sides n pair is) (now_one pair.left pair.right h)
    quiet_on sides (opposites {m} {n} negative positive h) = torn_not m n (there_mapped (before ++ l ∷ []) (no m) negative) (there_mapped (before ++ l ∷ []) (yes n) positive) (now_one m n h)
    quiet_on sides (numbers {m} {n} {j} {k} first second apart h) = numbers_not m n j k first second apart (now_one m n h)
