-- A literal that came last is taken in.
use Rattle.std.proofs.Common.{◌≡◌, ℕ, ℤ, ◌+◌, ◌<◌, true, List, [], ◌∷◌, ◌++◌, length, map, take, drop, Some, slice_get, refl, sym, ap, ◌∙◌, subst, arith}
use Rattle.std.proofs.lemmas.Option.{same_Some}
use Rattle.std.proofs.lemmas.List.{length_push, take_at}
use Rattle.df_lemmas.proofs.Alls.{none_there}
use Rattle.df_form.specs.declared.log.Lit.{Lit}
use Rattle.df_form.specs.declared.log.Pair.{Pair}
use Rattle.df_form.specs.Node.{Node}
use Rattle.df_form.specs.Clause.{negation, are_literals}
use Rattle.df_rules.specs.CongruenceLine.{number_at}
use Rattle.df_classes.specs.declared.holding.Level.{Level}
use Rattle.df_classes.specs.declared.holding.Holding.{Holding}
use Rattle.df_classes.specs.declared.signs.Signs.{Signs}
use Rattle.df_classes.specs.Equal.{AreEqual, IsContradicted, equals, opposites, numbers}
use Rattle.df_classes.specs.HoldingView.{held_equalities, IsHolding, level_of, Grows}
use Rattle.df_classes.specs.PartitionView.{state_of}
use Rattle.df_classes.specs.SignsView.{tables_of, state_from, state_at, PutsNumbers, Came, TakesIn, IsCovered}
use Rattle.df_classes.specs.mirror.State.{State, label_of, back}
use Rattle.df_classes.specs.mirror.Closure.{StandsBut, AreUsers}
use Rattle.df_classes.specs.mirror.Clash.{AreNumbers}
use Rattle.df_classes.specs.mirror.Signs.{HasNumber, Tables, KeepsTables, AreWide, Covers}
use Rattle.df_classes.proofs.Labels.{labels_are_exact}
use Rattle.df_classes.proofs.Standing.{standing_labels}
use Rattle.df_classes.proofs.Covering.{number_inside, covers_on, quiet_on}
use Rattle.df_classes.proofs.EqualityParts.{sides_are}
use Rattle.df_classes.proofs.Earlier.{get_last, get_none}
use Rattle.df_classes.proofs.Covered.{covered_on}

-- ---- the last literal

pub came_of : (nodes : List Node) (old new : Holding) (l : Lit) (from : ℕ) → IsHolding nodes old.held.items old.levels.items old.partition → Grows old new l → from ≡ length old.partition.trail.items → Came new l from
came_of nodes old new l from is h e = record {
  before = old.held.items;
  held_is = h.held;
  level = level_of old.partition;
  at =
      let many = is.levels_are.as_many in
      ap (λ (ls : List Level). slice_get ls (length old.held.items)) h.levels ∙ get_last old.levels.items (level_of old.partition) (length old.held.items) (omega (arith, many));
  from_is = sym e;
}

pub now_at : (nodes : List Node) (h : Holding) → IsHolding nodes h.held.items h.levels.items h.partition → state_at h (length h.held.items) ≡ state_of h.partition
now_at nodes h is = let many = is.levels_are.as_many in ap (state_from h.partition) (get_none h.levels.items (length h.held.items) (omega (arith, many)))

module _ (nodes : List Node) (users : List (List ℕ)) (users_are : AreUsers nodes users) (h : Holding) (is : IsHolding nodes h.held.items h.levels.items h.partition) (literals : are_literals nodes h.held.items ≡ true) (l : Lit) (from : ℕ) (came : Came h l from) (old : Signs) (new : Tables)
    (covered : IsCovered nodes h old) (all : old.covered ≡ length h.held.items) (keeps : KeepsTables (length h.held.items) (tables_of old) new)
    (takes : TakesIn nodes users (state_of h.partition) (length h.held.items) l h.partition.trail.items from (tables_of old) new) where
  abbrev before : List Lit
  before = came.before

  abbrev was : State
  was = back (drop from h.partition.trail.items) (state_of h.partition)

  abbrev earlier_pairs : List Pair
  earlier_pairs = take came.level.pairs h.partition.pairs.items

  count : length h.held.items ≡ length before + 1
  count = ap length came.held_is ∙ length_push before l

  taken : take (length before) h.held.items ≡ before
  taken = ap (take (length before)) came.held_is ∙ take_at before (l ∷ []) (length before) refl

  was_there : state_at h (length before) ≡ was
  was_there = ap (state_from h.partition) came.at ∙ ap (λ (n : ℕ). back (drop n h.partition.trail.items) (state_of h.partition)) came.from_is

  stood : StandsBut nodes (held_equalities nodes before) earlier_pairs was []
  stood =
      subst (λ (n : ℕ). StandsBut nodes (held_equalities nodes before) earlier_pairs (back (drop n h.partition.trail.items) (state_of h.partition)) []) came.from_is
      (subst (λ (ls : List Lit). StandsBut nodes (held_equalities nodes ls) earlier_pairs (back (drop came.level.changes h.partition.trail.items) (state_of h.partition)) []) taken (is.levels_are.each (length before) came.level came.at).stands)

  stands : StandsBut nodes (held_equalities nodes (before ++ l ∷ [])) h.partition.pairs.items (state_of h.partition) []
  stands = subst (λ (ls : List Lit). StandsBut nodes (held_equalities nodes ls) h.partition.pairs.items (state_of h.partition) []) came.held_is is.stands

  early : length before < old.covered
  early = omega (arith, all, count)

  covers : Covers nodes before (label_of was) (length before) (tables_of old)
  covers =
      subst (λ (s : State). Covers nodes before (label_of s) (length before) (tables_of old)) was_there
      (subst (λ (ls : List Lit). Covers nodes ls (label_of (state_at h (length before))) (length before) (tables_of old)) taken (covered.each (length before) early))

  quiet_before : IsContradicted nodes (map negation before) → ⊥
  quiet_before h = covered.quiet (length before) early (subst (λ (ls : List Lit). IsContradicted nodes (map negation ls)) (sym taken) h)

  literals_there : are_literals nodes (before ++ l ∷ []) ≡ true
  literals_there = subst (λ (ls : List Lit). are_literals nodes ls ≡ true) came.held_is literals

  pub taken_covers : Covers nodes h.held.items (label_of (state_of h.partition)) (length h.held.items) new
  taken_covers =
      subst (λ (ls : List Lit). Covers nodes ls (label_of (state_of h.partition)) (length h.held.items) new) (sym came.held_is)
      (covers_on nodes users users_are before l earlier_pairs h.partition.pairs.items was (state_of h.partition) h.partition.trail.items from (length h.held.items) (tables_of old) new stood stands refl count literals_there covered.wide keeps covers takes)

  pub taken_quiet : IsContradicted nodes (map negation h.held.items) → ⊥
  taken_quiet contradicted =
      quiet_on nodes users users_are before l earlier_pairs h.partition.pairs.items was (state_of h.partition) h.partition.trail.items from (length h.held.items) (tables_of old) new stood stands refl count literals_there covered.wide keeps covers takes
      quiet_before (sides_are nodes) (subst (λ (ls : List Lit). IsContradicted nodes (map negation ls)) came.held_is contradicted)

-- with one more list that is covered
pub taken_covered : (nodes : List Node) (users : List (List ℕ)) → AreUsers nodes users → (h : Holding) → IsHolding nodes h.held.items h.levels.items h.partition → are_literals nodes h.held.items ≡ true → (l : Lit) (from : ℕ) → Came h l from → (old new : Signs) → IsCovered nodes h old
    → old.covered ≡ length h.held.items → KeepsTables (length h.held.items) (tables_of old) (tables_of new) → TakesIn nodes users (state_of h.partition) (length h.held.items) l h.partition.trail.items from (tables_of old) (tables_of new) → new.covered ≡ length h.held.items + 1 → IsCovered nodes h new
taken_covered nodes users users_are h is literals l from came old new covered all keeps takes now =
    covered_on nodes h old new keeps all now (taken_covers nodes users users_are h is literals l from came old (tables_of new) covered all keeps takes) (now_at nodes h is)
    (taken_quiet nodes users users_are h is literals l from came old (tables_of new) covered all keeps takes) covered

-- ---- no literals

pub covered_none : (nodes : List Node) (h : Holding) (signs : Signs) → AreWide (length nodes) (tables_of signs) → signs.covered ≡ 0 → IsCovered nodes h signs
covered_none nodes h signs wide none = record {
  wide = wide;
  within = omega (arith, none);
  each = λ i less. absurd (omega (arith, less, none));
  quiet = λ i less. absurd (omega (arith, less, none));
}

module _ (nodes : List Node) (h : Holding) (is : IsHolding nodes h.held.items h.levels.items h.partition) (none : h.held.items ≡ []) (ns : List ℕ) (are : AreNumbers nodes ns) (signs : Signs) (wide : AreWide (length nodes) (tables_of signs)) (puts : PutsNumbers nodes (state_of h.partition) ns (tables_of signs)) where
  first_number : (n : ℕ) (k : ℤ) → number_at nodes n ≡ Some k → HasNumber nodes (tables_of signs).slots (label_of (state_of h.partition) n) 0 k
  first_number n k e =
      let less = is.stands.partition.within n (number_inside nodes n k e) in
      puts n k (are n k e) e (omega (arith, less, wide.slots))

  first_state : state_at h 0 ≡ state_of h.partition
  first_state =
      let many = is.levels_are.as_many in
      ap (state_from h.partition) (get_none h.levels.items 0 (omega (arith, many, ap length none)))

  first_covers : Covers nodes [] (label_of (state_of h.partition)) 0 (tables_of signs)
  first_covers = record { signs = λ l there. absurd (none_there l there); each_number = first_number }

  first_stands : StandsBut nodes (held_equalities nodes []) h.partition.pairs.items (state_of h.partition) []
  first_stands = subst (λ (ls : List Lit). StandsBut nodes (held_equalities nodes ls) h.partition.pairs.items (state_of h.partition) []) none is.stands

  one_label : (a b : ℕ) → AreEqual nodes (held_equalities nodes []) a b → label_of (state_of h.partition) a ≡ label_of (state_of h.partition) b
  one_label a b e = (labels_are_exact nodes (held_equalities nodes []) (label_of (state_of h.partition)) (standing_labels nodes (held_equalities nodes []) h.partition.pairs.items (state_of h.partition) first_stands) a b).1 e

  one_number : (m n : ℕ) (j k : ℤ) → number_at nodes m ≡ Some j → number_at nodes n ≡ Some k → label_of (state_of h.partition) m ≡ label_of (state_of h.partition) n → j ≡ k
  one_number m n j k left right e =
      let one = first_number m j left in
      let two = subst (λ (c : ℕ). HasNumber nodes (tables_of signs).slots c 0 k) (sym e) (first_number n k right) in
      let same : one.other ≡ two.other = same_Some one.other two.other (sym one.there ∙ two.there) in
      same_Some j k (sym one.number ∙ ap (number_at nodes) same ∙ two.number)

  first_quiet : IsContradicted nodes (map negation []) → ⊥
  first_quiet (equals {n} {pair} there sides e) = none_there _ there
  first_quiet (opposites {m} {n} negative positive e) = none_there _ negative
  first_quiet (numbers {m} {n} {j} {k} left right apart e) = apart (one_number m n j k left right (one_label m n e))

  -- the empty list is covered
  pub covered_first : signs.covered ≡ 1 → IsCovered nodes h signs
  covered_first one = record {
    wide = wide;
    within = omega (arith, one);
    each = λ i less.
        let zero_is : i ≡ 0 = omega (arith, less, one) in
        subst (λ (n : ℕ). Covers nodes (take n h.held.items) (label_of (state_at h n)) n (tables_of signs)) (sym zero_is)
        (subst (λ (s : State). Covers nodes [] (label_of s) 0 (tables_of signs)) (sym first_state) first_covers);
    quiet = λ i less e.
        let zero_is : i ≡ 0 = omega (arith, less, one) in first_quiet (subst (λ (n : ℕ). IsContradicted nodes (map negation (take n h.held.items))) zero_is e);
  }
