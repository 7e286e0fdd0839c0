-- Levels, and the way back to them.
use Rattle.std.proofs.Common.{◌≡◌, ℕ, zero, suc, ◌<◌, ◌≤◌, ◌⊎◌, inl, inr, List, [], ◌∷◌, ◌++◌, length, map, take, drop, Some, slice_get, refl, sym, ap, ◌∙◌, subst, arith}
use Rattle.std.specs.List.{filter_map}
use Rattle.std.proofs.lemmas.Bool.{cases_lt}
use Rattle.std.proofs.lemmas.Option.{slice_get_within}
use Rattle.std.proofs.lemmas.List.{length_push, length-append, length-take-le, take-append-drop, take-append-le, drop-append-le, take_all, drop_all, take-take, map_push}
use Rattle.std.proofs.lemmas.List.Elements.{filter_map-append}
use Rattle.df_lemmas.proofs.Lists.{get_pushed}
use Rattle.df_form.specs.declared.log.Lit.{Lit}
use Rattle.df_form.specs.declared.log.Pair.{Pair}
use Rattle.df_form.specs.Node.{Node}
use Rattle.df_form.specs.Clause.{negation}
use Rattle.df_rules.specs.Congruence.{negative_equality}
use Rattle.df_classes.specs.declared.partition.Change.{Change}
use Rattle.df_classes.specs.declared.partition.Partition.{Partition}
use Rattle.df_classes.specs.declared.holding.Level.{Level}
use Rattle.df_classes.specs.PartitionView.{state_of, Extends}
use Rattle.df_classes.specs.mirror.State.{State, back}
use Rattle.df_classes.specs.mirror.Closure.{StandsBut}
use Rattle.df_classes.specs.HoldingView.{held_equalities, equality_held, Equates, IsLevel, IsBelow, AreLevels, IsHolding, level_of, Retreats}
use Rattle.df_classes.proofs.Undoing.{back_more}

pub get_taken : {A : Type 0} (xs : List A) (count i : ℕ) → i < count → slice_get (take count xs) i ≡ slice_get xs i
get_taken [] zero i less = refl
get_taken [] (suc count) i less = refl
get_taken (x ∷ xs) zero i less = absurd (omega (arith, less))
get_taken (x ∷ xs) (suc count) zero less = refl
get_taken (x ∷ xs) (suc count) (suc i) less = get_taken xs count i (omega (arith, less))

-- ---- equalities of more literals

pub equalities_pushed : (nodes : List Node) (held : List Lit) (l : Lit) → held_equalities nodes (held ++ l ∷ []) ≡ held_equalities nodes held ++ equality_held nodes l
equalities_pushed nodes held l = ap (filter_map (negative_equality nodes)) (map_push negation held l) ∙ filter_map-append (negative_equality nodes) (map negation held) (negation l ∷ [])

-- ---- the classes grow

module _ (nodes : List Node) (held : List Lit) (old new : Partition) (h : Extends old new) where
  level_stays : (level : Level) → IsLevel nodes held old level → IsLevel nodes held new level
  level_stays level is = record {
    changes = omega (arith, is.changes, ap length h.trail, length-append old.trail.items h.made);
    pairs = omega (arith, is.pairs, ap length h.pairs, length-append old.pairs.items h.more);
    stands = subst (λ (s : State). StandsBut nodes (held_equalities nodes held) (take level.pairs new.pairs.items) s []) (sym same_state) (subst (λ (ps : List Pair). StandsBut nodes (held_equalities nodes held) ps before []) (sym same_pairs) is.stands);
  }
    where
      before : State
      before = back (drop level.changes old.trail.items) (state_of old)

      same_pairs : take level.pairs new.pairs.items ≡ take level.pairs old.pairs.items
      same_pairs = ap (take level.pairs) h.pairs ∙ take-append-le level.pairs old.pairs.items h.more is.pairs

      same_state : back (drop level.changes new.trail.items) (state_of new) ≡ before
      same_state =
          ap (λ (cs : List Change). back (drop level.changes cs) (state_of new)) h.trail
          ∙ ap (λ (cs : List Change). back cs (state_of new)) (drop-append-le level.changes old.trail.items h.made is.changes)
          ∙ back_more (drop level.changes old.trail.items) h.made (state_of new)
          ∙ ap (back (drop level.changes old.trail.items)) h.goes_back

pub levels_stay : (nodes : List Node) (held : List Lit) (levels : List Level) (old new : Partition) → Extends old new → AreLevels nodes held levels old → AreLevels nodes held levels new
levels_stay nodes held levels old new h are = record {
  as_many = are.as_many;
  each = λ i level at. level_stays nodes (take i held) old new h level (are.each i level at);
  rising = are.rising;
}

-- ---- one more level

module _ (nodes : List Node) (held : List Lit) (levels : List Level) (p : Partition) (l : Lit) (is : IsHolding nodes held levels p) where
  last_level : IsLevel nodes held p (level_of p)
  last_level = record {
    changes = omega arith;
    pairs = omega arith;
    stands =
        subst (λ (ps : List Pair). StandsBut nodes (held_equalities nodes held) ps (back (drop (length p.trail.items) p.trail.items) (state_of p)) []) (sym (take_all (length p.pairs.items) p.pairs.items (omega arith)))
        (subst (λ (cs : List Change). StandsBut nodes (held_equalities nodes held) p.pairs.items (back cs (state_of p)) []) (sym (drop_all (length p.trail.items) p.trail.items (omega arith))) is.stands);
  }

  below_last : (i : ℕ) (level : Level) → slice_get levels i ≡ Some level → IsBelow level (level_of p)
  below_last i level at = record { changes = (is.levels_are.each i level at).changes; pairs = (is.levels_are.each i level at).pairs }

  pub levels_pushed : AreLevels nodes (held ++ l ∷ []) (levels ++ level_of p ∷ []) p
  levels_pushed = record {
    as_many = omega (arith, is.levels_are.as_many, length_push levels (level_of p), length_push held l);
    each = λ i level at. one i level (get_pushed levels (level_of p) i level at);
    rising = λ i j first second less at there. rises i j first second less (get_pushed levels (level_of p) i first at) (get_pushed levels (level_of p) j second there);
  }
    where
      one : (i : ℕ) (level : Level) → (slice_get levels i ≡ Some level) ⊎ ((i ≡ length levels) × (level_of p ≡ level)) → IsLevel nodes (take i (held ++ l ∷ [])) p level
      one i level (inl old) =
          let less : i < length levels = slice_get_within levels i level old in
          subst (λ (ls : List Lit). IsLevel nodes ls p level) (sym (take-append-le i held (l ∷ []) (omega (arith, less, is.levels_are.as_many)))) (is.levels_are.each i level old)
      one i level (inr new) =
          let whole : take i (held ++ l ∷ []) ≡ held = take-append-le i held (l ∷ []) (omega (arith, new.0, is.levels_are.as_many)) ∙ take_all i held (omega (arith, new.0, is.levels_are.as_many)) in
          subst (λ (ls : List Lit). IsLevel nodes ls p level) (sym whole) (subst (IsLevel nodes held p) new.1 last_level)

      rises : (i j : ℕ) (first second : Level) → i ≤ j → (slice_get levels i ≡ Some first) ⊎ ((i ≡ length levels) × (level_of p ≡ first)) → (slice_get levels j ≡ Some second) ⊎ ((j ≡ length levels) × (level_of p ≡ second)) → IsBelow first second
      rises i j first second less (inl at) (inl there) = is.levels_are.rising i j first second less at there
      rises i j first second less (inl at) (inr last) = subst (IsBelow first) last.1 (below_last i first at)
      rises i j first second less (inr last) (inl there) =
          let inside : j < length levels = slice_get_within levels j second there in absurd (omega (arith, less, inside, last.0))
      rises i j first second less (inr one) (inr other) = subst (IsBelow first) (sym one.1 ∙ other.1) (record { changes = omega arith; pairs = omega arith })

-- a further literal is held
pub held_on : (nodes : List Node) (held : List Lit) (levels : List Level) (old new : Partition) (l : Lit) → IsHolding nodes held levels old → Extends old new → Equates nodes old new (equality_held nodes l)
    → IsHolding nodes (held ++ l ∷ []) (levels ++ level_of old ∷ []) new
held_on nodes held levels old new l is h equates = record {
  levels_are = levels_stay nodes (held ++ l ∷ []) (levels ++ level_of old ∷ []) old new h (levels_pushed nodes held levels old l is);
  stands = subst (λ (es : List Pair). StandsBut nodes es new.pairs.items (state_of new) []) (sym (equalities_pushed nodes held l)) (equates.stands (held_equalities nodes held) is.stands);
}

-- ---- back to a level

module _ (nodes : List Node) (held : List Lit) (levels : List Level) (old new : Partition) (are : AreLevels nodes held levels old) (count : ℕ) (level : Level) (at : slice_get levels count ≡ Some level) (h : Retreats old new level) where
  its : IsLevel nodes (take count held) old level
  its = are.each count level at

  stands_there : StandsBut nodes (held_equalities nodes (take count held)) new.pairs.items (state_of new) []
  stands_there =
      subst (λ (ps : List Pair). StandsBut nodes (held_equalities nodes (take count held)) ps (state_of new) []) (sym h.pairs)
      (subst (λ (s : State). StandsBut nodes (held_equalities nodes (take count held)) (take level.pairs old.pairs.items) s []) (sym h.state) its.stands)

  inside : count < length levels
  inside = slice_get_within levels count level at

  level_before : (held_there : List Lit) (other : Level) → IsBelow other level → IsLevel nodes held_there old other → IsLevel nodes held_there new other
  level_before held_there other below is = record {
    changes = omega (arith, below.changes, its.changes, ap length h.trail, length-take-le level.changes old.trail.items its.changes);
    pairs = omega (arith, below.pairs, its.pairs, ap length h.pairs, length-take-le level.pairs old.pairs.items its.pairs);
    stands =
        subst (λ (s : State). StandsBut nodes (held_equalities nodes held_there) (take other.pairs new.pairs.items) s []) (sym same_state)
        (subst (λ (ps : List Pair). StandsBut nodes (held_equalities nodes held_there) ps (back (drop other.changes old.trail.items) (state_of old)) []) (sym same_pairs) is.stands);
  }
    where
      same_pairs : take other.pairs new.pairs.items ≡ take other.pairs old.pairs.items
      same_pairs = ap (take other.pairs) h.pairs ∙ take-take other.pairs level.pairs old.pairs.items below.pairs

      whole : drop other.changes old.trail.items ≡ drop other.changes (take level.changes old.trail.items) ++ drop level.changes old.trail.items
      whole =
          ap (drop other.changes) (sym (take-append-drop level.changes old.trail.items))
          ∙ drop-append-le other.changes (take level.changes old.trail.items) (drop level.changes old.trail.items) (omega (arith, below.changes, length-take-le level.changes old.trail.items its.changes))

      same_state : back (drop other.changes new.trail.items) (state_of new) ≡ back (drop other.changes old.trail.items) (state_of old)
      same_state =
          (λ i. back (drop other.changes (h.trail i)) (h.state i))
          ∙ sym (back_more (drop other.changes (take level.changes old.trail.items)) (drop level.changes old.trail.items) (state_of old))
          ∙ ap (λ (cs : List Change). back cs (state_of old)) (sym whole)

  before_cut : (i : ℕ) (other : Level) → slice_get (take count levels) i ≡ Some other → (i < count) × (slice_get levels i ≡ Some other)
  before_cut i other e = by (cases_lt i count)
    where
      by : (i < count) ⊎ (count ≤ i) → (i < count) × (slice_get levels i ≡ Some other)
      by (inl less) = (less, sym (get_taken levels count i less) ∙ e)
      by (inr past) =
          let short : i < length (take count levels) = slice_get_within (take count levels) i other e in absurd (omega (arith, past, short, length-take-le count levels (omega (arith, inside))))

  pub retreated_holding : IsHolding nodes (take count held) (take count levels) new
  retreated_holding = record {
    levels_are = record {
      as_many = omega (arith, inside, are.as_many, length-take-le count levels (omega (arith, inside)), length-take-le count held (omega (arith, inside, are.as_many)));
      each = λ i other e.
          let was = before_cut i other e in
          subst (λ (ls : List Lit). IsLevel nodes ls new other) (sym (take-take i count held (omega (arith, was.0)))) (level_before (take i held) other (are.rising i count other level (omega (arith, was.0)) was.1 at) (are.each i other was.1));
      rising = λ i j first second less e f. are.rising i j first second less (before_cut i first e).1 (before_cut j second f).1;
    };
    stands = stands_there;
  }
