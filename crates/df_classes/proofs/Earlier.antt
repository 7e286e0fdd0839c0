-- The states where fewer literals were held.
use Rattle.std.proofs.Common.{◌≡◌, ℕ, zero, suc, ◌<◌, ◌≤◌, ◌⊎◌, inl, inr, List, [], ◌∷◌, ◌++◌, length, take, drop, Option, None, Some, slice_get, refl, sym, ap, ◌∙◌, subst, arith}
use Rattle.std.proofs.lemmas.Bool.{cases_lt}
use Rattle.std.proofs.lemmas.Option.{none-some, slice_get_within}
use Rattle.std.proofs.lemmas.List.{length-take-le, take-append-drop, drop-append-le, drop_all, take_all, take_at}
use Rattle.df_lemmas.proofs.Lists.{get_below}
use Rattle.df_form.specs.declared.log.Lit.{Lit}
use Rattle.df_form.specs.Node.{Node}
use Rattle.df_classes.specs.declared.partition.Change.{Change}
use Rattle.df_classes.specs.declared.partition.Partition.{Partition}
use Rattle.df_classes.specs.declared.holding.Level.{Level}
use Rattle.df_classes.specs.declared.holding.Holding.{Holding}
use Rattle.df_classes.specs.HoldingView.{IsHolding, level_of, Pushes, Retreats, RetreatsTo, Cuts, Grows, Returns}
use Rattle.df_classes.specs.PartitionView.{state_of, Extends}
use Rattle.df_classes.specs.SignsView.{state_from, state_at}
use Rattle.df_classes.specs.mirror.State.{back}
use Rattle.df_classes.proofs.Undoing.{back_more}
use Rattle.df_classes.proofs.Levels.{get_taken}
use Rattle.df_classes.proofs.Holds.{cut_last}

-- ---- lookups

get_front : {A : Type 0} (xs ys : List A) (i : ℕ) (x : A) → slice_get xs i ≡ Some x → slice_get (xs ++ ys) i ≡ Some x
get_front [] ys i x e = absurd (none-some x e)
get_front (y ∷ xs) ys zero x e = e
get_front (y ∷ xs) ys (suc i) x e = get_front xs ys i x e

pub get_last : {A : Type 0} (xs : List A) (x : A) (i : ℕ) → i ≡ length xs → slice_get (xs ++ x ∷ []) i ≡ Some x
get_last [] x zero e = refl
get_last [] x (suc i) e = absurd (omega (arith, e))
get_last (y ∷ xs) x zero e = absurd (omega (arith, e))
get_last (y ∷ xs) x (suc i) e = get_last xs x i (omega (arith, e))

pub get_none : {A : Type 0} (xs : List A) (i : ℕ) → length xs ≤ i → slice_get xs i ≡ None
get_none [] i past = refl
get_none (x ∷ xs) zero past = absurd (omega (arith, past))
get_none (x ∷ xs) (suc i) past = get_none xs i (omega (arith, past))

-- ---- the way back from more changes, and from fewer

back_stays : (old new : Partition) → Extends old new → (changes : ℕ) → changes ≤ length old.trail.items → back (drop changes new.trail.items) (state_of new) ≡ back (drop changes old.trail.items) (state_of old)
back_stays old new h changes few =
    ap (λ (cs : List Change). back (drop changes cs) (state_of new)) h.trail
    ∙ ap (λ (cs : List Change). back cs (state_of new)) (drop-append-le changes old.trail.items h.made few)
    ∙ back_more (drop changes old.trail.items) h.made (state_of new)
    ∙ ap (back (drop changes old.trail.items)) h.goes_back

back_retreats : (old new : Partition) (level : Level) → Retreats old new level → level.changes ≤ length old.trail.items → (changes : ℕ) → changes ≤ level.changes
    → back (drop changes new.trail.items) (state_of new) ≡ back (drop changes old.trail.items) (state_of old)
back_retreats old new level h inside changes few =
    (λ i. back (drop changes (h.trail i)) (h.state i))
    ∙ sym (back_more (drop changes (take level.changes old.trail.items)) (drop level.changes old.trail.items) (state_of old))
    ∙ ap (λ (cs : List Change). back cs (state_of old)) (sym whole)
  where
    whole : drop changes old.trail.items ≡ drop changes (take level.changes old.trail.items) ++ drop level.changes old.trail.items
    whole =
        ap (drop changes) (sym (take-append-drop level.changes old.trail.items))
        ∙ drop-append-le changes (take level.changes old.trail.items) (drop level.changes old.trail.items) (omega (arith, few, length-take-le level.changes old.trail.items inside))

-- ---- a further literal

module _ (nodes : List Node) (old new : Holding) (l : Lit) (is : IsHolding nodes old.held.items old.levels.items old.partition) (h : Grows old new l) (i : ℕ) where
  abbrev levels : List Level
  levels = old.levels.items

  grown : state_at new i ≡ state_from new.partition (slice_get (levels ++ level_of old.partition ∷ []) i)
  grown = ap (λ (ls : List Level). state_from new.partition (slice_get ls i)) h.levels

  at_level : i < length levels → state_at new i ≡ state_at old i
  at_level less =
      let found = get_below levels i less in
      grown
      ∙ ap (state_from new.partition) (get_front levels (level_of old.partition ∷ []) i found.0 found.1)
      ∙ back_stays old.partition new.partition h.extends found.0.changes (is.levels_are.each i found.0 found.1).changes
      ∙ sym (ap (state_from old.partition) found.1)

  at_last : i ≡ length levels → state_at new i ≡ state_at old i
  at_last e =
      grown
      ∙ ap (state_from new.partition) (get_last levels (level_of old.partition) i e)
      ∙ back_stays old.partition new.partition h.extends (length old.partition.trail.items) (omega arith)
      ∙ ap (λ (cs : List Change). back cs (state_of old.partition)) (drop_all (length old.partition.trail.items) old.partition.trail.items (omega arith))
      ∙ sym (ap (state_from old.partition) (get_none levels i (omega (arith, e))))

  pub state_grown : i ≤ length old.held.items → state_at new i ≡ state_at old i
  state_grown few = by (cases_lt i (length levels))
    where
      by : (i < length levels) ⊎ (length levels ≤ i) → state_at new i ≡ state_at old i
      by (inl less) = at_level less
      by (inr past) = at_last (omega (arith, few, past, is.levels_are.as_many))

-- ---- fewer literals

module _ (nodes : List Node) (old new : Holding) (count : ℕ) (is : IsHolding nodes old.held.items old.levels.items old.partition) (h : Cuts old new count) (i : ℕ) (few : i ≤ count) where
  cut : state_at new i ≡ state_from new.partition (slice_get (take count old.levels.items) i)
  cut = ap (λ (ls : List Level). state_from new.partition (slice_get ls i)) h.levels

  module _ (level : Level) (at : slice_get old.levels.items count ≡ Some level) (r : Retreats old.partition new.partition level) where
    inside : level.changes ≤ length old.partition.trail.items
    inside = (is.levels_are.each count level at).changes

    below : i < count → state_at new i ≡ state_at old i
    below less =
        let long : count < length old.levels.items = slice_get_within old.levels.items count level at in
        let found = get_below old.levels.items i (omega (arith, less, long)) in
        cut
        ∙ ap (state_from new.partition) (get_taken old.levels.items count i less ∙ found.1)
        ∙ back_retreats old.partition new.partition level r inside found.0.changes (is.levels_are.rising i count found.0 level few found.1 at).changes
        ∙ sym (ap (state_from old.partition) found.1)

    there : i ≡ count → state_at new i ≡ state_at old i
    there e =
        let long : count < length old.levels.items = slice_get_within old.levels.items count level at in
        cut
        ∙ ap (state_from new.partition) (get_none (take count old.levels.items) i (omega (arith, e, long, length-take-le count old.levels.items (omega (arith, long)))))
        ∙ r.state
        ∙ sym (ap (state_from old.partition) (ap (slice_get old.levels.items) e ∙ at))

    back_there : state_at new i ≡ state_at old i
    back_there = by (cases_lt i count)
      where
        by : (i < count) ⊎ (count ≤ i) → state_at new i ≡ state_at old i
        by (inl less) = below less
        by (inr past) = there (omega (arith, few, past))

  none_cut : length old.levels.items ≤ count → RetreatsTo old.partition new.partition None → state_at new i ≡ state_at old i
  none_cut past same = cut ∙ (λ k. state_from (same k) (slice_get (take_all count old.levels.items past k) i))

  pub state_cut : state_at new i ≡ state_at old i
  state_cut = by (slice_get old.levels.items count) refl h.retreats (cases_lt count (length old.levels.items))
    where
      by : (o : Option Level) → slice_get old.levels.items count ≡ o → RetreatsTo old.partition new.partition o → (count < length old.levels.items) ⊎ (length old.levels.items ≤ count) → state_at new i ≡ state_at old i
      by (Some level) at r less = back_there level at r
      by None at same (inr past) = none_cut past same
      by None at same (inl less) = let found = get_below old.levels.items count less in absurd (none-some found.0 (sym at ∙ found.1))

-- ---- after an error

pub state_returned : (old new : Holding) → Returns old new → (i : ℕ) → state_at new i ≡ state_at old i
state_returned old new h i =
    ap (λ (ls : List Level). state_from new.partition (slice_get ls i)) h.levels ∙ by (slice_get old.levels.items i)
  where
    by : (o : Option Level) → state_from new.partition o ≡ state_from old.partition o
    by None = h.state
    by (Some level) = λ k. back (drop level.changes (h.trail k)) (h.state k)

-- ---- a literal that is taken away again

module _ (old mid now new : Holding) (l : Lit) (pushes : Pushes old mid l) (same : mid.partition ≡ old.partition) (extends : Extends mid.partition now.partition) (held : now.held.items ≡ mid.held.items) (levels_are : now.levels.items ≡ mid.levels.items)
    (as_many : length old.levels.items ≡ length old.held.items) (count : ℕ) (long : count ≡ length old.held.items) (cuts : Cuts now new count) where
  from_old : Extends old.partition now.partition
  from_old = subst (λ (p : Partition). Extends p now.partition) same extends

  retreats : Retreats now.partition new.partition (level_of old.partition)
  retreats =
      subst (RetreatsTo now.partition new.partition)
      (ap (λ (ls : List Level). slice_get ls count) (levels_are ∙ pushes.levels) ∙ get_last old.levels.items (level_of old.partition) count (omega (arith, long, as_many)))
      cuts.retreats

  pub hold_returns : Returns old new
  hold_returns = record {
    held = cut_last now new old.held.items l count long (held ∙ pushes.held) cuts;
    levels = cuts.levels ∙ ap (take count) (levels_are ∙ pushes.levels) ∙ take_at old.levels.items (level_of old.partition ∷ []) count (omega (arith, long, as_many));
    trail = retreats.trail ∙ ap (take (length old.partition.trail.items)) from_old.trail ∙ take_at old.partition.trail.items from_old.made (length old.partition.trail.items) refl;
    state =
        retreats.state
        ∙ back_stays old.partition now.partition from_old (length old.partition.trail.items) (omega arith)
        ∙ ap (λ (cs : List Change). back cs (state_of old.partition)) (drop_all (length old.partition.trail.items) old.partition.trail.items (omega arith));
  }
