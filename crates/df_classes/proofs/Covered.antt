-- Lists of the first held literals stay covered.
use Rattle.std.proofs.Common.{◌≡◌, ℕ, ◌+◌, ◌<◌, ◌≤◌, ◌⊎◌, inl, inr, List, [], ◌∷◌, length, map, take, sym, ap, ◌∙◌, subst, arith}
use Rattle.std.proofs.lemmas.Bool.{cases_lt}
use Rattle.std.proofs.lemmas.List.{length_push, length-take-le, take-append-le, take_all, take-take}
use Rattle.df_form.specs.declared.log.Lit.{Lit}
use Rattle.df_form.specs.Node.{Node}
use Rattle.df_form.specs.Clause.{negation}
use Rattle.df_classes.specs.declared.holding.Holding.{Holding}
use Rattle.df_classes.specs.declared.signs.Signs.{Signs}
use Rattle.df_classes.specs.Equal.{IsContradicted}
use Rattle.df_classes.specs.HoldingView.{IsHolding, Cuts, Grows, Returns}
use Rattle.df_classes.specs.PartitionView.{state_of}
use Rattle.df_classes.specs.SignsView.{tables_of, state_at, IsCovered}
use Rattle.df_classes.specs.mirror.State.{State, label_of}
use Rattle.df_classes.specs.mirror.Signs.{Tables, KeepsTables, Covers}
use Rattle.df_classes.proofs.Stamping.{number_stays, wide_still}
use Rattle.df_classes.proofs.Earlier.{state_grown, state_cut, state_returned}

-- more is known
pub covers_kept : (nodes : List Node) (literals : List Lit) (label : ℕ → ℕ) (held count : ℕ) (old new : Tables) → held ≤ count → KeepsTables count old new → Covers nodes literals label held old → Covers nodes literals label held new
covers_kept nodes literals label held count old new few h covers = record {
  signs = λ l there. record {
    positive = λ e. h.positives.stay (label l.node) held few ((covers.signs l there).positive e);
    negative = λ e. h.negatives.stay (label l.node) held few ((covers.signs l there).negative e);
  };
  each_number = λ n k e. number_stays nodes count (label n) held k old.slots new.slots few h.slots (covers.each_number n k e);
}

-- the same literals, with the same labels
covers_same : (nodes : List Node) (few many : List Lit) (was now : State) (held : ℕ) (t : Tables) → many ≡ few → now ≡ was → Covers nodes few (label_of was) held t → Covers nodes many (label_of now) held t
covers_same nodes few many was now held t same state covers =
    subst (λ (ls : List Lit). Covers nodes ls (label_of now) held t) (sym same) (subst (λ (s : State). Covers nodes few (label_of s) held t) (sym state) covers)

quiet_same : (nodes : List Node) (few many : List Lit) → many ≡ few → (IsContradicted nodes (map negation few) → ⊥) → IsContradicted nodes (map negation many) → ⊥
quiet_same nodes few many same quiet h = quiet (subst (λ (ls : List Lit). IsContradicted nodes (map negation ls)) same h)

pub covered_kept : (nodes : List Node) (h : Holding) (old new : Signs) (count : ℕ) → KeepsTables count (tables_of old) (tables_of new) → new.covered ≡ old.covered → old.covered ≤ count + 1 → IsCovered nodes h old → IsCovered nodes h new
covered_kept nodes h old new count keeps same few is = record {
  wide = wide_still (length nodes) count (tables_of old) (tables_of new) keeps is.wide;
  within = omega (arith, same, is.within);
  each = λ i less. covers_kept nodes (take i h.held.items) (label_of (state_at h i)) i count (tables_of old) (tables_of new) (omega (arith, less, same, few)) keeps (is.each i (omega (arith, less, same)));
  quiet = λ i less. is.quiet i (omega (arith, less, same));
}

pub covered_grown : (nodes : List Node) (old new : Holding) (l : Lit) (signs : Signs) → IsHolding nodes old.held.items old.levels.items old.partition → Grows old new l → IsCovered nodes old signs → IsCovered nodes new signs
covered_grown nodes old new l signs holds h is = record {
  wide = is.wide;
  within = omega (arith, is.within, ap length h.held, length_push old.held.items l);
  each = λ i less. covers_same nodes (take i old.held.items) (take i new.held.items) (state_at old i) (state_at new i) i (tables_of signs) (taken i less) (state_grown nodes old new l holds h i (below i less)) (is.each i less);
  quiet = λ i less. quiet_same nodes (take i old.held.items) (take i new.held.items) (taken i less) (is.quiet i less);
}
  where
    below : (i : ℕ) → i < signs.covered → i ≤ length old.held.items
    below i less = omega (arith, less, is.within)

    taken : (i : ℕ) → i < signs.covered → take i new.held.items ≡ take i old.held.items
    taken i less = ap (take i) h.held ∙ take-append-le i old.held.items (l ∷ []) (below i less)

pub covered_returned : (nodes : List Node) (old new : Holding) (signs : Signs) → Returns old new → IsCovered nodes old signs → IsCovered nodes new signs
covered_returned nodes old new signs h is = record {
  wide = is.wide;
  within = omega (arith, is.within, ap length h.held);
  each = λ i less. covers_same nodes (take i old.held.items) (take i new.held.items) (state_at old i) (state_at new i) i (tables_of signs) (ap (take i) h.held) (state_returned old new h i) (is.each i less);
  quiet = λ i less. quiet_same nodes (take i old.held.items) (take i new.held.items) (ap (take i) h.held) (is.quiet i less);
}

pub covered_cut : (nodes : List Node) (old new : Holding) (count : ℕ) (before after : Signs) → IsHolding nodes old.held.items old.levels.items old.partition → Cuts old new count → KeepsTables count (tables_of before) (tables_of after) → after.covered ≤ before.covered → after.covered ≤ count + 1
    → IsCovered nodes old before → IsCovered nodes new after
covered_cut nodes old new count before after holds h keeps fewer small is = record {
  wide = wide_still (length nodes) count (tables_of before) (tables_of after) keeps is.wide;
  within = within (cases_lt count (length old.held.items));
  each = λ i less.
      covers_same nodes (take i old.held.items) (take i new.held.items) (state_at old i) (state_at new i) i (tables_of after) (taken i less) (state_cut nodes old new count holds h i (below i less))
      (covers_kept nodes (take i old.held.items) (label_of (state_at old i)) i count (tables_of before) (tables_of after) (below i less) keeps (is.each i (omega (arith, less, fewer))));
  quiet = λ i less. quiet_same nodes (take i old.held.items) (take i new.held.items) (taken i less) (is.quiet i (omega (arith, less, fewer)));
}
  where
    below : (i : ℕ) → i < after.covered → i ≤ count
    below i less = omega (arith, less, small)

    taken : (i : ℕ) → i < after.covered → take i new.held.items ≡ take i old.held.items
    taken i less = ap (take i) h.held ∙ take-take i count old.held.items (below i less)

    within : (count < length old.held.items) ⊎ (length old.held.items ≤ count) → after.covered ≤ length new.held.items + 1
    within (inl less) = omega (arith, small, ap length h.held, length-take-le count old.held.items (omega (arith, less)))
    within (inr past) = omega (arith, fewer, is.within, ap length h.held, ap length (take_all count old.held.items past))

-- all that is held is covered too
pub covered_on : (nodes : List Node) (h : Holding) (old new : Signs) → KeepsTables (length h.held.items) (tables_of old) (tables_of new) → old.covered ≡ length h.held.items → new.covered ≡ length h.held.items + 1 → Covers nodes h.held.items (label_of (state_of h.partition)) (length h.held.items) (tables_of new)
    → state_at h (length h.held.items) ≡ state_of h.partition → (IsContradicted nodes (map negation h.held.items) → ⊥) → IsCovered nodes h old → IsCovered nodes h new
covered_on nodes h old new keeps was now covers here quiet is = record {
  wide = wide_still (length nodes) (length h.held.items) (tables_of old) (tables_of new) keeps is.wide;
  within = omega (arith, now);
  each = λ i less. each i less (cases_lt i old.covered);
  quiet = λ i less. calm i less (cases_lt i old.covered);
}
  where
    last : (i : ℕ) → i < new.covered → old.covered ≤ i → i ≡ length h.held.items
    last i less past = omega (arith, less, past, was, now)

    each : (i : ℕ) → i < new.covered → (i < old.covered) ⊎ (old.covered ≤ i) → Covers nodes (take i h.held.items) (label_of (state_at h i)) i (tables_of new)
    each i less (inl early) = covers_kept nodes (take i h.held.items) (label_of (state_at h i)) i (length h.held.items) (tables_of old) (tables_of new) (omega (arith, early, was)) keeps (is.each i early)
    each i less (inr past) =
        subst (λ (k : ℕ). Covers nodes (take k h.held.items) (label_of (state_at h k)) k (tables_of new)) (sym (last i less past))
        (covers_same nodes h.held.items (take (length h.held.items) h.held.items) (state_of h.partition) (state_at h (length h.held.items)) (length h.held.items) (tables_of new) (take_all (length h.held.items) h.held.items (omega arith)) here covers)

    calm : (i : ℕ) → i < new.covered → (i < old.covered) ⊎ (old.covered ≤ i) → IsContradicted nodes (map negation (take i h.held.items)) → ⊥
    calm i less (inl early) = is.quiet i early
    calm i less (inr past) =
        quiet_same nodes h.held.items (take i h.held.items) (take_all i h.held.items (omega (arith, last i less past))) quiet
