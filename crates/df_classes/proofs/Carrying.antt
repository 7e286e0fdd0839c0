-- What is known of classes is carried over changes.
use Rattle.std.proofs.Common.{◌≡◌, ℕ, ℤ, ◌+◌, ◌<◌, ◌≤◌, ◌⊎◌, inl, inr, true, false, List, [], ◌∷◌, ◌++◌, length, get_or, take, Contains, Option, None, Some, slice_get, sym, ap, ◌∙◌, subst, arith}
use Rattle.std.proofs.lemmas.Bool.{cases_eq}
use Rattle.std.proofs.lemmas.List.{take_more}
use Rattle.std.proofs.lemmas.List.Elements.{Contains-push_cases}
use Rattle.df_lemmas.proofs.Alls.{none_there}
use Rattle.df_form.specs.declared.log.Lit.{Lit}
use Rattle.df_form.specs.Node.{Node}
use Rattle.df_rules.specs.CongruenceLine.{number_at}
use Rattle.df_classes.specs.declared.slots.Slot.{Slot}
use Rattle.df_classes.specs.declared.partition.Change.{Change}
use Rattle.df_classes.specs.declared.partition.Change.TheVariants as changes
use Rattle.df_classes.specs.SignsView.{PutsNumbers, CarriesFrom, is_torn, clashes_by, TakesIn}
use Rattle.df_classes.specs.mirror.State.{State, label_of}
use Rattle.df_classes.specs.mirror.Clash.{is_denied}
use Rattle.df_classes.specs.mirror.Signs.{is_stamped, HasNumber, KeepsSlotsTo, Tables, KeepsTables, AreWide, CarriesNode, Carries, Marks}
use Rattle.df_classes.proofs.Stamping.{number_stays}

-- by the label that was read
pub carries_node : (nodes : List Node) (label : ℕ → ℕ) (held n before c : ℕ) (old new : Tables) → c ≡ label n → (is_stamped old.positives before held ≡ true → c < length old.positives → is_stamped new.positives c held ≡ true)
    → (is_stamped old.negatives before held ≡ true → c < length old.negatives → is_stamped new.negatives c held ≡ true) → ((k : ℤ) → number_at nodes n ≡ Some k → c < length old.slots → HasNumber nodes new.slots c held k) → CarriesNode nodes label held n before old new
carries_node nodes label held n before c old new same positive negative number = record {
  positive = subst (λ (m : ℕ). is_stamped old.positives before held ≡ true → m < length old.positives → is_stamped new.positives m held ≡ true) same positive;
  negative = subst (λ (m : ℕ). is_stamped old.negatives before held ≡ true → m < length old.negatives → is_stamped new.negatives m held ≡ true) same negative;
  number = subst (λ (m : ℕ). (k : ℤ) → number_at nodes n ≡ Some k → m < length old.slots → HasNumber nodes new.slots m held k) same number;
}

-- and then more is known
pub carries_kept : (nodes : List Node) (label : ℕ → ℕ) (held : ℕ) (change : Option Change) (old mid new : Tables) → Carries nodes label held change old mid → KeepsTables held mid new → Carries nodes label held change old new
carries_kept nodes label held None old mid new h k = tt
carries_kept nodes label held (Some (changes.Entered bucket)) old mid new h k = tt
carries_kept nodes label held (Some (changes.Moved n before)) old mid new h k = record {
  positive = λ e less. k.positives.stay (label n) held (omega arith) (h.positive e less);
  negative = λ e less. k.negatives.stay (label n) held (omega arith) (h.negative e less);
  number = λ m e less. number_stays nodes held (label n) held m mid.slots new.slots (omega arith) k.slots (h.number m e less);
}

-- more was known before
pub carries_after : (nodes : List Node) (label : ℕ → ℕ) (held : ℕ) (change : Option Change) (old mid new : Tables) → KeepsTables held old mid → Carries nodes label held change mid new → Carries nodes label held change old new
carries_after nodes label held None old mid new h k = tt
carries_after nodes label held (Some (changes.Entered bucket)) old mid new h k = tt
carries_after nodes label held (Some (changes.Moved n before)) old mid new h k = record {
  positive = λ e less. k.positive (h.positives.stay before held (omega arith) e) (omega (arith, less, h.positives.long));
  negative = λ e less. k.negative (h.negatives.stay before held (omega arith) e) (omega (arith, less, h.negatives.long));
  number = λ m e less. k.number m e (omega (arith, less, h.slots.long));
}

-- one change more
pub carries_on : (nodes : List Node) (s : State) (held : ℕ) (trail : List Change) (from place : ℕ) (old mid new : Tables) → CarriesFrom nodes s held trail from place old mid → KeepsTables held old mid → KeepsTables held mid new → Carries nodes (label_of s) held (slice_get trail place) mid new
    → CarriesFrom nodes s held trail from (place + 1) old new
carries_on nodes s held trail from place old mid new so_far first keeps here = λ p late early. by p late early (cases_eq p place)
  where
    by : (p : ℕ) → from ≤ p → p < place + 1 → (p ≡ place) ⊎ (p ≡ place → ⊥) → Carries nodes (label_of s) held (slice_get trail p) old new
    by p late early (inl e) = subst (λ (k : ℕ). Carries nodes (label_of s) held (slice_get trail k) old new) (sym e) (carries_after nodes (label_of s) held (slice_get trail place) old mid new first here)
    by p late early (inr apart) = carries_kept nodes (label_of s) held (slice_get trail p) old mid new (so_far p late (omega (arith, early, apart))) keeps

pub carries_none : (nodes : List Node) (s : State) (held : ℕ) (trail : List Change) (from : ℕ) (old : Tables) → CarriesFrom nodes s held trail from from old old
carries_none nodes s held trail from old = λ p late early. absurd (omega (arith, late, early))

pub carries_whole : (nodes : List Node) (s : State) (held : ℕ) (trail : List Change) (from place : ℕ) (old new : Tables) → length trail ≤ place → CarriesFrom nodes s held trail from place old new → CarriesFrom nodes s held trail from (length trail) old new
carries_whole nodes s held trail from place old new past h = λ p late early. h p late (omega (arith, early, past))

-- ---- numbers that are put

pub puts_none : (nodes : List Node) (s : State) (t : Tables) → PutsNumbers nodes s [] t
puts_none nodes s t = λ n k there e inside. absurd (none_there n there)

-- by the label that was read
pub number_put : (nodes : List Node) (s : State) (x c : ℕ) (old new : List (Option Slot)) → c ≡ label_of s x → ((k : ℤ) → number_at nodes x ≡ Some k → c < length old → HasNumber nodes new c 0 k)
    → (k : ℤ) → number_at nodes x ≡ Some k → label_of s x < length old → HasNumber nodes new (label_of s x) 0 k
number_put nodes s x c old new same h = subst (λ (m : ℕ). (k : ℤ) → number_at nodes x ≡ Some k → m < length old → HasNumber nodes new m 0 k) same h

pub puts_on : (nodes : List Node) (s : State) (ns : List ℕ) (i x : ℕ) (old new : Tables) → i < length ns → get_or ns i 0 ≡ x → PutsNumbers nodes s (take i ns) old → KeepsSlotsTo 0 old.slots new.slots
    → ((k : ℤ) → number_at nodes x ≡ Some k → label_of s x < length old.slots → HasNumber nodes new.slots (label_of s x) 0 k) → PutsNumbers nodes s (take (i + 1) ns) new
puts_on nodes s ns i x old new less at so_far keeps here = λ n k there e inside. by n k e inside (Contains-push_cases (take i ns) x n (subst (λ (ms : List ℕ). Contains ms n) (take_more ns i 0 less ∙ ap (λ (y : ℕ). take i ns ++ y ∷ []) at) there))
  where
    by : (n : ℕ) (k : ℤ) → number_at nodes n ≡ Some k → label_of s n < length new.slots → Contains (take i ns) n ⊎ (x ≡ n) → HasNumber nodes new.slots (label_of s n) 0 k
    by n k e inside (inl old_one) = number_stays nodes 0 (label_of s n) 0 k old.slots new.slots (omega arith) keeps (so_far n k old_one e (omega (arith, inside, keeps.long)))
    by n k e inside (inr same) =
        subst (λ (m : ℕ). HasNumber nodes new.slots (label_of s m) 0 k) same
        (here k (ap (number_at nodes) same ∙ e) (omega (arith, inside, keeps.long, ap (label_of s) same)))

-- ---- no clash so far

pub calm_on : (nodes : List Node) (users : List (List ℕ)) (s : State) (held : ℕ) (t : Tables) (trail : List Change) (from place : ℕ) → ((p : ℕ) → from ≤ p → p < place → clashes_by nodes users (label_of s) held t (slice_get trail p) ≡ false)
    → clashes_by nodes users (label_of s) held t (slice_get trail place) ≡ false → (p : ℕ) → from ≤ p → p < place + 1 → clashes_by nodes users (label_of s) held t (slice_get trail p) ≡ false
calm_on nodes users s held t trail from place so_far here p late early = by (cases_eq p place)
  where
    by : (p ≡ place) ⊎ (p ≡ place → ⊥) → clashes_by nodes users (label_of s) held t (slice_get trail p) ≡ false
    by (inl e) = ap (λ (k : ℕ). clashes_by nodes users (label_of s) held t (slice_get trail k)) e ∙ here
    by (inr apart) = so_far p late (omega (arith, early, apart))

-- ---- a literal and what came with it

marks_kept : (label : ℕ → ℕ) (held : ℕ) (l : Lit) (old new : Tables) → KeepsTables held old new → Marks label held l old → Marks label held l new
marks_kept label held l old new keeps h = record {
  positive = λ e. keeps.positives.stay (label l.node) held (omega arith) (h.positive e);
  negative = λ e. keeps.negatives.stay (label l.node) held (omega arith) (h.negative e);
}

pub taken : (nodes : List Node) (users : List (List ℕ)) (s : State) (held : ℕ) (l : Lit) (trail : List Change) (from : ℕ) (old mid new : Tables) → AreWide (length nodes) old → KeepsTables held old mid → KeepsTables held mid new
    → (label_of s l.node < length old.positives → label_of s l.node < length old.negatives → Marks (label_of s) held l mid) → CarriesFrom nodes s held trail from (length trail) mid new → is_torn new (label_of s l.node) held ≡ false → is_denied nodes (label_of s) l ≡ false
    → ((p : ℕ) → from ≤ p → p < length trail → clashes_by nodes users (label_of s) held new (slice_get trail p) ≡ false) → TakesIn nodes users s held l trail from old new
taken nodes users s held l trail from old mid new wide begun keeps marks carries torn denied calm = record {
  marks = λ less. marks_kept (label_of s) held l mid new keeps (marks (omega (arith, less, wide.positives)) (omega (arith, less, wide.negatives)));
  carries = λ p late early. carries_after nodes (label_of s) held (slice_get trail p) old mid new begun (carries p late early);
  not_torn = torn;
  not_denied = denied;
  calm = calm;
}
