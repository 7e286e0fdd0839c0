-- Stamps and slots: what counts with some literals held counts with more.
use Rattle.std.proofs.Common.{◌≡◌, ℕ, ℤ, ◌<◌, ◌≤◌, ◌⊎◌, inl, inr, Bool, true, false, nat_le, List, length, get_or, set, Option, None, Some, refl, sym, ap, ◌∙◌, subst, arith, true≢false, if◌then◌else◌}
use Rattle.std.proofs.lemmas.Bool.{cases_eq, leb-true, leb-false, le-leb}
use Rattle.std.proofs.lemmas.Bool.Decides.{Decides-int_eq}
use Rattle.std.proofs.lemmas.Option.{same_Some, none-some}
use Rattle.std.proofs.lemmas.List.{get_or-set_same, get_or-set_other, length-set}
use Rattle.df_form.specs.declared.log.Lit.{Lit}
use Rattle.df_form.specs.Node.{Node}
use Rattle.df_rules.specs.CongruenceLine.{number_at}
use Rattle.df_classes.specs.declared.slots.Slot.{Slot}
use Rattle.df_classes.specs.mirror.Signs.{stamp_at, is_early, is_stamped, KeepsStamps, KeepsStampsTo, early_node, slot_node, are_one, HasNumber, KeepsSlotsTo, Tables, KeepsTables, AreWide, Marks}

-- ---- tests of numbers

early_le : (a b c : ℕ) → nat_le a b ≡ true → b ≤ c → nat_le a c ≡ true
early_le a b c e less = let first : a ≤ b = leb-true a b e in le-leb a c (omega (arith, first, less))

-- ---- stamps

early_later : (stamp : Option ℕ) (i j : ℕ) → i ≤ j → is_early stamp i ≡ true → is_early stamp j ≡ true
early_later None i j less e = absurd cc
early_later (Some s) i j less e = early_le s i j e less

pub stamped_later : (stamps : List (Option ℕ)) (label i j : ℕ) → i ≤ j → is_stamped stamps label i ≡ true → is_stamped stamps label j ≡ true
stamped_later stamps label i j less e = early_later (stamp_at stamps label) i j less e

pub keeps_all : (old : List (Option ℕ)) → KeepsStamps old old
keeps_all old = record { long = refl; stay = λ label held e. e }

pub keeps_to : (count : ℕ) (old new : List (Option ℕ)) → KeepsStamps old new → KeepsStampsTo count old new
keeps_to count old new h = record { long = h.long; stay = λ label held less e. h.stay label held e }

pub stamps_same : (count : ℕ) (old : List (Option ℕ)) → KeepsStampsTo count old old
stamps_same count old = record { long = refl; stay = λ label held less e. e }

pub stamps_then : (count : ℕ) (old mid new : List (Option ℕ)) → KeepsStampsTo count old mid → KeepsStampsTo count mid new → KeepsStampsTo count old new
stamps_then count old mid new h k = record { long = k.long ∙ h.long; stay = λ label held less e. k.stay label held less (h.stay label held less e) }

-- a stamp is set where there was none that counts
module _ (old : List (Option ℕ)) (label held : ℕ) (less : label < length old) (later : is_stamped old label held ≡ false) where
  abbrev stamped : List (Option ℕ)
  stamped = set old label (Some held)

  pub stamp_there : is_stamped stamped label held ≡ true
  stamp_there = ap (λ (s : Option ℕ). is_early s held) (get_or-set_same old label (Some held) None less) ∙ own held
    where
      own : (n : ℕ) → nat_le n n ≡ true
      own n = le-leb n n (omega arith)

  stays : (other i : ℕ) → is_stamped old other i ≡ true → is_stamped stamped other i ≡ true
  stays other i e = by (cases_eq other label)
    where
      early : (stamp : Option ℕ) → is_early stamp i ≡ true → is_early stamp held ≡ false → nat_le held i ≡ true
      early None f g = absurd cc
      early (Some s) f g = let first : s ≤ i = leb-true s i f in let second : held < s = leb-false s held g in le-leb held i (omega (arith, first, second))

      by : (other ≡ label) ⊎ (other ≡ label → ⊥) → is_stamped stamped other i ≡ true
      by (inl same) =
          subst (λ (n : ℕ). is_stamped stamped n i ≡ true) (sym same)
          (ap (λ (s : Option ℕ). is_early s i) (get_or-set_same old label (Some held) None less) ∙ early (stamp_at old label) (subst (λ (n : ℕ). is_stamped old n i ≡ true) same e) later)
      by (inr apart) = ap (λ (s : Option ℕ). is_early s i) (get_or-set_other old label other (Some held) None apart) ∙ e

  pub stamp_keeps : KeepsStamps old stamped
  stamp_keeps = record { long = length-set old label (Some held); stay = stays }

  pub cleared_keeps : KeepsStampsTo held old (set old label None)
  cleared_keeps = record { long = length-set old label None; stay = λ other i few e. kept other i few e (cases_eq other label) }
    where
      kept : (other i : ℕ) → i ≤ held → is_stamped old other i ≡ true → (other ≡ label) ⊎ (other ≡ label → ⊥) → is_stamped (set old label None) other i ≡ true
      kept other i few e (inl same) = absurd (true≢false (sym (stamped_later old label i held few (subst (λ (n : ℕ). is_stamped old n i ≡ true) same e)) ∙ later))
      kept other i few e (inr apart) = ap (λ (s : Option ℕ). is_early s i) (get_or-set_other old label other None None apart) ∙ e

-- ---- slots

node_later : (slot : Option Slot) (i j node : ℕ) → i ≤ j → early_node slot i ≡ Some node → early_node slot j ≡ Some node
node_later None i j node less e = absurd cc
node_later (Some slot) i j node less e = by (nat_le slot.since i) refl e
  where
    by : (b : Bool) → nat_le slot.since i ≡ b → (if b then Some slot.node else None) ≡ Some node → early_node (Some slot) j ≡ Some node
    by true f g = ap (λ (b : Bool). if b then Some slot.node else None) (early_le slot.since i j f less) ∙ g
    by false f g = absurd (none-some node g)

pub slot_later : (slots : List (Option Slot)) (label i j node : ℕ) → i ≤ j → slot_node slots label i ≡ Some node → slot_node slots label j ≡ Some node
slot_later slots label i j node less e = node_later (get_or slots label None) i j node less e

pub slots_same : (count : ℕ) (old : List (Option Slot)) → KeepsSlotsTo count old old
slots_same count old = record { long = refl; stay = λ label held node less e. e }

pub slots_then : (count : ℕ) (old mid new : List (Option Slot)) → KeepsSlotsTo count old mid → KeepsSlotsTo count mid new → KeepsSlotsTo count old new
slots_then count old mid new h k = record { long = k.long ∙ h.long; stay = λ label held node less e. k.stay label held node less (h.stay label held node less e) }

-- a slot that does not count gets another content
module _ (old : List (Option Slot)) (label held : ℕ) (none : slot_node old label held ≡ None) (content : Option Slot) where
  pub slot_keeps : KeepsSlotsTo held old (set old label content)
  slot_keeps = record { long = length-set old label content; stay = λ other i node few e. kept other i node few e (cases_eq other label) }
    where
      kept : (other i node : ℕ) → i ≤ held → slot_node old other i ≡ Some node → (other ≡ label) ⊎ (other ≡ label → ⊥) → slot_node (set old label content) other i ≡ Some node
      kept other i node few e (inl same) = absurd (none-some node (sym none ∙ slot_later old label i held node few (subst (λ (n : ℕ). slot_node old n i ≡ Some node) same e)))
      kept other i node few e (inr apart) = ap (λ (s : Option Slot). early_node s i) (get_or-set_other old label other content None apart) ∙ e

pub slot_there : (old : List (Option Slot)) (label held node : ℕ) → label < length old → slot_node (set old label (Some (record { node = node; since = held }))) label held ≡ Some node
slot_there old label held node less =
    ap (λ (s : Option Slot). early_node s held) (get_or-set_same old label (Some (record { node = node; since = held })) None less) ∙ ap (λ (b : Bool). if b then Some node else None) (own held)
  where
    own : (n : ℕ) → nat_le n n ≡ true
    own n = le-leb n n (omega arith)

-- the number that is there already
pub one_number : (nodes : List Node) (slots : List (Option Slot)) (label held node other : ℕ) (k : ℤ) → slot_node slots label held ≡ Some other → are_one (number_at nodes node) (number_at nodes other) ≡ true → number_at nodes node ≡ Some k → HasNumber nodes slots label held k
one_number nodes slots label held node other k there e is = record { other = other; there = there; number = by (number_at nodes node) (number_at nodes other) refl refl e is }
  where
    by : (a b : Option ℤ) → number_at nodes node ≡ a → number_at nodes other ≡ b → are_one a b ≡ true → a ≡ Some k → number_at nodes other ≡ Some k
    by (Some i) (Some j) left right e is = right ∙ ap Some (sym ((Decides-int_eq i j).0 e) ∙ same_Some i k is)
    by None b left right e is = absurd (none-some k is)
    by (Some i) None left right e is = absurd cc

pub number_stays : (nodes : List Node) (count label held : ℕ) (k : ℤ) (old new : List (Option Slot)) → held ≤ count → KeepsSlotsTo count old new → HasNumber nodes old label held k → HasNumber nodes new label held k
number_stays nodes count label held k old new few h is = record { other = is.other; there = h.stay label held is.other few is.there; number = is.number }

pub number_later : (nodes : List Node) (slots : List (Option Slot)) (label i j : ℕ) (k : ℤ) → i ≤ j → HasNumber nodes slots label i k → HasNumber nodes slots label j k
number_later nodes slots label i j k less is = record { other = is.other; there = slot_later slots label i j is.other less is.there; number = is.number }

-- ---- tables

pub tables_same : (count : ℕ) (t : Tables) → KeepsTables count t t
tables_same count t = record { positives = stamps_same count t.positives; negatives = stamps_same count t.negatives; slots = slots_same count t.slots }

pub tables_then : (count : ℕ) (old mid new : Tables) → KeepsTables count old mid → KeepsTables count mid new → KeepsTables count old new
tables_then count old mid new h k = record {
  positives = stamps_then count old.positives mid.positives new.positives h.positives k.positives;
  negatives = stamps_then count old.negatives mid.negatives new.negatives h.negatives k.negatives;
  slots = slots_then count old.slots mid.slots new.slots h.slots k.slots;
}

pub wide_still : (nodes count : ℕ) (old new : Tables) → KeepsTables count old new → AreWide nodes old → AreWide nodes new
wide_still nodes count old new h is = record { positives = h.positives.long ∙ is.positives; negatives = h.negatives.long ∙ is.negatives; slots = h.slots.long ∙ is.slots }

-- one table changes
pub positives_kept : (count : ℕ) (t : Tables) (new : List (Option ℕ)) → KeepsStamps t.positives new → KeepsTables count t (record { positives = new; negatives = t.negatives; slots = t.slots })
positives_kept count t new h = record { positives = keeps_to count t.positives new h; negatives = stamps_same count t.negatives; slots = slots_same count t.slots }

pub negatives_kept : (count : ℕ) (t : Tables) (new : List (Option ℕ)) → KeepsStamps t.negatives new → KeepsTables count t (record { positives = t.positives; negatives = new; slots = t.slots })
negatives_kept count t new h = record { positives = stamps_same count t.positives; negatives = keeps_to count t.negatives new h; slots = slots_same count t.slots }

pub slots_kept : (count : ℕ) (t : Tables) (new : List (Option Slot)) → KeepsSlotsTo count t.slots new → KeepsTables count t (record { positives = t.positives; negatives = t.negatives; slots = new })
slots_kept count t new h = record { positives = stamps_same count t.positives; negatives = stamps_same count t.negatives; slots = h }

-- a literal's sign is marked at the label that was read
pub marks_positive : (label : ℕ → ℕ) (held : ℕ) (l : Lit) (c : ℕ) (old : ℕ) (t : Tables) → c ≡ label l.node → l.positive ≡ true → (c < old → is_stamped t.positives c held ≡ true) → label l.node < old → Marks label held l t
marks_positive label held l c old t same is h less = record {
  positive = λ e. subst (λ (n : ℕ). is_stamped t.positives n held ≡ true) same (h (omega (arith, same, less)));
  negative = λ e. absurd (true≢false (sym is ∙ e));
}

pub marks_negative : (label : ℕ → ℕ) (held : ℕ) (l : Lit) (c : ℕ) (old : ℕ) (t : Tables) → c ≡ label l.node → l.positive ≡ false → (c < old → is_stamped t.negatives c held ≡ true) → label l.node < old → Marks label held l t
marks_negative label held l c old t same is h less = record {
  positive = λ e. absurd (true≢false (sym e ∙ is));
  negative = λ e. subst (λ (n : ℕ). is_stamped t.negatives n held ≡ true) same (h (omega (arith, same, less)));
}
