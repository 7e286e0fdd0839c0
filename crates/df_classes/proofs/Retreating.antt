-- Changes are taken back one by one.
use Rattle.std.proofs.Common.{◌≡◌, ℕ, ◌<◌, ◌≤◌, List, [], ◌∷◌, ◌++◌, length, take, drop, refl, sym, ap, ◌∙◌, arith, append_assoc, append-nil}
use Rattle.std.proofs.lemmas.List.{length_push, drop-append-le, take-append-le, take_all, drop_all}
use Rattle.df_classes.specs.declared.partition.Change.{Change}
use Rattle.df_classes.specs.declared.partition.Partition.{Partition}
use Rattle.df_form.specs.declared.log.Pair.{Pair}
use Rattle.df_classes.specs.mirror.State.{undone, back}
use Rattle.df_classes.specs.PartitionView.{state_of, Extends, UndoesLast}
use Rattle.df_classes.proofs.Undoing.{back_more, back_last}

-- what is still to be taken back leads to the same state
pub record IsRetreating (changes : ℕ) (old now : Partition) : Type 0 where
  pub state : back (drop changes now.trail.items) (state_of now) ≡ back (drop changes old.trail.items) (state_of old)
  pub trail : take changes now.trail.items ≡ take changes old.trail.items
  pub pairs : now.pairs.items ≡ old.pairs.items

pub retreats_none : (changes : ℕ) (old : Partition) → IsRetreating changes old old
retreats_none changes old = record { state = refl; trail = refl; pairs = refl }

module _ (changes : ℕ) (old now next : Partition) (is : IsRetreating changes old now) (more : changes < length now.trail.items) (h : UndoesLast now next) where
  within : changes ≤ length next.trail.items
  within = omega (arith, more, ap length h.trail, length_push next.trail.items h.change)

  pub retreats_on : IsRetreating changes old next
  retreats_on = record {
    state =
        sym (ap (λ (cs : List Change). back (drop changes cs) (state_of now)) h.trail
        ∙ ap (λ (cs : List Change). back cs (state_of now)) (drop-append-le changes next.trail.items (h.change ∷ []) within)
        ∙ back_last (drop changes next.trail.items) h.change (state_of now) (state_of next) (sym h.state))
        ∙ is.state;
    trail = sym (ap (take changes) h.trail ∙ take-append-le changes next.trail.items (h.change ∷ []) within) ∙ is.trail;
    pairs = h.pairs ∙ is.pairs;
  }

  pub shorter : length next.trail.items < length now.trail.items
  shorter = omega (arith, ap length h.trail, length_push next.trail.items h.change)

pub retreated : (changes : ℕ) (old now : Partition) → IsRetreating changes old now → length now.trail.items ≤ changes → (state_of now ≡ back (drop changes old.trail.items) (state_of old)) × (now.trail.items ≡ take changes old.trail.items)
retreated changes old now is few = (
  sym (ap (λ (cs : List Change). back cs (state_of now)) (drop_all changes now.trail.items few)) ∙ is.state,
  sym (take_all changes now.trail.items few) ∙ is.trail,
)

-- ---- growth

pub extends_none : (old new : Partition) → new.trail.items ≡ old.trail.items → state_of new ≡ state_of old → new.pairs.items ≡ old.pairs.items → Extends old new
extends_none old new trail state pairs = record { made = []; trail = trail ∙ sym (append-nil old.trail.items); goes_back = state; more = []; pairs = pairs ∙ sym (append-nil old.pairs.items) }

pub extends_then : (old mid new : Partition) → Extends old mid → Extends mid new → Extends old new
extends_then old mid new h k = record {
  made = h.made ++ k.made;
  trail = k.trail ∙ ap (λ (cs : List Change). cs ++ k.made) h.trail ∙ append_assoc old.trail.items h.made k.made;
  goes_back = back_more h.made k.made (state_of new) ∙ ap (back h.made) k.goes_back ∙ h.goes_back;
  more = h.more ++ k.more;
  pairs = k.pairs ∙ ap (λ ps. ps ++ k.more) h.pairs ∙ append_assoc old.pairs.items h.more k.more;
}

pub extends_one : (old new : Partition) (change : Change) → new.trail.items ≡ old.trail.items ++ change ∷ [] → undone change (state_of new) ≡ state_of old → new.pairs.items ≡ old.pairs.items → Extends old new
extends_one old new change trail state pairs = record { made = change ∷ []; trail = trail; goes_back = state; more = []; pairs = pairs ∙ sym (append-nil old.pairs.items) }

pub extends_pair : (old new : Partition) (more : List Pair) → new.trail.items ≡ old.trail.items → state_of new ≡ state_of old → new.pairs.items ≡ old.pairs.items ++ more → Extends old new
extends_pair old new more trail state pairs = record { made = []; trail = trail ∙ sym (append-nil old.trail.items); goes_back = state; more = more; pairs = pairs }
