-- Nodes that are moved to another label.
use Rattle.std.proofs.Common.{◌≡◌, ℕ, zero, suc, ◌<◌, ◌⊎◌, inl, inr, List, [], ◌∷◌, ◌++◌, length, Contains, refl, sym, ap, ◌∙◌, subst, arith, append_assoc, append-nil}
use Rattle.std.proofs.lemmas.List.{get_or-set_same, get_or-set_other, length-set}
use Rattle.std.proofs.lemmas.List.Elements.{Contains-append_right}
use Rattle.std.proofs.lemmas.Bool.{cases_eq}
use Rattle.df_lemmas.proofs.Alls.{none_there}
use Rattle.df_classes.specs.mirror.State.{State, label_of, list_at, moved, moved_all}

pub first_there : (x : ℕ) (xs : List ℕ) → Contains (x ∷ xs) x
first_there x xs = (0, omega arith, refl)

pub later_there : (x : ℕ) (xs : List ℕ) (y : ℕ) → Contains xs y → Contains (x ∷ xs) y
later_there x xs y there = Contains-append_right (x ∷ []) xs y there

pub there_cases : (x : ℕ) (xs : List ℕ) (y : ℕ) → Contains (x ∷ xs) y → (x ≡ y) ⊎ Contains xs y
there_cases x xs y (zero, less, e) = inl e
there_cases x xs y (suc k, less, e) = inr (k, omega (arith, less), e)

abbrev pub AreNodes : List ℕ → State → Type 0
AreNodes ns s = (n : ℕ) → Contains ns n → n < length s.labels

-- ---- one

pub moved_here : (node label : ℕ) (s : State) → node < length s.labels → label_of (moved node label s) node ≡ label
moved_here node label s inside = get_or-set_same s.labels node label node inside

pub moved_elsewhere : (node label : ℕ) (s : State) (n : ℕ) → (n ≡ node → ⊥) → label_of (moved node label s) n ≡ label_of s n
moved_elsewhere node label s n apart = get_or-set_other s.labels node n label n apart

moved_stays : (node label : ℕ) (s : State) (n : ℕ) → node < length s.labels → label_of s n ≡ label → label_of (moved node label s) n ≡ label
moved_stays node label s n inside e = by (cases_eq n node)
  where
    by : (n ≡ node) ⊎ (n ≡ node → ⊥) → label_of (moved node label s) n ≡ label
    by (inl same) = ap (label_of (moved node label s)) same ∙ moved_here node label s inside
    by (inr apart) = moved_elsewhere node label s n apart ∙ e

-- ---- all

pub are_more : (n : ℕ) (ns : List ℕ) (label : ℕ) (s : State) → AreNodes (n ∷ ns) s → AreNodes ns (moved n label s)
are_more n ns label s all m there =
    let less : m < length s.labels = all m (later_there n ns m there) in
    omega (arith, less, length-set s.labels n label)

pub moved_lengths : (label : ℕ) (ns : List ℕ) (s : State) → (length (moved_all label ns s).labels ≡ length s.labels) × (length (moved_all label ns s).members ≡ length s.members) × ((moved_all label ns s).buckets ≡ s.buckets)
moved_lengths label [] s = (refl, refl, refl)
moved_lengths label (n ∷ ns) s =
    let rest = moved_lengths label ns (moved n label s) in
    (rest.0 ∙ length-set s.labels n label, rest.1 ∙ length-set s.members label (list_at s.members label ++ n ∷ []), rest.2)

all_stay : (label : ℕ) (ns : List ℕ) (s : State) (m : ℕ) → AreNodes ns s → label_of s m ≡ label → label_of (moved_all label ns s) m ≡ label
all_stay label [] s m all e = e
all_stay label (n ∷ ns) s m all e = all_stay label ns (moved n label s) m (are_more n ns label s all) (moved_stays n label s m (all n (first_there n ns)) e)

pub moved_in : (label : ℕ) (ns : List ℕ) (s : State) (m : ℕ) → AreNodes ns s → Contains ns m → label_of (moved_all label ns s) m ≡ label
moved_in label [] s m all there = absurd (none_there m there)
moved_in label (n ∷ ns) s m all there = by (there_cases n ns m there) (moved_in label ns (moved n label s) m (are_more n ns label s all))
  where
    inside : n < length s.labels
    inside = all n (first_there n ns)

    by : (n ≡ m) ⊎ Contains ns m → (Contains ns m → label_of (moved_all label ns (moved n label s)) m ≡ label) → label_of (moved_all label ns (moved n label s)) m ≡ label
    by (inl same) rest = all_stay label ns (moved n label s) m (are_more n ns label s all) (ap (label_of (moved n label s)) (sym same) ∙ moved_here n label s inside)
    by (inr later) rest = rest later

pub moved_out : (label : ℕ) (ns : List ℕ) (s : State) (m : ℕ) → (Contains ns m → ⊥) → label_of (moved_all label ns s) m ≡ label_of s m
moved_out label [] s m apart = refl
moved_out label (n ∷ ns) s m apart =
    moved_out label ns (moved n label s) m (λ there. apart (later_there n ns m there))
    ∙ moved_elsewhere n label s m (λ same. apart (subst (Contains (n ∷ ns)) (sym same) (first_there n ns)))

pub others_stay : (label : ℕ) (ns : List ℕ) (s : State) (l : ℕ) → (l ≡ label → ⊥) → list_at (moved_all label ns s).members l ≡ list_at s.members l
others_stay label [] s l apart = refl
others_stay label (n ∷ ns) s l apart = others_stay label ns (moved n label s) l apart ∙ get_or-set_other s.members label l (list_at s.members label ++ n ∷ []) [] apart

pub label_gets : (label : ℕ) (ns : List ℕ) (s : State) → label < length s.members → list_at (moved_all label ns s).members label ≡ list_at s.members label ++ ns
label_gets label [] s within = sym (append-nil (list_at s.members label))
label_gets label (n ∷ ns) s within =
    let long : label < length (moved n label s).members = omega (arith, within, length-set s.members label (list_at s.members label ++ n ∷ [])) in
    label_gets label ns (moved n label s) long
    ∙ ap (λ (xs : List ℕ). xs ++ ns) (get_or-set_same s.members label (list_at s.members label ++ n ∷ []) [] within)
    ∙ append_assoc (list_at s.members label) (n ∷ []) ns
