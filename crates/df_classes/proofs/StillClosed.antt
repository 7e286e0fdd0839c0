-- Steps towards labels that are closed.
use Rattle.std.proofs.Common.{◌≡◌, ℕ, ◌%◌, ◌⊎◌, inl, inr, List, [], ◌∷◌, length, get_or, Contains, None, Some, slice_get, sym, ap, ◌∙◌, subst}
use Rattle.std.specs.List.{AllZip}
use Rattle.std.proofs.lemmas.Bool.{cases_eq}
use Rattle.std.proofs.lemmas.Option.{same_Some, none-some}
use Rattle.df_form.specs.declared.log.Pair.{Pair}
use Rattle.df_form.specs.declared.node.Op.{Op}
use Rattle.df_form.specs.Node.{Node}
use Rattle.df_rules.specs.Classes.{InOneClass, turned, through}
use Rattle.df_rules.specs.Congruence.{IsCongruent}
use Rattle.df_rules.proofs.OneClass.{wider}
use Rattle.df_classes.specs.Labels.{HaveOneLabel}
use Rattle.df_classes.specs.mirror.State.{State, label_of, list_at}
use Rattle.df_classes.specs.mirror.Partition.{renamed}
use Rattle.df_classes.specs.mirror.Closure.{AreAlike, seed_of, mixed, bucket_of, HasTwin, IsClosedBut}
use Rattle.df_classes.proofs.Pairs.{AllAmong}
use Rattle.df_classes.proofs.Moving.{there_cases}
use Rattle.df_classes.proofs.Joining.{renamed_loser, renamed_other}
use Rattle.df_classes.proofs.Alike.{same_mixed, mixed_elsewhere, zip_weaker, zip_elsewhere, alike_turned, alike_through}

-- ---- a class goes to another, and the nodes that it touches wait

module _ (nodes : List Node) (s new : State) (winner loser : ℕ) (waiting later : List ℕ) (labels : (n : ℕ) → label_of new n ≡ renamed winner loser (label_of s n)) (buckets : new.buckets ≡ s.buckets)
    (keep : (p : ℕ) → Contains waiting p → Contains later p) (touched : (p n : ℕ) (node : Node) → slice_get nodes p ≡ Some node → Contains node.parts n → label_of s n ≡ loser → Contains later p) where
  pub still_one : (m n : ℕ) → label_of s m ≡ label_of s n → label_of new m ≡ label_of new n
  still_one m n e = labels m ∙ ap (renamed winner loser) e ∙ sym (labels n)

  untouched : (p : ℕ) (node : Node) → slice_get nodes p ≡ Some node → (Contains later p → ⊥) → (n : ℕ) → Contains node.parts n → label_of new n ≡ label_of s n
  untouched p node is rests n there = labels n ∙ renamed_other winner loser (label_of s n) (λ e. rests (touched p n node is there e))

  same_bucket : (node : Node) → ((n : ℕ) → Contains node.parts n → label_of new n ≡ label_of s n) → bucket_of new node ≡ bucket_of s node
  same_bucket node same = λ i. mixed_elsewhere (label_of s) (label_of new) node.parts (seed_of node.op) same i % length (buckets i)

  twin_stays : (p : ℕ) (node : Node) → slice_get nodes p ≡ Some node → (Contains later p → ⊥) → HasTwin nodes s p node → HasTwin nodes new p node
  twin_stays p node is rests h = record {
    twin = h.twin;
    there = subst (λ (xs : List ℕ). Contains xs h.twin) (λ i. list_at (sym buckets i) (sym (same_bucket node (untouched p node is rests)) i)) h.there;
    alike = record {
      first = h.alike.first;
      second = h.alike.second;
      left = h.alike.left;
      right = h.alike.right;
      op = h.alike.op;
      parts = zip_weaker (label_of s) (label_of new) h.alike.first.parts h.alike.second.parts still_one h.alike.parts;
    };
    together = still_one p h.twin h.together;
  }

  were_alike : (p q : ℕ) → (Contains later p → ⊥) → (Contains later q → ⊥) → AreAlike nodes (label_of new) p q → AreAlike nodes (label_of s) p q
  were_alike p q left right h = record {
    first = h.first;
    second = h.second;
    left = h.left;
    right = h.right;
    op = h.op;
    parts = zip_elsewhere (label_of s) (label_of new) h.first.parts h.second.parts (untouched p h.first h.left left) (untouched q h.second h.right right) h.parts;
  }

  pub closed_joined : IsClosedBut nodes s waiting → IsClosedBut nodes new later
  closed_joined closed = record {
    has_twin = λ p node is rests. twin_stays p node is rests (closed.has_twin p node is (λ there. rests (keep p there)));
    operations = λ p q left right h. still_one p q (closed.operations p q (λ there. left (keep p there)) (λ there. right (keep q there)) (were_alike p q left right h));
  }

-- ---- a node that waited has its twin

module _ (nodes : List Node) (s new : State) (p : ℕ) (rest : List ℕ) (labels : new.labels ≡ s.labels) (long : length new.buckets ≡ length s.buckets)
    (grown : (b n : ℕ) → Contains (list_at s.buckets b) n → Contains (list_at new.buckets b) n) (closed : IsClosedBut nodes s (p ∷ rest)) where
  rests_before : (q : ℕ) → (q ≡ p → ⊥) → (Contains rest q → ⊥) → Contains (p ∷ rest) q → ⊥
  rests_before q apart rests there = by (there_cases p rest q there)
    where
      by : (p ≡ q) ⊎ Contains rest q → ⊥
      by (inl e) = apart (sym e)
      by (inr later) = rests later

  label_stays : (n : ℕ) → label_of new n ≡ label_of s n
  label_stays n = ap (λ (ls : List ℕ). get_or ls n n) labels

  bucket_stays : (node : Node) → bucket_of new node ≡ bucket_of s node
  bucket_stays node = λ i. mixed (λ n. get_or (labels i) n n) (seed_of node.op) node.parts % long i

  alike_now : (q r : ℕ) → AreAlike nodes (label_of s) q r → AreAlike nodes (label_of new) q r
  alike_now q r h = subst (λ (ls : List ℕ). AreAlike nodes (λ n. get_or ls n n) q r) (sym labels) h

  alike_before : (q r : ℕ) → AreAlike nodes (label_of new) q r → AreAlike nodes (label_of s) q r
  alike_before q r h = subst (λ (ls : List ℕ). AreAlike nodes (λ n. get_or ls n n) q r) labels h

  twin_grows : (q : ℕ) (node : Node) → HasTwin nodes s q node → HasTwin nodes new q node
  twin_grows q node h = record {
    twin = h.twin;
    there = subst (λ (b : ℕ). Contains (list_at new.buckets b) h.twin) (sym (bucket_stays node)) (grown (bucket_of s node) h.twin h.there);
    alike = alike_now q h.twin h.alike;
    together = label_stays q ∙ h.together ∙ sym (label_stays h.twin);
  }

  pub missing : slice_get nodes p ≡ None → IsClosedBut nodes s rest
  missing none = record {
    has_twin = λ q node is rests. closed.has_twin q node is (rests_before q (λ e. none-some node (sym none ∙ ap (slice_get nodes) (sym e) ∙ is)) rests);
    operations = λ q r left right h.
        closed.operations q r (rests_before q (λ e. none-some h.first (sym none ∙ ap (slice_get nodes) (sym e) ∙ h.left)) left) (rests_before r (λ e. none-some h.second (sym none ∙ ap (slice_get nodes) (sym e) ∙ h.right)) right) h;
  }

  module _ (node : Node) (is : slice_get nodes p ≡ Some node) (none_apart : (other : ℕ) → Contains (list_at s.buckets (bucket_of s node)) other → AreAlike nodes (label_of s) p other → label_of s p ≡ label_of s other)
      (twin : HasTwin nodes new p node) where
    bucket_alike : (t : ℕ) (h : AreAlike nodes (label_of s) p t) → bucket_of s h.first ≡ bucket_of s h.second
    bucket_alike t h =
        ap (λ (k : ℕ). k % length s.buckets)
        (ap (λ (op : Op). mixed (label_of s) (seed_of op) h.first.parts) h.op ∙ same_mixed (label_of s) h.first.parts h.second.parts (seed_of h.second.op) h.parts)

    with_another : (t : ℕ) → (t ≡ p → ⊥) → (Contains rest t → ⊥) → AreAlike nodes (label_of s) p t → label_of s p ≡ label_of s t
    with_another t apart rests h =
        let its = closed.has_twin t h.second h.right (rests_before t apart rests) in
        let same : h.first ≡ node = same_Some h.first node (sym h.left ∙ is) in
        let bucket : bucket_of s h.second ≡ bucket_of s node = sym (bucket_alike t h) ∙ ap (λ (m : Node). bucket_of s m) same in
        let there : Contains (list_at s.buckets (bucket_of s node)) its.twin = subst (λ (b : ℕ). Contains (list_at s.buckets b) its.twin) bucket its.there in
        none_apart its.twin there (alike_through nodes (label_of s) p t its.twin h its.alike) ∙ sym its.together

    one_label : (q r : ℕ) → (Contains rest q → ⊥) → (Contains rest r → ⊥) → AreAlike nodes (label_of s) q r → label_of s q ≡ label_of s r
    one_label q r left right h = by (cases_eq q p) (cases_eq r p)
      where
        by : (q ≡ p) ⊎ (q ≡ p → ⊥) → (r ≡ p) ⊎ (r ≡ p → ⊥) → label_of s q ≡ label_of s r
        by (inl e) (inl f) = ap (label_of s) (e ∙ sym f)
        by (inl e) (inr other) = ap (label_of s) e ∙ with_another r other right (subst (λ (k : ℕ). AreAlike nodes (label_of s) k r) e h)
        by (inr other) (inl f) = sym (ap (label_of s) f ∙ with_another q other left (alike_turned nodes (label_of s) q p (subst (λ (k : ℕ). AreAlike nodes (label_of s) q k) f h)))
        by (inr one) (inr other) = closed.operations q r (rests_before q one left) (rests_before r other right) h

    twins : (q : ℕ) (m : Node) → slice_get nodes q ≡ Some m → (Contains rest q → ⊥) → HasTwin nodes new q m
    twins q m at rests = by (cases_eq q p)
      where
        by : (q ≡ p) ⊎ (q ≡ p → ⊥) → HasTwin nodes new q m
        by (inl e) =
            let same : node ≡ m = same_Some node m (sym is ∙ ap (slice_get nodes) (sym e) ∙ at) in
            subst (λ (k : ℕ). HasTwin nodes new k m) (sym e) (subst (λ (n : Node). HasTwin nodes new p n) same twin)
        by (inr other) = twin_grows q m (closed.has_twin q m at (rests_before q other rests))

    pub settled : IsClosedBut nodes new rest
    settled = record {
      has_twin = twins;
      operations = λ q r left right h. label_stays q ∙ one_label q r left right (alike_before q r h) ∙ sym (label_stays r);
    }

-- ---- the labels are still those of the equalities and the pairs

-- a node and another like it are congruent
pub congruent_alike : (nodes : List Node) (pairs : List Pair) (s : State) → ((n : ℕ) → InOneClass pairs n (label_of s n)) → (pair : Pair) → AreAlike nodes (label_of s) pair.left pair.right → IsCongruent nodes pairs pair
congruent_alike nodes pairs s equal pair h = record { first = h.first; second = h.second; left = h.left; right = h.right; op = h.op; parts = zipped h.first.parts h.second.parts h.parts }
  where
    zipped : (xs ys : List ℕ) → AllZip (HaveOneLabel (label_of s)) xs ys → AllZip (InOneClass pairs) xs ys
    zipped [] [] all = tt
    zipped [] (y ∷ ys) all = absurd all
    zipped (x ∷ xs) [] all = absurd all
    zipped (x ∷ xs) (y ∷ ys) all = (through (subst (InOneClass pairs x) all.0 (equal x)) (turned (equal y)), zipped xs ys all.1)

pub equal_joined : (few many : List Pair) (s new : State) (winner loser : ℕ) → AllAmong few many → ((n : ℕ) → InOneClass few n (label_of s n)) → ((n : ℕ) → label_of new n ≡ renamed winner loser (label_of s n)) → InOneClass many loser winner
    → (n : ℕ) → InOneClass many n (label_of new n)
equal_joined few many s new winner loser more equal labels link n = by (cases_eq (label_of s n) loser)
  where
    before : InOneClass many n (label_of s n)
    before = wider few many more n (label_of s n) (equal n)

    by : (label_of s n ≡ loser) ⊎ (label_of s n ≡ loser → ⊥) → InOneClass many n (label_of new n)
    by (inl e) = subst (InOneClass many n) (sym (labels n ∙ ap (renamed winner loser) e ∙ renamed_loser winner loser)) (through (subst (InOneClass many n) e before) link)
    by (inr other) = subst (InOneClass many n) (sym (labels n ∙ renamed_other winner loser (label_of s n) other)) before

-- the labels of two nodes that are in one class by then
pub linked : (few many : List Pair) (s : State) → AllAmong few many → ((n : ℕ) → InOneClass few n (label_of s n)) → (a b : ℕ) → InOneClass many a b → InOneClass many (label_of s a) (label_of s b)
linked few many s more equal a b h =
    through (turned (wider few many more a (label_of s a) (equal a))) (through h (wider few many more b (label_of s b) (equal b)))
