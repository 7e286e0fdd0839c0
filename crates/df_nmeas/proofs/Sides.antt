-- Sides of a comparison, and fronts of measures.
use Rattle.df_nmeas.proofs.Words.{◌≡◌, List, [], ◌∷◌, refl, ℕ, zero, suc, true, ◌<◌, ◌≤◌, length, drop, slice_index_or, sym, ap, ◌∙◌, arith, drop_all, length-map, Term, Sort, Numbers, Truths, Characters, sort_of_type, truth_term, Measured, below_of, same_of, are_below, sort_of_term, tree_at, Grows, Stands, term_stays, tree_stays, Node, one_measured, measured_in, IsMember, AreMembers, pairs_before, in_front_of, DeclaredMeasured}
use Rattle.df_nmeas.proofs.Pairs.{pairs_left, pairs_fit}

pub below_is : (s t : Sort) (a b : Term) → sort_of_term (below_of s t a b) ≡ Truths
below_is Numbers Numbers a b = refl
below_is Truths Truths a b = refl
below_is Characters Characters a b = refl
below_is s t a b = refl

pub same_is : (s t : Sort) (a b : Term) → sort_of_term (same_of s t a b) ≡ Truths
same_is Numbers Numbers a b = refl
same_is Truths Truths a b = refl
same_is Characters Characters a b = refl
same_is s t a b = refl

pub measures_below_is : (now before : List Measured) → sort_of_term (are_below now before) ≡ Truths
measures_below_is (a ∷ []) (b ∷ []) = below_is (sort_of_type a.ty) (sort_of_type b.ty) a.value b.value
measures_below_is (a ∷ d ∷ more) (b ∷ []) = refl
measures_below_is now before = refl

pub member_at : (nodes : List Node) (ms : List DeclaredMeasured) (p : ℕ) (d : DeclaredMeasured) → p < length ms → AreMembers nodes ms → IsMember nodes (slice_index_or ms p d)
member_at nodes [] p d lt all = absurd (omega arith)
member_at nodes (m ∷ ms) zero d lt all = all.0
member_at nodes (m ∷ ms) (suc k) d lt all = member_at nodes ms k d (omega arith) all.1

front_at : (nodes : List Node) (now before : List DeclaredMeasured) (p : ℕ) (d : DeclaredMeasured) → p < pairs_before now before
    → are_below (drop p (measured_in nodes now)) (drop p (measured_in nodes before))
    ≡ in_front_of (one_measured nodes (slice_index_or now p d)) (one_measured nodes (slice_index_or before p d)) (are_below (drop (suc p) (measured_in nodes now)) (drop (suc p) (measured_in nodes before)))
front_at nodes (x ∷ []) (y ∷ z ∷ ys) zero d lt = refl
front_at nodes (x ∷ w ∷ xs) (y ∷ []) zero d lt = refl
front_at nodes (x ∷ w ∷ xs) (y ∷ z ∷ ys) zero d lt = refl
front_at nodes (x ∷ xs) (y ∷ ys) (suc k) d lt = front_at nodes xs ys k d (pairs_left x y xs ys k lt)
front_at nodes now before p d lt = absurd (omega arith)

module _ (now before : List DeclaredMeasured) (d : DeclaredMeasured) (old middle new : List Node) where
  one_same : (ms : List DeclaredMeasured) (p : ℕ) → p < length ms → AreMembers old ms → Grows old middle → one_measured middle (slice_index_or ms p d) ≡ one_measured old (slice_index_or ms p d)
  one_same ms p lt all g =
      let m = slice_index_or ms p d in
      let tree = tree_stays (sort_of_type m.ty) old middle m.value g (member_at old ms p d lt all) in
      λ i. record { ty = m.ty; value = tree i }

  pub member_stays : (ms : List DeclaredMeasured) (p : ℕ) → p < length ms → AreMembers old ms → Grows old middle → IsMember middle (slice_index_or ms p d)
  member_stays ms p lt all g = let m = slice_index_or ms p d in term_stays (sort_of_type m.ty) old middle m.value g (member_at old ms p d lt all)

  pub front_goes : (place p formula n : ℕ) → place ≡ suc p → place ≤ pairs_before now before → AreMembers old now → AreMembers old before → Grows old middle
      → tree_at middle formula ≡ are_below (drop place (measured_in old now)) (drop place (measured_in old before))
      → Stands new (in_front_of (one_measured middle (slice_index_or now p d)) (one_measured middle (slice_index_or before p d)) (tree_at middle formula)) n
      → tree_at new n ≡ are_below (drop p (measured_in old now)) (drop p (measured_in old before))
  front_goes place p formula n e le is_now is_before g same s =
      let first = (pairs_fit now before).0 in
      let second = (pairs_fit now before).1 in
      let one = one_same now p (omega arith) is_now g in
      let other = one_same before p (omega arith) is_before g in
      let later = same ∙ ap (λ k. are_below (drop k (measured_in old now)) (drop k (measured_in old before))) e in
      s.tree_is ∙ (λ i. in_front_of (one i) (other i) (later i)) ∙ sym (front_at old now before p d (omega arith))

-- where the second list ends first
past_end : (nodes : List Node) (now : List DeclaredMeasured) (k : ℕ) → k < length now → are_below (drop k (measured_in nodes now)) [] ≡ truth_term true
past_end nodes [] k lt = absurd (omega arith)
past_end nodes (x ∷ xs) zero lt = refl
past_end nodes (x ∷ xs) (suc k) lt = past_end nodes xs k (omega arith)

pub top_behind : (nodes : List Node) (now before : List DeclaredMeasured) (k : ℕ) → k < length now → length before ≤ k → are_below (drop k (measured_in nodes now)) (drop k (measured_in nodes before)) ≡ truth_term true
top_behind nodes now before k lt le = ap (λ z. are_below (drop k (measured_in nodes now)) z) (drop_all k (measured_in nodes before) (omega (arith, length-map before (one_measured nodes)))) ∙ past_end nodes now k lt
