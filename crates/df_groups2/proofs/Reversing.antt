-- Edges that are added backwards.
use Rattle.std.proofs.Common.{◌≡◌, ℕ, zero, suc, ◌+◌, ◌<◌, ◌≤◌, ◌⊎◌, inl, inr, List, [], ◌∷◌, ◌++◌, length, map, take, set, get_or, replicate, Contains, refl, sym, ap, ◌∙◌, subst, arith}
use Rattle.std.proofs.lemmas.List.{length-set, length-map, length-replicate, get_or-map, get_or_past, map-set, take_all, take_more}
use Rattle.std.proofs.lemmas.List.Elements.{Contains-append_left, Contains-push, Contains-push_cases}
use Rattle.std.proofs.lemmas.Bool.{cases_lt, cases_eq}
use Rattle.df_lemmas.proofs.Alls.{none_there}
use Rattle.df_groups2.specs.Graph.{targets_in}
use Rattle.df_groups2.specs.Reversed.{IsReversed, AddsEdges}

edge_stays : (lists : List (List ℕ)) (s t a b : ℕ) → Contains (targets_in lists a) b → Contains (targets_in (set lists s (targets_in lists s ++ t ∷ [])) a) b
edge_stays [] s t a b c = c
edge_stays (x ∷ xs) zero t zero b c = Contains-append_left x (t ∷ []) b c
edge_stays (x ∷ xs) zero t (suc a) b c = c
edge_stays (x ∷ xs) (suc s) t zero b c = c
edge_stays (x ∷ xs) (suc s) t (suc a) b c = edge_stays xs s t a b c

edge_added : (lists : List (List ℕ)) (s t : ℕ) → s < length lists → Contains (targets_in (set lists s (targets_in lists s ++ t ∷ [])) s) t
edge_added [] s t lt = absurd (omega arith)
edge_added (x ∷ xs) zero t lt = Contains-push x t
edge_added (x ∷ xs) (suc s) t lt = edge_added xs s t (omega arith)

edge_cases : (lists : List (List ℕ)) (s t a b : ℕ) → Contains (targets_in (set lists s (targets_in lists s ++ t ∷ [])) a) b → Contains (targets_in lists a) b ⊎ ((s ≡ a) × (t ≡ b))
edge_cases [] s t a b c = inl c
edge_cases (x ∷ xs) zero t zero b c = next (Contains-push_cases x t b c)
  where
    next : Contains x b ⊎ (t ≡ b) → Contains x b ⊎ (◌≡◌ {A = ℕ} 0 0 × (t ≡ b))
    next (inl h) = inl h
    next (inr e) = inr (refl, e)
edge_cases (x ∷ xs) zero t (suc a) b c = inl c
edge_cases (x ∷ xs) (suc s) t zero b c = inl c
edge_cases (x ∷ xs) (suc s) t (suc a) b c = next (edge_cases xs s t a b c)
  where
    next : Contains (targets_in xs a) b ⊎ ((s ≡ a) × (t ≡ b)) → Contains (targets_in xs a) b ⊎ ((suc s ≡ suc a) × (t ≡ b))
    next (inl h) = inl h
    next (inr e) = inr (ap suc e.0, e.1)

pub adds_none : (lists : List (List ℕ)) (t : ℕ) → AddsEdges lists lists [] t
adds_none lists t = record {
  each = refl;
  keeps = λ a b c. c;
  adds = λ v lt c. absurd (none_there v c);
  only = λ a b c. inl c;
}

adds_next : (old mid : List (List ℕ)) (sources : List ℕ) (s t : ℕ) → AddsEdges old mid sources t → AddsEdges old (set mid s (targets_in mid s ++ t ∷ [])) (sources ++ s ∷ []) t
adds_next old mid sources s t m = record {
  each = length-set mid s (targets_in mid s ++ t ∷ []) ∙ m.each;
  keeps = λ a b c. edge_stays mid s t a b (m.keeps a b c);
  adds = λ v lt c. adds v lt (Contains-push_cases sources s v c);
  only = λ a b c. only a b (edge_cases mid s t a b c);
}
  where
    adds : (v : ℕ) → v < length old → Contains sources v ⊎ (s ≡ v) → Contains (targets_in (set mid s (targets_in mid s ++ t ∷ [])) v) t
    adds v lt (inl c) = edge_stays mid s t v t (m.adds v lt c)
    adds v lt (inr e) =
        let long : length mid ≡ length old = m.each in
        subst (λ (x : ℕ). Contains (targets_in (set mid s (targets_in mid s ++ t ∷ [])) x) t) e (edge_added mid s t (omega arith))

    only : (a b : ℕ) → Contains (targets_in mid a) b ⊎ ((s ≡ a) × (t ≡ b)) → Contains (targets_in old a) b ⊎ (Contains (sources ++ s ∷ []) a × (b ≡ t))
    only a b (inl c) = either (m.only a b c)
      where
        either : Contains (targets_in old a) b ⊎ (Contains sources a × (b ≡ t)) → Contains (targets_in old a) b ⊎ (Contains (sources ++ s ∷ []) a × (b ≡ t))
        either (inl h) = inl h
        either (inr h) = inr (Contains-append_left sources (s ∷ []) a h.0, h.1)
    only a b (inr e) = inr (subst (λ (x : ℕ). Contains (sources ++ s ∷ []) x) e.0 (Contains-push sources s), sym e.1)

-- a step of the loop over the sources
pub adds_more : (old mid new : List (List ℕ)) (sources : List ℕ) (i t : ℕ) → i < length sources → AddsEdges old mid (take i sources) t
    → new ≡ set mid (get_or sources i 0) (targets_in mid (get_or sources i 0) ++ t ∷ []) → AddsEdges old new (take (i + 1) sources) t
adds_more old mid new sources i t lt m is =
    rw (is, take_more sources i 0 lt) (adds_next old mid (take i sources) (get_or sources i 0) t m)

pub adds_all : (old new : List (List ℕ)) (sources : List ℕ) (i t : ℕ) → length sources ≤ i → AddsEdges old new (take i sources) t → AddsEdges old new sources t
adds_all old new sources i t le m = subst (λ (xs : List ℕ). AddsEdges old new xs t) (take_all i sources le) m

-- ---- in the code's lists

pub listed : {A : Type 0} (items : A → List ℕ) (lists : List A) (s t : ℕ) (old new : A) → s < length lists → old ≡ get_or lists s old → items new ≡ items old ++ t ∷ []
    → map items (set lists s new) ≡ set (map items lists) s (targets_in (map items lists) s ++ t ∷ [])
listed items lists s t old new lt is e =
    map-set items lists s new
    ∙ ap (λ (xs : List ℕ). set (map items lists) s xs) (e ∙ ap (λ (xs : List ℕ). xs ++ t ∷ []) (ap items is ∙ sym (get_or-map items lists s old [] lt)))

-- ---- all edges

-- the edges from the vertices below one are turned
pub record IsReversedBelow (graph back : List (List ℕ)) (count : ℕ) : Type 0 where
  pub each : length back ≡ length graph
  pub turned : (source target : ℕ) → source < count → target < length graph → Contains (targets_in graph source) target → Contains (targets_in back target) source
  pub only : (source target : ℕ) → Contains (targets_in back target) source → Contains (targets_in graph source) target

no_targets : (count v : ℕ) → targets_in (replicate count []) v ≡ []
no_targets zero v = refl
no_targets (suc count) zero = refl
no_targets (suc count) (suc v) = no_targets count v

pub reversed_none : (graph back : List (List ℕ)) → back ≡ replicate (length graph) [] → IsReversedBelow graph back 0
reversed_none graph back is = record {
  each = ap (λ (xs : List (List ℕ)). length xs) is ∙ length-replicate (length graph) [];
  turned = λ source target lt within c. absurd (omega arith);
  only = λ source target c. absurd (none_there source (subst (λ (xs : List ℕ). Contains xs source) (ap (λ (xs : List (List ℕ)). targets_in xs target) is ∙ no_targets (length graph) target) c));
}

pub reversed_more : (graph back new : List (List ℕ)) (i : ℕ) → IsReversedBelow graph back i → AddsEdges back new (targets_in graph i) i → IsReversedBelow graph new (i + 1)
reversed_more graph back new i r a = record {
  each = a.each ∙ r.each;
  turned = λ source target lt within c. turned source target within c (cases_eq source i) lt;
  only = λ source target c. only source target (a.only target source c);
}
  where
    turned : (source target : ℕ) → target < length graph → Contains (targets_in graph source) target → (source ≡ i) ⊎ (source ≡ i → ⊥) → source < i + 1 → Contains (targets_in new target) source
    turned source target within c (inl e) lt =
        let long : length back ≡ length graph = r.each in
        subst (λ (x : ℕ). Contains (targets_in new target) x) (sym e) (a.adds target (omega arith) (subst (λ (x : ℕ). Contains (targets_in graph x) target) e c))
    turned source target within c (inr ne) lt = a.keeps target source (r.turned source target (omega arith) within c)

    only : (source target : ℕ) → Contains (targets_in back target) source ⊎ (Contains (targets_in graph i) target × (source ≡ i)) → Contains (targets_in graph source) target
    only source target (inl c) = r.only source target c
    only source target (inr h) = subst (λ (x : ℕ). Contains (targets_in graph x) target) (sym h.1) h.0

pub reversed_all : (graph back : List (List ℕ)) (count : ℕ) → length graph ≤ count → IsReversedBelow graph back count → IsReversed graph back
reversed_all graph back count le r = record {
  each = r.each;
  turned = λ source target within c. turned source target within c (cases_lt source (length graph));
  only = r.only;
}
  where
    turned : (source target : ℕ) → target < length graph → Contains (targets_in graph source) target → (source < length graph) ⊎ (length graph ≤ source) → Contains (targets_in back target) source
    turned source target within c (inl lt) = r.turned source target (omega arith) within c
    turned source target within c (inr past) = absurd (none_there target (subst (λ (xs : List ℕ). Contains xs target) (get_or_past graph source [] past) c))

-- ---- as the code goes over its lists

pub turned_more : {A : Type 0} (items : A → List ℕ) (lists read : List A) (back new : List (List ℕ)) (i : ℕ) (x : A) (sources : List ℕ) → read ≡ lists → i < length read → x ≡ get_or read i x → sources ≡ items x
    → IsReversedBelow (map items lists) back i → AddsEdges back new sources i → IsReversedBelow (map items lists) new (i + 1)
turned_more {A} items lists read back new i x sources same lt is has r a =
    let within : i < length lists = rw same at lt in
    let found : sources ≡ targets_in (map items lists) i = has ∙ ap items (is ∙ ap (λ (xs : List A). get_or xs i x) same) ∙ sym (get_or-map items lists i x [] within) in
    reversed_more (map items lists) back new i r (subst (λ (xs : List ℕ). AddsEdges back new xs i) found a)

pub turned_all : {A : Type 0} (items : A → List ℕ) (lists read : List A) (back : List (List ℕ)) (count : ℕ) → read ≡ lists → length read ≤ count → IsReversedBelow (map items lists) back count → IsReversed (map items lists) back
turned_all items lists read back count same le r =
    let most : length lists ≤ count = rw same at le in
    let long : length (map items lists) ≡ length lists = length-map lists items in
    reversed_all (map items lists) back count (omega arith) r
