-- The steps by which vertices are put into groups.
use Rattle.std.proofs.Common.{◌≡◌, ℕ, suc, ◌<◌, ◌≤◌, ◌⊎◌, inl, inr, List, [], ◌∷◌, length, replicate, Contains, Option, None, Some, sym, ap, ◌∙◌, subst, arith}
use Rattle.std.proofs.lemmas.List.{length-replicate, get_or-replicate, get_or_past}
use Rattle.std.proofs.lemmas.List.Elements.{Contains-append_cases}
use Rattle.std.proofs.lemmas.Option.{none-some, same_Some}
use Rattle.std.proofs.lemmas.Bool.{cases_lt}
use Rattle.df_lemmas.proofs.Alls.{none_there}
use Rattle.df_groups2.specs.Graph.{targets_in, Path, stay}
use Rattle.df_groups2.specs.Reversed.{IsReversed}
use Rattle.df_groups2.specs.Finishing.{IsFinishingOrder}
use Rattle.df_groups2.specs.Filling.{group_in, FreePath, start, further, IsFilling}
use Rattle.df_groups2.specs.Grouping.{IsGrouping}
use Rattle.df_groups2.proofs.Membership.{contains_head, contains_tail, cons_cases}
use Rattle.df_groups2.proofs.Paths.{path_join, path_then, path_turned}
use Rattle.df_groups2.proofs.Fillings.{free_within, group_cases, was_free}

-- the root has a group
pub grouping_skips : (targets back : ℕ → List ℕ) (vertices root : ℕ) (before : List ℕ) (count k : ℕ) (groups : List (Option ℕ)) → group_in groups root ≡ Some k
    → IsGrouping targets back vertices (root ∷ before) count groups → IsGrouping targets back vertices before count groups
grouping_skips targets back vertices root before count k groups has s = record {
  each = s.each;
  finishing = s.finishing.1;
  awaited = λ v e. awaited v e (cons_cases root v before (s.awaited v e));
  below = s.below;
  shut = s.shut;
  ordered = s.ordered;
  apart = s.apart;
}
  where
    awaited : (v : ℕ) → group_in groups v ≡ None → (root ≡ v) ⊎ Contains before v → Contains before v
    awaited v e (inl same) = absurd (none-some k (sym e ∙ ap (group_in groups) (sym same) ∙ has))
    awaited v e (inr c) = c

module _ (graph back : List (List ℕ)) (turned : IsReversed graph back) (root : ℕ) (before : List ℕ) (count : ℕ) (groups new : List (Option ℕ))
    (s : IsGrouping (targets_in graph) (targets_in back) (length graph) (root ∷ before) count groups)
    (f : IsFilling (targets_in graph) root count groups new []) where
  -- what is reached from the root without a group is the root, or one of those that it has reached backwards
  reached : (v : ℕ) → FreePath (targets_in graph) groups root v → Contains (root ∷ s.finishing.0.late) v × Path (targets_in graph) root v
  reached v (start e) = (contains_head root s.finishing.0.late, stay)
  reached v (further {source = u} p c e) =
      let found : Contains (root ∷ s.finishing.0.late) u × Path (targets_in graph) root u = reached u p in
      (at_root found.0 (cons_cases root v before (s.awaited v e)), path_then (targets_in graph) root u v found.1 c)
    where
      within : v < length graph
      within = let long : length groups ≡ length graph = s.each in let lt : v < length groups = free_within groups v e in omega arith

      side : Contains (root ∷ s.finishing.0.late) u → Contains s.finishing.0.late v ⊎ Contains s.finishing.0.early v → Contains (root ∷ s.finishing.0.late) v
      side found (inl late) = contains_tail root v s.finishing.0.late late
      side found (inr early) = absurd (s.finishing.0.apart v u early found (turned.turned u v within c))

      at_root : Contains (root ∷ s.finishing.0.late) u → (root ≡ v) ⊎ Contains before v → Contains (root ∷ s.finishing.0.late) v
      at_root found (inl same) = subst (λ (x : ℕ). Contains (root ∷ s.finishing.0.late) x) same (contains_head root s.finishing.0.late)
      at_root found (inr h) = side found (Contains-append_cases s.finishing.0.late s.finishing.0.early v (subst (λ (xs : List ℕ). Contains xs v) s.finishing.0.split h))

  comes_back : (v : ℕ) → Contains (root ∷ s.finishing.0.late) v → Path (targets_in graph) v root
  comes_back v c = either (cons_cases root v s.finishing.0.late c)
    where
      either : (root ≡ v) ⊎ Contains s.finishing.0.late v → Path (targets_in graph) v root
      either (inl same) = subst (λ (x : ℕ). Path (targets_in graph) x root) same stay
      either (inr late) = path_turned graph back turned root v (s.finishing.0.reached v late)

  -- a group is old, or the new one
  old_or_new : (v k : ℕ) → group_in new v ≡ Some k → (group_in groups v ≡ Some k) ⊎ ((group_in groups v ≡ None) × (k ≡ count))
  old_or_new v k e = either (group_cases groups v)
    where
      either : (group_in groups v ≡ None) ⊎ ((j : ℕ) × (group_in groups v ≡ Some j)) → (group_in groups v ≡ Some k) ⊎ ((group_in groups v ≡ None) × (k ≡ count))
      either (inl o) = inr (o, f.joins v k o e)
      either (inr h) = inl (h.1 ∙ ap (λ (j : ℕ). Some j) (same_Some h.0 k (sym (f.stays v h.0 h.1) ∙ e)))

  still_awaited : (v : ℕ) → group_in new v ≡ None → Contains before v
  still_awaited v e = either (cons_cases root v before (s.awaited v (was_free (targets_in graph) root count groups new [] f v e)))
    where
      either : (root ≡ v) ⊎ Contains before v → Contains before v
      either (inl same) = absurd (none_there root (f.begun (ap (group_in new) same ∙ e)))
      either (inr c) = c

  still_below : (v k : ℕ) → v < length graph → group_in new v ≡ Some k → k < suc count
  still_below v k lt e = either (old_or_new v k e)
    where
      either : (group_in groups v ≡ Some k) ⊎ ((group_in groups v ≡ None) × (k ≡ count)) → k < suc count
      either (inl o) = let below : k < count = s.below v k lt o in omega arith
      either (inr h) = let same : k ≡ count = h.1 in omega arith

  still_shut : (a b k : ℕ) → a < length graph → group_in new a ≡ Some k → Contains (targets_in graph a) b → group_in new b ≡ None → ⊥
  still_shut a b k lt e c none = either (old_or_new a k e)
    where
      either : (group_in groups a ≡ Some k) ⊎ ((group_in groups a ≡ None) × (k ≡ count)) → ⊥
      either (inl o) = s.shut a b k lt o c (was_free (targets_in graph) root count groups new [] f b none)
      either (inr h) = none_there b (f.shut a b k h.0 e c none)

  -- a vertex that has a group has no later one than the new one
  at_most : (v k : ℕ) → group_in groups v ≡ Some k → k ≤ count
  at_most v k o = either (cases_lt v (length graph))
    where
      either : (v < length graph) ⊎ (length graph ≤ v) → k ≤ count
      either (inl lt) = let below : k < count = s.below v k lt o in omega arith
      either (inr past) =
          let long : length groups ≡ length graph = s.each in
          let none : k ≡ 0 = same_Some k 0 (sym o ∙ get_or_past groups v (Some 0) (omega arith)) in
          omega arith

  still_ordered : (a b k m : ℕ) → a < length graph → group_in new a ≡ Some k → Contains (targets_in graph a) b → group_in new b ≡ Some m → m ≤ k
  still_ordered a b k m lt ea c eb = either (old_or_new a k ea) (old_or_new b m eb)
    where
      either : (group_in groups a ≡ Some k) ⊎ ((group_in groups a ≡ None) × (k ≡ count)) → (group_in groups b ≡ Some m) ⊎ ((group_in groups b ≡ None) × (m ≡ count)) → m ≤ k
      either (inl oa) (inl ob) = s.ordered a b k m lt oa c ob
      either (inl oa) (inr hb) = absurd (s.shut a b k lt oa c hb.0)
      either (inr ha) (inl ob) = let most : m ≤ count = at_most b m ob in let same : k ≡ count = ha.1 in omega arith
      either (inr ha) (inr hb) = let one : k ≡ count = ha.1 in let other : m ≡ count = hb.1 in omega arith

  still_apart : (a b k : ℕ) → a < length graph → b < length graph → group_in new a ≡ Some k → group_in new b ≡ Some k → Path (targets_in graph) a b
  still_apart a b k la lb ea eb = either (old_or_new a k ea) (old_or_new b k eb)
    where
      either : (group_in groups a ≡ Some k) ⊎ ((group_in groups a ≡ None) × (k ≡ count)) → (group_in groups b ≡ Some k) ⊎ ((group_in groups b ≡ None) × (k ≡ count)) → Path (targets_in graph) a b
      either (inl oa) (inl ob) = s.apart a b k la lb oa ob
      either (inl oa) (inr hb) = let below : k < count = s.below a k la oa in let same : k ≡ count = hb.1 in absurd (omega arith)
      either (inr ha) (inl ob) = let below : k < count = s.below b k lb ob in let same : k ≡ count = ha.1 in absurd (omega arith)
      either (inr ha) (inr hb) =
          path_join (targets_in graph) a root b (comes_back a (reached a (f.found a k ha.0 ea)).0) (reached b (f.found b k hb.0 eb)).1

  pub grouping_begins : IsGrouping (targets_in graph) (targets_in back) (length graph) before (suc count) new
  grouping_begins = record {
    each = f.each ∙ s.each;
    finishing = s.finishing.1;
    awaited = still_awaited;
    below = still_below;
    shut = still_shut;
    ordered = still_ordered;
    apart = still_apart;
  }

-- no vertex has a group
pub grouping_starts : (targets back : ℕ → List ℕ) (vertices : ℕ) (order : List ℕ) → IsFinishingOrder back order → ((v : ℕ) → v < vertices → Contains order v)
    → IsGrouping targets back vertices order 0 (replicate vertices None)
grouping_starts targets back vertices order finishing all = record {
  each = length-replicate vertices None;
  finishing = finishing;
  awaited = λ v e. all v (rw (length-replicate {A = Option ℕ} vertices None) at (free_within (replicate vertices None) v e));
  below = λ v k lt e. absurd (none-some k (sym (free v lt) ∙ e));
  shut = λ a b k lt e c n. none-some k (sym (free a lt) ∙ e);
  ordered = λ a b k m lt e c n. absurd (none-some k (sym (free a lt) ∙ e));
  apart = λ a b k la lb ea eb. absurd (none-some k (sym (free a la) ∙ ea));
}
  where
    free : (v : ℕ) → v < vertices → group_in (replicate vertices None) v ≡ None
    free v lt = get_or-replicate vertices v None (Some 0) lt

-- over the graph and its finishing order
pub grouping_ready : (graph back : List (List ℕ)) (order read : List ℕ) (groups : List (Option ℕ)) (vertices : ℕ) → IsReversed graph back → read ≡ order → vertices ≡ length graph → groups ≡ replicate vertices None
    → IsFinishingOrder (targets_in back) order → ((v : ℕ) → v < length back → Contains order v) → IsGrouping (targets_in graph) (targets_in back) (length graph) read 0 groups
grouping_ready graph back order read groups vertices turned same count none finishing all =
    let long : length back ≡ length graph = turned.each in
    rw (same, none, count) (grouping_starts (targets_in graph) (targets_in back) (length graph) order finishing (λ v lt. all v (omega arith)))
