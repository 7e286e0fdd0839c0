-- The steps of a depth-first search.
use Rattle.std.proofs.Common.{◌≡◌, ℕ, suc, ◌+◌, ◌<◌, ◌⊎◌, inl, inr, Bool, true, false, List, [], ◌∷◌, ◌++◌, length, map, set, replicate, Contains, reverse, refl, sym, ap, ◌∙◌, subst, arith, length-append}
use Rattle.std.proofs.lemmas.List.{length-set, length-map, length-replicate, get_or-replicate, append_assoc, reverse-append}
use Rattle.std.proofs.lemmas.List.Elements.{Contains-append_left, Contains-append_right, Contains-append_cases, Contains-push, Contains-push_cases}
use Rattle.std.proofs.lemmas.Bool.{cases_eq}
use Rattle.df_lemmas.proofs.Truths.{true_is_not_false}
use Rattle.df_lemmas.proofs.Alls.{none_there}
use Rattle.df_groups2.specs.declared.finishing.Step.{Step}
use Rattle.df_groups2.specs.declared.finishing.Step.TheVariants.{Enter, Leave}
use Rattle.df_groups2.specs.Graph.{Path, stay, along}
use Rattle.df_groups2.specs.Searching.{vertex_of, is_entered, IsOpen, IsStep, EachWithRest, IsSearching, EnterEach}
use Rattle.df_groups2.specs.Work.{work}
use Rattle.df_groups2.proofs.Membership.{contains_head, contains_tail, cons_cases, contains_mapped, mapped_from}
use Rattle.df_groups2.proofs.Paths.{path_join}
use Rattle.df_groups2.proofs.Rests.{rest_changed, rest_shortened, rest_last}
use Rattle.df_groups2.proofs.Entering.{entered_now, entered_stays, entered_only, not_entered_within}
use Rattle.df_groups2.proofs.Working.{work_done}

-- ---- steps

same_entered : (v w : ℕ) → Enter v ≡ Enter w → v ≡ w
same_entered v w e = cc

same_left : (v w : ℕ) → Leave v ≡ Leave w → v ≡ w
same_left v w e = cc

entered_or_left : (v w : ℕ) → Enter v ≡ Leave w → ⊥
entered_or_left v w e = cc

enter_cases : (steps : List Step) (v w : ℕ) → Contains (steps ++ Enter v ∷ []) (Enter w) → Contains steps (Enter w) ⊎ (v ≡ w)
enter_cases steps v w c = next (Contains-push_cases steps (Enter v) (Enter w) c)
  where
    next : Contains steps (Enter w) ⊎ (Enter v ≡ Enter w) → Contains steps (Enter w) ⊎ (v ≡ w)
    next (inl h) = inl h
    next (inr e) = inr (same_entered v w e)

leave_cases : (steps : List Step) (v w : ℕ) → Contains (steps ++ Leave v ∷ []) (Leave w) → Contains steps (Leave w) ⊎ (v ≡ w)
leave_cases steps v w c = next (Contains-push_cases steps (Leave v) (Leave w) c)
  where
    next : Contains steps (Leave w) ⊎ (Leave v ≡ Leave w) → Contains steps (Leave w) ⊎ (v ≡ w)
    next (inl h) = inl h
    next (inr e) = inr (same_left v w e)

leave_below : (steps : List Step) (v w : ℕ) → Contains (steps ++ Enter v ∷ []) (Leave w) → Contains steps (Leave w)
leave_below steps v w c = next (Contains-push_cases steps (Enter v) (Leave w) c)
  where
    next : Contains steps (Leave w) ⊎ (Enter v ≡ Leave w) → Contains steps (Leave w)
    next (inl h) = h
    next (inr e) = absurd (entered_or_left v w e)

enter_below : (steps : List Step) (v w : ℕ) → Contains (steps ++ Leave v ∷ []) (Enter w) → Contains steps (Enter w)
enter_below steps v w c = next (Contains-push_cases steps (Leave v) (Enter w) c)
  where
    next : Contains steps (Enter w) ⊎ (Leave v ≡ Enter w) → Contains steps (Enter w)
    next (inl h) = h
    next (inr e) = absurd (entered_or_left w v (sym e))

-- ---- a vertex that was entered before

pub step_skipped : (targets : ℕ → List ℕ) (count : ℕ) (entered : List Bool) (steps : List Step) (finished : List ℕ) (v : ℕ) → is_entered entered v ≡ true
    → IsSearching targets count entered (steps ++ Enter v ∷ []) finished → IsSearching targets count entered steps finished
step_skipped targets count entered steps finished v known s = record {
  each = s.each;
  opened = rest_shortened (IsStep targets entered finished) (IsStep targets entered finished) steps (Enter v ∷ []) below s.opened;
  shut = s.shut;
  kept = λ w lt e. kept w (s.kept w lt e);
  awaited = λ w lt. awaited w steps (s.awaited w lt);
  order = s.order;
}
  where
    awaited : (w : ℕ) (xs : List Step) → (is_entered entered w ≡ true) ⊎ Contains (xs ++ Enter v ∷ []) (Enter w) → (is_entered entered w ≡ true) ⊎ Contains xs (Enter w)
    awaited w xs (inl e) = inl e
    awaited w xs (inr c) = either (enter_cases xs v w c)
      where
        either : Contains xs (Enter w) ⊎ (v ≡ w) → (is_entered entered w ≡ true) ⊎ Contains xs (Enter w)
        either (inl h) = inr h
        either (inr e) = inl (subst (λ (x : ℕ). is_entered entered x ≡ true) e known)

    kept : (w : ℕ) → Contains finished w ⊎ Contains (steps ++ Enter v ∷ []) (Leave w) → Contains finished w ⊎ Contains steps (Leave w)
    kept w (inl c) = inl c
    kept w (inr c) = inr (leave_below steps v w c)

    below : (x : Step) (rest : List Step) → IsStep targets entered finished x (rest ++ Enter v ∷ []) → IsStep targets entered finished x rest
    below (Enter w) rest o = tt
    below (Leave w) rest o = record {
      earlier = o.earlier;
      late = o.late;
      early = o.early;
      split = o.split;
      stays = o.stays;
      fresh = o.fresh;
      late_fresh = o.late_fresh;
      late_reached = o.late_reached;
      early_shut = o.early_shut;
      above_fresh = λ u c. o.above_fresh u (Contains-append_left rest (Enter v ∷ []) (Leave u) c);
      above_reached = λ x c. o.above_reached x (Contains-append_left rest (Enter v ∷ []) x c);
      edges = λ u c. awaited u rest (o.edges u c);
    }

-- ---- a vertex that is entered

pub step_entered : (targets : ℕ → List ℕ) (count : ℕ) (entered : List Bool) (steps : List Step) (finished : List ℕ) (v : ℕ) → is_entered entered v ≡ false
    → IsSearching targets count entered (steps ++ Enter v ∷ []) finished → IsSearching targets count (set entered v true) (steps ++ (Leave v ∷ map Enter (targets v))) finished
step_entered targets count entered steps finished v free s = record {
  each = length-set entered v true ∙ s.each;
  opened = rest_changed (IsStep targets entered finished) (IsStep targets (set entered v true) finished) steps (Enter v ∷ []) (Leave v ∷ map Enter (targets v)) below (newest, follows (targets v)) s.opened;
  shut = λ u w c e. entered_stays entered v w (s.shut u w c e);
  kept = λ w lt e. kept w lt (entered_only entered v w e);
  awaited = λ w lt. awaited w steps (s.awaited w lt);
  order = s.order;
}
  where
    added_reached : (x : Step) → Contains (Leave v ∷ map Enter (targets v)) x → Path targets v (vertex_of x)
    added_reached x c = next (cons_cases (Leave v) x (map Enter (targets v)) c)
      where
        next : (Leave v ≡ x) ⊎ Contains (map Enter (targets v)) x → Path targets v (vertex_of x)
        next (inl e) = subst (λ (y : Step). Path targets v (vertex_of y)) e stay
        next (inr h) =
            let found = mapped_from Enter (targets v) x h in
            subst (λ (y : Step). Path targets v (vertex_of y)) found.2 (along found.1 stay)

    awaited : (w : ℕ) (xs : List Step) → (is_entered entered w ≡ true) ⊎ Contains (xs ++ Enter v ∷ []) (Enter w) → (is_entered (set entered v true) w ≡ true) ⊎ Contains (xs ++ (Leave v ∷ map Enter (targets v))) (Enter w)
    awaited w xs (inl e) = inl (entered_stays entered v w e)
    awaited w xs (inr c) = either (enter_cases xs v w c)
      where
        either : Contains xs (Enter w) ⊎ (v ≡ w) → (is_entered (set entered v true) w ≡ true) ⊎ Contains (xs ++ (Leave v ∷ map Enter (targets v))) (Enter w)
        either (inl h) = inr (Contains-append_left xs (Leave v ∷ map Enter (targets v)) (Enter w) h)
        either (inr e) = inl (subst (λ (x : ℕ). is_entered (set entered v true) x ≡ true) e (entered_now entered v))

    kept : (w : ℕ) → w < count → (v ≡ w) ⊎ (is_entered entered w ≡ true) → Contains finished w ⊎ Contains (steps ++ (Leave v ∷ map Enter (targets v))) (Leave w)
    kept w lt (inl e) =
        let here : Contains (Leave v ∷ map Enter (targets v)) (Leave w) = subst (λ (x : ℕ). Contains (Leave v ∷ map Enter (targets v)) (Leave x)) e (contains_head (Leave v) (map Enter (targets v))) in
        inr (Contains-append_right steps (Leave v ∷ map Enter (targets v)) (Leave w) here)
    kept w lt (inr e) = either (s.kept w lt e)
      where
        either : Contains finished w ⊎ Contains (steps ++ Enter v ∷ []) (Leave w) → Contains finished w ⊎ Contains (steps ++ (Leave v ∷ map Enter (targets v))) (Leave w)
        either (inl c) = inl c
        either (inr c) = inr (Contains-append_left steps (Leave v ∷ map Enter (targets v)) (Leave w) (leave_below steps v w c))

    left_fresh : (earlier : ℕ → Bool) → ((w : ℕ) → earlier w ≡ true → is_entered entered w ≡ true) → earlier v ≡ false
    left_fresh earlier stays = by_test (earlier v) refl
      where
        by_test : (b : Bool) → earlier v ≡ b → earlier v ≡ false
        by_test false e = e
        by_test true e = absurd (true_is_not_false (is_entered entered v) (stays v e) free)

    added_fresh : (earlier : ℕ → Bool) → ((w : ℕ) → earlier w ≡ true → is_entered entered w ≡ true) → (w : ℕ) → Contains (Leave v ∷ map Enter (targets v)) (Leave w) → earlier w ≡ false
    added_fresh earlier stays w c = next (cons_cases (Leave v) (Leave w) (map Enter (targets v)) c)
      where
        next : (Leave v ≡ Leave w) ⊎ Contains (map Enter (targets v)) (Leave w) → earlier w ≡ false
        next (inl e) = subst (λ (x : ℕ). earlier x ≡ false) (same_left v w e) (left_fresh earlier stays)
        next (inr h) = let found = mapped_from Enter (targets v) (Leave w) h in absurd (entered_or_left found.0 w found.2)

    below : (x : Step) (rest : List Step) → IsStep targets entered finished x (rest ++ Enter v ∷ []) → IsStep targets (set entered v true) finished x (rest ++ (Leave v ∷ map Enter (targets v)))
    below (Enter w) rest o = tt
    below (Leave w) rest o = record {
      earlier = o.earlier;
      late = o.late;
      early = o.early;
      split = o.split;
      stays = λ u e. entered_stays entered v u (o.stays u e);
      fresh = o.fresh;
      late_fresh = o.late_fresh;
      late_reached = o.late_reached;
      early_shut = o.early_shut;
      above_fresh = λ u c. fresh u (Contains-append_cases rest (Leave v ∷ map Enter (targets v)) (Leave u) c);
      above_reached = λ x c. reached x (Contains-append_cases rest (Leave v ∷ map Enter (targets v)) x c);
      edges = λ u c. awaited u rest (o.edges u c);
    }
      where
        fresh : (u : ℕ) → Contains rest (Leave u) ⊎ Contains (Leave v ∷ map Enter (targets v)) (Leave u) → o.earlier u ≡ false
        fresh u (inl c) = o.above_fresh u (Contains-append_left rest (Enter v ∷ []) (Leave u) c)
        fresh u (inr c) = added_fresh o.earlier o.stays u c

        reached : (x : Step) → Contains rest x ⊎ Contains (Leave v ∷ map Enter (targets v)) x → Path targets w (vertex_of x)
        reached x (inl c) = o.above_reached x (Contains-append_left rest (Enter v ∷ []) x c)
        reached x (inr c) = path_join targets w v (vertex_of x) (o.above_reached (Enter v) (Contains-push rest (Enter v))) (added_reached x c)

    newest : IsOpen targets (set entered v true) finished v (map Enter (targets v))
    newest = record {
      earlier = is_entered entered;
      late = [];
      early = finished;
      split = refl;
      stays = λ u e. entered_stays entered v u e;
      fresh = free;
      late_fresh = λ u c. absurd (none_there u c);
      late_reached = λ u c. absurd (none_there u c);
      early_shut = s.shut;
      above_fresh = λ u c. (let found = mapped_from Enter (targets v) (Leave u) c in absurd (entered_or_left found.0 u found.2));
      above_reached = λ x c. added_reached x (contains_tail (Leave v) x (map Enter (targets v)) c);
      edges = λ u c. inr (contains_mapped Enter (targets v) u c);
    }

    follows : (xs : List ℕ) → EachWithRest (IsStep targets (set entered v true) finished) (map Enter xs)
    follows [] = tt
    follows (x ∷ xs) = (tt, follows xs)

-- ---- a vertex that is left

pub step_left : (targets : ℕ → List ℕ) (count : ℕ) (entered : List Bool) (steps : List Step) (finished : List ℕ) (v : ℕ)
    → IsSearching targets count entered (steps ++ Leave v ∷ []) finished → IsSearching targets count entered steps (v ∷ finished)
step_left targets count entered steps finished v s = record {
  each = s.each;
  opened = rest_shortened (IsStep targets entered finished) (IsStep targets entered (v ∷ finished)) steps (Leave v ∷ []) below s.opened;
  shut = λ u w c e. shut u w (cons_cases v u finished c) e;
  kept = λ w lt e. kept w (s.kept w lt e);
  awaited = λ w lt. awaited w steps (s.awaited w lt);
  order = (record { late = last.late; early = last.early; split = last.split; reached = last.late_reached; apart = apart }, s.order);
}
  where
    last : IsOpen targets entered finished v []
    last = rest_last (IsStep targets entered finished) steps (Leave v) s.opened

    awaited : (w : ℕ) (xs : List Step) → (is_entered entered w ≡ true) ⊎ Contains (xs ++ Leave v ∷ []) (Enter w) → (is_entered entered w ≡ true) ⊎ Contains xs (Enter w)
    awaited w xs (inl e) = inl e
    awaited w xs (inr c) = inr (enter_below xs v w c)

    kept : (w : ℕ) → Contains finished w ⊎ Contains (steps ++ Leave v ∷ []) (Leave w) → Contains (v ∷ finished) w ⊎ Contains steps (Leave w)
    kept w (inl c) = inl (contains_tail v w finished c)
    kept w (inr c) = either (leave_cases steps v w c)
      where
        either : Contains steps (Leave w) ⊎ (v ≡ w) → Contains (v ∷ finished) w ⊎ Contains steps (Leave w)
        either (inl h) = inr h
        either (inr e) = inl (subst (λ (x : ℕ). Contains (v ∷ finished) x) e (contains_head v finished))

    shut : (u w : ℕ) → (v ≡ u) ⊎ Contains finished u → Contains (targets u) w → is_entered entered w ≡ true
    shut u w (inl e) c = either (last.edges w (subst (λ (x : ℕ). Contains (targets x) w) (sym e) c))
      where
        either : (is_entered entered w ≡ true) ⊎ Contains [] (Enter w) → is_entered entered w ≡ true
        either (inl h) = h
        either (inr h) = absurd (none_there (Enter w) h)
    shut u w (inr h) c = s.shut u w h c

    apart : (u w : ℕ) → Contains last.early u → Contains (v ∷ last.late) w → Contains (targets u) w → ⊥
    apart u w early c e = true_is_not_false (last.earlier w) (last.early_shut u w early e) (fresh (cons_cases v w last.late c))
      where
        fresh : (v ≡ w) ⊎ Contains last.late w → last.earlier w ≡ false
        fresh (inl same) = subst (λ (x : ℕ). last.earlier x ≡ false) same last.fresh
        fresh (inr h) = last.late_fresh w h

    below : (x : Step) (rest : List Step) → IsStep targets entered finished x (rest ++ Leave v ∷ []) → IsStep targets entered (v ∷ finished) x rest
    below (Enter w) rest o = tt
    below (Leave w) rest o = record {
      earlier = o.earlier;
      late = v ∷ o.late;
      early = o.early;
      split = ap (λ (xs : List ℕ). v ∷ xs) o.split;
      stays = o.stays;
      fresh = o.fresh;
      late_fresh = λ u c. fresh u (cons_cases v u o.late c);
      late_reached = λ u c. reached u (cons_cases v u o.late c);
      early_shut = o.early_shut;
      above_fresh = λ u c. o.above_fresh u (Contains-append_left rest (Leave v ∷ []) (Leave u) c);
      above_reached = λ x c. o.above_reached x (Contains-append_left rest (Leave v ∷ []) x c);
      edges = λ u c. awaited u rest (o.edges u c);
    }
      where
        fresh : (u : ℕ) → (v ≡ u) ⊎ Contains o.late u → o.earlier u ≡ false
        fresh u (inl e) = subst (λ (x : ℕ). o.earlier x ≡ false) e (o.above_fresh v (Contains-push rest (Leave v)))
        fresh u (inr c) = o.late_fresh u c

        reached : (u : ℕ) → (v ≡ u) ⊎ Contains o.late u → Path targets w u
        reached u (inl e) = subst (λ (x : ℕ). Path targets w x) e (o.above_reached (Leave v) (Contains-push rest (Leave v)))
        reached u (inr c) = o.late_reached u c

-- ---- the first step, and the end

pub search_begins : (targets : ℕ → List ℕ) (count : ℕ) (steps : List Step) → EnterEach count steps → IsSearching targets count (replicate count false) steps []
search_begins targets count steps enters = record {
  each = length-replicate count false;
  opened = opened steps enters.only;
  shut = λ u w c e. absurd (none_there u c);
  kept = λ w lt e. absurd (true_is_not_false (is_entered (replicate count false) w) e (get_or-replicate count w false true lt));
  awaited = λ w lt. inr (enters.all w lt);
  order = tt;
}
  where
    opened : (xs : List Step) → ((x : Step) → Contains xs x → x ≡ Enter (vertex_of x)) → EachWithRest (IsStep targets (replicate count false) []) xs
    opened [] only = tt
    opened (Enter v ∷ xs) only = (tt, opened xs (λ x c. only x (contains_tail (Enter v) x xs c)))
    opened (Leave v ∷ xs) only = absurd (entered_or_left v v (sym (only (Leave v) (contains_head (Leave v) xs))))

pub search_ends : (targets : ℕ → List ℕ) (count : ℕ) (entered : List Bool) (finished : List ℕ) → IsSearching targets count entered [] finished → (v : ℕ) → v < count → Contains finished v
search_ends targets count entered finished s v lt = waited (s.awaited v lt)
  where
    left : Contains finished v ⊎ Contains [] (Leave v) → Contains finished v
    left (inl c) = c
    left (inr c) = absurd (none_there (Leave v) c)

    waited : (is_entered entered v ≡ true) ⊎ Contains [] (Enter v) → Contains finished v
    waited (inl e) = left (s.kept v lt e)
    waited (inr c) = absurd (none_there (Enter v) c)

-- ---- what is left to do

pub enter_falls : (targets : ℕ → List ℕ) (entered : List Bool) (steps : List Step) (v : ℕ) → is_entered entered v ≡ false
    → work (λ is_done. is_done) targets 0 (set entered v true) + length ((steps ++ Leave v ∷ []) ++ map Enter (targets v)) < suc (work (λ is_done. is_done) targets 0 entered + length steps)
enter_falls targets entered steps v free =
    let done : work (λ is_done. is_done) targets 0 (set entered v true) + suc (length (targets v)) ≡ work (λ is_done. is_done) targets 0 entered =
    work_done (λ (is_done : Bool). is_done) targets 0 v v entered true true (omega arith) (not_entered_within entered v free) free refl
    in
    simp (length-append, length-map) (omega arith)

-- ---- steps that enter each vertex

pub enters_none : EnterEach 0 []
enters_none = record {
  only = λ x c. absurd (none_there x c);
  all = λ v lt. absurd (omega arith);
}

pub enters_more : (count : ℕ) (steps new : List Step) → new ≡ steps ++ Enter count ∷ [] → EnterEach count steps → EnterEach (count + 1) new
enters_more count steps new is s = rw is (record {
  only = λ x c. only x (Contains-push_cases steps (Enter count) x c);
  all = λ v lt. all v lt (cases_eq v count);
})
  where
    only : (x : Step) → Contains steps x ⊎ (Enter count ≡ x) → x ≡ Enter (vertex_of x)
    only x (inl c) = s.only x c
    only x (inr e) = subst (λ (y : Step). y ≡ Enter (vertex_of y)) e refl

    all : (v : ℕ) → v < count + 1 → (v ≡ count) ⊎ (v ≡ count → ⊥) → Contains (steps ++ Enter count ∷ []) (Enter v)
    all v lt (inl e) = subst (λ (x : ℕ). Contains (steps ++ Enter count ∷ []) (Enter x)) (sym e) (Contains-push steps (Enter count))
    all v lt (inr ne) = Contains-append_left steps (Enter count ∷ []) (Enter v) (s.all v (omega arith))

-- ---- as the code takes them

pub takes_known : (targets : ℕ → List ℕ) (count : ℕ) (entered : List Bool) (steps : List Step) (finished : List ℕ) (step : Step) (v : ℕ) → step ≡ Enter v → is_entered entered v ≡ true
    → IsSearching targets count entered (steps ++ step ∷ []) finished → IsSearching targets count entered steps finished
takes_known targets count entered steps finished step v is known s =
    step_skipped targets count entered steps finished v known (subst (λ (x : Step). IsSearching targets count entered (steps ++ x ∷ []) finished) is s)

pub takes_new : (targets : ℕ → List ℕ) (count : ℕ) (entered now : List Bool) (steps left : List Step) (finished others : List ℕ) (step : Step) (v : ℕ) → step ≡ Enter v → is_entered entered v ≡ false
    → now ≡ set entered v true → left ≡ (steps ++ Leave v ∷ []) ++ map Enter (targets v) → others ≡ finished
    → IsSearching targets count entered (steps ++ step ∷ []) finished → IsSearching targets count now left others
takes_new targets count entered now steps left finished others step v is free marked added same s =
    rw (marked, added, same, append_assoc) (step_entered targets count entered steps finished v free (subst (λ (x : Step). IsSearching targets count entered (steps ++ x ∷ []) finished) is s))

pub takes_last : (targets : ℕ → List ℕ) (count : ℕ) (entered : List Bool) (steps : List Step) (finished others : List ℕ) (step : Step) (v : ℕ) → step ≡ Leave v → others ≡ finished ++ v ∷ []
    → IsSearching targets count entered (steps ++ step ∷ []) (reverse finished) → IsSearching targets count entered steps (reverse others)
takes_last targets count entered steps finished others step v is added s =
    rw (added, reverse-append) (step_left targets count entered steps (reverse finished) v (subst (λ (x : Step). IsSearching targets count entered (steps ++ x ∷ []) (reverse finished)) is s))

-- the whole search
pub search_done : (targets : ℕ → List ℕ) (count : ℕ) (entered : List Bool) (steps : List Step) (finished : List ℕ) (entered_then : List Bool) (steps_then : List Step) (finished_then order : List ℕ)
    → entered ≡ replicate count false → EnterEach count steps → finished ≡ []
    → (IsSearching targets count entered steps (reverse finished) → IsSearching targets count entered_then steps_then (reverse finished_then)) → steps_then ≡ [] → order ≡ reverse finished_then
    → IsSearching targets count entered_then [] order
search_done targets count entered steps finished entered_then steps_then finished_then order none enters empty keeps done is =
    let begun : IsSearching targets count entered steps (reverse finished) = rw (none, empty) (search_begins targets count steps enters) in
    rw is (subst (λ (xs : List Step). IsSearching targets count entered_then xs (reverse finished_then)) done (keeps begun))
