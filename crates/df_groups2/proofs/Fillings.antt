-- The steps of a group that is filled.
use Rattle.std.proofs.Common.{◌≡◌, ℕ, zero, suc, ◌+◌, ◌<◌, ◌⊎◌, inl, inr, true, false, List, [], ◌∷◌, ◌++◌, length, set, Contains, Option, None, Some, refl, sym, ap, ◌∙◌, subst, arith, length-append}
use Rattle.std.specs.Option.{is_some, is_none}
use Rattle.std.proofs.lemmas.List.{length-set}
use Rattle.std.proofs.lemmas.List.Elements.{Contains-append_left, Contains-append_right, Contains-append_cases, Contains-push, Contains-push_cases}
use Rattle.std.proofs.lemmas.Option.{none-some, same_Some}
use Rattle.df_lemmas.proofs.Alls.{none_there}
use Rattle.df_groups2.specs.Work.{work}
use Rattle.df_groups2.specs.Filling.{group_in, FreePath, start, further, IsFilling, filling_work}
use Rattle.df_groups2.proofs.Membership.{contains_head, cons_cases}
use Rattle.df_groups2.proofs.Working.{work_done}

pub free_within : (groups : List (Option ℕ)) (v : ℕ) → group_in groups v ≡ None → v < length groups
free_within [] v e = absurd cc
free_within (x ∷ xs) zero e = omega arith
free_within (x ∷ xs) (suc v) e = let lt = free_within xs v e in omega arith

-- either there is a group or not
pub group_cases : (groups : List (Option ℕ)) (v : ℕ) → (group_in groups v ≡ None) ⊎ ((k : ℕ) × (group_in groups v ≡ Some k))
group_cases groups v = by_group (group_in groups v)
  where
    by_group : (o : Option ℕ) → (o ≡ None) ⊎ ((k : ℕ) × (o ≡ Some k))
    by_group None = inl refl
    by_group (Some k) = inr (k, refl)

taken_now : (groups : List (Option ℕ)) (v group : ℕ) → group_in groups v ≡ None → group_in (set groups v (Some group)) v ≡ Some group
taken_now [] v group e = absurd cc
taken_now (x ∷ xs) zero group e = refl
taken_now (x ∷ xs) (suc v) group e = taken_now xs v group e

taken_cases : (groups : List (Option ℕ)) (v w group : ℕ) → (v ≡ w) ⊎ (group_in (set groups v (Some group)) w ≡ group_in groups w)
taken_cases [] v w group = inr refl
taken_cases (x ∷ xs) zero zero group = inl refl
taken_cases (x ∷ xs) zero (suc w) group = inr refl
taken_cases (x ∷ xs) (suc v) zero group = inr refl
taken_cases (x ∷ xs) (suc v) (suc w) group = next (taken_cases xs v w group)
  where
    next : (v ≡ w) ⊎ (group_in (set xs v (Some group)) w ≡ group_in xs w) → (suc v ≡ suc w) ⊎ (group_in (set xs v (Some group)) w ≡ group_in xs w)
    next (inl e) = inl (ap suc e)
    next (inr e) = inr e

module _ (targets : ℕ → List ℕ) (root group : ℕ) (old new : List (Option ℕ)) where
  -- what has none now had none
  pub was_free : (pending : List ℕ) → IsFilling targets root group old new pending → (w : ℕ) → group_in new w ≡ None → group_in old w ≡ None
  was_free pending s w e = either (group_cases old w)
    where
      either : (group_in old w ≡ None) ⊎ ((k : ℕ) × (group_in old w ≡ Some k)) → group_in old w ≡ None
      either (inl o) = o
      either (inr h) = absurd (none-some h.0 (sym e ∙ s.stays w h.0 h.1))

  pub filling_skips : (pending : List ℕ) (v k : ℕ) → group_in new v ≡ Some k → IsFilling targets root group old new (pending ++ v ∷ []) → IsFilling targets root group old new pending
  filling_skips pending v k has s = record {
    each = s.each;
    stays = s.stays;
    begun = λ e. waits root e (s.begun e);
    joins = s.joins;
    found = s.found;
    shut = λ a b j o n c e. waits b e (s.shut a b j o n c e);
    awaited = λ w c o. s.awaited w (Contains-append_left pending (v ∷ []) w c) o;
  }
    where
      waits : (w : ℕ) → group_in new w ≡ None → Contains (pending ++ v ∷ []) w → Contains pending w
      waits w e c = either (Contains-push_cases pending v w c)
        where
          either : Contains pending w ⊎ (v ≡ w) → Contains pending w
          either (inl h) = h
          either (inr same) = absurd (none-some k (sym e ∙ ap (group_in new) (sym same) ∙ has))

  pub filling_takes : (pending : List ℕ) (v : ℕ) → group_in new v ≡ None → IsFilling targets root group old new (pending ++ v ∷ [])
      → IsFilling targets root group old (set new v (Some group)) (pending ++ targets v)
  filling_takes pending v free s = record {
    each = length-set new v (Some group) ∙ s.each;
    stays = λ w k e. stays w k (s.stays w k e) (taken_cases new v w group);
    begun = λ e. waits root e (λ n. s.begun n);
    joins = λ w k o n. joins w k o n (taken_cases new v w group);
    found = λ w k o n. found w k o n (taken_cases new v w group);
    shut = λ a b k o n c e. shut a b k o n c e (taken_cases new v a group);
    awaited = λ w c o. awaited w o (Contains-append_cases pending (targets v) w c);
  }
    where
      itself : group_in (set new v (Some group)) v ≡ Some group
      itself = taken_now new v group free

      before : group_in old v ≡ None
      before = was_free (pending ++ v ∷ []) s v free

      path : FreePath targets old root v
      path = s.awaited v (Contains-push pending v) before

      stays : (w k : ℕ) → group_in new w ≡ Some k → (v ≡ w) ⊎ (group_in (set new v (Some group)) w ≡ group_in new w) → group_in (set new v (Some group)) w ≡ Some k
      stays w k e (inl same) = absurd (none-some k (sym free ∙ ap (group_in new) same ∙ e))
      stays w k e (inr is) = is ∙ e

      -- what has no group now and was pending is pending still
      waits : (w : ℕ) → group_in (set new v (Some group)) w ≡ None → (group_in new w ≡ None → Contains (pending ++ v ∷ []) w) → Contains (pending ++ targets v) w
      waits w e was = either (taken_cases new v w group)
        where
          other : v ≡ w → ⊥
          other same = none-some group (sym e ∙ ap (group_in (set new v (Some group))) (sym same) ∙ itself)

          inside : Contains pending w ⊎ (v ≡ w) → Contains (pending ++ targets v) w
          inside (inl c) = Contains-append_left pending (targets v) w c
          inside (inr same) = absurd (other same)

          either : (v ≡ w) ⊎ (group_in (set new v (Some group)) w ≡ group_in new w) → Contains (pending ++ targets v) w
          either (inl same) = absurd (other same)
          either (inr is) = inside (Contains-push_cases pending v w (was (sym is ∙ e)))

      joins : (w k : ℕ) → group_in old w ≡ None → group_in (set new v (Some group)) w ≡ Some k → (v ≡ w) ⊎ (group_in (set new v (Some group)) w ≡ group_in new w) → k ≡ group
      joins w k o n (inl same) = same_Some k group (sym n ∙ ap (group_in (set new v (Some group))) (sym same) ∙ itself)
      joins w k o n (inr is) = s.joins w k o (sym is ∙ n)

      found : (w k : ℕ) → group_in old w ≡ None → group_in (set new v (Some group)) w ≡ Some k → (v ≡ w) ⊎ (group_in (set new v (Some group)) w ≡ group_in new w) → FreePath targets old root w
      found w k o n (inl same) = subst (λ (x : ℕ). FreePath targets old root x) same path
      found w k o n (inr is) = s.found w k o (sym is ∙ n)

      shut : (a b k : ℕ) → group_in old a ≡ None → group_in (set new v (Some group)) a ≡ Some k → Contains (targets a) b → group_in (set new v (Some group)) b ≡ None
          → (v ≡ a) ⊎ (group_in (set new v (Some group)) a ≡ group_in new a) → Contains (pending ++ targets v) b
      shut a b k o n c e (inl same) = Contains-append_right pending (targets v) b (subst (λ (x : ℕ). Contains (targets x) b) (sym same) c)
      shut a b k o n c e (inr is) = waits b e (λ free_b. s.shut a b k o (sym is ∙ n) c free_b)

      awaited : (w : ℕ) → group_in old w ≡ None → Contains pending w ⊎ Contains (targets v) w → FreePath targets old root w
      awaited w o (inl c) = s.awaited w (Contains-append_left pending (v ∷ []) w c) o
      awaited w o (inr c) = further path c o

pub filling_begins : (targets : ℕ → List ℕ) (root group : ℕ) (groups : List (Option ℕ)) → IsFilling targets root group groups groups (root ∷ [])
filling_begins targets root group groups = record {
  each = refl;
  stays = λ w k e. e;
  begun = λ e. contains_head root [];
  joins = λ w k o n. absurd (none-some k (sym o ∙ n));
  found = λ w k o n. absurd (none-some k (sym o ∙ n));
  shut = λ a b k o n c e. absurd (none-some k (sym o ∙ n));
  awaited = λ w c o. awaited w o (cons_cases root w [] c);
}
  where
    awaited : (w : ℕ) → group_in groups w ≡ None → (root ≡ w) ⊎ Contains [] w → FreePath targets groups root w
    awaited w o (inl same) = subst (λ (x : ℕ). FreePath targets groups root x) same (start (ap (group_in groups) same ∙ o))
    awaited w o (inr c) = absurd (none_there w c)

pub taking_falls : (targets : ℕ → List ℕ) (groups : List (Option ℕ)) (pending : List ℕ) (v group : ℕ) → group_in groups v ≡ None
    → filling_work targets (set groups v (Some group)) (pending ++ targets v) < suc (filling_work targets groups pending)
taking_falls targets groups pending v group free =
    let before : is_some (group_in groups v) ≡ false = ap (λ (o : Option ℕ). is_some o) free in
    let done : work (λ (g : Option ℕ). is_some g) targets 0 (set groups v (Some group)) + suc (length (targets v)) ≡ work (λ (g : Option ℕ). is_some g) targets 0 groups =
    work_done (λ (g : Option ℕ). is_some g) targets 0 v v groups (Some 0) (Some group) (omega arith) (free_within groups v free) before refl
    in
    simp length-append (omega arith)

-- the test of the code
pub free_from_test : (groups : List (Option ℕ)) (v : ℕ) → is_none (group_in groups v) ≡ true → group_in groups v ≡ None
free_from_test groups v e = by_group (group_in groups v) e
  where
    by_group : (o : Option ℕ) → is_none o ≡ true → o ≡ None
    by_group None e = refl
    by_group (Some k) e = absurd (let f : false ≡ true = e in cc)

pub group_from_test : (groups : List (Option ℕ)) (v : ℕ) → is_none (group_in groups v) ≡ false → (k : ℕ) × (group_in groups v ≡ Some k)
group_from_test groups v e = by_group (group_in groups v) e
  where
    by_group : (o : Option ℕ) → is_none o ≡ false → (k : ℕ) × (o ≡ Some k)
    by_group None e = absurd (let f : true ≡ false = e in cc)
    by_group (Some k) e = (k, refl)

-- a turn of the loop
pub filling_goes_on : (targets : ℕ → List ℕ) (root own group : ℕ) (old groups new : List (Option ℕ)) (pending popped left : List ℕ) (v : ℕ) → own ≡ group → pending ≡ popped ++ v ∷ []
    → (IsFilling targets root own old groups (popped ++ v ∷ []) → IsFilling targets root own old new left) → IsFilling targets root group old groups pending → IsFilling targets root group old new left
filling_goes_on targets root own group old groups new pending popped left v same is turn s =
    let before : IsFilling targets root own old groups (popped ++ v ∷ []) =
    subst (λ (g : ℕ). IsFilling targets root g old groups (popped ++ v ∷ [])) (sym same) (subst (λ (xs : List ℕ). IsFilling targets root group old groups xs) is s)
    in
    subst (λ (g : ℕ). IsFilling targets root g old new left) same (turn before)
