-- Going over the entries of a row with one step for each.
use Rattle.std.proofs.Common.{◌≡◌, ◌⊎◌, ⊎_elim, inl, inr, ℕ, ◌<◌, ℤ, pos, true, false, cond, nat_eq, List, [], ◌∷◌, Option, Some, None, refl, sym, ap, subst, ◌∙◌, arith}
use Rattle.std.proofs.lemmas.Bool.{cases_eq, true≢false}
use Rattle.std.specs.declared.cmp.Ordering.TheVariants.{Less, Greater}
use Rattle.std.proofs.lemmas.Bool.Decides.{nat_tests}
use Rattle.std.proofs.lemmas.Grind.{common_steps}
use Rattle.std.proofs.lemmas.Cmp.{nat_cmp_total}
use Rattle.std.proofs.lemmas.Map.{lookup-none}
use Rattle.std.proofs.lemmas.Map.Keys.{sorted_tail, IsDistinct-from_sorted}
use Rattle.std.proofs.lemmas.Map.Entries.{none_past_head}
use Rattle.std.proofs.lemmas.Option.{none-some, same_Some, option_and_then_some}
use Rattle.std.specs.Cmp.{eq_by_cmp_equiv, nat_cmp_is}
use Rattle.std.specs.List.Sorted.{IsStrictlySortedBy}
use Rattle.std.specs.Option.{option_and_then, unwrap_or}
use Rattle.std.specs.Ordering.{nat_cmp, is_eq}
use Rattle.std.specs.BTreeMap.{is_at}
use Rattle.std.specs.Map.{lookup, keys_of}
use Rattle.df_lemmas.proofs.Numbers.{equal_self}
use Rattle.df_row.specs.Row.{with_coefficient}
use Rattle.df_row.specs.declared.row.RowFault.{RowFault}
use Rattle.df_row.specs.RowView.{coefficient_at, Fails}
use Rattle.df_row.proofs.Rows.{fails_on}

-- The step is given the coefficient so far, and the entry's.
abbrev pub each : {X : Type 0} → (ℤ → X → Option ℤ) → List (ℕ × X) → (ℕ → ℤ) → Option (ℕ → ℤ)
each step [] c = Some c
each step (e ∷ es) c = option_and_then (λ z. each step es (with_coefficient c e.0 z)) (step (c e.0) e.1)

abbrev pub found : {X : Type 0} → List (ℕ × X) → ℕ → Option X
found es n = lookup (is_at (nat_cmp n)) es

-- a coefficient before and after
abbrev pub Outcome : {X : Type 0} → (ℤ → X → Option ℤ) → Option X → ℤ → ℤ → Type 0
Outcome step None before after = after ≡ before
Outcome step (Some v) before after = step before v ≡ Some after

-- an entry that the step refuses
pub record Refused {X : Type 0} (step : ℤ → X → Option ℤ) (es : List (ℕ × X)) (c : ℕ → ℤ) : Type 0 where
  pub at : ℕ
  pub value : X
  pub stands : found es at ≡ Some value
  pub none : step (c at) value ≡ None

-- a key is this number, or another
abbrev Apart : ℕ → ℕ → Type 0
Apart n k = (nat_eq n k ≡ false) × (is_at (nat_cmp n) k ≡ false)

at_self : (k : ℕ) → is_at (nat_cmp k) k ≡ true
at_self k = grind (arith, common_steps)

apart_from : (n k : ℕ) → (n ≡ k → ⊥) → Apart n k
apart_from n k apart = ⊎_elim below above (sides n k apart)
  where
    sides : (n k : ℕ) → (n ≡ k → ⊥) → (n < k) ⊎ (k < n)
    sides n k apart = grind arith

    unequal : nat_eq n k ≡ false
    unequal = grind (arith, nat_tests)

    below : n < k → Apart n k
    below h = (unequal, ap is_eq (sym (nat_cmp_is n k Less h)))

    above : k < n → Apart n k
    above h = (unequal, ap is_eq (sym (nat_cmp_is n k Greater h)))

keys : (n k : ℕ) → (n ≡ k) ⊎ Apart n k
keys n k = ⊎_elim inl (λ apart. inr (apart_from n k apart)) (cases_eq n k)

here : {X : Type 0} (k : ℕ) (v : X) (es : List (ℕ × X)) → found ((k, v) ∷ es) k ≡ Some v
here k v es = ap (λ t. cond t (Some v) (found es k)) (at_self k)

elsewhere : {X : Type 0} (n k : ℕ) (v : X) (es : List (ℕ × X)) → Apart n k → found ((k, v) ∷ es) n ≡ found es n
elsewhere n k v es apart = ap (λ t. cond t (Some v) (found es n)) apart.1

once : {X : Type 0} (k : ℕ) (v : X) (es : List (ℕ × X)) → IsStrictlySortedBy nat_cmp (keys_of ((k, v) ∷ es)) → found es k ≡ None
once k v es sorted = lookup-none (is_at (nat_cmp k)) es (none_past_head (eq_by_cmp_equiv nat_cmp_total) k (k, v) es (IsDistinct-from_sorted nat_cmp (keys_of ((k, v) ∷ es)) sorted) (at_self k))

put_here : (c : ℕ → ℤ) (k : ℕ) (z : ℤ) → with_coefficient c k z k ≡ z
put_here c k z = ap (λ t. cond t z (c k)) (equal_self k)

put_elsewhere : (c : ℕ → ℤ) (n k : ℕ) (z : ℤ) → Apart n k → with_coefficient c k z n ≡ c n
put_elsewhere c n k z apart = ap (λ t. cond t z (c n)) apart.0

-- one entry more in front
first_some : {X : Type 0} (step : ℤ → X → Option ℤ) (k : ℕ) (v : X) (es : List (ℕ × X)) (c after : ℕ → ℤ) (z : ℤ) → IsStrictlySortedBy nat_cmp (keys_of ((k, v) ∷ es)) → step (c k) v ≡ Some z → ((m : ℕ) → Outcome step (found es m) (with_coefficient c k z m) (after m)) → (n : ℕ) → Outcome step (found ((k, v) ∷ es) n) (c n) (after n)
first_some {X = X} step k v es c after z sorted at rest n = ⊎_elim this other (keys n k)
  where
    this : n ≡ k → Outcome step (found ((k, v) ∷ es) n) (c n) (after n)
    this same =
        let P : Option X → Type 0 = λ o. Outcome step o (with_coefficient c k z k) (after k) in
        let kept : after k ≡ with_coefficient c k z k = subst P (once k v es sorted) (rest k) in
        let Q : Option X → Type 0 = λ o. Outcome step o (c k) (after k) in
        let R : ℕ → Type 0 = λ m. Outcome step (found ((k, v) ∷ es) m) (c m) (after m) in
        subst R (sym same) (subst Q (sym (here k v es)) (at ∙ ap Some (sym (kept ∙ put_here c k z))))

    other : Apart n k → Outcome step (found ((k, v) ∷ es) n) (c n) (after n)
    other apart =
        let P : Option X → Type 0 = λ o. Outcome step o (c n) (after n) in
        let Q : ℤ → Type 0 = λ b. Outcome step (found es n) b (after n) in
        subst P (sym (elsewhere n k v es apart)) (subst Q (put_elsewhere c n k z apart) (rest n))

first_none : {X : Type 0} (step : ℤ → X → Option ℤ) (k : ℕ) (v : X) (es : List (ℕ × X)) (c : ℕ → ℤ) (z : ℤ) → IsStrictlySortedBy nat_cmp (keys_of ((k, v) ∷ es)) → Refused step es (with_coefficient c k z) → Refused step ((k, v) ∷ es) c
first_none {X = X} step k v es c z sorted r = ⊎_elim this other (keys r.at k)
  where
    this : r.at ≡ k → Refused step ((k, v) ∷ es) c
    this same = absurd (none-some r.value (sym (once k v es sorted) ∙ ap (found es) (sym same) ∙ r.stands))

    other : Apart r.at k → Refused step ((k, v) ∷ es) c
    other apart = record { at = r.at; value = r.value; stands = elsewhere r.at k v es apart ∙ r.stands; none = ap (λ b. step b r.value) (sym (put_elsewhere c r.at k z apart)) ∙ r.none }

pub each_some : {X : Type 0} (step : ℤ → X → Option ℤ) (es : List (ℕ × X)) (c after : ℕ → ℤ) → IsStrictlySortedBy nat_cmp (keys_of es) → each step es c ≡ Some after → (n : ℕ) → Outcome step (found es n) (c n) (after n)
each_some step [] c after sorted e n = ap (λ f. f n) (sym (same_Some c after e))
each_some step ((k, v) ∷ es) c after sorted e n = option_and_then_some (λ z. each step es (with_coefficient c k z)) (step (c k) v) after e (λ z at then. first_some step k v es c after z sorted at (each_some step es (with_coefficient c k z) after (sorted_tail nat_cmp k (keys_of es) sorted) then) n)

none_from : {A B C : Type 0} (f : A → Option B) (o : Option A) → option_and_then f o ≡ None → (o ≡ None → C) → ((x : A) → o ≡ Some x → f x ≡ None → C) → C
none_from f None e none some = none refl
none_from f (Some x) e none some = some x refl e

pub each_none : {X : Type 0} (step : ℤ → X → Option ℤ) (es : List (ℕ × X)) (c : ℕ → ℤ) → IsStrictlySortedBy nat_cmp (keys_of es) → each step es c ≡ None → Refused step es c
each_none step [] c sorted e = absurd (none-some c (sym e))
each_none step ((k, v) ∷ es) c sorted e =
    none_from (λ z. each step es (with_coefficient c k z)) (step (c k) v) e (λ none. record { at = k; value = v; stands = here k v es; none = none }) (λ z at then. first_none step k v es c z sorted (each_none step es (with_coefficient c k z) (sorted_tail nat_cmp k (keys_of es) sorted) then))

-- an entry put where it belongs
pub put_entry : (old new : List (ℕ × ℤ)) (k : ℕ) (w : ℤ) → ((q : ℕ) → found new q ≡ cond (is_at (nat_cmp k) q) (Some w) (found old q)) → coefficient_at new ≡ with_coefficient (coefficient_at old) k w
put_entry old new k w puts = λ i. λ n. at n i
  where
    at : (n : ℕ) → coefficient_at new n ≡ with_coefficient (coefficient_at old) k w n
    at n = ⊎_elim this other (keys n k)
      where
        this : n ≡ k → coefficient_at new n ≡ with_coefficient (coefficient_at old) k w n
        this same =
            let P : ℕ → Type 0 = λ m. coefficient_at new m ≡ with_coefficient (coefficient_at old) k w m in
            let e : found new k ≡ Some w = puts k ∙ ap (λ t. cond t (Some w) (found old k)) (at_self k) in
            subst P (sym same) (ap (λ o. unwrap_or o (pos 0)) e ∙ sym (put_here (coefficient_at old) k w))

        other : Apart n k → coefficient_at new n ≡ with_coefficient (coefficient_at old) k w n
        other apart =
            let e : found new n ≡ found old n = puts n ∙ ap (λ t. cond t (Some w) (found old n)) (away (keys k n)) in
            ap (λ o. unwrap_or o (pos 0)) e ∙ sym (put_elsewhere (coefficient_at old) n k w apart)
          where
            away : (k ≡ n) ⊎ Apart k n → is_at (nat_cmp k) n ≡ false
            away c = ⊎_elim (λ same. absurd (true≢false (sym (ap (nat_eq n) same ∙ equal_self n) ∙ apart.0))) (λ there. there.1) c

-- what is made of each entry, from nothing
abbrev pub nothing_yet : ℕ → ℤ
nothing_yet n = pos 0

-- the entries that are left give the rest of what is made
pub record IsMaking {X : Type 0} (step : ℤ → X → Option ℤ) (all left : List (ℕ × X)) (made : List (ℕ × ℤ)) : Type 0 where
  pub goes : each step left (coefficient_at made) ≡ each step all nothing_yet

module _ {X : Type 0} (step : ℤ → X → Option ℤ) (all left : List (ℕ × X)) (made : List (ℕ × ℤ)) (k : ℕ) (v : X) (so_far : IsMaking step all ((k, v) ∷ left) made) where
  pub making_goes : (new : List (ℕ × ℤ)) (w : ℤ) → step (coefficient_at made k) v ≡ Some w → ((q : ℕ) → found new q ≡ cond (is_at (nat_cmp k) q) (Some w) (found made q)) → IsMaking step all left new
  making_goes new w at puts =
      let here : each step ((k, v) ∷ left) (coefficient_at made) ≡ each step left (with_coefficient (coefficient_at made) k w) = ap (option_and_then (λ x. each step left (with_coefficient (coefficient_at made) k x))) at in
      record { goes = ap (each step left) (put_entry made new k w puts) ∙ sym here ∙ so_far.goes }

  pub making_fails : (fault : RowFault) → Fails fault (step (coefficient_at made k) v) → Fails fault (each step all nothing_yet)
  making_fails fault none = subst (Fails fault) so_far.goes (fails_on fault (λ x. each step left (with_coefficient (coefficient_at made) k x)) (step (coefficient_at made k) v) none)
