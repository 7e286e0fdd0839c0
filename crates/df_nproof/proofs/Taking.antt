-- Parts that are taken one after another, and the first that is not.
use Rattle.std.proofs.Common.{◌≡◌, inl, inr, ℕ, zero, suc, ◌+◌, ◌<◌, ◌≤◌, List, [], ◌∷◌, ◌++◌, map, take, drop, length, get_or, slice_get, Option, None, Some, refl, sym, ap, subst, ◌∙◌, append_assoc, append-nil, arith}
use Rattle.std.specs.List.{flat_map}
use Rattle.std.proofs.lemmas.Grind.{flat_map-append}
use Rattle.std.proofs.lemmas.List.{take_more, take_all, length-take-le, map-append}
use Rattle.std.proofs.lemmas.Option.{slice_get-get_or, slice_get_within, get_or_from_slice_get}
use Rattle.df_lemmas.proofs.Lists.{get_split}
use Rattle.df_lang.specs.Program.{Program}
use Rattle.df_form.specs.Log.{Step}
use Rattle.df_npass.specs.Methods.{Obligation}
use Rattle.df_nproof.specs.declared.fault.CheckFault.{CheckFault}
use Rattle.df_nproof.specs.declared.fault.CheckFault.TheVariants as faults
use Rattle.df_nproof.specs.Derived.{IsDerived, AreDerived}
use Rattle.df_nproof.specs.Refused.{IsBadPart, IsBadAt, IsSurplus}
use Rattle.df_nproof.specs.Checking.{IsBrokenBy, IsNext, IsBadBy, AreTaken, Takes, Fails, FailsAt, IsRefusedBy}
use Rattle.df_nproof.proofs.Derivations.{as_many, one_more}

-- one element more is taken
taken_more : {A : Type 0} (xs : List A) (n : ℕ) (x : A) → slice_get xs n ≡ Some x → take (n + 1) xs ≡ take n xs ++ x ∷ []
taken_more xs n x at = take_more xs n x (slice_get_within xs n x at) ∙ ap (λ y. take n xs ++ y ∷ []) (get_or_from_slice_get xs n x x at)

module _ (program : Program) where
  -- ---- one part

  -- a part that is there is refused as it is
  pub part_is_bad : (o : Obligation) (log : List Step) (part : Option (List Step)) (number : ℕ) (fault : CheckFault) → part ≡ Some log → IsBrokenBy program o log number fault → IsBadBy program o part number fault
  part_is_bad o log part number (faults.NotALog line) is broken = broken
  part_is_bad o log part number (faults.Refused obligation step) is broken = subst (λ (p : Option (List Step)). (obligation ≡ number) × IsBadPart program o p step) (sym is) broken
  part_is_bad o log part number faults.Memory is broken = broken

  -- and one that is not there has no step
  pub none_is_bad : (o : Obligation) (part : Option (List Step)) (number : ℕ) → part ≡ None → IsBadBy program o part number (faults.Refused number 1)
  none_is_bad o part number is = subst (λ (p : Option (List Step)). (number ≡ number) × IsBadPart program o p 1) (sym is) (refl, refl)

  pub part_is_next : (o : Obligation) (log : List Step) (part : Option (List Step)) → part ≡ Some log → IsDerived program o log → IsNext program o part
  part_is_next o log part is derived = subst (IsNext program o) (sym is) derived

  -- ---- so far

  pub none_taken : (parts : List (List Step)) → AreTaken program [] parts 0
  none_taken parts = record { within = omega arith; derived = tt }

  -- as many parts as obligations
  taken_count : (os : List Obligation) (parts : List (List Step)) (taken : ℕ) → AreTaken program os parts taken → length os ≡ taken
  taken_count os parts taken are =
      let many = as_many program os (take taken parts) are.derived in
      let long = length-take-le taken parts are.within in
      omega (arith, many, long)

  by_next : (o : Obligation) (part : Option (List Step)) → IsNext program o part → (log : List Step) × (part ≡ Some log) × IsDerived program o log
  by_next o None next = absurd next
  by_next o (Some log) next = (log, refl, next)

  -- one obligation more
  pub one_taken : (os : List Obligation) (o : Obligation) (parts : List (List Step)) (taken : ℕ) → AreTaken program os parts taken → IsNext program o (slice_get parts taken) → AreTaken program (os ++ o ∷ []) parts (taken + 1)
  one_taken os o parts taken are next =
      let found = by_next o (slice_get parts taken) next in
      let less = slice_get_within parts taken found.0 found.1 in
      record {
        within = omega (arith, less);
        derived = subst (AreDerived program (os ++ o ∷ [])) (sym (taken_more parts taken found.0 found.1)) (one_more program os o (take taken parts) found.0 are.derived found.2);
      }

  -- the obligation behind those that are taken is bad
  pub one_fails : (os after : List Obligation) (o : Obligation) (parts : List (List Step)) (taken number step : ℕ) → AreTaken program os parts taken → (number ≡ taken + 1) × IsBadPart program o (slice_get parts taken) step → IsBadAt program (os ++ o ∷ after) parts number step
  one_fails os after o parts taken number step are bad =
      let count = taken_count os parts taken are in
      record {
        before = os;
        after = after;
        o = o;
        split = refl;
        derived = subst (λ (n : ℕ). AreDerived program os (take n parts)) (sym count) are.derived;
        bad = subst (λ (n : ℕ). IsBadPart program o (slice_get parts n) step) (sym count) bad.1;
        counted = omega (arith, count, bad.0);
      }

  -- ---- of a method

  module _ {A : Type 0} (view : A → Obligation) where
    -- what is taken of the obligations before one, whatever was taken before them
    abbrev pub SoFar : List A → ℕ → List (List Step) → ℕ → ℕ → Type 0
    SoFar os i parts first taken = Takes program (map view (take i os)) parts first taken

    pub none_so_far : (os : List A) (parts : List (List Step)) (first taken : ℕ) → taken ≡ first → SoFar os 0 parts first taken
    none_so_far os parts first taken same = λ before are.
        subst (λ (n : ℕ). AreTaken program (before ++ []) parts n) (sym same) (subst (λ (bs : List Obligation). AreTaken program bs parts first) (sym (append-nil before)) are)

    mapped_more : (os : List A) (i : ℕ) (d : A) → i < length os → map view (take (i + 1) os) ≡ map view (take i os) ++ view (get_or os i d) ∷ []
    mapped_more os i d less = ap (map view) (take_more os i d less) ∙ map-append view (take i os) (get_or os i d ∷ [])

    pub more_so_far : (os : List A) (i : ℕ) (d : A) (parts : List (List Step)) (first taken : ℕ) → i < length os → SoFar os i parts first taken → IsNext program (view (get_or os i d)) (slice_get parts taken) → SoFar os (i + 1) parts first (taken + 1)
    more_so_far os i d parts first taken less so_far next = λ before are.
        let o : Obligation = view (get_or os i d) in
        let added = one_taken (before ++ map view (take i os)) o parts taken (so_far before are) next in
        let same : (before ++ map view (take i os)) ++ o ∷ [] ≡ before ++ map view (take (i + 1) os) =
        append_assoc before (map view (take i os)) (o ∷ []) ∙ ap (λ (xs : List Obligation). before ++ xs) (sym (mapped_more os i d less)) in
        subst (λ (xs : List Obligation). AreTaken program xs parts (taken + 1)) same added

    pub all_taken : (os : List A) (i : ℕ) (parts : List (List Step)) (first taken : ℕ) → length os ≤ i → SoFar os i parts first taken → Takes program (map view os) parts first taken
    all_taken os i parts first taken past so_far = subst (λ (xs : List A). Takes program (map view xs) parts first taken) (take_all i os past) so_far

    -- all obligations, at one of them
    whole : (before after : List Obligation) (os : List A) (i : ℕ) (d : A) → i < length os
        → before ++ map view os ++ after ≡ (before ++ map view (take i os)) ++ view (get_or os i d) ∷ (map view (drop (suc i) os) ++ after)
    whole before after os i d less =
        let x : A = get_or os i d in
        let split : map view os ≡ map view (take i os) ++ view x ∷ map view (drop (suc i) os) = ap (map view) (get_split os i x (slice_get-get_or os i d less)) ∙ map-append view (take i os) (x ∷ drop (suc i) os) in
        ap (λ (xs : List Obligation). before ++ xs ++ after) split
        ∙ ap (λ (xs : List Obligation). xs ++ after) (sym (append_assoc before (map view (take i os)) (view x ∷ map view (drop (suc i) os))))
        ∙ append_assoc (before ++ map view (take i os)) (view x ∷ map view (drop (suc i) os)) after

    pub fails_at : (os : List A) (i : ℕ) (d : A) (parts : List (List Step)) (first taken : ℕ) (fault : CheckFault) → i < length os → SoFar os i parts first taken → IsBadBy program (view (get_or os i d)) (slice_get parts taken) (taken + 1) fault → Fails program (map view os) parts first fault
    fails_at os i d parts first taken (faults.NotALog line) less so_far bad = bad
    fails_at os i d parts first taken (faults.Refused number step) less so_far bad = λ before after are.
        subst (λ (xs : List Obligation). IsBadAt program xs parts number step) (sym (whole before after os i d less))
        (one_fails (before ++ map view (take i os)) (map view (drop (suc i) os) ++ after) (view (get_or os i d)) parts taken number step (so_far before are) bad)
    fails_at os i d parts first taken faults.Memory less so_far bad = bad

  -- ---- of methods

  module _ {M : Type 0} (owed : M → List Obligation) where
    pub method_taken : (ms : List M) (i : ℕ) (m : M) (parts : List (List Step)) (taken now : ℕ) → i < length ms → m ≡ get_or ms i m → AreTaken program (flat_map owed (take i ms)) parts taken → Takes program (owed m) parts taken now → AreTaken program (flat_map owed (take (i + 1) ms)) parts now
    method_taken ms i m parts taken now less is so_far takes =
        let more : flat_map owed (take (i + 1) ms) ≡ flat_map owed (take i ms) ++ owed m =
        ap (flat_map owed) (take_more ms i m less) ∙ flat_map-append owed (take i ms) (get_or ms i m ∷ []) ∙ ap (λ (x : M). flat_map owed (take i ms) ++ (owed x ++ [])) (sym is) ∙ ap (λ (xs : List Obligation). flat_map owed (take i ms) ++ xs) (append-nil (owed m)) in
        subst (λ (xs : List Obligation). AreTaken program xs parts now) (sym more) (takes (flat_map owed (take i ms)) so_far)

    pub methods_taken : (ms : List M) (i : ℕ) (parts : List (List Step)) (taken : ℕ) → length ms ≤ i → AreTaken program (flat_map owed (take i ms)) parts taken → AreTaken program (flat_map owed ms) parts taken
    methods_taken ms i parts taken past so_far = subst (λ (xs : List M). AreTaken program (flat_map owed xs) parts taken) (take_all i ms past) so_far

    all_owed : (ms : List M) (i : ℕ) (m : M) → i < length ms → m ≡ get_or ms i m → flat_map owed ms ≡ flat_map owed (take i ms) ++ owed m ++ flat_map owed (drop (suc i) ms)
    all_owed ms i m less is =
        let there : slice_get ms i ≡ Some m = slice_get-get_or ms i m less ∙ ap Some (sym is) in
        ap (flat_map owed) (get_split ms i m there) ∙ flat_map-append owed (take i ms) (m ∷ drop (suc i) ms) ∙ sym (append_assoc (flat_map owed (take i ms)) (owed m) (flat_map owed (drop (suc i) ms)))

    pub method_fails : (ms : List M) (i : ℕ) (m : M) (parts : List (List Step)) (taken : ℕ) (fault : CheckFault) → i < length ms → m ≡ get_or ms i m → AreTaken program (flat_map owed (take i ms)) parts taken → Fails program (owed m) parts taken fault → FailsAt program (flat_map owed ms) parts fault
    method_fails ms i m parts taken (faults.NotALog line) less is so_far fails = fails
    method_fails ms i m parts taken (faults.Refused number step) less is so_far fails =
        subst (λ (xs : List Obligation). IsBadAt program xs parts number step) (sym (all_owed ms i m less is)) (fails (flat_map owed (take i ms)) (flat_map owed (drop (suc i) ms)) so_far)
    method_fails ms i m parts taken faults.Memory less is so_far fails = fails

  -- ---- of all

  pub is_refused : (os all : List Obligation) (parts : List (List Step)) (fault : CheckFault) → os ≡ all → FailsAt program os parts fault → IsRefusedBy program all parts fault
  is_refused os all parts (faults.NotALog line) same fails = fails
  is_refused os all parts (faults.Refused number step) same fails = inl (subst (λ (xs : List Obligation). IsBadAt program xs parts number step) same fails)
  is_refused os all parts faults.Memory same fails = fails

  -- a part that is left is one too many
  pub is_surplus : (os all : List Obligation) (parts : List (List Step)) (taken : ℕ) (part : List Step) (step : ℕ) → os ≡ all → AreTaken program os parts taken → slice_get parts taken ≡ Some part → step ≡ length part + 1 → IsRefusedBy program all parts (faults.Refused (taken + 1) step)
  is_surplus os all parts taken part step same are there past =
      let count = taken_count os parts taken are in
      inr (subst (λ (xs : List Obligation). IsSurplus program xs parts (taken + 1) step) same (record {
        derived = subst (λ (n : ℕ). AreDerived program os (take n parts)) (sym count) are.derived;
        part = part;
        there = ap (slice_get parts) count ∙ there;
        counted = ap (λ (n : ℕ). n + 1) (sym count);
        past = past;
      }))

  -- and where none is left, all are taken
  pub all_derived : (os all : List Obligation) (parts : List (List Step)) (taken : ℕ) → os ≡ all → AreTaken program os parts taken → slice_get parts taken ≡ None → AreDerived program all parts
  all_derived os all parts taken same are none =
      subst (λ (xs : List Obligation). AreDerived program xs parts) same (subst (AreDerived program os) (take_all taken parts (nothing_left parts taken none)) are.derived)
    where
      nothing_left : (xs : List (List Step)) (n : ℕ) → slice_get xs n ≡ None → length xs ≤ n
      nothing_left [] n none = omega arith
      nothing_left (x ∷ xs) zero none = absurd cc
      nothing_left (x ∷ xs) (suc n) none = omega (arith, nothing_left xs n none)
