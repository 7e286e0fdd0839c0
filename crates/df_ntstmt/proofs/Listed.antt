-- The steps of loops over places and results.
use Rattle.std.proofs.Common.{◌≡◌, ℕ, zero, suc, ◌+◌, ◌<◌, ◌≤◌, Bool, true, ◌&&◌, List, [], ◌∷◌, ◌++◌, length, map, drop, get_or, slice_get, Option, Some, None, refl, sym, ap, ◌∙◌, arith, append_assoc, append-nil}
use Rattle.std.proofs.lemmas.List.{drop_all, get_or_default}
use Rattle.df_lang.specs.declared.ty.Ty.{Ty}
use Rattle.df_lang.specs.Stmt as typed
use Rattle.df_ntyping.specs.rules.Values.{are_given}
use Rattle.df_ntstmt.specs.mirror.Steps.{or_int}
use Rattle.df_ntstmt.specs.mirror.Sides.{conversions, is_given}
use Rattle.df_ntstmt.proofs.Looping.{cut}

-- ---- lists that are mapped

pub map_step : {T W : Type 0} (f : T → W) (items : List T) (i : ℕ) (item : T) (before total : List W) (one : W) → i < length items → item ≡ get_or items i item → one ≡ f item → before ++ map f (drop i items) ≡ total → (before ++ one ∷ []) ++ map f (drop (i + 1) items) ≡ total
map_step f items i item before total one lt is made so_far =
    let rest = map f (drop (i + 1) items) in
    append_assoc before (one ∷ []) rest ∙ ap (λ (x : _). before ++ x ∷ rest) made ∙ ap (λ (xs : List _). before ++ xs) (sym (cut f items i item lt is)) ∙ so_far

pub copy_step : {T W : Type 0} (f : T → W) (items : List T) (i : ℕ) (d : T) (before total : List W) (one : W) → i < length items → one ≡ f (get_or items i d) → before ++ map f (drop i items) ≡ total → (before ++ one ∷ []) ++ map f (drop (i + 1) items) ≡ total
copy_step f items i d before total one lt made so_far = map_step f items i (get_or items i d) before total one lt (get_or_default items i d (get_or items i d) lt) made so_far

-- ---- places one after another

place_after : (i : ℕ) (places : List (Option Ty)) (place : Option Ty) → slice_get places i ≡ Some place → drop i places ≡ place ∷ drop (suc i) places
place_after zero (x ∷ places) place is = let same : x ≡ place = cc in ap (λ (y : Option Ty). y ∷ places) same
place_after zero [] place is = absurd (no_place place is) where
  no_place : (place : Option Ty) → ◌≡◌ {A = Option (Option Ty)} None (Some place) → ⊥
  no_place place p = cc
place_after (suc i) (x ∷ places) place is = place_after i places place is
place_after (suc i) [] place is = absurd (no_place place is) where
  no_place : (place : Option Ty) → ◌≡◌ {A = Option (Option Ty)} None (Some place) → ⊥
  no_place place p = cc

place_next : (i : ℕ) (places : List (Option Ty)) (place : Option Ty) → slice_get places i ≡ Some place → drop i places ≡ place ∷ drop (i + 1) places
place_next i places place is = let next : suc i ≡ i + 1 = omega arith in place_after i places place is ∙ ap (λ (n : ℕ). place ∷ drop n places) next

pub no_more_places : (i : ℕ) (places : List (Option Ty)) → slice_get places i ≡ None → drop i places ≡ []
no_more_places zero [] is = refl
no_more_places zero (x ∷ places) is = absurd (there x is) where
  there : (x : Option Ty) → ◌≡◌ {A = Option (Option Ty)} (Some x) None → ⊥
  there x p = cc
no_more_places (suc i) [] is = refl
no_more_places (suc i) (x ∷ places) is = no_more_places i places is

known_next : (results : List Ty) (i : ℕ) (d : Ty) → i < length results → map Some (drop i results) ≡ Some (get_or results i d) ∷ map Some (drop (i + 1) results)
known_next results i d lt = cut Some results i (get_or results i d) lt (get_or_default results i d (get_or results i d) lt)

-- ---- results that go to places

pub given_goes : (places : List (Option Ty)) (results : List Ty) (i : ℕ) (d : Ty) (place : Option Ty) (total : Bool) → i < length results → slice_get places i ≡ Some place → is_given place (Some (get_or results i d)) ≡ true
    → are_given (drop i places) (map Some (drop i results)) ≡ total → are_given (drop (i + 1) places) (map Some (drop (i + 1) results)) ≡ total
given_goes places results i d place total lt here holds so_far =
    sym (ap (λ (b : Bool). b && are_given (drop (i + 1) places) (map Some (drop (i + 1) results))) holds)
    ∙ sym (λ j. are_given (place_next i places place here j) (known_next results i d lt j)) ∙ so_far

given_none : (places : List (Option Ty)) → are_given places [] ≡ true
given_none [] = refl
given_none (place ∷ places) = refl

pub given_done : (places : List (Option Ty)) (results : List Ty) (i : ℕ) (total : Bool) → length results ≤ i → are_given (drop i places) (map Some (drop i results)) ≡ total → true ≡ total
given_done places results i total le so_far = sym (ap (λ (all : List Ty). are_given (drop i places) (map Some all)) (drop_all i results le) ∙ given_none (drop i places)) ∙ so_far

-- how one result goes
abbrev pub conversion : Ty → Option Ty → typed.Conversion
conversion ty place = record { source = ty; target = or_int place }

pub conversion_goes : (places : List (Option Ty)) (results : List Ty) (i : ℕ) (d : Ty) (place : Option Ty) (before total : List typed.Conversion) (one : typed.Conversion) → i < length results → slice_get places i ≡ Some place → one ≡ conversion (get_or results i d) place
    → before ++ conversions (drop i places) (map Some (drop i results)) ≡ total → (before ++ one ∷ []) ++ conversions (drop (i + 1) places) (map Some (drop (i + 1) results)) ≡ total
conversion_goes places results i d place before total one lt here made so_far =
    let rest = conversions (drop (i + 1) places) (map Some (drop (i + 1) results)) in
    append_assoc before (one ∷ []) rest ∙ ap (λ (x : typed.Conversion). before ++ x ∷ rest) made
    ∙ sym (λ j. before ++ conversions (place_next i places place here j) (known_next results i d lt j)) ∙ so_far

conversions_none : (places : List (Option Ty)) → conversions places [] ≡ []
conversions_none [] = refl
conversions_none (place ∷ places) = refl

pub conversions_past : (places : List (Option Ty)) (results : List Ty) (i : ℕ) (before total : List typed.Conversion) → slice_get places i ≡ None → before ++ conversions (drop i places) (map Some (drop i results)) ≡ total → before ≡ total
conversions_past places results i before total none so_far =
    sym (append-nil before) ∙ sym (ap (λ (all : List (Option Ty)). before ++ conversions all (map Some (drop i results))) (no_more_places i places none)) ∙ so_far

pub conversions_done : (places : List (Option Ty)) (results : List Ty) (i : ℕ) (before total : List typed.Conversion) → length results ≤ i → before ++ conversions (drop i places) (map Some (drop i results)) ≡ total → before ≡ total
conversions_done places results i before total le so_far =
    sym (append-nil before) ∙ sym (ap (λ (all : List Ty). before ++ conversions (drop i places) (map Some all)) (drop_all i results le) ∙ ap (λ (xs : List typed.Conversion). before ++ xs) (conversions_none (drop i places))) ∙ so_far
