-- What a list of keys with texts says of its texts.
use Rattle.std.proofs.Common.{◌≡◌, ℕ, ◌<◌, Bool, true, false, cond, ◌||◌, List, [], ◌∷◌, ◌++◌, map, slice_get, position, Some, refl, sym, ap, ◌∙◌, arith}
use Rattle.std.specs.List.{list_any, AllByRecursion, IsDistinct as apart}
use Rattle.std.proofs.lemmas.List.{map-append}
use Rattle.std.proofs.lemmas.List.Quantifiers.{position-Some}
use Rattle.std.proofs.lemmas.Map.Keys.{apart_from_distinct}
use Rattle.std.proofs.lemmas.Option.{slice_get-map, slice_get_within, get_or_from_slice_get, slice_get-get_or}
use Rattle.std.proofs.lemmas.Slice.Eq.{bytes_eq-Decides}
use Rattle.df_base.specs.Names.{same_text, with_text, IsDistinct}

pub same_text-refl : (text : List ℕ) → same_text text text ≡ true
same_text-refl text = (bytes_eq-Decides text text).1 refl

pub same_text-equal : (a b : List ℕ) → same_text a b ≡ true → a ≡ b
same_text-equal a b = (bytes_eq-Decides a b).0

not_same : (text : List ℕ) → same_text text text ≡ false → ⊥
not_same text e = let t = same_text-refl text in cc

not_before : (texts : List (List ℕ)) → apart same_text texts → (i j : ℕ) (text : List ℕ) → slice_get texts i ≡ Some text → slice_get texts j ≡ Some text → i < j → ⊥
not_before texts d i j text at_i at_j less =
    let e = apart_from_distinct same_text texts i j [] d less (slice_get_within texts j text at_j) in
    let x = get_or_from_slice_get texts i text [] at_i in
    let y = get_or_from_slice_get texts j text [] at_j in
    not_same text (rw (x, y) at e)

-- no text stands twice, where no two are the same by the test
pub IsDistinct-from_apart : (texts : List (List ℕ)) → apart same_text texts → IsDistinct texts
IsDistinct-from_apart texts d i j text at_i at_j =
    let before : i < j → ⊥ = not_before texts d i j text at_i at_j in
    let after : j < i → ⊥ = not_before texts d j i text at_j at_i in
    grind arith

module _ {K : Type 0} (bytes : K → List ℕ) where
  all-map : (P : List ℕ → Type 0) (ks : List K) → AllByRecursion (λ k. P (bytes k)) ks → AllByRecursion P (map bytes ks)
  all-map P [] h = tt
  all-map P (k ∷ ks) h = (h.0, all-map P ks h.1)

  apart-map : (ks : List K) → apart (λ x y. same_text (bytes x) (bytes y)) ks → apart same_text (map bytes ks)
  unfolding apart
  apart-map [] h = tt
  apart-map (k ∷ ks) h = (all-map (λ y. same_text (bytes k) y ≡ false) ks h.0, apart-map ks h.1)

  -- the texts of keys that are apart are distinct
  pub IsDistinct-keys : (ks : List K) → apart (λ x y. same_text (bytes x) (bytes y)) ks → IsDistinct (map bytes ks)
  IsDistinct-keys ks h = IsDistinct-from_apart (map bytes ks) (apart-map ks h)

  -- a text is found among keys where it is found among their texts
  pub list_any-texts : (text : List ℕ) (ks : List K) → list_any (λ k. same_text text (bytes k)) ks ≡ list_any (same_text text) (map bytes ks)
  list_any-texts text [] = refl
  list_any-texts text (k ∷ ks) = ap (λ b. same_text text (bytes k) || b) (list_any-texts text ks)

  -- the key that a search finds has the text
  pub slice_get-found : (text : List ℕ) (ks : List K) (n : ℕ) → position (λ k. same_text text (bytes k)) ks ≡ Some n → slice_get (map bytes ks) n ≡ Some text
  slice_get-found text [] n h = cc
  slice_get-found text (k ∷ ks) n h =
      let found = position-Some (λ x. same_text text (bytes x)) (k ∷ ks) n k h in
      let here = slice_get-get_or (k ∷ ks) n k found.0 in
      let e = same_text-equal text _ found.1 in
      slice_get-map bytes (k ∷ ks) n ∙ rw here (ap Some (sym e))

  -- the texts, once a key is among the keys
  pub texts-insert : (ks : List K) (key : K) → map bytes (cond (list_any (λ k. same_text (bytes key) (bytes k)) ks) ks (ks ++ key ∷ [])) ≡ with_text (map bytes ks) (bytes key)
  texts-insert ks key = by (list_any (λ k. same_text (bytes key) (bytes k)) ks) (list_any-texts (bytes key) ks)
    where
      by : (b : Bool) → b ≡ list_any (same_text (bytes key)) (map bytes ks) → map bytes (cond b ks (ks ++ key ∷ [])) ≡ with_text (map bytes ks) (bytes key)
      by true e = rw (← e) refl
      by false e = rw (← e) (map-append bytes ks (key ∷ []))

  -- and they stay where the text is found
  pub texts-kept : (text : List ℕ) (ks : List K) → list_any (λ k. same_text text (bytes k)) ks ≡ true → map bytes ks ≡ with_text (map bytes ks) text
  texts-kept text ks h = let e = sym (list_any-texts text ks) ∙ h in rw e refl
