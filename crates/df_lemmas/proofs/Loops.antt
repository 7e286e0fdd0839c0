-- Loops along a list.
use Rattle.std.proofs.Common.{◌≡◌, ℕ, ◌+◌, ◌<◌, ◌≤◌, List, [], ◌∷◌, ◌++◌, map, length, get_or, take, drop, sym, ap, ◌∙◌, append_assoc, append-nil}
use Rattle.std.proofs.lemmas.List.{drop_all, drop_more, take_all, take_more, map_push}

-- Items each give some more: what was given so far, in front of what the rest gives, is what all of them give.
module _ {A C : Type 0} (all : List A → List C) (one : A → List C) (cons : (x : A) (xs : List A) → all (x ∷ xs) ≡ one x ++ all xs) (items : List A) (i : ℕ) where
  -- the next item is gone through
  pub run_more : (x : A) (before after whole : List C) → i < length items → x ≡ get_or items i x → after ≡ before ++ one x → before ++ all (drop i items) ≡ whole → after ++ all (drop (i + 1) items) ≡ whole
  run_more x before after whole lt is grows so_far =
      let left : List A = drop (i + 1) items in
      let rest : all (drop i items) ≡ one x ++ all left = ap all (drop_more items i x lt ∙ ap (λ y. y ∷ left) (sym is)) ∙ cons x left in
      ap (λ (l : List C). l ++ all left) grows ∙ append_assoc before (one x) (all left) ∙ ap (λ (l : List C). before ++ l) (sym rest) ∙ so_far

-- none is left
pub run_done : {A C : Type 0} (all : List A → List C) → all [] ≡ [] → (items : List A) (i : ℕ) (before whole : List C) → length items ≤ i → before ++ all (drop i items) ≡ whole → before ≡ whole
run_done {C = C} all none items i before whole le so_far =
    sym (append-nil before) ∙ ap (λ (l : List C). before ++ l) (sym (ap all (drop_all i items le) ∙ none)) ∙ so_far

-- Items each give one, behind what was there: what was made so far is of those gone through.
module _ {A B : Type 0} (f : A → B) (items : List A) (i : ℕ) (front : List B) where
  pub made_more : (x : A) (before after : List B) (y : B) → i < length items → y ≡ f (get_or items i x) → after ≡ before ++ y ∷ [] → before ≡ front ++ map f (take i items) → after ≡ front ++ map f (take (i + 1) items)
  made_more x before after y lt is grows so_far =
      let next : map f (take (i + 1) items) ≡ map f (take i items) ++ f (get_or items i x) ∷ [] = ap (map f) (take_more items i x lt) ∙ map_push f (take i items) (get_or items i x) in
      grows ∙ ap (λ (l : List B). l ++ y ∷ []) so_far ∙ append_assoc front (map f (take i items)) (y ∷ [])
      ∙ ap (λ (z : B). front ++ (map f (take i items) ++ z ∷ [])) is ∙ ap (λ (l : List B). front ++ l) (sym next)

  pub made_all : (made : List B) → length items ≤ i → made ≡ front ++ map f (take i items) → made ≡ front ++ map f items
  made_all made le so_far = so_far ∙ ap (λ (l : List A). front ++ map f l) (take_all i items le)
