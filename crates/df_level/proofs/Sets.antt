-- Rows that stand in lists.
use Rattle.std.proofs.Common.{◌≡◌, ◌⊎◌, ⊎_elim, inl, inr, ℕ, zero, suc, ◌+◌, ◌<◌, ◌≤◌, Bool, true, false, cond, ◌||◌, List, [], ◌∷◌, ◌++◌, length, take, get_or, refl, sym, ap, subst, ◌∙◌, arith, add-one}
use Rattle.std.proofs.lemmas.Bool.{true≢false}
use Rattle.std.proofs.lemmas.List.{map-append, take_all}
use Rattle.std.proofs.Math.Seq.{take-suc}
use Rattle.std.specs.List.{list_any}
use Rattle.df_row.specs.Row.{Row}
use Rattle.df_level.specs.declared.row.Row as declared
use Rattle.df_level.specs.Row.{function_row}
use Rattle.df_level.specs.Levels.{Stands, AreDistinct, rows_of, AddsRow}
use Rattle.df_level.proofs.Rows.{eq, equal_rows, equal_back}

pub stands_left : (x : Row) (a b : List Row) → Stands x a → Stands x (a ++ b)
stands_left x [] b h = absurd h
stands_left x (r ∷ a) b (inl e) = inl e
stands_left x (r ∷ a) b (inr h) = inr (stands_left x a b h)

pub stands_right : (x : Row) (a b : List Row) → Stands x b → Stands x (a ++ b)
stands_right x [] b h = h
stands_right x (r ∷ a) b h = inr (stands_right x a b h)

pub stands_last : (x : Row) (a : List Row) → Stands x (a ++ x ∷ [])
stands_last x [] = inl refl
stands_last x (r ∷ a) = inr (stands_last x a)

pub stands_cases : (x r : Row) (a : List Row) → Stands x (a ++ r ∷ []) → Stands x a ⊎ (x ≡ r)
stands_cases x r [] (inl e) = inr e
stands_cases x r [] (inr h) = absurd h
stands_cases x r (s ∷ a) (inl e) = inl (inl e)
stands_cases x r (s ∷ a) (inr h) = ⊎_elim (λ k. inl (inr k)) (λ e. inr e) (stands_cases x r a h)

distinct_last : (r : Row) (a : List Row) → AreDistinct a → (Stands r a → ⊥) → AreDistinct (a ++ r ∷ [])
distinct_last r [] h none = (λ k. k, tt)
distinct_last r (s ∷ a) h none = (λ k. ⊎_elim (λ there. h.0 there) (λ e. none (inl (sym e))) (stands_cases s r a k), distinct_last r a h.1 (λ k. none (inr k)))

module _ (v : declared.Row) where
  abbrev pub same : declared.Row → Bool
  same k = eq v k

  found : (keys : List declared.Row) → list_any same keys ≡ true → Stands (function_row v) (rows_of keys)
  found [] e = absurd (true≢false (sym e))
  found (k ∷ keys) e = by (same k) refl (λ h. found keys h)
    where
      by : (t : Bool) → same k ≡ t → (list_any same keys ≡ true → Stands (function_row v) (rows_of keys)) → Stands (function_row v) (rows_of (k ∷ keys))
      by true h then = inl (equal_rows v k h)
      by false h then = inr (then (sym (ap (λ t. t || list_any same keys) h) ∙ e))

  missing : (keys : List declared.Row) → list_any same keys ≡ false → Stands (function_row v) (rows_of keys) → ⊥
  missing [] e h = h
  missing (k ∷ keys) e (inl is) = true≢false (sym (ap (λ t. t || list_any same keys) (equal_back v k is)) ∙ e)
  missing (k ∷ keys) e (inr h) = missing keys (rest (same k) (list_any same keys) e) h
    where
      rest : (a b : Bool) → (a || b) ≡ false → b ≡ false
      rest true b e = absurd (true≢false e)
      rest false b e = e

  pub inserted : (keys after : List declared.Row) → after ≡ cond (list_any same keys) keys (keys ++ v ∷ []) → AddsRow (function_row v) (rows_of keys) (rows_of after)
  inserted keys after e = by (list_any same keys) refl
    where
      by : (t : Bool) → list_any same keys ≡ t → AddsRow (function_row v) (rows_of keys) (rows_of after)
      by true h =
          let P : List declared.Row → Type 0 = λ k. AddsRow (function_row v) (rows_of keys) (rows_of k) in
          let is : after ≡ keys = e ∙ ap (λ t. cond t keys (keys ++ v ∷ [])) h in
          let there : AddsRow (function_row v) (rows_of keys) (rows_of keys) = record { each = λ r k. inl k; stays = λ r k. k; added = found keys h; once = λ k. k } in
          subst P (sym is) there
      by false h =
          let P : List Row → Type 0 = λ k. AddsRow (function_row v) (rows_of keys) k in
          let is : rows_of after ≡ rows_of keys ++ function_row v ∷ [] = ap rows_of (e ∙ ap (λ t. cond t keys (keys ++ v ∷ [])) h) ∙ map-append function_row keys (v ∷ []) in
          let there : AddsRow (function_row v) (rows_of keys) (rows_of keys ++ function_row v ∷ []) = record { each = λ r k. stands_cases r (function_row v) (rows_of keys) k; stays = λ r k. stands_left r (rows_of keys) (function_row v ∷ []) k; added = stands_last (function_row v) (rows_of keys); once = λ k. distinct_last (function_row v) (rows_of keys) k (missing keys h) } in
          subst P (sym is) there

-- one row more of those that are gone over
module _ (rows : List declared.Row) (i : ℕ) (x : declared.Row) (less : i < length rows) (is : x ≡ get_or rows i x) where
  pub next_rows : rows_of (take (i + 1) rows) ≡ rows_of (take i rows) ++ function_row x ∷ []
  next_rows = ap (λ k. rows_of (take k rows)) (add-one i) ∙ ap rows_of (take-suc rows i x less ∙ ap (λ y. take i rows ++ y ∷ []) (sym is)) ∙ map-append function_row (take i rows) (x ∷ [])

pub taken_all : (rows : List declared.Row) (i : ℕ) → length rows ≤ i → rows_of (take i rows) ≡ rows_of rows
taken_all rows i past = ap rows_of (take_all i rows past)

pub stands_at : (rows : List declared.Row) (i : ℕ) (x : declared.Row) → i < length rows → x ≡ get_or rows i x → Stands (function_row x) (rows_of rows)
stands_at [] i x less is = absurd (omega arith)
stands_at (r ∷ rows) zero x less is = inl (ap function_row is)
stands_at (r ∷ rows) (suc i) x less is = inr (stands_at rows i x (omega arith) is)

-- the rows before one, it, and those after it
pub split_at : (rows : List declared.Row) (i : ℕ) (x : declared.Row) → i < length rows → x ≡ get_or rows i x → (rest : List Row) × (rows_of rows ≡ rows_of (take i rows) ++ function_row x ∷ rest)
split_at [] i x less is = absurd (omega arith)
split_at (r ∷ rows) zero x less is = (rows_of rows, ap (λ y. function_row y ∷ rows_of rows) (sym is))
split_at (r ∷ rows) (suc i) x less is = let s = split_at rows i x (omega arith) is in (s.0, ap (λ l. function_row r ∷ l) s.1)
