-- Nodes that lie behind those of a front: where they stand, one more of them, fewer.
use Rattle.std.proofs.Common.{◌≡◌, ⊎_elim, Bor, ℕ, zero, suc, ◌+◌, ◌-◌, ◌<◌, ◌≤◌, true, List, [], ◌∷◌, ◌++◌, map, take, length, slice_get, IfSome, Option, None, Some, refl, sym, ap, ◌∙◌, arith}
use Rattle.std.specs.Option.{option_map}
use Rattle.std.proofs.lemmas.Bool.{cases_lt}
use Rattle.df_form.specs.Sorting.{IsTable, is_well_sorted}
use Rattle.df_form.specs.declared.node.Node as declared
use Rattle.df_form.specs.Node.{Node, node_of, number_of}
use Rattle.df_form.proofs.Tables.{number_of_some, number_of_none}

-- lookups before the end of a front and past it
pub get_ahead : {A : Type 0} (xs ys : List A) (n : ℕ) → n < length xs → slice_get (xs ++ ys) n ≡ slice_get xs n
get_ahead [] ys n less = absurd (omega (arith, less))
get_ahead (x ∷ xs) ys zero less = refl
get_ahead (x ∷ xs) ys (suc n) less = get_ahead xs ys n (omega (arith, less))

pub get_behind : {A : Type 0} (xs ys : List A) (n : ℕ) → slice_get (xs ++ ys) (length xs + n) ≡ slice_get ys n
get_behind [] ys n = ap (slice_get ys) (let e : 0 + n ≡ n = omega arith in e)
get_behind (x ∷ xs) ys n = ap (slice_get (x ∷ (xs ++ ys))) (let e : suc (length xs) + n ≡ suc (length xs + n) = omega arith in e) ∙ get_behind xs ys n

pub get_past : {A : Type 0} (xs ys : List A) (n : ℕ) → length xs ≤ n → slice_get (xs ++ ys) n ≡ slice_get ys (n - length xs)
get_past xs ys n past = ap (slice_get (xs ++ ys)) (let e : n ≡ length xs + (n - length xs) = omega (arith, past) in e) ∙ get_behind xs ys (n - length xs)

pub get_taken : {A : Type 0} (k : ℕ) (xs : List A) (n : ℕ) → n < k → slice_get (take k xs) n ≡ slice_get xs n
get_taken zero xs n less = absurd (omega (arith, less))
get_taken (suc k) [] n less = refl
get_taken (suc k) (x ∷ xs) zero less = refl
get_taken (suc k) (x ∷ xs) (suc n) less = get_taken k xs n (omega (arith, less))

pub map_take : {A B : Type 0} (f : A → B) (k : ℕ) (xs : List A) → map f (take k xs) ≡ take k (map f xs)
map_take f zero xs = refl
map_take f (suc k) [] = refl
map_take f (suc k) (x ∷ xs) = ap (λ ys. f x ∷ ys) (map_take f k xs)

pub take_both : {A : Type 0} (xs ys : List A) (n : ℕ) → take n (xs ++ ys) ≡ take n xs ++ take (n - length xs) ys
take_both [] ys zero = refl
take_both [] ys (suc n) = ap (λ k. take k ys) (let e : suc n ≡ suc n - 0 = omega arith in e)
take_both (x ∷ xs) ys zero = ap (λ k. take k ys) (let e : 0 ≡ 0 - suc (length xs) = omega arith in e)
take_both (x ∷ xs) ys (suc n) = ap (λ l. x ∷ l) (take_both xs ys n) ∙ ap (λ k. x ∷ (take n xs ++ take k ys)) (let e : n - length xs ≡ suc n - suc (length xs) = omega arith in e)

-- what a read of a table gives
pub sorted-read : (nodes : List Node) (n : ℕ) (r : Option (Bor declared.Node)) → IsTable nodes → option_map (λ node. node_of node.now) r ≡ slice_get nodes n → IfSome r (λ node. is_well_sorted (take n nodes) (node_of node.now) ≡ true)
sorted-read nodes n None table at = tt
sorted-read nodes n (Some node) table at = table.sorted n (node_of node.now) (sym at)

-- a node that is in neither part is not in the whole
pub new-whole : (front own : List Node) (node : Node) → ((k : ℕ) → slice_get front k ≡ Some node → ⊥) → number_of own node ≡ None → number_of (front ++ own) node ≡ None
new-whole front own node ahead behind = by (number_of (front ++ own) node) refl
  where
    by : (r : Option ℕ) → number_of (front ++ own) node ≡ r → number_of (front ++ own) node ≡ None
    by None e = e
    by (Some m) e = absurd (⊎_elim early late (cases_lt m (length front)))
      where
        at : slice_get (front ++ own) m ≡ Some node
        at = number_of_some (front ++ own) node m e

        early : m < length front → ⊥
        early less = ahead m (sym (get_ahead front own m less) ∙ at)

        late : length front ≤ m → ⊥
        late past = number_of_none own node (m - length front) behind (sym (get_past front own m past) ∙ at)
