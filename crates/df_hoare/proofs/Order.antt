-- No chain of measures falls for ever: lists of at most so many values, each below the one before.
use Rattle.std.proofs.Common.{◌≡◌, ◌≤◌, ◌<◌, ℕ, zero, suc, pos, negsuc, int_lt, int_le, Bool, true, false, not, ◌&&◌, ◌||◌, List, [], ◌∷◌, length, refl, sym, ap, subst, eqb-true, arith}
use Rattle.std.proofs.lemmas.Bool.{ltb-true}
use Rattle.std.proofs.lemmas.Bool.Decides.{Decides-int_eq}
use mathlib.Core.WellFounded.{Acc}
use Rattle.df_meaning.specs.Value.{Value, Truth, Character, Number, Text, same_truth, same_value}
use Rattle.df_meaning.specs.Order.{is_below, are_below}
use Rattle.df_meaning.proofs.Cases.{both}

-- ---- values

abbrev Under : Value → Value → Type 0
Under a b = is_below a b ≡ true

nothing_under : {P : Type 0} → false ≡ true → P
nothing_under e = absurd (let f : false ≡ true = e in cc)

false_ends : Acc Under (Truth false)
false_ends = Acc.intro (Truth false) below
  where
    below : (v : Value) → Under v (Truth false) → Acc Under v
    below (Truth a) e = nothing_under (both (not a) false e).1
    below (Character c) e = nothing_under e
    below (Number z) e = nothing_under e
    below (Text cs) e = nothing_under e

truth_ends : (b : Bool) → Acc Under (Truth b)
truth_ends false = false_ends
truth_ends true = Acc.intro (Truth true) below
  where
    below : (v : Value) → Under v (Truth true) → Acc Under v
    below (Truth false) e = false_ends
    below (Truth true) e = nothing_under e
    below (Character c) e = nothing_under e
    below (Number z) e = nothing_under e
    below (Text cs) e = nothing_under e

character_ends : (bound c : ℕ) → c < bound → Acc Under (Character c)
character_ends zero c lt = absurd (omega (arith, lt))
character_ends (suc bound) c lt = Acc.intro (Character c) (below (λ d less. character_ends bound d (omega (arith, lt, less))))
  where
    below : ((d : ℕ) → d < c → Acc Under (Character d)) → (v : Value) → Under v (Character c) → Acc Under v
    below ends (Truth a) e = nothing_under e
    below ends (Character d) e = ends d (ltb-true d c e)
    below ends (Number z) e = nothing_under e
    below ends (Text cs) e = nothing_under e

negative_ends : (n : ℕ) → Acc Under (Number (negsuc n))
negative_ends n = Acc.intro (Number (negsuc n)) below
  where
    below : (v : Value) → Under v (Number (negsuc n)) → Acc Under v
    below (Truth a) e = nothing_under e
    below (Character d) e = nothing_under e
    below (Number z) e = nothing_under (both (int_lt z (negsuc n)) (int_le (pos 0) (negsuc n)) e).1
    below (Text cs) e = nothing_under e

number_ends : (bound n : ℕ) → n < bound → Acc Under (Number (pos n))
number_ends zero n lt = absurd (omega (arith, lt))
number_ends (suc bound) n lt = Acc.intro (Number (pos n)) (below (λ m less. number_ends bound m (omega (arith, lt, less))))
  where
    below : ((m : ℕ) → m < n → Acc Under (Number (pos m))) → (v : Value) → Under v (Number (pos n)) → Acc Under v
    below ends (Truth a) e = nothing_under e
    below ends (Character d) e = nothing_under e
    below ends (Number (pos m)) e = ends m (ltb-true m n (both (int_lt (pos m) (pos n)) (int_le (pos 0) (pos n)) e).0)
    below ends (Number (negsuc m)) e = negative_ends m
    below ends (Text cs) e = nothing_under e

text_ends : (cs : List ℕ) → Acc Under (Text cs)
text_ends cs = Acc.intro (Text cs) below
  where
    below : (v : Value) → Under v (Text cs) → Acc Under v
    below (Truth a) e = nothing_under e
    below (Character d) e = nothing_under e
    below (Number z) e = nothing_under e
    below (Text ds) e = nothing_under e

value_ends : (v : Value) → Acc Under v
value_ends (Truth b) = truth_ends b
value_ends (Character c) = character_ends (suc c) c (omega arith)
value_ends (Number (pos n)) = number_ends (suc n) n (omega arith)
value_ends (Number (negsuc n)) = negative_ends n
value_ends (Text cs) = text_ends cs

same_truth_equal : (a b : Bool) → same_truth a b ≡ true → a ≡ b
same_truth_equal true b e = sym e
same_truth_equal false true e = nothing_under e
same_truth_equal false false e = refl

same_value_equal : (a b : Value) → same_value a b ≡ true → a ≡ b
same_value_equal (Truth a) (Truth b) e = ap Truth (same_truth_equal a b e)
same_value_equal (Truth a) (Character b) e = nothing_under e
same_value_equal (Truth a) (Number b) e = nothing_under e
same_value_equal (Truth a) (Text b) e = nothing_under e
same_value_equal (Character a) (Truth b) e = nothing_under e
same_value_equal (Character a) (Character b) e = ap Character (eqb-true a b e)
same_value_equal (Character a) (Number b) e = nothing_under e
same_value_equal (Character a) (Text b) e = nothing_under e
same_value_equal (Number a) (Truth b) e = nothing_under e
same_value_equal (Number a) (Character b) e = nothing_under e
same_value_equal (Number a) (Number b) e = ap Number ((Decides-int_eq a b).0 e)
same_value_equal (Number a) (Text b) e = nothing_under e
same_value_equal (Text a) b e = nothing_under e

-- ---- lists

-- it has at most so many members, and is below the other
pub record FallsBelow (longest : ℕ) (now before : List Value) : Type 0 where
  pub short : length now ≤ longest
  pub below : are_below now before ≡ true

-- the first members differ, or are the same and the others fall
below_cases : {P : Type 0} → (b a : Value) (others more : List Value) → are_below (b ∷ others) (a ∷ more) ≡ true → (is_below b a ≡ true → P) → (b ≡ a → are_below others more ≡ true → P) → P
below_cases {P} b a others more e first rest = by_first (is_below b a) refl e
  where
    by_first : (t : Bool) → is_below b a ≡ t → (t || (same_value b a && are_below others more)) ≡ true → P
    by_first true is f = first is
    by_first false is f = let f = both (same_value b a) (are_below others more) f in rest (same_value_equal b a f.0) f.1

module _ (longest : ℕ) (ends : (others : List Value) → length others ≤ longest → Acc (FallsBelow longest) others) where
  -- with this first, where each value below it may come first
  rest_ends : (a : Value) → ((b : Value) → Under b a → (others : List Value) → length others ≤ longest → Acc (FallsBelow (suc longest)) (b ∷ others))
      → (more : List Value) → Acc (FallsBelow longest) more → Acc (FallsBelow (suc longest)) (a ∷ more)
  rest_ends a smaller more (Acc.intro here falls) = Acc.intro (a ∷ more) (below (λ others f. rest_ends a smaller others (falls others f)))
    where
      below : ((others : List Value) → FallsBelow longest others more → Acc (FallsBelow (suc longest)) (a ∷ others)) → (now : List Value) → FallsBelow (suc longest) now (a ∷ more) → Acc (FallsBelow (suc longest)) now
      below same [] h = nothing_under h.below
      below same (b ∷ others) h =
          let short : length others ≤ longest = let s : suc (length others) ≤ suc longest = h.short in omega arith in
          below_cases b a others more h.below (λ u. smaller b u others short)
          (λ e f. subst (λ (x : Value). Acc (FallsBelow (suc longest)) (x ∷ others)) (sym e) (same others (record { short = short; below = f })))

  first_ends : (a : Value) → Acc Under a → (others : List Value) → length others ≤ longest → Acc (FallsBelow (suc longest)) (a ∷ others)
  first_ends a (Acc.intro here falls) others short = rest_ends a (λ b u. first_ends b (falls b u)) others (ends others short)

  top_ends : (now : List Value) → FallsBelow (suc longest) now [] → Acc (FallsBelow (suc longest)) now
  top_ends [] h = nothing_under h.below
  top_ends (b ∷ others) h = first_ends b (value_ends b) others (let s : suc (length others) ≤ suc longest = h.short in omega arith)

nothing_shorter : (now : List Value) → FallsBelow 0 now [] → Acc (FallsBelow 0) now
nothing_shorter [] h = nothing_under h.below
nothing_shorter (b ∷ others) h = absurd (let s : suc (length others) ≤ 0 = h.short in omega (arith, s))

pub lists_end : (longest : ℕ) (all : List Value) → length all ≤ longest → Acc (FallsBelow longest) all
lists_end zero [] short = Acc.intro [] nothing_shorter
lists_end zero (a ∷ more) short = absurd (let s : suc (length more) ≤ 0 = short in omega (arith, s))
lists_end (suc longest) [] short = Acc.intro [] (top_ends longest (lists_end longest))
lists_end (suc longest) (a ∷ more) short = first_ends longest (lists_end longest) a (value_ends a) more (let s : suc (length more) ≤ suc longest = short in omega arith)
