-- What sums, combinations and operations are read as, they are the words of.
use Rattle.std.proofs.Common.{◌≡◌, ℕ, ℤ, ◌+◌, List, [], ◌∷◌, ◌++◌, map, take, drop, Some, None, Option, refl, sym, ap, subst, ◌∙◌, append_assoc}
use Rattle.std.specs.Prelude.{◌==◌}
use Rattle.std.specs.Option.{option_and_then, option_map}
use Rattle.std.specs.List.{AllByRecursion, flat_map}
use Rattle.std.specs.Fmt.{signed_decimal}
use Rattle.std.proofs.lemmas.List.{append-nil}
use Rattle.std.proofs.lemmas.Bool.{eqb-true}
use Rattle.std.proofs.lemmas.Option.{same_Some}
use Rattle.df_lemmas.proofs.Options.{then_some, map_some}
use Rattle.df_form.specs.declared.log.Multiple.{Multiple}
use Rattle.df_form.specs.Log.{Combination}
use Rattle.df_logtext.specs.Joined.{joined}
use Rattle.df_logtext.specs.Numeral.{integer_of}
use Rattle.df_logtext.specs.Parting.{parted}
use Rattle.df_logtext.specs.Words.{place_from, index_of, product_of, multiple_of, sum_of, with_combination, with_divisor, found_or, combinations_from}
use Rattle.df_logtext.specs.StepText.{multiple_text, sum_words, combination_words}
use Rattle.df_logtext.specs.HasText.{IsWide, HasMultiple, HasCombination}
use Rattle.df_logtext.proofs.Placed.{placed, around, some_parts, parts_join}
use Rattle.df_logtext.proofs.WordsRead.{index_read, integer_read, all_read}

product_read : (factor row : List ℕ) (m : Multiple) → product_of (integer_of factor) (index_of row) ≡ Some m → (factor ++ 42 ∷ row ≡ multiple_text m) × HasMultiple m
product_read factor row m e =
    let t = then_some (λ f. option_map (λ r. record { factor = f; row = r }) (index_of row)) (integer_of factor) m e in
    let u = map_some (λ r. record { factor = t.0; row = r }) (index_of row) m t.2 in
    let f = integer_read factor t.0 t.1 in
    let r = index_read row u.0 u.1 in
    let P : Multiple → Type 0 = λ k. (factor ++ 42 ∷ row ≡ multiple_text k) × HasMultiple k in
    subst P u.2 (ap (λ x. x ++ 42 ∷ row) f.0 ∙ ap (λ x. signed_decimal t.0 ++ 42 ∷ x) r.0, (f.1, r.1))

pub multiple_read : (word : List ℕ) (m : Multiple) → multiple_of word ≡ Some m → (word ≡ multiple_text m) × HasMultiple m
unfolding multiple_of
multiple_read word m e =
    let t = then_some (λ at. product_of (integer_of (take at word)) (index_of (drop (at + 1) word))) (place_from (λ b. b == 42) 0 word) m e in
    let p = placed (λ b. b == 42) 0 word t.0 t.1 in
    let sides = around (λ b. b == 42) word t.0 p in
    let product = product_read (take t.0 word) (drop (t.0 + 1) word) m t.2 in
    let is : p.x ≡ 42 = eqb-true p.x 42 p.passes in
    (p.list ∙ ap (λ x. p.front ++ x ∷ p.back) is ∙ ap (λ x. x ++ 42 ∷ p.back) (sym sides.0) ∙ ap (λ x. take t.0 word ++ 42 ∷ x) (sym sides.1) ∙ product.0, product.1)

one_sum : (ms : List Multiple) (first : List ℕ) (others : List (List ℕ)) → first ∷ others ≡ map multiple_text ms → sum_words ms ≡ joined 43 (map multiple_text ms) ∷ []
one_sum [] first others e = absurd cc
one_sum (m ∷ ms) first others e = refl

-- a word that is a sum is the only word of the sum
pub sum_read : (word : List ℕ) (ms : List Multiple) → sum_of word ≡ Some ms → (word ∷ [] ≡ sum_words ms) × AllByRecursion HasMultiple ms
sum_read word ms e =
    let r = all_read multiple_of multiple_text HasMultiple multiple_read (parted 43 word) ms e in
    let s = some_parts 43 [] word in
    let join = parts_join 43 word (map multiple_text ms) r.0 in
    (ap (λ w. w ∷ []) join ∙ sym (one_sum ms s.first s.others (sym s.parts ∙ r.0)), r.1)

-- the word of a divisor whose sum is still to come
abbrev pub divisor_words : Option ℤ → List (List ℕ)
divisor_words None = []
divisor_words (Some divisor) = signed_decimal divisor ∷ []

abbrev pub IsWideDivisor : Option ℤ → Type 0
IsWideDivisor None = Unit {0}
IsWideDivisor (Some divisor) = IsWide divisor

record CombinationsRead (before : List Combination) (divisor : Option ℤ) (words : List (List ℕ)) (cs : List Combination) : Type 0 where
  more : List Combination
  list : cs ≡ before ++ more
  texts : divisor_words divisor ++ words ≡ flat_map combination_words more
  has : AllByRecursion HasCombination more

at_end : (before : List Combination) (divisor : Option ℤ) (cs : List Combination) → IsWideDivisor divisor → Some (with_divisor before divisor) ≡ Some cs → CombinationsRead before divisor [] cs
at_end before None cs wide e = record { more = []; list = sym (same_Some before cs e) ∙ sym (append-nil before); texts = refl; has = tt }
at_end before (Some d) cs wide e = record { more = record { divisor = d; members = [] } ∷ []; list = sym (same_Some (before ++ record { divisor = d; members = [] } ∷ []) cs e); texts = refl; has = ((wide, tt), tt) }

at_divisor : (before : List Combination) (divisor : Option ℤ) (next : ℤ) (word : List ℕ) (words : List (List ℕ)) (cs : List Combination) → IsWideDivisor divisor → word ≡ signed_decimal next
    → CombinationsRead (with_divisor before divisor) (Some next) words cs → CombinationsRead before divisor (word ∷ words) cs
at_divisor before None next word words cs wide e r = record { more = r.more; list = r.list; texts = ap (λ w. w ∷ words) e ∙ r.texts; has = r.has }
at_divisor before (Some d) next word words cs wide e r = record {
  more = record { divisor = d; members = [] } ∷ r.more;
  list = r.list ∙ append_assoc before (record { divisor = d; members = [] } ∷ []) r.more;
  texts = ap (λ w. signed_decimal d ∷ w ∷ words) e ∙ ap (λ ws. signed_decimal d ∷ ws) r.texts;
  has = ((wide, tt), r.has);
}

at_sum : (before : List Combination) (d : ℤ) (ms : List Multiple) (word : List ℕ) (words : List (List ℕ)) (cs : List Combination) → IsWide d → (word ∷ [] ≡ sum_words ms) → AllByRecursion HasMultiple ms
    → CombinationsRead (with_combination before d ms) None words cs → CombinationsRead before (Some d) (word ∷ words) cs
at_sum before d ms word words cs wide e has r = record {
  more = record { divisor = d; members = ms } ∷ r.more;
  list = r.list ∙ append_assoc before (record { divisor = d; members = ms } ∷ []) r.more;
  texts = ap (λ ws. signed_decimal d ∷ (ws ++ words)) e ∙ ap (λ ws. signed_decimal d ∷ (sum_words ms ++ ws)) r.texts;
  has = ((wide, has), r.has);
}

-- what is read of the words behind, from any combinations before
abbrev Goes : List (List ℕ) → Type 0
Goes words = (before : List Combination) (divisor : Option ℤ) (cs : List Combination) → IsWideDivisor divisor → combinations_from before divisor words ≡ Some cs → CombinationsRead before divisor words cs

at_word : (before : List Combination) (divisor : Option ℤ) (word : List ℕ) (words : List (List ℕ)) (cs : List Combination) → Goes words → IsWideDivisor divisor → (found : Option ℤ) → integer_of word ≡ found
    → found_or found (λ next. combinations_from (with_divisor before divisor) (Some next) words) (option_and_then (λ d. option_and_then (λ members. combinations_from (with_combination before d members) None words) (sum_of word)) divisor) ≡ Some cs
    → CombinationsRead before divisor (word ∷ words) cs
at_word before divisor word words cs goes wide (Some next) f e =
    let i = integer_read word next f in
    at_divisor before divisor next word words cs wide i.0 (goes (with_divisor before divisor) (Some next) cs i.1 e)
at_word before divisor word words cs goes wide None f e =
    let t = then_some (λ d. option_and_then (λ members. combinations_from (with_combination before d members) None words) (sum_of word)) divisor cs e in
    let u = then_some (λ members. combinations_from (with_combination before t.0 members) None words) (sum_of word) cs t.2 in
    let s = sum_read word u.0 u.1 in
    let P : Option ℤ → Type 0 = λ d. CombinationsRead before d (word ∷ words) cs in
    let W : Option ℤ → Type 0 = λ d. IsWideDivisor d in
    subst P (sym t.1) (at_sum before t.0 u.0 word words cs (subst W t.1 wide) s.0 s.1 (goes (with_combination before t.0 u.0) None cs tt u.2))

combinations_more : (words : List (List ℕ)) → Goes words
combinations_more [] before divisor cs wide e = at_end before divisor cs wide e
combinations_more (word ∷ words) before divisor cs wide e = at_word before divisor word words cs (combinations_more words) wide (integer_of word) refl e

pub combinations_read : (words : List (List ℕ)) (cs : List Combination) → combinations_from [] None words ≡ Some cs → (words ≡ flat_map combination_words cs) × AllByRecursion HasCombination cs
combinations_read words cs e =
    let r = combinations_more words [] None cs tt e in
    let P : List Combination → Type 0 = λ ys. (words ≡ flat_map combination_words ys) × AllByRecursion HasCombination ys in
    subst P (sym r.list) (r.texts, r.has)
