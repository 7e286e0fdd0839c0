-- What words are read as, they are the words of.
use Rattle.std.proofs.Common.{◌≡◌, ℕ, ℤ, zero, suc, pos, negsuc, ◌+◌, ◌^◌, ◌<◌, cond, List, [], ◌∷◌, ◌++◌, map, Some, None, Option, refl, sym, ap, ◌∙◌, append_assoc, subst, inl, inr, arith, lit≤}
use Rattle.std.specs.Prelude.{nat_eq}
use Rattle.std.specs.Option.{option_and_then, option_map}
use Rattle.std.specs.List.{AllByRecursion, flat_map}
use Rattle.std.specs.Fmt.{decimal, signed_decimal}
use Rattle.std.proofs.lemmas.List.{append-nil}
use Rattle.std.proofs.lemmas.Bool.{eqb-true}
use Rattle.std.proofs.lemmas.Option.{same_Some}
use Rattle.df_lemmas.proofs.Options.{then_some, map_some, test_some}
use Rattle.df_lemmas.proofs.Truths.{choice}
use Rattle.df_form.specs.declared.log.Lit.{Lit}
use Rattle.df_form.specs.declared.log.Pair.{Pair}
use Rattle.df_form.specs.Clause.{yes, no}
use Rattle.df_logtext.specs.Numeral.{number_of, negative_of, integer_of}
use Rattle.df_logtext.specs.Words.{each_from, index_of, indices_of, literal_of, literals_of, pair_of, pairs_from}
use Rattle.df_logtext.specs.StepText.{literal_word, pair_words}
use Rattle.df_logtext.specs.HasText.{IsIndex, IsWide, HasLiteral, HasPair}
use Rattle.df_logtext.proofs.Numerals.{number_read}

pub index_read : (word : List ℕ) (n : ℕ) → index_of word ≡ Some n → (word ≡ decimal n) × IsIndex n
index_read word n e = number_read (2 ^ 64) word n (lit≤ tt) (lit≤ tt) e

negative_read : (n : ℕ) (z : ℤ) → n < 2 ^ 127 + 1 → negative_of n ≡ Some z → (45 ∷ decimal n ≡ signed_decimal z) × IsWide z
negative_read zero z small e = absurd cc
negative_read (suc m) z small e =
    let s : negsuc m ≡ z = same_Some (negsuc m) z e in
    let less : m < 2 ^ 127 = omega arith in
    let P : ℤ → Type 0 = λ y. (45 ∷ decimal (suc m) ≡ signed_decimal y) × IsWide y in
    subst P s (refl, less)

pub integer_read : (word : List ℕ) (z : ℤ) → integer_of word ≡ Some z → (word ≡ signed_decimal z) × IsWide z
unfolding integer_of
integer_read [] z e = absurd cc
integer_read (b ∷ bs) z e =
    elim (choice (nat_eq b 45) (option_and_then negative_of (number_of (2 ^ 127 + 1) bs)) (option_map (λ n. pos n) (number_of (2 ^ 127) (b ∷ bs))) (Some z) e) [
      | inl p ↦
          let t = then_some negative_of (number_of (2 ^ 127 + 1) bs) z p.1 in
          let digits = number_read (2 ^ 127 + 1) bs t.0 (lit≤ tt) (lit≤ tt) t.1 in
          let rest = negative_read t.0 z digits.1 t.2 in
          let is : b ≡ 45 = eqb-true b 45 p.0 in
          (ap (λ x. x ∷ bs) is ∙ ap (λ x. 45 ∷ x) digits.0 ∙ rest.0, rest.1)
      | inr p ↦
          let t = map_some (λ n. pos n) (number_of (2 ^ 127) (b ∷ bs)) z p.1 in
          let digits = number_read (2 ^ 127) (b ∷ bs) t.0 (lit≤ tt) (lit≤ tt) t.1 in
          let P : ℤ → Type 0 = λ y. (b ∷ bs ≡ signed_decimal y) × IsWide y in
          subst P t.2 digits
    ]

signed_read : (mark : ℕ) (make : ℕ → Lit) (bs : List ℕ) (l : Lit) → ((n : ℕ) → literal_word (make n) ≡ mark ∷ decimal n) → ((n : ℕ) → IsIndex n → HasLiteral (make n)) → option_map make (index_of bs) ≡ Some l → (mark ∷ bs ≡ literal_word l) × HasLiteral l
signed_read mark make bs l text has e =
    let t = map_some make (index_of bs) l e in
    let digits = index_read bs t.0 t.1 in
    let P : Lit → Type 0 = λ k. (mark ∷ bs ≡ literal_word k) × HasLiteral k in
    subst P t.2 (ap (λ x. mark ∷ x) digits.0 ∙ sym (text t.0), has t.0 digits.1)

pub literal_read : (word : List ℕ) (l : Lit) → literal_of word ≡ Some l → (word ≡ literal_word l) × HasLiteral l
unfolding literal_of
literal_read [] l e = absurd cc
literal_read (b ∷ bs) l e =
    elim (choice (nat_eq b 43) (option_map yes (index_of bs)) (cond (nat_eq b 45) (option_map no (index_of bs)) None) (Some l) e) [
      | inl p ↦
          let is : b ≡ 43 = eqb-true b 43 p.0 in
          let r = signed_read 43 yes bs l (λ n. refl) (λ n h. h) p.1 in
          (ap (λ x. x ∷ bs) is ∙ r.0, r.1)
      | inr p ↦
          let t = test_some (nat_eq b 45) (option_map no (index_of bs)) l p.1 in
          let is : b ≡ 45 = eqb-true b 45 t.0 in
          let r = signed_read 45 no bs l (λ n. refl) (λ n h. h) t.1 in
          (ap (λ x. x ∷ bs) is ∙ r.0, r.1)
    ]

-- what each of the words is read as
pub record EachRead {A : Type 0} (text : A → List ℕ) (Has : A → Type 0) (before : List A) (words : List (List ℕ)) (xs : List A) : Type 0 where
  pub more : List A
  pub list : xs ≡ before ++ more
  pub texts : words ≡ map text more
  pub has : AllByRecursion Has more

pub each_read : {A : Type 0} (read : List ℕ → Option A) (text : A → List ℕ) (Has : A → Type 0) → ((word : List ℕ) (x : A) → read word ≡ Some x → (word ≡ text x) × Has x)
    → (before : List A) (words : List (List ℕ)) (xs : List A) → each_from read before words ≡ Some xs → EachRead text Has before words xs
each_read read text Has one before [] xs e = record { more = []; list = sym (same_Some before xs e) ∙ sym (append-nil before); texts = refl; has = tt }
each_read read text Has one before (word ∷ words) xs e =
    let t = then_some (λ x. each_from read (before ++ x ∷ []) words) (read word) xs e in
    let first = one word t.0 t.1 in
    let others = each_read read text Has one (before ++ t.0 ∷ []) words xs t.2 in
    record {
      more = t.0 ∷ others.more;
      list = others.list ∙ append_assoc before (t.0 ∷ []) others.more;
      texts = ap (λ w. w ∷ words) first.0 ∙ ap (λ ws. text t.0 ∷ ws) others.texts;
      has = (first.1, others.has);
    }

-- all of them, from none
pub all_read : {A : Type 0} (read : List ℕ → Option A) (text : A → List ℕ) (Has : A → Type 0) → ((word : List ℕ) (x : A) → read word ≡ Some x → (word ≡ text x) × Has x)
    → (words : List (List ℕ)) (xs : List A) → each_from read [] words ≡ Some xs → (words ≡ map text xs) × AllByRecursion Has xs
all_read read text Has one words xs e =
    let r = each_read read text Has one [] words xs e in
    let P : List _ → Type 0 = λ ys. (words ≡ map text ys) × AllByRecursion Has ys in
    subst P (sym r.list) (r.texts, r.has)

pub indices_read : (words : List (List ℕ)) (ns : List ℕ) → indices_of words ≡ Some ns → (words ≡ map decimal ns) × AllByRecursion IsIndex ns
indices_read words ns e = all_read index_of decimal IsIndex index_read words ns e

pub literals_read : (words : List (List ℕ)) (ls : List Lit) → literals_of words ≡ Some ls → (words ≡ map literal_word ls) × AllByRecursion HasLiteral ls
literals_read words ls e = all_read literal_of literal_word HasLiteral literal_read words ls e

pair_read : (left right : List ℕ) (p : Pair) → pair_of (index_of left) (index_of right) ≡ Some p → (left ∷ right ∷ [] ≡ pair_words p) × HasPair p
pair_read left right p e =
    let t = then_some (λ l. option_map (λ r. record { left = l; right = r }) (index_of right)) (index_of left) p e in
    let u = map_some (λ r. record { left = t.0; right = r }) (index_of right) p t.2 in
    let i = index_read left t.0 t.1 in
    let j = index_read right u.0 u.1 in
    let P : Pair → Type 0 = λ q. (left ∷ right ∷ [] ≡ pair_words q) × HasPair q in
    subst P u.2 (ap (λ w. w ∷ right ∷ []) i.0 ∙ ap (λ w. decimal t.0 ∷ w ∷ []) j.0, (i.1, j.1))

record PairsRead (before : List Pair) (words : List (List ℕ)) (ps : List Pair) : Type 0 where
  more : List Pair
  list : ps ≡ before ++ more
  texts : words ≡ flat_map pair_words more
  has : AllByRecursion HasPair more

pairs_more : (before : List Pair) (words : List (List ℕ)) (ps : List Pair) → pairs_from before words ≡ Some ps → PairsRead before words ps
pairs_more before [] ps e = record { more = []; list = sym (same_Some before ps e) ∙ sym (append-nil before); texts = refl; has = tt }
pairs_more before (left ∷ []) ps e = absurd cc
pairs_more before (left ∷ right ∷ words) ps e =
    let t = then_some (λ p. pairs_from (before ++ p ∷ []) words) (pair_of (index_of left) (index_of right)) ps e in
    let first = pair_read left right t.0 t.1 in
    let others = pairs_more (before ++ t.0 ∷ []) words ps t.2 in
    record {
      more = t.0 ∷ others.more;
      list = others.list ∙ append_assoc before (t.0 ∷ []) others.more;
      texts = ap (λ ws. ws ++ words) first.0 ∙ ap (λ ws. pair_words t.0 ++ ws) others.texts;
      has = (first.1, others.has);
    }

pub pairs_read : (words : List (List ℕ)) (ps : List Pair) → pairs_from [] words ≡ Some ps → (words ≡ flat_map pair_words ps) × AllByRecursion HasPair ps
pairs_read words ps e =
    let r = pairs_more [] words ps e in
    let P : List Pair → Type 0 = λ qs. (words ≡ flat_map pair_words qs) × AllByRecursion HasPair qs in
    subst P (sym r.list) (r.texts, r.has)
