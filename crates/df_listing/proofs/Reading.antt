-- Lines are read in one way.
use Rattle.std.proofs.Common.{◌≡◌, ℕ, Bool, true, false, not, ◌&&◌, List, [], ◌∷◌, ◌++◌, refl, sym, ap, ◌∙◌, append_assoc, arith}
use Rattle.std.specs.List.{list_all}
use Rattle.std.proofs.lemmas.Bool.{and_parts}
use Rattle.df_lemmas.proofs.Lists.{head_same, tail_same}
use Rattle.df_listing.specs.Listing.{words_text, line_text}
use Rattle.df_listing.proofs.Spelling.{is_of_word, is_word}

-- whether a text begins with a byte that ends a word
abbrev ends_word : List ℕ → Bool
ends_word [] = false
ends_word (c ∷ cs) = not (is_of_word c)

clash : (c : ℕ) (A : Type 0) → is_of_word c ≡ true → not (is_of_word c) ≡ true → A
clash c A word ends = absurd (both (is_of_word c) word ends)
  where
    both : (b : Bool) → b ≡ true → not b ≡ true → ⊥
    both true a e = cc
    both false a e = cc

-- a word, and where it ends
word_read : (u v x y : List ℕ) → is_word u ≡ true → is_word v ≡ true → ends_word x ≡ true → ends_word y ≡ true → u ++ x ≡ v ++ y → (u ≡ v) × (x ≡ y)
word_read [] [] x y p q s t e = (refl, e)
word_read [] (c ∷ v) x y p q s t e = clash c (([] ≡ c ∷ v) × (x ≡ y)) (and_parts (is_of_word c) (is_word v) q).0 (sym (ap ends_word e) ∙ s)
word_read (c ∷ u) [] x y p q s t e = clash c ((c ∷ u ≡ []) × (x ≡ y)) (and_parts (is_of_word c) (is_word u) p).0 (ap ends_word e ∙ t)
word_read (c ∷ u) (d ∷ v) x y p q s t e =
    let rest = word_read u v x y (and_parts (is_of_word c) (is_word u) p).1 (and_parts (is_of_word d) (is_word v) q).1 s t (tail_same c d (u ++ x) (v ++ y) e) in
    ((λ i. head_same c d (u ++ x) (v ++ y) e i ∷ rest.0 i), rest.1)

ends : (ws : List (List ℕ)) (x : List ℕ) → ends_word (words_text ws ++ x) ≡ true
ends [] x = refl
ends (w ∷ ws) x = refl

abbrev pub are_words : List (List ℕ) → Bool
are_words ws = list_all is_word ws

-- the words past the first, and what follows the line
words_read : (ws vs : List (List ℕ)) (x y : List ℕ) → are_words ws ≡ true → are_words vs ≡ true → words_text ws ++ x ≡ words_text vs ++ y → (ws ≡ vs) × (x ≡ y)
words_read [] [] x y p q e = (refl, tail_same 10 10 x y e)
words_read [] (v ∷ vs) x y p q e = absurd (omega (arith, head_same 10 32 x ((v ++ words_text vs) ++ y) e))
words_read (w ∷ ws) [] x y p q e = absurd (omega (arith, head_same 32 10 ((w ++ words_text ws) ++ x) y e))
words_read (w ∷ ws) (v ∷ vs) x y p q e =
    let left = and_parts (is_word w) (are_words ws) p in
    let right = and_parts (is_word v) (are_words vs) q in
    let inner : w ++ (words_text ws ++ x) ≡ v ++ (words_text vs ++ y) = sym (append_assoc w (words_text ws) x) ∙ tail_same 32 32 ((w ++ words_text ws) ++ x) ((v ++ words_text vs) ++ y) e ∙ append_assoc v (words_text vs) y in
    let one = word_read w v (words_text ws ++ x) (words_text vs ++ y) left.0 right.0 (ends ws x) (ends vs y) inner in
    let rest = words_read ws vs x y left.1 right.1 one.1 in
    ((λ i. one.0 i ∷ rest.0 i), rest.1)

-- a line of one or more words, and what follows it
line_from : (w v : List ℕ) (ws vs : List (List ℕ)) (x y : List ℕ) → are_words (w ∷ ws) ≡ true → are_words (v ∷ vs) ≡ true
    → line_text (w ∷ ws) ++ x ≡ line_text (v ∷ vs) ++ y → (w ∷ ws ≡ v ∷ vs) × (x ≡ y)
line_from w v ws vs x y p q e =
    let left = and_parts (is_word w) (are_words ws) p in
    let right = and_parts (is_word v) (are_words vs) q in
    let inner : w ++ (words_text ws ++ x) ≡ v ++ (words_text vs ++ y) = sym (append_assoc w (words_text ws) x) ∙ e ∙ append_assoc v (words_text vs) y in
    let one = word_read w v (words_text ws ++ x) (words_text vs ++ y) left.0 right.0 (ends ws x) (ends vs y) inner in
    let rest = words_read ws vs x y left.1 right.1 one.1 in
    ((λ i. one.0 i ∷ rest.0 i), rest.1)

-- whether a line has a word
abbrev pub has_word : List (List ℕ) → Bool
has_word [] = false
has_word (w ∷ ws) = true

pub line_read : (ws vs : List (List ℕ)) (x y : List ℕ) → has_word ws ≡ true → has_word vs ≡ true → are_words ws ≡ true → are_words vs ≡ true → line_text ws ++ x ≡ line_text vs ++ y → (ws ≡ vs) × (x ≡ y)
line_read [] vs x y some more p q e = cc
line_read (w ∷ ws) [] x y some more p q e = cc
line_read (w ∷ ws) (v ∷ vs) x y some more p q e = line_from w v ws vs x y p q e
