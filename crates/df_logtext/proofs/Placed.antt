-- Where the first one stands that passes a test, and how parts join.
use Rattle.std.proofs.Common.{◌≡◌, ℕ, ◌+◌, Bool, true, false, cond, List, [], ◌∷◌, ◌++◌, take, drop, length, Some, refl, sym, ap, ◌∙◌, append_assoc, inl, inr, length-append, arith}
use Rattle.std.specs.Prelude.{nat_eq}
use Rattle.std.specs.List.{AllByRecursion}
use Rattle.std.proofs.lemmas.List.{drop_at, take_at}
use Rattle.std.proofs.lemmas.Bool.{eqb-true}
use Rattle.std.proofs.lemmas.Option.{same_Some}
use Rattle.df_lemmas.proofs.Truths.{choice}
use Rattle.df_logtext.specs.Joined.{behind, joined}
use Rattle.df_logtext.specs.Parting.{parted_from, parted}
use Rattle.df_logtext.specs.Words.{place_from}

pub record Placed {A : Type 0} (test : A → Bool) (number : ℕ) (xs : List A) (n : ℕ) : Type 0 where
  pub front : List A
  pub x : A
  pub back : List A
  pub list : xs ≡ front ++ x ∷ back
  pub place : n ≡ number + length front
  pub passes : test x ≡ true
  pub fail : AllByRecursion (λ y. test y ≡ false) front

pub placed : {A : Type 0} (test : A → Bool) (number : ℕ) (xs : List A) (n : ℕ) → place_from test number xs ≡ Some n → Placed test number xs n
placed test number [] n e = absurd cc
placed test number (x ∷ xs) n e =
    elim (choice (test x) (Some number) (place_from test (number + 1) xs) (Some n) e) [
      | inl p ↦ let s : number ≡ n = same_Some number n p.1 in record { front = []; x = x; back = xs; list = refl; place = omega arith; passes = p.0; fail = tt }
      | inr p ↦
          let others = placed test (number + 1) xs n p.1 in
          let at = others.place in
          record { front = x ∷ others.front; x = others.x; back = others.back; list = ap (λ ys. x ∷ ys) others.list; place = omega arith; passes = others.passes; fail = (p.0, others.fail) }
    ]

-- what stands before it and behind it
pub around : {A : Type 0} (test : A → Bool) (xs : List A) (n : ℕ) (p : Placed test 0 xs n) → (take n xs ≡ p.front) × (drop (n + 1) xs ≡ p.back)
around test xs n p =
    let len : length p.front ≡ n = omega (arith, p.place) in
    let more : length (p.front ++ p.x ∷ []) ≡ n + 1 = omega (arith, length-append p.front (p.x ∷ []), len) in
    (ap (take n) p.list ∙ take_at p.front (p.x ∷ p.back) n len, ap (drop (n + 1)) (p.list ∙ sym (append_assoc p.front (p.x ∷ []) p.back)) ∙ drop_at (p.front ++ p.x ∷ []) p.back (n + 1) more)

pub record Some_parts (separator : ℕ) (before text : List ℕ) : Type 0 where
  pub first : List ℕ
  pub others : List (List ℕ)
  pub parts : parted_from separator before text ≡ first ∷ others
  pub join : first ++ behind separator others ≡ before ++ text

by_byte : (separator : ℕ) (before : List ℕ) (b : ℕ) (bs : List ℕ) (same : Bool) → nat_eq b separator ≡ same → Some_parts separator [] bs → Some_parts separator (before ++ b ∷ []) bs → Some_parts separator before (b ∷ bs)
by_byte separator before b bs true e ends goes =
    let is : b ≡ separator = eqb-true b separator e in
    record {
      first = before;
      others = ends.first ∷ ends.others;
      parts = ap (λ c. cond c (before ∷ parted_from separator [] bs) (parted_from separator (before ++ b ∷ []) bs)) e ∙ ap (λ ps. before ∷ ps) ends.parts;
      join = ap (λ rest. before ++ separator ∷ rest) ends.join ∙ ap (λ x. before ++ x ∷ bs) (sym is);
    }
by_byte separator before b bs false e ends goes = record {
  first = goes.first;
  others = goes.others;
  parts = ap (λ c. cond c (before ∷ parted_from separator [] bs) (parted_from separator (before ++ b ∷ []) bs)) e ∙ goes.parts;
  join = goes.join ∙ append_assoc before (b ∷ []) bs;
}

-- there is a part, and the parts join to the text
pub some_parts : (separator : ℕ) (before text : List ℕ) → Some_parts separator before text
some_parts separator before [] = record { first = before; others = []; parts = refl; join = refl }
some_parts separator before (b ∷ bs) = by_byte separator before b bs (nat_eq b separator) refl (some_parts separator [] bs) (some_parts separator (before ++ b ∷ []) bs)

-- the parts join to the text
pub parts_join : (separator : ℕ) (text : List ℕ) (words : List (List ℕ)) → parted separator text ≡ words → text ≡ joined separator words
parts_join separator text words e =
    let s = some_parts separator [] text in
    sym s.join ∙ ap (joined separator) (sym s.parts ∙ e)
