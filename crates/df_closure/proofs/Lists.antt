-- Literals that are learned one after another, and how many are not known yet.
use Rattle.std.proofs.Common.{◌≡◌, ℕ, zero, suc, ◌<◌, ◌≤◌, ◌⊎◌, inl, inr, Bool, true, false, not, ◌||◌, cond, List, [], ◌∷◌, ◌++◌, Some, slice_get, refl, sym, ◌∙◌, subst, arith, true≢false}
use Rattle.std.specs.List.{list_all}
use Rattle.std.proofs.lemmas.Option.{same_Some}
use Rattle.std.proofs.lemmas.Bool.{or_cases, or_left, or_right}
use Rattle.df_form.proofs.Literals.{same_self}
use Rattle.df_lemmas.proofs.Options.{test_some}
use Rattle.df_form.specs.declared.log.Lit.{Lit}
use Rattle.df_form.specs.Clause.{Clause, same_literal, negation, is_among}
use Rattle.df_rules.specs.Propagation.{left, only}
use Rattle.df_closure.specs.Closure.{GroundClause, Teaches, Taught, nothing, more, after}
use Rattle.df_closure.specs.Closing.{unknown_in, unknown}
use Rattle.df_rules.proofs.SoundClauses.{same_literal_is}

pub after_more : (known literals : List Lit) (l : Lit) → after known (literals ++ l ∷ []) ≡ l ∷ after known literals
after_more known [] l = refl
after_more known (m ∷ ms) l = after_more (m ∷ known) ms l

pub taught_more : (clauses : List GroundClause) (known : List Lit) (numbers : List ℕ) (literals : List Lit) (n : ℕ) (l : Lit) → Taught clauses known numbers literals → Teaches clauses (after known literals) n l
    → Taught clauses known (numbers ++ n ∷ []) (literals ++ l ∷ [])
taught_more clauses known numbers literals n l nothing t = more t nothing
taught_more clauses known numbers literals n l (more {numbers = ns} {literal = m} {literals = ms} first rest) t = more first (taught_more clauses (m ∷ known) ns ms n l rest t)

left_is_of : (known : List Lit) (clause : Clause) (l : Lit) → is_among (left known clause) l ≡ true → is_among clause l ≡ true
left_is_of known [] l e = e
left_is_of known (first ∷ others) l e = by (not (is_among known (negation first))) (left_is_of known others l) e
  where
    by : (b : Bool) → (is_among (left known others) l ≡ true → is_among others l ≡ true) → is_among (cond b (first ∷ left known others) (left known others)) l ≡ true → (same_literal l first || is_among others l) ≡ true
    by true go h = next (or_cases (same_literal l first) (is_among (left known others) l) h)
      where
        next : (same_literal l first ≡ true) ⊎ (is_among (left known others) l ≡ true) → (same_literal l first || is_among others l) ≡ true
        next (inl here) = or_left (same_literal l first) (is_among others l) here
        next (inr rest) = or_right (same_literal l first) (is_among others l) (go rest)
    by false go h = or_right (same_literal l first) (is_among others l) (go h)

only_is_of : (literals : List Lit) (l : Lit) → only literals ≡ Some l → is_among literals l ≡ true
only_is_of [] l e = absurd cc
only_is_of (first ∷ others) l e =
    let is = same_Some first l (test_some (list_all (same_literal first) others) (Some first) l e).1 in
    or_left (same_literal l first) (is_among others l) (subst (λ (m : Lit). same_literal l m ≡ true) (sym is) (same_self l))

-- the literal that is left is one of the clause
pub taught_is_of : (known : List Lit) (clause : Clause) (l : Lit) → only (left known clause) ≡ Some l → is_among clause l ≡ true
taught_is_of known clause l e = left_is_of known clause l (only_is_of (left known clause) l e)

module _ (known now : Lit → Bool) (l : Lit) (more : (q : Lit) → now q ≡ (same_literal q l || known q)) where
  stays : (q : Lit) → known q ≡ true → now q ≡ true
  stays q e = more q ∙ or_right (same_literal q l) (known q) e

  at_most : (b c : Bool) (m n : ℕ) → (b ≡ true → c ≡ true) → m ≤ n → cond c m (suc m) ≤ cond b n (suc n)
  at_most true true m n h e = e
  at_most true false m n h e = absurd (true≢false (sym (h refl)))
  at_most false true m n h e = omega arith
  at_most false false m n h e = omega arith

  below : (b c : Bool) (m n : ℕ) → (b ≡ true → c ≡ true) → m < n → cond c m (suc m) < cond b n (suc n)
  below true true m n h e = e
  below true false m n h e = absurd (true≢false (sym (h refl)))
  below false true m n h e = omega arith
  below false false m n h e = omega arith

  here_below : (b c : Bool) (m n : ℕ) → b ≡ false → c ≡ true → m ≤ n → cond c m (suc m) < cond b n (suc n)
  here_below true c m n p q e = absurd (true≢false p)
  here_below false true m n p q e = omega arith
  here_below false false m n p q e = absurd (true≢false (sym q))

  no_more_in : (clause : Clause) → unknown_in now clause ≤ unknown_in known clause
  no_more_in [] = omega arith
  no_more_in (first ∷ others) = at_most (known first) (now first) (unknown_in now others) (unknown_in known others) (stays first) (no_more_in others)

  fewer_in : (clause : Clause) → is_among clause l ≡ true → known l ≡ false → unknown_in now clause < unknown_in known clause
  fewer_in [] e new = absurd (true≢false (sym e))
  fewer_in (first ∷ others) e new = next (or_cases (same_literal l first) (is_among others l) e) (λ rest. fewer_in others rest new)
    where
      next : (same_literal l first ≡ true) ⊎ (is_among others l ≡ true) → (is_among others l ≡ true → unknown_in now others < unknown_in known others) → unknown_in now (first ∷ others) < unknown_in known (first ∷ others)
      next (inl here) go =
          let is = same_literal_is l first here in
          here_below (known first) (now first) (unknown_in now others) (unknown_in known others) (subst (λ (m : Lit). known m ≡ false) is new)
          (subst (λ (m : Lit). now m ≡ true) is (more l ∙ or_left (same_literal l l) (known l) (same_self l))) (no_more_in others)
      next (inr rest) go = below (known first) (now first) (unknown_in now others) (unknown_in known others) (stays first) (go rest)

  no_more : (clauses : List GroundClause) → unknown now clauses ≤ unknown known clauses
  no_more [] = omega arith
  no_more (clause ∷ others) = let a = no_more_in clause.literals in let b = no_more others in omega arith

  pub fewer : (clauses : List GroundClause) (n : ℕ) (clause : GroundClause) → slice_get clauses n ≡ Some clause → is_among clause.literals l ≡ true → known l ≡ false → unknown now clauses < unknown known clauses
  fewer [] n clause e among new = absurd cc
  fewer (first ∷ others) zero clause e among new =
      let is = same_Some first clause e in
      let a = fewer_in first.literals (subst (λ (c : GroundClause). is_among c.literals l ≡ true) (sym is) among) new in
      let b = no_more others in
      omega arith
  fewer (first ∷ others) (suc n) clause e among new =
      let a = no_more_in first.literals in
      let b = fewer others n clause e among new in
      omega arith
