-- What clauses teach contradicts nothing that is known.
use Rattle.std.proofs.Common.{◌≡◌, ◌⊎◌, inl, inr, ℕ, Bool, true, false, not, cond, List, [], ◌∷◌, Some, refl, sym, ap, ◌∙◌, subst}
use Rattle.std.specs.List.{list_all}
use Rattle.std.proofs.lemmas.Option.{same_Some}
use Rattle.std.proofs.lemmas.Bool.{or_cases}
use Rattle.df_form.proofs.Literals.{negated_twice}
use Rattle.df_lemmas.proofs.Truths.{true_is_not_false}
use Rattle.df_lemmas.proofs.Options.{test_some}
use Rattle.df_form.specs.declared.log.Lit.{Lit}
use Rattle.df_form.specs.Clause.{Clause, same_literal, negation, is_among}
use Rattle.df_rules.specs.Propagation.{left, only}
use Rattle.df_rules.proofs.SoundClauses.{same_literal_is}
use Rattle.df_closure.specs.Closure.{GroundClause, Taught, nothing, more, after}
use Rattle.df_closure.specs.Full.{IsConsistent}

first_of_only : (literals : List Lit) (l : Lit) → only literals ≡ Some l → (others : List Lit) × (literals ≡ l ∷ others)
first_of_only [] l e = absurd cc
first_of_only (m ∷ ms) l e =
    let is = same_Some m l (test_some (list_all (same_literal m) ms) (Some m) l e).1 in
    (ms, ap (λ (k : Lit). k ∷ ms) is)

-- the literal that is left is not false
left_new : (known : List Lit) (clause : Clause) (l : Lit) (others : List Lit) → left known clause ≡ l ∷ others → is_among known (negation l) ≡ false
left_new known [] l others e = absurd cc
left_new known (m ∷ ms) l others e = by (is_among known (negation m)) refl e (left_new known ms l others)
  where
    by : (b : Bool) → is_among known (negation m) ≡ b → cond (not b) (m ∷ left known ms) (left known ms) ≡ l ∷ others → (left known ms ≡ l ∷ others → is_among known (negation l) ≡ false) → is_among known (negation l) ≡ false
    by true is h go = go h
    by false is h go = subst (λ (k : Lit). is_among known (negation k) ≡ false) (let same : m ≡ l = cc in same) is

no_own : (l : Lit) → negation l ≡ l → ⊥
no_own l e = by l.positive (ap (λ (k : Lit). k.positive) e)
  where
    by : (b : Bool) → not b ≡ b → ⊥
    by true h = absurd cc
    by false h = absurd cc

consistent_more : (known : List Lit) (l : Lit) → IsConsistent known → is_among known (negation l) ≡ false → IsConsistent (l ∷ known)
consistent_more known l all new q yes_q no_q = by (or_cases (same_literal q l) (is_among known q) yes_q) (or_cases (same_literal (negation q) l) (is_among known (negation q)) no_q)
  where
    by : (same_literal q l ≡ true) ⊎ (is_among known q ≡ true) → (same_literal (negation q) l ≡ true) ⊎ (is_among known (negation q) ≡ true) → ⊥
    by (inl a) (inl b) = no_own q (same_literal_is (negation q) l b ∙ sym (same_literal_is q l a))
    by (inl a) (inr b) = true_is_not_false (is_among known (negation l)) (subst (λ (k : Lit). is_among known (negation k) ≡ true) (same_literal_is q l a) b) new
    by (inr a) (inl b) =
        let same : q ≡ negation l = sym (negated_twice q) ∙ ap negation (same_literal_is (negation q) l b) in
        true_is_not_false (is_among known (negation l)) (subst (λ (k : Lit). is_among known k ≡ true) same a) new
    by (inr a) (inr b) = all q a b

pub consistent_after : (clauses : List GroundClause) (known : List Lit) (numbers : List ℕ) (learned : List Lit) → Taught clauses known numbers learned → IsConsistent known → IsConsistent (after known learned)
consistent_after clauses known numbers learned nothing all = all
consistent_after clauses known numbers learned (more {numbers = ns} {literal = l} {literals = ls} first rest) all =
    let is = first_of_only (left known first.clause.literals) l first.left in
    consistent_after clauses (l ∷ known) ns ls rest (consistent_more known l all (left_new known first.clause.literals l is.0 is.1))
