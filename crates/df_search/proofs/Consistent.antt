-- Branches of undecided literals contradict themselves nowhere.
use Rattle.std.proofs.Common.{◌≡◌, ⊎_elim, Bool, true, false, not, List, [], ◌∷◌, ◌++◌, refl, sym, ap, ◌∙◌, subst, append_assoc, append-nil, ◌⊎◌, inl, inr}
use Rattle.std.proofs.lemmas.Bool.{or_cases, or_left, or_right}
use Rattle.df_form.proofs.Literals.{negated_twice}
use Rattle.df_lemmas.proofs.Truths.{true_is_not_false}
use Rattle.df_form.specs.declared.log.Lit.{Lit}
use Rattle.df_form.specs.Clause.{Clause, negation, same_literal, is_among}
use Rattle.df_rules.proofs.SoundClauses.{same_literal_is}
use Rattle.df_closure.specs.Full.{IsConsistent}
use Rattle.df_trail.specs.declared.decision.Decision.{Decision}
use Rattle.df_trail.specs.declared.trail.Trail.{Trail}
use Rattle.df_trail.specs.Trail.{literals_of, branch_of, IsUndecided, AreDecided, IsTrail}

pub none_consistent : IsConsistent []
none_consistent l here there = absurd (true_is_not_false false here refl)

pub among_last : (literals : List Lit) (l m : Lit) → is_among (literals ++ l ∷ []) m ≡ true → (is_among literals m ≡ true) ⊎ (m ≡ l)
among_last [] l m e = ⊎_elim (λ same. inr (same_literal_is m l same)) (λ f. absurd (true_is_not_false false f refl)) (or_cases (same_literal m l) false e)
among_last (n ∷ literals) l m e =
    ⊎_elim (λ same. inl (or_left (same_literal m n) (is_among literals m) same))
    (λ rest. ⊎_elim (λ there. inl (or_right (same_literal m n) (is_among literals m) there)) (λ last. inr last) (among_last literals l m rest))
    (or_cases (same_literal m n) (is_among (literals ++ l ∷ []) m) e)

not_own : (b : Bool) → b ≡ not b → ⊥
not_own true e = true_is_not_false true refl e
not_own false e = true_is_not_false (not false) refl (sym e)

pub consistent_more : (before : List Lit) (l : Lit) → IsUndecided before l → IsConsistent before → IsConsistent (before ++ l ∷ [])
consistent_more before l undecided consistent m here there =
    ⊎_elim
    (λ m_in. ⊎_elim (λ n_in. consistent m m_in n_in)
    (λ n_is. true_is_not_false (is_among before (negation l)) (ap (λ (k : Lit). is_among before (negation k)) (sym n_is) ∙ ap (is_among before) (negated_twice m) ∙ m_in) undecided.not_false)
    (among_last before l (negation m) there))
    (λ m_is. ⊎_elim (λ n_in. true_is_not_false (is_among before (negation l)) (ap (λ (k : Lit). is_among before (negation k)) (sym m_is) ∙ n_in) undecided.not_false)
    (λ n_is. not_own m.positive (ap (λ (k : Lit). k.positive) (m_is ∙ sym n_is)))
    (among_last before l (negation m) there))
    (among_last before l m here)

decided_consistent : (clauses : List Clause) (before : List Lit) (decisions : List Decision) → AreDecided clauses before decisions → IsConsistent before → IsConsistent (before ++ literals_of decisions)
decided_consistent clauses before [] all consistent = subst IsConsistent (sym (append-nil before)) consistent
decided_consistent clauses before (d ∷ decisions) all consistent =
    subst IsConsistent (append_assoc before (d.literal ∷ []) (literals_of decisions)) (decided_consistent clauses (before ++ d.literal ∷ []) decisions all.2 (consistent_more before d.literal all.0 consistent))

-- the branch of a trail
pub trail_consistent : (clauses : List Clause) (t : Trail) → IsTrail clauses t → IsConsistent (branch_of t)
trail_consistent clauses t is = decided_consistent clauses [] t.decisions.items is none_consistent
