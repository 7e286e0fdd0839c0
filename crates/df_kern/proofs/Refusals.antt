-- A log is refused exactly where it derives nothing.
use Rattle.std.proofs.Common.{◌≡◌, ◌↔◌, ℕ, suc, Bool, true, false, List, [], ◌∷◌, Option, None, Some, refl, sym, ap, ◌∙◌, if◌then◌else◌}
use Rattle.std.specs.Option.{option_and_then}
use Rattle.std.proofs.lemmas.Option.{same_Some, none-some}
use Rattle.df_form.specs.Log.{Step}
use Rattle.df_form.specs.Sequent.{Sequent}
use Rattle.df_rules.specs.Derivation.{State, begin, after, after_all, ends_empty, kind_row, Derives}
use Rattle.df_kern.specs.Refusal.{Refusal, refusal, refusal_from, or_refused}

-- the steps lead from a state to one whose last clause is empty
abbrev pub Ends : Sequent → State → List Step → Type 0
Ends s state steps = (last : State) × (after_all s state steps ≡ Some last) × (ends_empty last.clauses ≡ true)

none_is_some : {x : Refusal} → Some x ≡ None → ⊥
none_is_some e = cc

ends : (s : Sequent) (first : ℕ) (state : State) (steps : List Step) → refusal_from s first state steps ≡ None → Ends s state steps
ends s first state [] none = by (ends_empty state.clauses) refl
  where
    by : (b : Bool) → ends_empty state.clauses ≡ b → Ends s state []
    by true e = (state, refl, e)
    by false e = absurd (none_is_some (sym (ap (λ (b : Bool). if b then None else Some (record { at = first; broken = 0 })) e) ∙ none))
ends s first state (step ∷ others) none = by (after s state step) refl (λ next. ends s (suc first) next others)
  where
    by : (r : Option State) → after s state step ≡ r → ((next : State) → refusal_from s (suc first) next others ≡ None → Ends s next others) → Ends s state (step ∷ others)
    by None e go = absurd (none_is_some (sym (ap (λ (o : Option State). or_refused first (kind_row step) o (λ next. refusal_from s (suc first) next others)) e) ∙ none))
    by (Some next) e go =
        let rest = go next (sym (ap (λ (o : Option State). or_refused first (kind_row step) o (λ next. refusal_from s (suc first) next others)) e) ∙ none) in
        (rest.0, ap (λ (o : Option State). option_and_then (λ next. after_all s next others) o) e ∙ rest.1, rest.2)

not_refused : (s : Sequent) (first : ℕ) (state : State) (steps : List Step) → Ends s state steps → refusal_from s first state steps ≡ None
not_refused s first state [] h =
    let same : state ≡ h.0 = same_Some _ _ h.1 in
    ap (λ (b : Bool). if b then None else Some (record { at = first; broken = 0 })) (ap (λ (x : State). ends_empty x.clauses) same ∙ h.2)
not_refused s first state (step ∷ others) h = by (after s state step) refl (λ next. not_refused s (suc first) next others)
  where
    by : (r : Option State) → after s state step ≡ r → ((next : State) → Ends s next others → refusal_from s (suc first) next others ≡ None) → refusal_from s first state (step ∷ others) ≡ None
    by None e go = absurd (none-some _ (sym (ap (λ (o : Option State). option_and_then (λ next. after_all s next others) o) e) ∙ h.1))
    by (Some next) e go =
        let rest = sym (ap (λ (o : Option State). option_and_then (λ next. after_all s next others) o) e) ∙ h.1 in
        ap (λ (o : Option State). or_refused first (kind_row step) o (λ next. refusal_from s (suc first) next others)) e ∙ go next (h.0, rest, h.2)

pub refused_exactly : (s : Sequent) (log : List Step) → (refusal s log ≡ None) ↔ Derives s log
refused_exactly s log = (ends s 1 (begin s) log, not_refused s 1 (begin s) log)
