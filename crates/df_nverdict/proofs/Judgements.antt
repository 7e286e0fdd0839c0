-- What is judged one by one is judged in all.
use Rattle.std.proofs.Common.{◌≡◌, ⊎_elim, inl, inr, ℕ, zero, suc, ◌+◌, ◌<◌, ◌≤◌, List, [], ◌∷◌, ◌++◌, map, length, take, get_or, Vec, string_bytes, None, Some, refl, sym, ap, subst, ◌∙◌, arith}
use Rattle.std.specs.List.{AllByRecursion}
use Rattle.std.specs.declared.alloc.Global.{Global}
use Rattle.std.proofs.lemmas.List.{take_more, take_all, map-append}
use Rattle.df_base.specs.declared.pos.Pos.{Pos}
use Rattle.df_lang.specs.Program.{Param, Program}
use Rattle.df_form.specs.Sequent.{Sequent}
use Rattle.df_form.specs.SequentView.{sequent_of}
use Rattle.df_form.specs.World.{of_program, world_of}
use Rattle.df_form.specs.declared.sequent.Sequent as declared_sequent
use Rattle.df_meaning.specs.Kind.{word_of}
use Rattle.df_npass.specs.Methods.{Obligation}
use Rattle.df_nowed.specs.Laws.{obligation_of}
use Rattle.df_nowed.specs.Owed.{IsOwed}
use Rattle.df_nowed.specs.declared.obligation.Obligation as declared_obligation
use Rattle.df_nowed.specs.declared.obligation.MethodObligations as declared_method
use Rattle.df_search.specs.declared.found.Budget.{Budget}
use Rattle.df_report.specs.declared.outcome.Evidence.{Evidence}
use Rattle.df_report.specs.declared.outcome.Parameter.{Parameter}
use Rattle.df_report.specs.declared.outcome.Failure as declared_failure
use Rattle.df_report.specs.View.{failure_of, parameter_of}
use Rattle.df_report.specs.Report.{Failure}
use Rattle.df_nverdict.specs.declared.judging.Finding.{Finding}
use Rattle.df_nverdict.specs.declared.judging.Proof.{Proof}
use Rattle.df_nverdict.specs.Sequents.{IsSequentOf}
use Rattle.df_nverdict.specs.Verdict.{IsEvidence, IsFailureOf, IsConfirmed, Judges, none, proved, failed}
use Rattle.df_nverdict.specs.Judging.{Finds, Adds}

-- the code's sequent of an obligation
pub is_sequent_of : (program : Program) (o : Obligation) (s : declared_sequent.Sequent) → world_of s.world ≡ of_program program → obligation_of o.declaration o.pos o.kind (sequent_of s) ≡ o → IsSequentOf program o (sequent_of s)
is_sequent_of program o s world owed = record { sequent = s.is_sequent; numbered = s.is_numbered; world = world; owed = owed }

module _ (program : Program) (params : List Param) (budget : Budget) where
  -- a proof of its sequent is the obligation's
  pub proof_added : (o : Obligation) (s : Sequent) (failures : List Failure) (before now : List Proof) → IsSequentOf program o s → Finds params s budget before now None → Adds program params budget o failures failures before now
  proof_added o s failures before now is_of found = inl (found.0, record { sequent = s; is_of = is_of; proves = found.1 }, found.2, refl)

  -- what is found of an obligation without a proof is its failure, once it is pushed
  pub failure_added : (o : Obligation) (s : Sequent) (finding : Finding) (f : declared_failure.Failure) (before now : List Proof) (old new : List declared_failure.Failure) → IsSequentOf program o s
      → Finds params s budget before now (Some finding) → f.pos ≡ o.pos → string_bytes f.kind ≡ word_of o.kind → f.evidence ≡ finding.evidence → f.parameters ≡ finding.parameters → new ≡ old ++ f ∷ []
      → Adds program params budget o (map failure_of old) (map failure_of new) before now
  failure_added o s finding f before now old new is_of found pos kind evidence parameters pushed =
      inr (
        failure_of f,
        record {
          line = ap (λ (p : Pos). p.line) pos;
          col = ap (λ (p : Pos). p.col) pos;
          kind = kind;
          sequent = s;
          is_of = is_of;
          evidence = subst (λ (e : Evidence). IsEvidence params s budget e (map parameter_of f.parameters.items)) (sym evidence)
              (subst (λ (ps : Vec Parameter Global). IsEvidence params s budget finding.evidence (map parameter_of ps.items)) (sym parameters) found.0);
        },
        ap (map failure_of) pushed ∙ map-append failure_of old (f ∷ []),
        found.1,
      )

  -- ---- one obligation more

  one_proved : (xs : List Obligation) (fs : List Failure) (logs : List Proof) (o : Obligation) (a : Proof) → Judges program params budget xs fs logs → IsConfirmed program o a → Judges program params budget (xs ++ o ∷ []) fs (logs ++ a ∷ [])
  one_proved xs fs logs o a none h = proved h none
  one_proved xs fs logs o a (proved p rest) h = proved p (one_proved _ _ _ o a rest h)
  one_proved xs fs logs o a (failed p rest) h = failed p (one_proved _ _ _ o a rest h)

  one_failed : (xs : List Obligation) (fs : List Failure) (logs : List Proof) (o : Obligation) (f : Failure) → Judges program params budget xs fs logs → IsFailureOf program params budget o f → Judges program params budget (xs ++ o ∷ []) (fs ++ f ∷ []) logs
  one_failed xs fs logs o f none h = failed h none
  one_failed xs fs logs o f (proved p rest) h = proved p (one_failed _ _ _ o f rest h)
  one_failed xs fs logs o f (failed p rest) h = failed p (one_failed _ _ _ o f rest h)

  one_more : (xs : List Obligation) (old new : List Failure) (before now : List Proof) (o : Obligation) → Judges program params budget xs old before → Adds program params budget o old new before now → Judges program params budget (xs ++ o ∷ []) new now
  one_more xs old new before now o so_far added =
      ⊎_elim
      (λ (h : (a : Proof) × IsConfirmed program o a × (now ≡ before ++ a ∷ []) × (new ≡ old)).
      (subst (λ (fs : List Failure). Judges program params budget (xs ++ o ∷ []) fs now) (sym h.3) (subst (Judges program params budget (xs ++ o ∷ []) old) (sym h.2) (one_proved xs old before o h.0 so_far h.1))))
      (λ (h : (f : Failure) × IsFailureOf program params budget o f × (new ≡ old ++ f ∷ []) × (now ≡ before)).
      (subst (λ (fs : List Failure). Judges program params budget (xs ++ o ∷ []) fs now) (sym h.2) (subst (Judges program params budget (xs ++ o ∷ []) (old ++ h.0 ∷ [])) (sym h.3) (one_failed xs old before o h.0 so_far h.1))))
      added

  module _ {A : Type 0} (view : A → Obligation) where
    pub judges_more : (os : List A) (i : ℕ) (d : A) (old new : List Failure) (before now : List Proof) → i < length os → Judges program params budget (map view (take i os)) old before → Adds program params budget (view (get_or os i d)) old new before now → Judges program params budget (map view (take (i + 1) os)) new now
    judges_more os i d old new before now less so_far added =
        let more : map view (take (i + 1) os) ≡ map view (take i os) ++ view (get_or os i d) ∷ [] = ap (map view) (take_more os i d less) ∙ map-append view (take i os) (get_or os i d ∷ []) in
        subst (λ (xs : List Obligation). Judges program params budget xs new now) (sym more) (one_more (map view (take i os)) old new before now (view (get_or os i d)) so_far added)

    -- all of them
    pub judges_all : (os : List A) (i : ℕ) (fs : List Failure) (logs : List Proof) → length os ≤ i → Judges program params budget (map view (take i os)) fs logs → Judges program params budget (map view os) fs logs
    judges_all os i fs logs past so_far = subst (λ (xs : List A). Judges program params budget (map view xs) fs logs) (take_all i os past) so_far

  -- none of them
  pub judges_none : (items : List declared_failure.Failure) (logs : List Proof) → items ≡ [] → logs ≡ [] → Judges program params budget [] (map failure_of items) logs
  judges_none items logs empty no_logs =
      subst (Judges program params budget [] (map failure_of items)) (sym no_logs) (subst (λ (xs : List declared_failure.Failure). Judges program params budget [] (map failure_of xs) []) (sym empty) none)

-- what holds of all holds of one
all_holds : {A : Type 0} (P : A → Type 0) (xs : List A) (i : ℕ) (d : A) → AllByRecursion P xs → i < length xs → P (get_or xs i d)
all_holds P [] i d all less = absurd (omega arith)
all_holds P (y ∷ ys) zero d all less = all.0
all_holds P (y ∷ ys) (suc i) d all less = all_holds P ys i d all.1 (omega arith)

-- the goal of each obligation of a method is among what the method knows
pub owed_at : (m : declared_method.MethodObligations) (os : List declared_obligation.Obligation) (i : ℕ) (d : declared_obligation.Obligation) → os ≡ m.obligations.items → i < length os → IsOwed m.known (get_or os i d)
owed_at m os i d same less = all_holds (IsOwed m.known) os i d (subst (AllByRecursion (IsOwed m.known)) (sym same) m.are_owed) less
