-- What judging one obligation answers, and one declaration.
use Rattle.std.specs.Prelude.{◌≡◌, ◌⊎◌, ℕ, List, [], ◌∷◌, ◌++◌, map, Option, Some, None}
use Rattle.df_lang.specs.Program.{Param, Decl, NewtypeDecl, MethodDecl, Program}
use Rattle.df_form.specs.Sequent.{Sequent}
use Rattle.df_search.specs.declared.found.Budget.{Budget}
use Rattle.df_npass.specs.Methods.{Obligation}
use Rattle.df_report.specs.View.{parameter_of}
use Rattle.df_report.specs.Report.{Failure, Outcome}
use Rattle.df_nverdict.specs.declared.judging.Finding.{Finding}
use Rattle.df_nverdict.specs.declared.judging.Proof.{Proof}
use Rattle.df_nverdict.specs.Verdict.{IsEvidence, IsFailureOf, IsProofOf, IsConfirmed, IsJudgedMethod}

-- no finding where it is proved, and there is one proof more
abbrev pub Finds : List Param → Sequent → Budget → List Proof → List Proof → Option Finding → Type 0
Finds params s budget before now None = (proof : Proof) × IsProofOf s proof × (now ≡ before ++ proof ∷ [])
Finds params s budget before now (Some finding) = IsEvidence params s budget finding.evidence (map parameter_of finding.parameters.items) × (now ≡ before)

-- the last proof is its, or the last failure
abbrev pub Adds : Program → List Param → Budget → Obligation → List Failure → List Failure → List Proof → List Proof → Type 0
Adds program params budget o old new before now =
    ((proof : Proof) × IsConfirmed program o proof × (now ≡ before ++ proof ∷ []) × (new ≡ old))
    ⊎ ((f : Failure) × IsFailureOf program params budget o f × (new ≡ old ++ f ∷ []) × (now ≡ before))

-- of a method its outcome and its proofs are added, and of another declaration nothing
abbrev pub AddsVerdict : Program → List ℕ → Budget → ℕ → Decl → List Outcome → List (List Proof) → List Outcome → List (List Proof) → Type 0
AddsVerdict program groups budget number (NewtypeDecl newtype) old before new now = (new ≡ old) × (now ≡ before)
AddsVerdict program groups budget number (MethodDecl method) old before new now =
    (outcome : Outcome) × (proofs : List Proof) × IsJudgedMethod program groups budget number method outcome proofs × (new ≡ old ++ outcome ∷ []) × (now ≡ before ++ proofs ∷ [])
