-- Logs of verdicts, and verdicts of logs.
use Rattle.std.proofs.Common.{◌≡◌, ℕ, suc, true, List, [], ◌∷◌, map, length, refl, sym, subst, ◌∙◌}
use Rattle.std.specs.Global.{Vec}
use Rattle.df_lang.specs.Program.{Param, Method, Decl, NewtypeDecl, MethodDecl, Program}
use Rattle.df_form.specs.declared.log.Step as declared
use Rattle.df_logtext.specs.BadLog.{IsText}
use Rattle.df_logtext.specs.View.{log_of, logs_of}
use Rattle.df_lang.specs.Groups.{AreGroups}
use Rattle.df_npass.specs.Methods.{Obligation, obligations, obligations_of_method, obligations_from}
use Rattle.df_report.specs.Report.{Failure, Outcome, is_verified}
use Rattle.df_search.specs.declared.found.Budget.{Budget}
use Rattle.df_nverdict.specs.declared.judging.Proof.{Proof}
use Rattle.df_nverdict.specs.Verdict.{IsConfirmed, Judges, none, proved, failed, IsJudgedMethod, AreJudged, IsJudged, AreVerdicts, are_verified}
use Rattle.df_nverdict.proofs.Correct.{no_failures, first_verified}
use Rattle.df_nproof.specs.Names.{names_in}
use Rattle.df_nproof.specs.Derived.{IsDerived, AreDerived}
use Rattle.df_nproof.specs.Verified.{verified_outcomes}
use Rattle.df_nproof.specs.Proofs.{log_in, logs_in, IsCheckedBy}
use Rattle.df_nproof.proofs.Derivations.{joined, parted}

module _ (program : Program) where
  -- ---- the logs of verdicts without failures

  of_proof : (o : Obligation) (proof : Proof) → IsConfirmed program o proof → IsDerived program o (log_in proof)
  of_proof o proof h = record { sequent = h.sequent; is_of = h.is_of; derives = h.proves.derives }

  of_judges : (params : List Param) (budget : Budget) (os : List Obligation) (failures : List Failure) (proofs : List Proof) → failures ≡ [] → Judges program params budget os failures proofs → AreDerived program os (map log_in proofs)
  of_judges params budget os failures proofs empty none = tt
  of_judges params budget os failures proofs empty (proved h rest) = (of_proof _ _ h, of_judges params budget _ _ _ empty rest)
  of_judges params budget os failures proofs empty (failed h rest) = absurd cc

  of_method : (groups : List ℕ) (budget : Budget) (number : ℕ) (method : Method) (outcome : Outcome) (proofs : List Proof) → is_verified outcome ≡ true → IsJudgedMethod program groups budget number method outcome proofs → AreDerived program (obligations_of_method program groups number method) (map log_in proofs)
  of_method groups budget number method outcome proofs verified judged =
      let empty = no_failures judged.failures method.declared.text (subst (λ (o : Outcome). is_verified o ≡ true) judged.outcome_is verified) in
      of_judges method.parameters budget (obligations_of_method program groups number method) judged.failures proofs empty judged.judges

  of_verdicts : (groups : List ℕ) (budget : Budget) (number : ℕ) (decls : List Decl) (outcomes : List Outcome) (proofs : List (List Proof)) → AreJudged program groups budget number decls outcomes proofs → are_verified outcomes ≡ true → AreDerived program (obligations_from program groups number decls) (logs_in proofs)
  of_verdicts groups budget number [] [] [] judged verified = tt
  of_verdicts groups budget number [] [] (p ∷ ps) judged verified = absurd judged
  of_verdicts groups budget number [] (o ∷ os) ps judged verified = absurd judged
  of_verdicts groups budget number (NewtypeDecl n ∷ decls) os ps judged verified = of_verdicts groups budget (suc number) decls os ps judged verified
  of_verdicts groups budget number (MethodDecl m ∷ decls) [] ps judged verified = absurd judged
  of_verdicts groups budget number (MethodDecl m ∷ decls) (o ∷ os) [] judged verified = absurd judged
  of_verdicts groups budget number (MethodDecl m ∷ decls) (o ∷ os) (p ∷ ps) judged verified =
      let both = first_verified o os verified in
      joined program (obligations_of_method program groups number m) (obligations_from program groups (suc number) decls) (map log_in p) (logs_in ps)
      (of_method groups budget number m o p both.0 judged.0) (of_verdicts groups budget (suc number) decls os ps judged.1 both.1)

  pub logs_derive : (groups : List ℕ) (budget : Budget) (outcomes : List Outcome) (proofs : List (List Proof)) → AreVerdicts program groups budget outcomes proofs → are_verified outcomes ≡ true → AreDerived program (obligations program groups) (logs_in proofs)
  logs_derive groups budget outcomes proofs judged verified = of_verdicts groups budget 0 program.decls outcomes proofs judged verified

  outcomes_from : (groups : List ℕ) (budget : Budget) (number : ℕ) (decls : List Decl) (outcomes : List Outcome) (proofs : List (List Proof)) → AreJudged program groups budget number decls outcomes proofs → are_verified outcomes ≡ true → outcomes ≡ verified_outcomes decls
  outcomes_from groups budget number [] [] [] judged verified = refl
  outcomes_from groups budget number [] [] (p ∷ ps) judged verified = absurd judged
  outcomes_from groups budget number [] (o ∷ os) ps judged verified = absurd judged
  outcomes_from groups budget number (NewtypeDecl n ∷ decls) os ps judged verified = outcomes_from groups budget (suc number) decls os ps judged verified
  outcomes_from groups budget number (MethodDecl m ∷ decls) [] ps judged verified = absurd judged
  outcomes_from groups budget number (MethodDecl m ∷ decls) (o ∷ os) [] judged verified = absurd judged
  outcomes_from groups budget number (MethodDecl m ∷ decls) (o ∷ os) (p ∷ ps) judged verified =
      let both = first_verified o os verified in
      let empty = no_failures judged.0.failures m.declared.text (subst (λ (x : Outcome). is_verified x ≡ true) judged.0.outcome_is both.0) in
      let head : o ≡ record { name = m.declared.text; failures = [] } = judged.0.outcome_is ∙ (λ i. record { name = m.declared.text; failures = empty i }) in
      let tail = outcomes_from groups budget (suc number) decls os ps judged.1 both.1 in
      λ i. head i ∷ tail i

  pub outcomes_are : (groups : List ℕ) (budget : Budget) (outcomes : List Outcome) → IsJudged program groups budget outcomes → are_verified outcomes ≡ true → outcomes ≡ verified_outcomes program.decls
  outcomes_are groups budget outcomes judged verified = outcomes_from groups budget 0 program.decls outcomes judged.0 judged.1 verified

  -- ---- the verdicts of logs

  abbrev proof_with : Vec declared.Step → Proof
  proof_with part = record { accepted = record { steps = length (log_of part.items) }; log = part }

  confirmed : (o : Obligation) (part : Vec declared.Step) → IsDerived program o (log_of part.items) → IsConfirmed program o (proof_with part)
  confirmed o part h = record {
    sequent = h.sequent;
    is_of = h.is_of;
    proves = record { derives = h.derives; steps = refl };
  }

  judges : (params : List Param) (budget : Budget) (os : List Obligation) (parts : List (Vec declared.Step)) → AreDerived program os (logs_of parts) → Judges program params budget os [] (map proof_with parts)
  judges params budget [] [] are = none
  judges params budget [] (part ∷ parts) are = absurd are
  judges params budget (o ∷ os) [] are = absurd are
  judges params budget (o ∷ os) (part ∷ parts) are = proved (confirmed o part are.0) (judges params budget os parts are.1)

  judged : (groups : List ℕ) (budget : Budget) (number : ℕ) (decls : List Decl) (parts : List (Vec declared.Step)) → AreDerived program (obligations_from program groups number decls) (logs_of parts) → (proofs : List (List Proof)) × AreJudged program groups budget number decls (verified_outcomes decls) proofs
  judged groups budget number [] parts are = ([], tt)
  judged groups budget number (NewtypeDecl n ∷ decls) parts are = judged groups budget (suc number) decls parts are
  judged groups budget number (MethodDecl m ∷ decls) parts are =
      let halves = parted program (obligations_of_method program groups number m) (obligations_from program groups (suc number) decls) parts are in
      let rest = judged groups budget (suc number) decls halves.back halves.of_back in (
        map proof_with halves.front ∷ rest.0,
        (record { failures = []; judges = judges m.parameters budget (obligations_of_method program groups number m) halves.front halves.of_front; outcome_is = refl }, rest.1),
      )

  all_verified : (decls : List Decl) → are_verified (verified_outcomes decls) ≡ true
  all_verified [] = refl
  all_verified (NewtypeDecl n ∷ decls) = all_verified decls
  all_verified (MethodDecl m ∷ decls) = all_verified decls

  -- any search that finds a log for each obligation has these outcomes
  pub is_checked : (groups : List ℕ) (parts : List (Vec declared.Step)) (bytes : List ℕ) (outcomes : List Outcome) → AreGroups program groups → IsText (names_in program) (logs_of parts) bytes → AreDerived program (obligations program groups) (logs_of parts) → outcomes ≡ verified_outcomes program.decls → IsCheckedBy program bytes outcomes
  is_checked groups parts bytes outcomes are_groups text derived same = record {
    proves = record { groups = groups; are_groups = are_groups; logs = logs_of parts; is_text = text; derived = derived };
    verified = subst (λ (os : List Outcome). are_verified os ≡ true) (sym same) (all_verified program.decls);
    judged = λ budget. subst (IsJudged program groups budget) (sym same) (judged groups budget 0 program.decls parts derived);
  }
