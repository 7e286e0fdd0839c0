-- What is judged with no failure is valid, and so it is safe and correct.
use Rattle.std.proofs.Common.{◌≡◌, ℕ, zero, suc, ◌+◌, ◌<◌, true, List, [], ◌∷◌, map, length, get_or, Some, None, refl, sym, ap, ◌∙◌, subst, rules, arith}
use Rattle.df_lang.specs.declared.ty.Ty.{Ty}
use Rattle.df_lang.specs.declared.ty.Ty.TheVariants as types
use Rattle.df_lang.specs.Assignment.{IsDefinitelyAssigned}
use Rattle.df_lang.specs.Groups.{AreGroups}
use Rattle.df_lang.specs.Program.{Param, Method, Decl, NewtypeDecl, MethodDecl, Program, method_at}
use Rattle.df_lang.specs.Typing.{is_well_typed}
use Rattle.df_meaning.specs.Correct.{AreCorrect}
use Rattle.df_meaning.specs.Modular.{IsModularlySafe}
use Rattle.df_hoare.specs.Total.{SafeIsCorrect}
use Rattle.df_form.specs.Log.{Step, step_of}
use Rattle.df_form.specs.Sequent.{Sequent, IsSequent, IsValid}
use Rattle.df_form.specs.Truth.{Assignment}
use Rattle.df_form.specs.Types as form
use Rattle.df_rules.specs.Derivation.{Derives}
use Rattle.df_nterm.specs.Term.{sort_of_type}
use Rattle.df_nterm.specs.Meaning.{Interpretation, value}
use Rattle.df_nenc.specs.Tree.{sort_of}
use Rattle.df_npass.specs.Rules.{free_of}
use Rattle.df_npass.specs.Statements.{any_values}
use Rattle.df_npass.specs.Methods.{Obligation, obligations_of_method}
use Rattle.df_npass.specs.Laws.{ValidIsSafe}
use Rattle.df_npass.specs.Laws as trees
use Rattle.df_nowed.specs.Laws.{GivesAs, ValidSequentsAreValidObligations, RefutedSequentsAreRefutedObligations}
use Rattle.df_search.specs.declared.found.Budget.{Budget}
use Rattle.df_report.specs.Report.{Failure, Outcome, is_verified}
use Rattle.df_nverdict.specs.declared.judging.Proof.{Proof}
use Rattle.df_nverdict.specs.Laws.{arguments_by, RefutedIsWrong}
use Rattle.df_nverdict.specs.Sequents.{IsSequentOf}
use Rattle.df_nverdict.specs.Verdict.{IsConfirmed, Judges, none, proved, failed, IsJudgedMethod, AreJudged, IsJudged, are_verified}

pub no_failures : (failures : List Failure) (name : List ℕ) → is_verified (record { name = name; failures = failures }) ≡ true → failures ≡ []
no_failures [] name e = refl
no_failures (f ∷ fs) name e = absurd cc

pub first_verified : (o : Outcome) (os : List Outcome) → are_verified (o ∷ os) ≡ true → (is_verified o ≡ true) × (are_verified os ≡ true)
first_verified o os e = (search rules, search rules)

module _ (valid : (s : Sequent) (log : List Step) → IsSequent s → Derives s log → IsValid s) (same : ValidSequentsAreValidObligations) where
  of_sequent : (program : Program) (o : Obligation) (s : Sequent) → IsSequentOf program o s → IsValid s → trees.IsValid program o
  of_sequent program o s is_of v = subst (trees.IsValid program) is_of.owed ((same program o.declaration o.pos o.kind s is_of.world).0 v)

  is_valid : (program : Program) (o : Obligation) (proof : Proof) → IsConfirmed program o proof → trees.IsValid program o
  is_valid program o proof h = of_sequent program o h.sequent h.is_of (valid h.sequent (map step_of proof.log.items) h.is_of.sequent h.proves.derives)

  -- with no failure each of the obligations is valid
  valid_at : (program : Program) (params : List Param) (budget : Budget) (os : List Obligation) (failures : List Failure) (proofs : List Proof) (k : ℕ) (x : Obligation) → failures ≡ [] → Judges program params budget os failures proofs → k < length os → get_or os k x ≡ x → trees.IsValid program x
  valid_at program params budget os failures proofs k x empty none less is = absurd (omega arith)
  valid_at program params budget os failures proofs zero x empty (proved {o} h rest) less is = subst (trees.IsValid program) is (is_valid program o _ h)
  valid_at program params budget os failures proofs (suc k) x empty (proved h rest) less is = valid_at program params budget _ _ _ k x empty rest (omega arith) is
  valid_at program params budget os failures proofs k x empty (failed h rest) less is = absurd cc

  module _ (safe : ValidIsSafe) where
    pub method_is_safe : (program : Program) (groups : List ℕ) (budget : Budget) (number : ℕ) (method : Method) (outcome : Outcome) (proofs : List Proof)
        → is_well_typed program ≡ true → IsDefinitelyAssigned program → method_at program number ≡ Some method
        → IsJudgedMethod program groups budget number method outcome proofs → is_verified outcome ≡ true → IsModularlySafe program groups number method
    method_is_safe program groups budget number method outcome proofs typed definite there judged verified =
        let empty = no_failures judged.failures method.declared.text (subst (λ (o : Outcome). is_verified o ≡ true) judged.outcome_is verified) in
        safe program groups number method typed definite there
        (λ o contains. valid_at program method.parameters budget (obligations_of_method program groups number method) judged.failures proofs contains.0 o empty judged.judges contains.1 contains.2)

    -- the method is there among declarations from a number on, which are judged
    method_at_is_safe : (program : Program) (groups : List ℕ) (budget : Budget) (number : ℕ) (decls : List Decl) (outcomes : List Outcome) (proofs : List (List Proof)) (k : ℕ) (method : Method)
        → is_well_typed program ≡ true → IsDefinitelyAssigned program → method_at program (number + k) ≡ Some method → method_at (record { decls = decls }) k ≡ Some method
        → AreJudged program groups budget number decls outcomes proofs → are_verified outcomes ≡ true → IsModularlySafe program groups (number + k) method
    method_at_is_safe program groups budget number [] outcomes proofs k method typed definite there here judged verified = absurd cc
    method_at_is_safe program groups budget number (NewtypeDecl n ∷ decls) outcomes proofs zero method typed definite there here judged verified = absurd cc
    method_at_is_safe program groups budget number (NewtypeDecl n ∷ decls) outcomes proofs (suc k) method typed definite there here judged verified =
        let next : number + suc k ≡ suc number + k = omega arith in
        subst (λ (i : ℕ). IsModularlySafe program groups i method) (sym next)
        (method_at_is_safe program groups budget (suc number) decls outcomes proofs k method typed definite (subst (λ (i : ℕ). method_at program i ≡ Some method) next there) here judged verified)
    method_at_is_safe program groups budget number (MethodDecl m ∷ decls) [] proofs k method typed definite there here judged verified = absurd judged
    method_at_is_safe program groups budget number (MethodDecl m ∷ decls) (o ∷ os) [] k method typed definite there here judged verified = absurd judged
    method_at_is_safe program groups budget number (MethodDecl m ∷ decls) (o ∷ os) (a ∷ rest) zero method typed definite there here judged verified =
        let same : m ≡ method = cc in
        let first : number + zero ≡ number = omega arith in
        subst (λ (i : ℕ). IsModularlySafe program groups i method) (sym first)
        (method_is_safe program groups budget number method o a typed definite (subst (λ (i : ℕ). method_at program i ≡ Some method) first there)
        (subst (λ (x : Method). IsJudgedMethod program groups budget number x o a) same judged.0) (first_verified o os verified).0)
    method_at_is_safe program groups budget number (MethodDecl m ∷ decls) (o ∷ os) (a ∷ rest) (suc k) method typed definite there here judged verified =
        let next : number + suc k ≡ suc number + k = omega arith in
        subst (λ (i : ℕ). IsModularlySafe program groups i method) (sym next)
        (method_at_is_safe program groups budget (suc number) decls os rest k method typed definite (subst (λ (i : ℕ). method_at program i ≡ Some method) next there) here judged.1 (first_verified o os verified).1)

    module _ (correct : SafeIsCorrect) where
      pub are_correct : (program : Program) (groups : List ℕ) (budget : Budget) (outcomes : List Outcome)
          → is_well_typed program ≡ true → IsDefinitelyAssigned program → AreGroups program groups
          → IsJudged program groups budget outcomes → are_verified outcomes ≡ true → AreCorrect program
      are_correct program groups budget outcomes typed definite are_groups judged verified =
          correct program typed definite (record {
            groups = groups;
            are_groups = are_groups;
            methods = λ number method there.
                let same : number ≡ 0 + number = omega arith in
                subst (λ (i : ℕ). IsModularlySafe program groups i method) (sym same)
                (method_at_is_safe program groups budget 0 program.decls outcomes judged.0 number method typed definite (subst (λ (i : ℕ). method_at program i ≡ Some method) same there) there judged.1 verified);
          })

-- ---- what refutes the sequent of an obligation makes the modular run on what it gives wrong

type_sort : (ty : Ty) → sort_of (form.sort_of_type ty) ≡ sort_of_type ty
type_sort types.Bool = refl
type_sort ty = refl

arguments_are : (i : Interpretation) (a : Assignment) → GivesAs i a → (params : List Param) (n : ℕ) → map (value i) (any_values None params n).terms ≡ arguments_by a n params
arguments_are i a same [] n = refl
arguments_are i a same (param ∷ others) n =
    let first : value i (free_of n param.ty) ≡ a.value (record { number = n; sort = form.sort_of_type param.ty }) =
    ap (λ sort. i.value (record { number = n; sort = sort })) (sym (type_sort param.ty)) ∙ same (record { number = n; sort = form.sort_of_type param.ty }) in
    λ k. first k ∷ arguments_are i a same others (suc n) k

pub is_wrong : RefutedSequentsAreRefutedObligations → trees.RefutedIsWrong → RefutedIsWrong
is_wrong refuted wrong program groups number method o s depth assignment typed definite there contains is_of hypotheses goal =
    let r = subst (λ (x : Obligation). (one : trees.IsRefuted program x) × GivesAs one.interpretation assignment) is_of.owed (refuted program o.declaration o.pos o.kind s depth assignment is_of.world hypotheses goal) in
    let run = wrong program groups number method o.pos o.kind o typed definite there (record { owed = contains; place = refl; kind_is = refl }) r.0 in (
      run.0,
      record { interpretation = r.0.interpretation; values = r.1; arguments = run.1 ∙ arguments_are r.0.interpretation assignment r.1 method.parameters 0; store = run.2 },
    )
