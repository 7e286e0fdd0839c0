-- What is judged method by method is judged in all.
use Rattle.std.proofs.Common.{◌≡◌, ℕ, zero, suc, ◌+◌, ◌<◌, ◌≤◌, List, [], ◌∷◌, ◌++◌, map, length, take, get_or, string_bytes, refl, sym, ap, subst, ◌∙◌, arith}
use Rattle.std.proofs.lemmas.List.{take_more, take_all, map-append}
use Rattle.df_lang.specs.Newtype.{Newtype}
use Rattle.df_lang.specs.Program.{Method, Decl, NewtypeDecl, MethodDecl, Program}
use Rattle.df_lang.specs.DeclView.{decl_of, param_of, method_of}
use Rattle.df_lang.specs.declared.decl.Method as declared_method
use Rattle.df_lang.specs.declared.decl.Param as declared_param
use Rattle.df_lang.specs.declared.decl.Decl as declared
use Rattle.df_search.specs.declared.found.Budget.{Budget}
use Rattle.df_report.specs.declared.outcome.Outcome as declared_outcome
use Rattle.df_report.specs.View.{failure_of, outcome_of}
use Rattle.df_report.specs.Report.{Outcome}
use Rattle.df_npass.specs.Methods.{Obligation, obligations_of_method}
use Rattle.df_nverdict.specs.declared.judging.Proof.{Proof}
use Rattle.df_nverdict.specs.Judging.{AddsVerdict}
use Rattle.df_nverdict.specs.Verdict.{Judges, IsJudgedMethod, AreJudged}

module _ (program : Program) (groups : List ℕ) (budget : Budget) where
  -- the outcome of a method
  pub is_judged : (number : ℕ) (method : declared_method.Method) (params : List declared_param.Param) (os : List Obligation) (outcome : declared_outcome.Outcome) (proofs : List Proof)
      → params ≡ method.parameters.items → os ≡ obligations_of_method program groups number (method_of method) → Judges program (map param_of params) budget os (map failure_of outcome.failures.items) proofs
      → string_bytes outcome.name ≡ (method_of method).declared.text → IsJudgedMethod program groups budget number (method_of method) (outcome_of outcome) proofs
  is_judged number method params os outcome proofs same owed judges name = record {
    failures = map failure_of outcome.failures.items;
    judges = subst (λ (l : List Obligation). Judges program (method_of method).parameters budget l (map failure_of outcome.failures.items) proofs) owed
        (subst (λ (l : List declared_param.Param). Judges program (map param_of l) budget os (map failure_of outcome.failures.items) proofs) same judges);
    outcome_is = λ i. record { name = name i; failures = map failure_of outcome.failures.items };
  }

  -- behind so many declarations one more
  newtype_joined : (number : ℕ) (decls : List Decl) (outcomes : List Outcome) (proofs : List (List Proof)) (n : Newtype) → AreJudged program groups budget number decls outcomes proofs → AreJudged program groups budget number (decls ++ NewtypeDecl n ∷ []) outcomes proofs
  newtype_joined number [] [] [] n are = tt
  newtype_joined number [] [] (a ∷ rest) n are = absurd are
  newtype_joined number [] (o ∷ os) rest n are = absurd are
  newtype_joined number (NewtypeDecl m ∷ decls) os rest n are = newtype_joined (suc number) decls os rest n are
  newtype_joined number (MethodDecl m ∷ decls) [] rest n are = absurd are
  newtype_joined number (MethodDecl m ∷ decls) (o ∷ os) [] n are = absurd are
  newtype_joined number (MethodDecl m ∷ decls) (o ∷ os) (a ∷ rest) n are = (are.0, newtype_joined (suc number) decls os rest n are.1)

  method_joined : (number : ℕ) (decls : List Decl) (outcomes : List Outcome) (proofs : List (List Proof)) (m : Method) (o : Outcome) (logs : List Proof) → AreJudged program groups budget number decls outcomes proofs → IsJudgedMethod program groups budget (number + length decls) m o logs
      → AreJudged program groups budget number (decls ++ MethodDecl m ∷ []) (outcomes ++ o ∷ []) (proofs ++ logs ∷ [])
  method_joined number [] [] [] m o logs are is =
      let none : number + 0 ≡ number = omega arith in
      (subst (λ (i : ℕ). IsJudgedMethod program groups budget i m o logs) none is, tt)
  method_joined number [] [] (a ∷ rest) m o logs are is = absurd are
  method_joined number [] (p ∷ ps) rest m o logs are is = absurd are
  method_joined number (NewtypeDecl n ∷ decls) os rest m o logs are is =
      let next : number + suc (length decls) ≡ suc number + length decls = omega arith in
      method_joined (suc number) decls os rest m o logs are (subst (λ (i : ℕ). IsJudgedMethod program groups budget i m o logs) next is)
  method_joined number (MethodDecl n ∷ decls) [] rest m o logs are is = absurd are
  method_joined number (MethodDecl n ∷ decls) (p ∷ ps) [] m o logs are is = absurd are
  method_joined number (MethodDecl n ∷ decls) (p ∷ ps) (a ∷ rest) m o logs are is =
      let next : number + suc (length decls) ≡ suc number + length decls = omega arith in
      (are.0, method_joined (suc number) decls ps rest m o logs are.1 (subst (λ (i : ℕ). IsJudgedMethod program groups budget i m o logs) next is))

  -- one more
  one_more : (ds : List declared.Decl) (i : ℕ) (d : declared.Decl) → i < length ds → d ≡ get_or ds i d → map decl_of (take (i + 1) ds) ≡ map decl_of (take i ds) ++ decl_of d ∷ []
  one_more ds i d less is = ap (map decl_of) (take_more ds i d less) ∙ map-append decl_of (take i ds) (get_or ds i d ∷ []) ∙ ap (λ (x : declared.Decl). map decl_of (take i ds) ++ decl_of x ∷ []) (sym is)

  as_many : (ds : List declared.Decl) (i : ℕ) → i ≤ length ds → length (map decl_of (take i ds)) ≡ i
  as_many ds zero le = refl
  as_many [] (suc i) le = absurd (omega arith)
  as_many (d ∷ ds) (suc i) le = ap suc (as_many ds i (omega arith))

  -- the declarations before the one of a number are judged
  abbrev AreJudgedTo : List declared.Decl → ℕ → List Outcome → List (List Proof) → Type 0
  AreJudgedTo ds i outcomes proofs = AreJudged program groups budget 0 (map decl_of (take i ds)) outcomes proofs

  newtypes_more : (ds : List declared.Decl) (i : ℕ) (d : declared.Decl) (n : Newtype) (outcomes : List Outcome) (proofs : List (List Proof)) → i < length ds → d ≡ get_or ds i d → decl_of d ≡ NewtypeDecl n
      → AreJudgedTo ds i outcomes proofs → AreJudgedTo ds (i + 1) outcomes proofs
  newtypes_more ds i d n outcomes proofs less is newtype so_far =
      subst (λ (xs : List Decl). AreJudged program groups budget 0 xs outcomes proofs) (sym (one_more ds i d less is ∙ ap (λ (x : Decl). map decl_of (take i ds) ++ x ∷ []) newtype))
      (newtype_joined 0 (map decl_of (take i ds)) outcomes proofs n so_far)

  methods_more : (ds : List declared.Decl) (i : ℕ) (d : declared.Decl) (m : Method) (outcomes : List Outcome) (o : Outcome) (proofs : List (List Proof)) (logs : List Proof) → i < length ds → d ≡ get_or ds i d → decl_of d ≡ MethodDecl m
      → AreJudgedTo ds i outcomes proofs → IsJudgedMethod program groups budget i m o logs → AreJudgedTo ds (i + 1) (outcomes ++ o ∷ []) (proofs ++ logs ∷ [])
  methods_more ds i d m outcomes o proofs logs less is method so_far judged =
      let many : length (map decl_of (take i ds)) ≡ i = as_many ds i (omega arith) in
      let at : 0 + length (map decl_of (take i ds)) ≡ i = omega (arith, many) in
      subst (λ (xs : List Decl). AreJudged program groups budget 0 xs (outcomes ++ o ∷ []) (proofs ++ logs ∷ [])) (sym (one_more ds i d less is ∙ ap (λ (x : Decl). map decl_of (take i ds) ++ x ∷ []) method))
      (method_joined 0 (map decl_of (take i ds)) outcomes proofs m o logs so_far (subst (λ (k : ℕ). IsJudgedMethod program groups budget k m o logs) (sym at) judged))

  -- with what is added
  told : (ds : List declared.Decl) (i : ℕ) (outcomes new : List Outcome) (proofs now : List (List Proof)) → new ≡ outcomes → now ≡ proofs → AreJudgedTo ds i outcomes proofs → AreJudgedTo ds i new now
  told ds i outcomes new proofs now same taken h = subst (λ (os : List Outcome). AreJudgedTo ds i os now) (sym same) (subst (AreJudgedTo ds i outcomes) (sym taken) h)

  by_decl : (ds : List declared.Decl) (i : ℕ) (d : declared.Decl) (x : Decl) (old new : List Outcome) (before now : List (List Proof)) → i < length ds → d ≡ get_or ds i d → decl_of d ≡ x
      → AreJudgedTo ds i old before → AddsVerdict program groups budget i x old before new now → AreJudgedTo ds (i + 1) new now
  by_decl ds i d (NewtypeDecl n) old new before now less is newtype so_far (same, taken) =
      told ds (i + 1) old new before now same taken (newtypes_more ds i d n old before less is newtype so_far)
  by_decl ds i d (MethodDecl m) old new before now less is method so_far (o, logs, judged, same, taken) =
      told ds (i + 1) (old ++ o ∷ []) new (before ++ logs ∷ []) now same taken (methods_more ds i d m old o before logs less is method so_far judged)

  -- the verdict on one declaration more
  pub decls_more : (ds : List declared.Decl) (i : ℕ) (d : declared.Decl) (old new : List Outcome) (before now : List (List Proof)) → i < length ds → d ≡ get_or ds i d
      → AreJudgedTo ds i old before → AddsVerdict program groups budget i (decl_of d) old before new now → AreJudgedTo ds (i + 1) new now
  decls_more ds i d old new before now less is so_far added = by_decl ds i d (decl_of d) old new before now less is refl so_far added

  -- all of them
  pub decls_all : (ds : List declared.Decl) (i : ℕ) (outcomes : List Outcome) (proofs : List (List Proof)) → length ds ≤ i → AreJudgedTo ds i outcomes proofs → AreJudged program groups budget 0 (map decl_of ds) outcomes proofs
  decls_all ds i outcomes proofs past so_far = subst (λ (xs : List declared.Decl). AreJudged program groups budget 0 (map decl_of xs) outcomes proofs) (take_all i ds past) so_far
