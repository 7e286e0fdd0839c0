-- Calls and right sides in order, and what their results are converted to.
use Rattle.df_nledger.proofs.Words.{◌≡◌, ◌<◌, ◌≤◌, ℕ, suc, get_or, true, false, ◌&&◌, List, [], ◌∷◌, ◌++◌, map, length, Option, None, Some, refl, sym, ap, ◌∙◌, append_assoc, subst, arith, option_map_or, list_all, flat_map, AllByRecursion, and_parts, append-nil, length-map, map-append, get_or_default, Ty, Call, Source, Conversion, conversion_of, Method, Program, method_at, types_of, Param, is_type, converts, are_same_types, are_results, source_types, is_expr, are_exprs, are_clauses, are_measures, are_stmts, is_method, DeclaredConversion, Expr, Pos, Node, Said, Way, assert_all, Setting, Given, assert_conversions, pass_source, pass_sources, narrowing, Term, Sort, sort_of_type, Grows, IsTerm, AreLocals, tree_at, trees_at, locals_stay, all_same, AreSources, AreConverted, result_types, is_source_over, IsCallee, Gives, Ledger, saying, with_fresh, AreClauses, DeclaredLedger}
use Rattle.df_npass.proofs.Arguments.{same_types_are}
use Rattle.df_nterm.proofs.Sorted.{converted_sort}
use Rattle.df_nmeas.proofs.Parameters.{locals_long}
use Rattle.df_nledger.proofs.Values.{with_next, locals_cons, locals_first, locals_rest, locals_joined}
use Rattle.df_nledger.proofs.Sayings.{at_index}
use Rattle.df_meaning.proofs.Cases.{four}

module _ (nodes : List Node) (program : Program) (terms : List ℕ) where
  pub source_first : (s : Source) (rest : List Source) → AreSources nodes program terms (s ∷ rest) → AreSources nodes program terms (s ∷ [])
  source_first s rest h = record { types = h.types; typed = ap (λ b. b && true) (and_parts (is_source_over program h.types s) (list_all (is_source_over program h.types) rest) h.typed).0; locals = h.locals }

  pub sources_rest : (now : List Node) (s : Source) (rest : List Source) → Grows nodes now → AreSources nodes program terms (s ∷ rest) → AreSources now program terms rest
  sources_rest now s rest g h = record { types = h.types; typed = (and_parts (is_source_over program h.types s) (list_all (is_source_over program h.types) rest) h.typed).1; locals = locals_stay nodes now h.types terms g h.locals }

module _ (setting : Setting) (way : Way) (s : Source) (rest : List Source) (old here next : Ledger) (whole : Given) (step : next ≡ with_fresh (pass_source setting s way here.fresh).said (pass_source setting s way here.fresh).fresh here) where
  pub source_next : with_fresh (pass_sources setting (s ∷ rest) way here.fresh).said (pass_sources setting (s ∷ rest) way here.fresh).fresh here ≡ with_fresh whole.said whole.fresh old
      → with_fresh (pass_sources setting rest way next.fresh).said (pass_sources setting rest way next.fresh).fresh next ≡ with_fresh whole.said whole.fresh old
  source_next so =
      let one = pass_source setting s way here.fresh in
      let more = pass_sources setting rest way one.fresh in
      ap (λ (k : ℕ). with_fresh (pass_sources setting rest way k).said (pass_sources setting rest way k).fresh next) (ap (λ (l : Ledger). l.fresh) step)
      ∙ with_next old here next whole.said one.said more.said whole.fresh one.fresh more.fresh so step

  pub source_terms : (front given : List Term) → given ≡ (pass_source setting s way here.fresh).terms → front ++ (pass_sources setting (s ∷ rest) way here.fresh).terms ≡ whole.terms → (front ++ given) ++ (pass_sources setting rest way next.fresh).terms ≡ whole.terms
  source_terms front given same so =
      let one = pass_source setting s way here.fresh in
      ap (λ (k : ℕ). (front ++ given) ++ (pass_sources setting rest way k).terms) (ap (λ (l : Ledger). l.fresh) step)
      ∙ ap (λ (g : List Term). (front ++ g) ++ (pass_sources setting rest way one.fresh).terms) same ∙ append_assoc front one.terms (pass_sources setting rest way one.fresh).terms ∙ so

pub flat_more : (sources : List Source) (s : Source) → flat_map source_types (sources ++ s ∷ []) ≡ flat_map source_types sources ++ source_types s
flat_more [] s = append-nil (source_types s)
flat_more (x ∷ sources) s = ap (λ (ts : List Ty). source_types x ++ ts) (flat_more sources s) ∙ sym (append_assoc (source_types x) (flat_map source_types sources) (source_types s))

module _ (nodes : List Node) (x : Conversion) (xs : List Conversion) (t : ℕ) (ts : List ℕ) (h : AreConverted nodes (x ∷ xs) (t ∷ ts)) where
  pub converted_first : IsTerm (sort_of_type x.source) nodes t
  converted_first = locals_first nodes x.source t (map (λ (c : Conversion). c.source) xs) ts h

  pub converted_rest : (now : List Node) → Grows nodes now → AreConverted now xs ts
  converted_rest now g = locals_stay nodes now (map (λ (c : Conversion). c.source) xs) ts g (locals_rest nodes x.source t (map (λ (c : Conversion). c.source) xs) ts h)

pub long_enough : (nodes : List Node) (conversions : List DeclaredConversion) (terms : List ℕ) → AreConverted nodes (map conversion_of conversions) terms → length conversions ≤ length terms
long_enough nodes conversions terms h =
    let long = locals_long nodes (map (λ (c : Conversion). c.source) (map conversion_of conversions)) terms h in
    omega (arith, length-map (map conversion_of conversions) (λ (c : Conversion). c.source), length-map conversions conversion_of)

pub index_below : (k : ℕ) (ns : List ℕ) (i : ℕ) → AllByRecursion (λ n. n < k) ns → i < length ns → get_or ns i 0 < k
index_below k ns i all lt = at_index (λ n. n < k) ns i (get_or ns i 0) all lt (get_or_default ns i 0 (get_or ns i 0) lt)

-- ---- calls as right sides

pub results_are : (program : Program) (call : Call) (cs : List Conversion) → are_results program call cs ≡ true → result_types program call ≡ map (λ (c : Conversion). c.source) cs
results_are program call cs is =
    by (method_at program call.callee) (and_parts (option_map_or (λ (method : Method). are_same_types (map (λ (c : Conversion). c.source) cs) (types_of method.results)) (method_at program call.callee) false) (list_all (λ (c : Conversion). is_type program c.target && converts c.source c.target) cs) is).0
  where
    by : (o : Option Method) → option_map_or (λ (method : Method). are_same_types (map (λ (c : Conversion). c.source) cs) (types_of method.results)) o false ≡ true → option_map_or (λ (method : Method). types_of method.results) o [] ≡ map (λ (c : Conversion). c.source) cs
    by None e = absurd cc
    by (Some method) e = sym (same_types_are (map (λ (c : Conversion). c.source) cs) (types_of method.results) e)

pub results_convert : (program : Program) (call : Call) (cs : List Conversion) → are_results program call cs ≡ true → list_all (λ (c : Conversion). is_type program c.target && converts c.source c.target) cs ≡ true
results_convert program call cs is =
    (and_parts (option_map_or (λ (method : Method). are_same_types (map (λ (c : Conversion). c.source) cs) (types_of method.results)) (method_at program call.callee) false) (list_all (λ (c : Conversion). is_type program c.target && converts c.source c.target) cs) is).1

pub converted_locals : (nodes : List Node) (program : Program) (cs : List Conversion) (terms : List ℕ) → list_all (λ (c : Conversion). is_type program c.target && converts c.source c.target) cs ≡ true
    → AreLocals nodes (map (λ (c : Conversion). c.source) cs) terms → AreLocals nodes (map (λ (c : Conversion). c.target) cs) terms
converted_locals nodes program [] terms is h = record { below = h.below; sorted = λ local ty e. absurd cc }
converted_locals nodes program (c ∷ cs) [] is h = let at = (h.sorted 0 c.source refl).at in absurd cc
converted_locals nodes program (c ∷ cs) (t ∷ ts) is h =
    let parts = and_parts (is_type program c.target && converts c.source c.target) (list_all (λ (d : Conversion). is_type program d.target && converts d.source d.target) cs) is in
    let sorts = converted_sort c.source c.target (and_parts (is_type program c.target) (converts c.source c.target) parts.0).1 in
    locals_cons nodes c.target t (map (λ (d : Conversion). d.target) cs) ts (subst (λ (s : Sort). IsTerm s nodes t) sorts (locals_first nodes c.source t (map (λ (d : Conversion). d.source) cs) ts h))
    (converted_locals nodes program cs ts parts.1 (locals_rest nodes c.source t (map (λ (d : Conversion). d.source) cs) ts h))

-- where they go is said at the place alone
pub conversions_same : (at : Pos) (one other : Way) (cs : List Conversion) (ts : List Term) → one.path ≡ other.path → assert_conversions at one cs ts ≡ assert_conversions at other cs ts
conversions_same at one other [] ts e = refl
conversions_same at one other (c ∷ cs) [] e = refl
conversions_same at one other (c ∷ cs) (t ∷ ts) e =
    let rest = conversions_same at one other cs ts e in
    λ i. assert_all (e i) (narrowing c.source c.target at t) ++ rest i

pub converted_said : (l0 l1 l2 : Ledger) (one : Given) (said : List Said) → l1 ≡ with_fresh one.said one.fresh l0 → l2 ≡ saying said l1 → l2 ≡ with_fresh (one.said ++ said) one.fresh l0
converted_said l0 l1 l2 one said s1 s2 = s2 ∙ ap (saying said) s1 ∙ (λ i. record { said = append_assoc l0.said one.said said i; fresh = one.fresh; path = l0.path })

pub record MethodParts (program : Program) (m : Method) : Type 0 where
  pub preconditions : are_clauses program (types_of m.parameters) m.preconditions ≡ true
  pub postconditions : are_clauses program (types_of m.parameters ++ types_of m.results) m.postconditions ≡ true
  pub measure : are_measures program (types_of m.parameters) m.decreases ≡ true

pub method_parts : (program : Program) (m : Method) → is_method program m ≡ true → MethodParts program m
method_parts program m is =
    let parameters = types_of m.parameters in
    let all = parameters ++ types_of m.results in
    let types = list_all (is_type program) all in
    let before = are_clauses program parameters m.preconditions in
    let after = are_clauses program all m.postconditions in
    let measure = are_measures program parameters m.decreases in
    let parts = four types before after measure (and_parts (types && before && after && measure) (are_stmts (record { program = program; method = m; locals = all; in_loop = false }) m.body) is).0 in
    record { preconditions = parts.1; postconditions = parts.2; measure = parts.3 }

module _ (nodes : List Node) (m : Method) (arguments : List ℕ) (h : IsCallee nodes m arguments) where
  pub asked_over : AreClauses nodes arguments m.preconditions
  asked_over = record { program = h.program; types = types_of m.parameters; typed = (method_parts h.program m h.typed).preconditions; locals = h.locals }

  pub callee_stays : (now : List Node) → Grows nodes now → IsCallee now m arguments
  callee_stays now g = record { program = h.program; typed = h.typed; locals = locals_stay nodes now (types_of m.parameters) arguments g h.locals; many = h.many }

  pub ensured_over : (now : List Node) (results both : List ℕ) → Grows nodes now → both ≡ arguments ++ results → AreLocals now (types_of m.results) results → AreClauses now both m.postconditions
  ensured_over now results both g e are = record {
    program = h.program;
    types = types_of m.parameters ++ types_of m.results;
    typed = (method_parts h.program m h.typed).postconditions;
    locals = subst (λ (ns : List ℕ). AreLocals now (types_of m.parameters ++ types_of m.results) ns) (sym e)
        (locals_joined now (types_of m.parameters) (types_of m.results) arguments results (h.many ∙ sym (length-map m.parameters (λ (p : Param). p.ty))) (locals_stay nodes now (types_of m.parameters) arguments g h.locals) are);
  }

  pub both_are : (now : List Node) (results both : List ℕ) (terms : List Term) → Grows nodes now → both ≡ arguments ++ results → trees_at now results ≡ terms → trees_at now both ≡ trees_at nodes arguments ++ terms
  both_are now results both terms g e same =
      let kept = all_same nodes now arguments g h.locals.below in
      ap (trees_at now) e ∙ map-append (tree_at now) arguments results ∙ (λ i. kept i ++ same i)

-- what is asked, that the measure falls, the results, and what is ensured of them
pub method_said : (l0 l1 l2 l3 l4 : Ledger) (first second last : List Said) (results : Given) → l1 ≡ saying first l0 → l2 ≡ saying second l1 → l3 ≡ with_fresh results.said results.fresh l2 → l4 ≡ saying last l3
    → l4 ≡ with_fresh (first ++ (second ++ (results.said ++ last))) results.fresh l0
method_said l0 l1 l2 l3 l4 first second last results s1 s2 s3 s4 =
    let joined = append_assoc ((l0.said ++ first) ++ second) results.said last ∙ append_assoc (l0.said ++ first) second (results.said ++ last) ∙ append_assoc l0.said first (second ++ (results.said ++ last)) in
    s4 ∙ ap (saying last) (s3 ∙ ap (with_fresh results.said results.fresh) (s2 ∙ ap (saying second) s1)) ∙ (λ i. record { said = joined i; fresh = results.fresh; path = l0.path })

pub gives_same : (one same : Given) (types tys : List Ty) (old new : DeclaredLedger) (terms : List ℕ) → one ≡ same → types ≡ tys → Gives one types old new terms → Gives same tys old new terms
gives_same one same types tys old new terms e f h = subst (λ (g : Given). Gives g tys old new terms) e (subst (λ (ts : List Ty). Gives one ts old new terms) f h)

pub exprs_many : (program : Program) (all tys : List Ty) (exprs : List Expr) → are_exprs program all tys exprs ≡ true → length tys ≡ length exprs
exprs_many program all [] [] is = refl
exprs_many program all [] (e ∷ exprs) is = absurd cc
exprs_many program all (ty ∷ tys) [] is = absurd cc
exprs_many program all (ty ∷ tys) (e ∷ exprs) is = ap suc (exprs_many program all tys exprs (and_parts (is_expr program all ty e) (are_exprs program all tys exprs) is).1)

-- what was said of the arguments, in front of the call
pub called : (l0 l1 l2 : Ledger) (said : List Said) (one : Given) → l1 ≡ saying said l0 → l2 ≡ with_fresh one.said one.fresh l1 → l2 ≡ with_fresh (said ++ one.said) one.fresh l0
called l0 l1 l2 said one s1 s2 = s2 ∙ ap (with_fresh one.said one.fresh) s1 ∙ (λ i. record { said = append_assoc l0.said said one.said i; fresh = one.fresh; path = l0.path })
