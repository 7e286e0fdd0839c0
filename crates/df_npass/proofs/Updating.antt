-- Right sides give the values of their terms, and places take them.
use Rattle.df_npass.proofs.Words.{Distinct, meaning, ◌≡◌, ℕ, ◌==◌, Bool, true, false, ◌&&◌, ◌||◌, not, if◌then◌else◌, List, [], ◌∷◌, ◌++◌, map, filter, slice_get, Option, None, Some, refl, sym, ap, ◌∙◌, subst, append_assoc, eqb-true, AllByRecursion, list_all, flat_map, option_map_or, Pos, Ty, Target, Call, Conversion, Source, Single, Results, Update, Method, Program, method_at, types_of, are_same_types, is_type, converts, is_expr, are_exprs, is_call, are_results, is_source, source_types, is_target, is_update, may_update, is_well_typed, Assigned, mark, assign, assign_all, reads_of_call, reads_of_source, reads_of_update, unassigned, Kind, Value, same_value, Outcome, Gives, Wrong, after, Handed, State, store_with, with_store, with_local, Meaning, Returned, evaluate, converted, Values, evaluate_all, execute_call, convert_all, execute_source, execute_sources, is_distinct, execute_update, execute_optional, modular_call, both, three, Within, target_there, place, parted, Term, Interpretation, truth, has_sort, term_of, equal_in, narrowing, Measured, told, told_after, IsSorted, converted_sort, IsBelow, narrowing_below, equal_below, conversion_told, equal_told, Said, Way, Moved, over, with_term, assert_all, Given, given_behind, assert_exprs, pass_method_call, pass_call, assert_conversions, pass_source, pass_sources, taken_by, assert_equal, pass_update, pass_optional, results_in, handed_at_call, handed_at_source, handed_at_sources, handed_at_update, map-append, same_Some, and_from, and_left}
use Rattle.df_meaning.specs.Execution.{Taken, give_all}
use Rattle.df_npass.specs.Statements as passing
use Rattle.df_npass.proofs.Runs.{path_true, Mode, ahead, ahead_append, resume, Moves, moves_here, moves_then, Play, play_as, by_bool, PathBelow, path_grows, TermsBelow, exprs_below, call_giving, source_giving, sources_giving, values_at, AreOf, with_handed, after_listed, told_all, checked_true, expr_set_then, exprs_then, after_after, then_same, path_same, values_equal, of_moves, values_move, of_append, same_types_are, setting, running, method_call_then, Stands, stands_moves, stands_ahead, stands_given}

-- the state behind calls that printed this
abbrev pub printed_state : State → List ℕ → State
printed_state s text = with_store s (store_with text [])

abbrev pub given_values : List Value → State → Values
given_values vs s = record { values = vs; state = s }

-- ---- equal values for one place

same_back : (v w : Value) → same_value v w ≡ true → same_value w v ≡ true
same_back v w e = let is = values_equal v w e in subst (λ x. same_value w x ≡ true) (sym is) (subst (λ x. same_value x w ≡ true) is e)

pub same_by : (a b : Bool) → (a ≡ true → b ≡ true) → (b ≡ true → a ≡ true) → a ≡ b
same_by true b f g = sym (f refl)
same_by false true f g = g refl
same_by false false f g = refl

-- the value is that of all terms
abbrev all_equal : Interpretation → Value → List Term → Bool
all_equal i v terms = list_all (λ (b : Term). same_value (meaning i b) v) terms

abbrev AllSorted : Interpretation → ℕ → Ty → List Term → Type 0
AllSorted i n ty terms = AllByRecursion (λ (b : Term). IsBelow n b × IsSorted ty (meaning i b)) terms

-- all terms have one value
abbrev AllSame : Interpretation → List Term → Type 0
AllSame i [] = Unit {0}
AllSame i (b ∷ others) = all_equal i (meaning i b) others ≡ true

-- then a value is that of all where it is that of the first
first_decides : (i : Interpretation) (v : Value) (b : Term) (others : List Term) → all_equal i (meaning i b) others ≡ true → all_equal i v (b ∷ others) ≡ same_value (meaning i b) v
first_decides i v b others same =
    let first = same_value (meaning i b) v in
    by_bool first (λ e. and_from first (all_equal i v others) e (subst (λ w. all_equal i w others ≡ true) (values_equal (meaning i b) v e) same) ∙ sym e) (λ e. and_left first (all_equal i v others) e ∙ sym e)

equal_truth : (i : Interpretation) (ty : Ty) (a b : Term) → IsSorted ty (meaning i a) → IsSorted ty (meaning i b) → same_value (meaning i b) (meaning i a) ≡ truth i (equal_in ty a b)
equal_truth i ty a b is b_is =
    same_by (same_value (meaning i b) (meaning i a)) (same_value (meaning i a) (meaning i b)) (same_back (meaning i b) (meaning i a)) (same_back (meaning i a) (meaning i b)) ∙ equal_told i ty a b is b_is

-- terms that locals were given, and their values
abbrev taken_values : Interpretation → List passing.Taken → List Taken
taken_values i earlier = map (λ (taken : passing.Taken). record { local = taken.local; value = meaning i taken.value }) earlier

distinct_is : (i : Interpretation) (earlier : List passing.Taken) (local : ℕ) (v : Value) → is_distinct (taken_values i earlier) local v ≡ not (all_equal i v (taken_by local earlier))
distinct_is i [] local v = refl
distinct_is i (taken ∷ earlier) local v = by_local (taken.local == local) (same_value (meaning i taken.value) v) (distinct_is i earlier local v)
  where
    others : List passing.Taken
    others = filter (λ (one : passing.Taken). one.local == local) earlier

    by_local : (b same : Bool) → is_distinct (taken_values i earlier) local v ≡ not (all_equal i v (map (λ (one : passing.Taken). one.value) others))
        → ((b && not (same_value (meaning i taken.value) v)) || is_distinct (taken_values i earlier) local v)
        ≡ not (all_equal i v (map (λ (one : passing.Taken). one.value) (if b then taken ∷ others else others)))
    by_local true same e = rw (e) (de_morgan (same_value (meaning i taken.value) v) (all_equal i v (map (λ (one : passing.Taken). one.value) others)))
      where
        de_morgan : (x y : Bool) → (not x || not y) ≡ not (x && y)
        de_morgan true y = refl
        de_morgan false y = refl
    by_local false same e = e

-- each is below the number, and of the sort of its local's type
abbrev pub AreTaken : Interpretation → ℕ → List Ty → List passing.Taken → Type 0
AreTaken i n all earlier = AllByRecursion (λ (taken : passing.Taken). IsBelow n taken.value × ((ty : Ty) → slice_get all taken.local ≡ Some ty → IsSorted ty (meaning i taken.value))) earlier

taken_sorted : (i : Interpretation) (n : ℕ) (all : List Ty) (local : ℕ) (ty : Ty) → slice_get all local ≡ Some ty → (earlier : List passing.Taken) → AreTaken i n all earlier → AllSorted i n ty (taken_by local earlier)
taken_sorted i n all local ty typed [] are = tt
taken_sorted i n all local ty typed (taken ∷ earlier) are = by_local (taken.local == local) refl (taken_sorted i n all local ty typed earlier are.1)
  where
    by_local : (b : Bool) → (taken.local == local) ≡ b → AllSorted i n ty (taken_by local earlier) → AllSorted i n ty (map (λ (one : passing.Taken). one.value) (if b then taken ∷ filter (λ (one : passing.Taken). one.local == local) earlier else filter (λ (one : passing.Taken). one.local == local) earlier))
    by_local true e others = ((are.0.0, are.0.1 ty (subst (λ (k : ℕ). slice_get all k ≡ Some ty) (sym (eqb-true taken.local local e)) typed)), others)
    by_local false e others = others

-- a local that was given several terms was given one value
abbrev AreAlike : Interpretation → List passing.Taken → Type 0
AreAlike i [] = Unit {0}
AreAlike i (taken ∷ earlier) = (all_equal i (meaning i taken.value) (taken_by taken.local earlier) ≡ true) × AreAlike i earlier

taken_alike : (i : Interpretation) (local : ℕ) (earlier : List passing.Taken) → AreAlike i earlier → AllSame i (taken_by local earlier)
taken_alike i local [] alike = tt
taken_alike i local (taken ∷ earlier) alike = by_local (taken.local == local) refl (taken_alike i local earlier alike.1)
  where
    by_local : (b : Bool) → (taken.local == local) ≡ b → AllSame i (taken_by local earlier)
        → AllSame i (map (λ (one : passing.Taken). one.value) (if b then taken ∷ filter (λ (one : passing.Taken). one.local == local) earlier else filter (λ (one : passing.Taken). one.local == local) earlier))
    by_local true e others = subst (λ (k : ℕ). all_equal i (meaning i taken.value) (taken_by k earlier) ≡ true) (eqb-true taken.local local e) alike.0
    by_local false e others = others

module _ (B : Type 0) (mode : Mode) (i : Interpretation) (n : ℕ) (path : Option Term) (there : path_true i path ≡ true) (path_is : PathBelow n path) where
  -- unequal values for one place are wrong at the later one
  equal_then : (t : Target) (a : Term) (others : List Term) (more : List Said) (run : List Handed → Outcome B) → IsSorted t.ty (meaning i a) → AllSorted i n t.ty others → AllSame i others → IsBelow n a
      → (all_equal i (meaning i a) others ≡ true → Play B mode i n more run)
      → Play B mode i n (assert_equal path t a others ++ more) (λ handed. if all_equal i (meaning i a) others then run handed else Wrong t.pos Distinct)
  equal_then t a [] more run is are same below h = h refl
  equal_then t a (b ∷ others) more run is are same below h =
      checked_true B mode i n path there path_is t.pos Distinct (equal_in t.ty a b) (all_equal i (meaning i a) (b ∷ others)) more run
      (equal_below n t.ty a b below are.0.0) (first_decides i (meaning i a) b others same ∙ equal_truth i t.ty a b is are.0.1) h

  -- results at places of other types
  conversions_then : (m : Meaning) → m.program ≡ i.program → (at : Pos) (way : Way) → way.path ≡ path → (cs : List Conversion) (terms : List Term) (more : List Said) (go : List Handed → List Value → Outcome B)
      → AreOf i (map (λ (c : Conversion). c.source) cs) terms → list_all (λ (c : Conversion). is_type m.program c.target && converts c.source c.target) cs ≡ true → TermsBelow n terms
      → (AreOf i (map (λ (c : Conversion). c.target) cs) terms → Play B mode i n more (λ handed. go handed (values_at i terms)))
      → Play B mode i n (assert_conversions at way cs terms ++ more) (λ handed. after (convert_all m at cs (values_at i terms)) (go handed))
  conversions_then m same at way is_path [] [] more go are converted_are below h = h tt
  conversions_then m same at way is_path (c ∷ cs) (a ∷ others) more go are converted_are below h =
      let each = both (is_type m.program c.target && converts c.source c.target) (list_all (λ (d : Conversion). is_type m.program d.target && converts d.source d.target) cs) converted_are in
      let converts_is = (both (is_type m.program c.target) (converts c.source c.target) each.0).1 in
      let v = meaning i a in
      let conditions = narrowing c.source c.target at a in
      let rest = conversions_then m same at way is_path cs others more (λ handed vs. go handed (v ∷ vs)) are.1 each.1 below.1 (λ more_are. h (record { sorted = subst (λ sort. has_sort sort v ≡ true) (converted_sort c.source c.target converts_is) are.0.sorted; set = are.0.set }, more_are)) in
      let told_is : converted m.program c.source c.target at v ≡ told i conditions (Gives v) = subst (λ q. converted q c.source c.target at v ≡ told i conditions (Gives v)) (sym same) (conversion_told i c.source c.target at a are.0.sorted) in
      subst (λ said. Play B mode i n said (λ handed. after (convert_all m at (c ∷ cs) (v ∷ values_at i others)) (go handed))) (sym (append_assoc (assert_all way.path conditions) (assert_conversions at way cs others) more))
      (play_as B mode i n _ _ (λ handed. told i conditions (after (convert_all m at cs (values_at i others)) (λ vs. go handed (v ∷ vs))))
      (λ handed. after_listed (converted m.program c.source c.target at v) (convert_all m at cs (values_at i others)) (go handed) ∙ (ap (λ o. after o (λ w. after (convert_all m at cs (values_at i others)) (λ vs. go handed (w ∷ vs)))) told_is ∙ told_after i conditions (Gives v) _))
      (subst (λ p. Play B mode i n (assert_all p conditions ++ (assert_conversions at way cs others ++ more)) (λ handed. told i conditions (after (convert_all m at cs (values_at i others)) (λ vs. go handed (v ∷ vs))))) (sym is_path)
      (told_all B mode i n path there path_is conditions (assert_conversions at way cs others ++ more) (λ handed. after (convert_all m at cs (values_at i others)) (λ vs. go handed (v ∷ vs))) (narrowing_below n c.source c.target at a below.0) (λ holds. rest))))
  conversions_then m same at way is_path cs terms more go are converted_are below h = absurd are

module _ (B : Type 0) (program : Program) (well : is_well_typed program ≡ true) (groups : List ℕ) (number : ℕ) (entry : List Measured) (entered : List Value)
    (m : Meaning) (m_is : m.program ≡ program) (call_is : m.call ≡ modular_call (running B program well groups number entry entered)) (own : Method) (locals all : List Ty) (within : Within locals all) (in_loop : Bool) (before : Assigned) where
  -- what goes on from values of terms of types
  abbrev pub Goes : Mode → Interpretation → ℕ → State → List Ty → Given → List Said → (Values → Outcome B) → Type 0
  Goes mode i n s tys given more go =
      (k : Mode) (j : Interpretation) (text : List ℕ) → Moves mode i n k j → AreOf j tys given.terms → Play B k j given.fresh more (λ handed. go (given_values (values_at j given.terms) (with_handed (printed_state s text) handed)))

  call_play : (mode : Mode) (i : Interpretation) (n : ℕ) (way : Way) (s : State) (call : Call) (more : List Said) (go : Values → Outcome B) (o : Option Method) → method_at program call.callee ≡ o
      → option_map_or (λ (method : Method). are_exprs program locals (types_of method.parameters) call.arguments) o false ≡ true → unassigned before (reads_of_call call) ≡ [] → Stands program entry entered all mode i n way before s
      → Goes mode i n s (option_map_or (λ (method : Method). types_of method.results) o [])
      (given_behind (assert_exprs way call.arguments) (option_map_or (λ (method : Method). pass_method_call (setting B program well groups number entry entered) call method (map (term_of way.env) call.arguments) way n) o (record { said = []; fresh = n; terms = [] }))) more go
      → Play B (ahead (option_map_or (λ (method : Method). results_in i way.path method n ∷ []) o []) mode) i n ((given_behind (assert_exprs way call.arguments) (option_map_or (λ (method : Method). pass_method_call (setting B program well groups number entry entered) call method (map (term_of way.env) call.arguments) way n) o (record { said = []; fresh = n; terms = [] }))).said ++ more)
      (λ handed. after (execute_call m (with_handed s handed) call) go)
  call_play mode i n way s call more go None found is read here h = cc
  call_play mode i n way s call more go (Some method) found is read here h =
      let terms = map (term_of way.env) call.arguments in
      let inner = pass_method_call (setting B program well groups number entry entered) call method terms way n in
      let go_on : List Handed → Returned → Outcome B = (λ handed r. go (given_values r.values (with_store s r.store))) in
      let run = running B program well groups number entry entered in
      let ones = results_in i way.path method n ∷ [] in
      let start = ahead ones mode in
      subst (λ said. Play B start i n said (λ handed. after (execute_call m (with_handed s handed) call) go)) (sym (append_assoc (assert_exprs way call.arguments) inner.said more))
      (play_as B start i n _ _ (λ handed. after (evaluate_all m (with_handed s handed) call.arguments) (λ arguments. after (modular_call run call.pos call.callee arguments (store_with s.store.text handed)) (go_on handed)))
      (λ handed. after_after (evaluate_all m (with_handed s handed) call.arguments) _ go
      ∙ then_same (evaluate_all m (with_handed s handed) call.arguments) _ _ (λ arguments. after_after (m.call call.pos call.callee arguments (store_with s.store.text handed)) _ go
      ∙ ap (λ c. after (c call.pos call.callee arguments (store_with s.store.text handed)) (go_on handed)) call_is))
      (exprs_then B start i n program m m_is here.entered_is.program_is locals all within before way s (stands_ahead program entry entered all ones mode i n way before s here).sits here.env here.path (types_of method.parameters) call.arguments (inner.said ++ more)
      (λ handed arguments. after (modular_call run call.pos call.callee arguments (store_with s.store.text handed)) (go_on handed)) is read (λ are.
      method_call_then B program well groups number entry entered mode i n way call method terms s.store.text more (go_on []) here.path here.sits.there (exprs_below n way.env here.env call.arguments) here.below here.entered_is found are
      (λ k j later moves results. h k j later moves results))))

  pub call_plays : (mode : Mode) (i : Interpretation) (n : ℕ) (way : Way) (s : State) (call : Call) (more : List Said) (go : Values → Outcome B) → is_call (place program locals own in_loop) call ≡ true → unassigned before (reads_of_call call) ≡ []
      → Stands program entry entered all mode i n way before s → Goes mode i n s (option_map_or (λ (method : Method). types_of method.results) (method_at program call.callee) []) (pass_call (setting B program well groups number entry entered) call way n) more go
      → Play B (ahead (handed_at_call i (setting B program well groups number entry entered) call way n) mode) i n ((pass_call (setting B program well groups number entry entered) call way n).said ++ more) (λ handed. after (execute_call m (with_handed s handed) call) go)
  call_plays mode i n way s call more go is read here h = call_play mode i n way s call more go (method_at program call.callee) refl is read here h

  results_are : (call : Call) (o : Option Method) (results : List Conversion) → option_map_or (λ (method : Method). are_same_types (map (λ (c : Conversion). c.source) results) (types_of method.results)) o false ≡ true
      → option_map_or (λ (method : Method). types_of method.results) o [] ≡ map (λ (c : Conversion). c.source) results
  results_are call None results e = cc
  results_are call (Some method) results e = sym (same_types_are (map (λ (c : Conversion). c.source) results) (types_of method.results) e)

  source_then : (mode : Mode) (i : Interpretation) (n : ℕ) (way : Way) (s : State) (source : Source) (more : List Said) (go : Values → Outcome B) → is_source (place program locals own in_loop) source ≡ true → unassigned before (reads_of_source source) ≡ []
      → Stands program entry entered all mode i n way before s → Goes mode i n s (source_types source) (pass_source (setting B program well groups number entry entered) source way n) more go
      → Play B (ahead (handed_at_source i (setting B program well groups number entry entered) source way n) mode) i n ((pass_source (setting B program well groups number entry entered) source way n).said ++ more) (λ handed. after (execute_source m (with_handed s handed) source) go)
  source_then mode i n way s (Single ty value) more go is read here h =
      let is = both (is_type program ty) (is_expr program locals ty value) is in
      play_as B mode i n _ _ (λ handed. after (evaluate m (with_handed s handed) value) (λ v. go (given_values (v ∷ []) (with_handed s handed)))) (λ handed. after_after (evaluate m (with_handed s handed) value) _ go)
      (expr_set_then B mode i n program m m_is here.entered_is.program_is locals all within before way s here.sits here.env here.path value ty more (λ handed v. go (given_values (v ∷ []) (with_handed s handed))) is.1 read (λ one known.
      h mode i s.store.text (moves_here mode i n) (record { sorted = one.sorted; set = known }, tt)))
  source_then mode i n way s (Results call results) more go is read here h =
      let is = both (is_call (place program locals own in_loop) call) (are_results program call results) is in
      let results_is = both (option_map_or (λ (method : Method). are_same_types (map (λ (c : Conversion). c.source) results) (types_of method.results)) (method_at program call.callee) false)
      (list_all (λ (c : Conversion). is_type program c.target && converts c.source c.target) results) is.1 in
      let given = pass_call (setting B program well groups number entry entered) call way n in
      let giving = call_giving (setting B program well groups number entry entered) call way n here.path here.env here.below in
      let owed = assert_conversions call.pos way results given.terms in
      let on : Values → Outcome B = (λ g. after (convert_all m call.pos results g.values) (λ vs. go (given_values vs g.state))) in
      let start = ahead (handed_at_call i (setting B program well groups number entry entered) call way n) mode in
      subst (λ said. Play B start i n said (λ handed. after (execute_source m (with_handed s handed) (Results call results)) go)) (sym (append_assoc given.said owed more))
      (play_as B start i n _ _ (λ handed. after (execute_call m (with_handed s handed) call) on) (λ handed. after_after (execute_call m (with_handed s handed) call) _ go ∙ then_same (execute_call m (with_handed s handed) call) _ _ (λ g. after_after (convert_all m call.pos results g.values) _ go))
      (call_plays mode i n way s call (owed ++ more) on is.0 read here (λ k j text moves are.
      let program_is = sym moves.same.program ∙ here.entered_is.program_is in
      conversions_then B k j given.fresh way.path (sym (path_same n i j moves.same way.path here.path) ∙ here.sits.there) (path_grows n given.fresh way.path giving.made.grows here.path) m (m_is ∙ sym program_is) call.pos way refl results given.terms more
      (λ handed vs. go (given_values vs (with_handed (printed_state s text) handed)))
      (subst (λ tys. AreOf j tys given.terms) (results_are call (method_at program call.callee) results results_is.0) are)
      (subst (λ q. list_all (λ (c : Conversion). is_type q c.target && converts c.source c.target) results ≡ true) (sym m_is) results_is.1) giving.terms (λ converted_are. h k j text moves converted_are))))

  pub sources_then : (sources : List Source) (mode : Mode) (i : Interpretation) (n : ℕ) (way : Way) (s : State) (more : List Said) (go : Values → Outcome B) → list_all (is_source (place program locals own in_loop)) sources ≡ true → unassigned before (flat_map reads_of_source sources) ≡ []
      → Stands program entry entered all mode i n way before s → Goes mode i n s (flat_map source_types sources) (pass_sources (setting B program well groups number entry entered) sources way n) more go
      → Play B (ahead (handed_at_sources i (setting B program well groups number entry entered) sources way n) mode) i n ((pass_sources (setting B program well groups number entry entered) sources way n).said ++ more) (λ handed. after (execute_sources m (with_handed s handed) sources) go)
  sources_then [] mode i n way s more go is read here h = h mode i s.store.text (moves_here mode i n) tt
  sources_then (source ∷ others) mode i n way s more go is read here h =
      let is = both (is_source (place program locals own in_loop) source) (list_all (is_source (place program locals own in_loop)) others) is in
      let read = parted before (reads_of_source source) (flat_map reads_of_source others) read in
      let given = pass_source (setting B program well groups number entry entered) source way n in
      let giving = source_giving (setting B program well groups number entry entered) source way n here.path here.env here.below in
      let rest = pass_sources (setting B program well groups number entry entered) others way given.fresh in
      let on : Values → Outcome B = (λ g. after (execute_sources m g.state others) (λ r. go (given_values (g.values ++ r.values) r.state))) in
      let ones = handed_at_source i (setting B program well groups number entry entered) source way n in
      let behind = (λ (u : Interpretation). handed_at_sources u (setting B program well groups number entry entered) others way given.fresh) in
      let start = ahead ones (ahead (behind i) mode) in
      subst (λ from. Play B from i n ((given.said ++ rest.said) ++ more) (λ handed. after (execute_sources m (with_handed s handed) (source ∷ others)) go)) (sym (ahead_append ones (behind i) mode))
      (subst (λ said. Play B start i n said (λ handed. after (execute_sources m (with_handed s handed) (source ∷ others)) go)) (sym (append_assoc given.said rest.said more))
      (play_as B start i n _ _ (λ handed. after (execute_source m (with_handed s handed) source) on)
      (λ handed. after_after (execute_source m (with_handed s handed) source) _ go ∙ then_same (execute_source m (with_handed s handed) source) _ _ (λ g. after_after (execute_sources m g.state others) _ go))
      (source_then (ahead (behind i) mode) i n way s source (rest.said ++ more) on is.0 read.0 (stands_ahead program entry entered all (behind i) mode i n way before s here) (λ k j text moves are.
      resume (λ from. Play B from j given.fresh (rest.said ++ more) (λ handed. on (given_values (values_at j given.terms) (with_handed (printed_state s text) handed)))) behind mode i n k j moves (λ from here_on kind.
      sources_then others from j given.fresh way (printed_state s text) more (λ r. go (given_values (values_at j given.terms ++ r.values) r.state)) is.1 read.1
      (stands_moves program entry entered all mode from i j n given.fresh way before s (printed_state s text) giving.made.grows here_on (λ x. refl) here) (λ l u later moved more_are.
      subst (λ vs. Play B l u rest.fresh more (λ handed. go (given_values vs (with_handed (printed_state s later) handed))))
      (map-append (meaning u) given.terms rest.terms ∙ ap (λ vs. vs ++ values_at u rest.terms) (sym (values_move given.fresh j u moved.same given.terms giving.terms)))
      (h l u later (moves_then mode from l i j u n given.fresh giving.made.grows here_on moved) (of_append u (source_types source) (flat_map source_types others) given.terms rest.terms (of_moves given.fresh j u moved.same (source_types source) given.terms giving.terms are) more_are))))))))

-- ---- places take their values

after_choice : {A B : Type 0} (d c : Bool) (at : Pos) (kind : Kind) (o : Outcome A) (go : A → Outcome B) → d ≡ not c → after (if d then Wrong at kind else o) go ≡ (if c then after o go else Wrong at kind)
after_choice d true at kind o go e = rw (e) refl
after_choice d false at kind o go e = rw (e) refl

module _ (B : Type 0) (program : Program) (entry : List Measured) (entered : List Value) (m : Meaning) (own : Method) (locals all : List Ty) (within : Within locals all) (in_loop : Bool) (mode : Mode) (i : Interpretation) (n : ℕ) where
  give_then : (targets : List Target) (terms : List Term) (earlier : List passing.Taken) (way : Way) (before : Assigned) (s : State) (more : List Said) (go : State → Outcome B)
      → list_all (is_target (place program locals own in_loop)) targets ≡ true → AreOf i (map (λ (t : Target). t.ty) targets) terms → TermsBelow n terms → AreTaken i n all earlier → AreAlike i earlier → Stands program entry entered all mode i n way before s
      → ((t : State) → Stands program entry entered all mode i (passing.give_all earlier targets terms n way).fresh (passing.give_all earlier targets terms n way).way (assign before targets) t → Play B mode i (passing.give_all earlier targets terms n way).fresh more (λ handed. go (with_handed t handed)))
      → Play B mode i n ((passing.give_all earlier targets terms n way).said ++ more) (λ handed. after (give_all (with_handed s handed) (taken_values i earlier) targets (values_at i terms)) go)
  give_then [] terms earlier way before s more go are of below taken alike here h = h s here
  give_then (t ∷ ts) [] earlier way before s more go are of below taken alike here h = absurd of
  give_then (t ∷ ts) (a ∷ others) earlier way before s more go are of below taken alike here h =
      let are = both (is_target (place program locals own in_loop) t) (list_all (is_target (place program locals own in_loop)) ts) are in
      let typed = target_there m locals all own in_loop within t are.0 in
      let v = meaning i a in
      let next = over (with_term way.env t.local a) way in
      let later : List passing.Taken = record { local = t.local; value = a } ∷ earlier in
      let rest = passing.give_all later ts others n next in
      let equal = assert_equal way.path t a (taken_by t.local earlier) in
      let more_taken : AreTaken i n all later = ((below.0, λ ty e. subst (λ (u : Ty). IsSorted u v) (same_Some t.ty ty (sym typed ∙ e)) of.0.sorted), taken) in
      subst (λ said. Play B mode i n said (λ handed. after (give_all (with_handed s handed) (taken_values i earlier) (t ∷ ts) (v ∷ values_at i others)) go)) (sym (append_assoc equal rest.said more))
      (play_as B mode i n _ _ (λ handed. if all_equal i v (taken_by t.local earlier) then after (give_all (with_handed (with_local s t.local v) handed) (taken_values i later) ts (values_at i others)) go else Wrong t.pos Distinct)
      (λ handed. after_choice (is_distinct (taken_values i earlier) t.local v) (all_equal i v (taken_by t.local earlier)) t.pos Distinct (give_all (with_handed (with_local s t.local v) handed) (taken_values i later) ts (values_at i others)) go (distinct_is i earlier t.local v))
      (equal_then B mode i n way.path here.sits.there here.path t a (taken_by t.local earlier) (rest.said ++ more) (λ handed. after (give_all (with_handed (with_local s t.local v) handed) (taken_values i later) ts (values_at i others)) go) of.0.sorted
      (taken_sorted i n all t.local t.ty typed earlier taken) (taken_alike i t.local earlier alike) below.0 (λ met.
      give_then ts others later next (mark true before t.local) (with_local s t.local v) more go are.1 of.1 below.1 more_taken (met, alike) (stands_given program entry entered all mode i n way before s t.local t.ty a typed below.0 of.0.sorted of.0.set here) h)))

module _ (B : Type 0) (program : Program) (well : is_well_typed program ≡ true) (groups : List ℕ) (number : ℕ) (entry : List Measured) (entered : List Value)
    (m : Meaning) (m_is : m.program ≡ program) (call_is : m.call ≡ modular_call (running B program well groups number entry entered)) (own : Method) (locals all : List Ty) (within : Within locals all) (in_loop : Bool) (before : Assigned) where
  abbrev pub Onward : Mode → Interpretation → ℕ → Assigned → Moved → List Said → (State → Outcome B) → Type 0
  Onward mode i n after moved more go =
      (k : Mode) (j : Interpretation) (t : State) → Moves mode i n k j → Stands program entry entered all k j moved.fresh moved.way after t → Play B k j moved.fresh more (λ handed. go (with_handed t handed))

  update_then : (update : Update) (mode : Mode) (i : Interpretation) (n : ℕ) (way : Way) (s : State) (more : List Said) (go : State → Outcome B) → is_update (place program locals own in_loop) update ≡ true → unassigned before (reads_of_update (Some update)) ≡ []
      → Stands program entry entered all mode i n way before s → Onward mode i n (assign before update.targets) (pass_update (setting B program well groups number entry entered) update way n) more go
      → Play B (ahead (handed_at_sources i (setting B program well groups number entry entered) update.sources way n) mode) i n ((pass_update (setting B program well groups number entry entered) update way n).said ++ more) (λ handed. after (execute_update m (with_handed s handed) update) go)
  update_then update mode i n way s more go is read here h =
      let is = three (list_all (is_target (place program locals own in_loop)) update.targets) (list_all (is_source (place program locals own in_loop)) update.sources)
      (are_same_types (flat_map source_types update.sources) (map (λ (t : Target). t.ty) update.targets)) is in
      let set = setting B program well groups number entry entered in
      let given = pass_sources set update.sources way n in
      let giving = sources_giving set update.sources way n here.path here.env here.below in
      let moved = passing.give_all [] update.targets given.terms given.fresh way in
      let on : Values → Outcome B = (λ g. after (give_all g.state [] update.targets g.values) go) in
      let start = ahead (handed_at_sources i set update.sources way n) mode in
      subst (λ said. Play B start i n said (λ handed. after (execute_update m (with_handed s handed) update) go)) (sym (append_assoc given.said moved.said more))
      (play_as B start i n _ _ (λ handed. after (execute_sources m (with_handed s handed) update.sources) on) (λ handed. after_after (execute_sources m (with_handed s handed) update.sources) _ go)
      (sources_then B program well groups number entry entered m m_is call_is own locals all within in_loop before update.sources mode i n way s (moved.said ++ more) on is.1 read here (λ k j text moves are.
      give_then B program entry entered m own locals all within in_loop k j given.fresh update.targets given.terms [] way before (printed_state s text) more go is.0
      (subst (λ tys. AreOf j tys given.terms) (same_types_are (flat_map source_types update.sources) (map (λ (t : Target). t.ty) update.targets) is.2) are) giving.terms tt tt
      (stands_moves program entry entered all mode k i j n given.fresh way before s (printed_state s text) giving.made.grows moves (λ x. refl) here) (λ t there. h k j t moves there))))

  pub optional_then : (update : Option Update) (mode : Mode) (i : Interpretation) (n : ℕ) (way : Way) (s : State) (more : List Said) (go : State → Outcome B) → may_update (place program locals own in_loop) update ≡ true → unassigned before (reads_of_update update) ≡ []
      → Stands program entry entered all mode i n way before s → Onward mode i n (assign_all before update) (pass_optional (setting B program well groups number entry entered) update way n) more go
      → Play B (ahead (handed_at_update i (setting B program well groups number entry entered) update way n) mode) i n ((pass_optional (setting B program well groups number entry entered) update way n).said ++ more) (λ handed. after (execute_optional m (with_handed s handed) update) go)
  optional_then None mode i n way s more go is read here h = h mode i s (moves_here mode i n) here
  optional_then (Some update) mode i n way s more go is read here h = update_then update mode i n way s more go is read here h
