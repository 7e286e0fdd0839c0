-- Runs of well-typed statements count where their flow misses nothing, and leave values where it says so.
use Rattle.std.proofs.Common.{◌≡◌, ◌≤◌, ◌<◌, ◌+◌, ℕ, suc, ◌==◌, Bool, true, false, ◌&&◌, if◌then◌else◌, ◌⊎◌, inl, inr, List, [], ◌∷◌, ◌++◌, map, length, is_some, Option, Some, None, refl, sym, ap, subst, ◌∙◌, eq-or-lt_of_le, length-append, arith}
use Rattle.std.proofs.lemmas.List.{length-map}
use Rattle.std.specs.Option.{option_map_or}
use Rattle.std.specs.List.{list_all, flat_map}
use Rattle.df_base.specs.declared.pos.Pos.{Pos}
use Rattle.df_lang.specs.declared.ty.Ty.{Ty}
use Rattle.df_lang.specs.declared.ty.Ty.TheVariants as types
use Rattle.df_lang.specs.Expr.{Expr}
use Rattle.df_lang.specs.Stmt.{Operand, Text, Value, Target, Call, Conversion, Source, Single, Results, Update, Variable, Stmt, Block, Var, Assign, CallOf, If, While, Break, Return, Assert, Print, Stmts, done, next, Branches, no_branch, branch}
use Rattle.df_lang.specs.Program.{Param, Method, Program, method_at, types_of}
use Rattle.df_lang.specs.Newtype.{same_type}
use Rattle.df_lang.specs.Typing.{are_same_types, is_type, converts, is_expr, are_exprs, are_clauses, is_call, are_results, is_source, source_types, is_target, is_update, may_update, are_numbered, variable_numbers, variable_types, locals_after, locals_after_all, locals_after_branches, gives_results, is_return, is_measured, is_stmt, are_stmts, are_branches}
use Rattle.df_lang.specs.Assignment.{Use, reads, reads_of_operand, reads_of_call, reads_of_source, reads_of_update, reads_of_clauses, reads_of_measures, Assigned, Unreached, Reached, has_value, join, mark, declare, assign, assign_all, unassigned, Flowing, goes_to, results_from, results_at, flow, flow_all, flow_branches}
use Rattle.df_meaning.specs.declared.kind.Kind.TheVariants as kinds
use Rattle.df_meaning.specs.Value.{truth_of}
use Rattle.df_meaning.specs.Value as values
use Rattle.df_meaning.specs.Types.{has_type, have_types}
use Rattle.df_meaning.specs.Outcome.{Outcome, Gives, Wrong}
use Rattle.df_meaning.specs.State.{Store, State, value_at, with_local, without_local, with_store, printed}
use Rattle.df_meaning.specs.Meaning.{Meaning, Flow, Returned, Loop}
use Rattle.df_meaning.specs.Meaning as flows
use Rattle.df_meaning.specs.Evaluation.{evaluate}
use Rattle.df_meaning.specs.Execution.{Values, Taken, goes, then_next, evaluate_all, check_all, convert_all, execute_call, execute_source, execute_sources, is_distinct, give_all, execute_update, execute_optional, declare_all, evaluate_operand, print_all, go_on, execute, execute_all, execute_branches}
use Rattle.df_meaning.specs.Whole.{behind_turn, turn_by, turns_with}
use Rattle.df_meaning.specs.Definite.{Counts, HasValue, AreAssigned, AreDeclared, HaveResults, AreFlowing}
use Rattle.df_meaning.proofs.Cases.{choice, both, three, four}
use Rattle.df_meaning.proofs.Wholes.{types_length}
use Rattle.df_meaning.proofs.Kept.{StaysAt, call_stays, source_stays, sources_stay}
use Rattle.df_meaning.proofs.Counting.{after_counts, IsValue, then_counts, counts_more, counts_both, nothing_missing, parted, use_has, assigned_has, evaluate_counts, values_count, checks_count, conversions_count}
use Rattle.df_lang.proofs.Carrying.{place, carries, all_carry, all_grow, branches_grow, declared_more}

-- ---- states and what is assigned

store_assigned : (before : Assigned) (s : State) (store : Store) → AreAssigned before s → AreAssigned before (with_store s store)
store_assigned Unreached s store h = h
store_assigned (Reached set) s store h = h

same_assigned : (before : Assigned) (s t : State) → ((n : ℕ) → value_at t n ≡ value_at s n) → AreAssigned before s → AreAssigned before t
same_assigned Unreached s t e h = h
same_assigned (Reached set) s t e h = λ local is. ap is_some (e local) ∙ h local is

if_marked : (b has : Bool) (v : values.Value) (o : Option values.Value) → (if b then true else has) ≡ true → (has ≡ true → is_some o ≡ true) → is_some (if b then Some v else o) ≡ true
if_marked true has v o e h = refl
if_marked false has v o e h = h e

mark_assigned : (before : Assigned) (s : State) (local : ℕ) (v : values.Value) → AreAssigned before s → AreAssigned (mark true before local) (with_local s local v)
mark_assigned Unreached s local v h = h
mark_assigned (Reached set) s local v h = λ k e. if_marked (k == local) (set k) v (s.locals k) e (h k)

if_unmarked : (b has : Bool) (o : Option values.Value) → (if b then false else has) ≡ true → (has ≡ true → is_some o ≡ true) → is_some (if b then None else o) ≡ true
if_unmarked true has o e h = absurd (let f : false ≡ true = e in cc)
if_unmarked false has o e h = h e

unmark_assigned : (before : Assigned) (s : State) (local : ℕ) → AreAssigned before s → AreAssigned (mark false before local) (without_local s local)
unmark_assigned Unreached s local h = h
unmark_assigned (Reached set) s local h = λ k e. if_unmarked (k == local) (set k) (s.locals k) e (h k)

declared_assigned : (variables : List Variable) (before : Assigned) (s : State) → AreAssigned before s → AreAssigned (declare before variables) (declare_all s variables)
declared_assigned [] before s h = h
declared_assigned (v ∷ vs) before s h = declared_assigned vs (mark false before v.local) (without_local s v.local) (unmark_assigned before s v.local h)

joined_left : (a b : Assigned) (s : State) → AreAssigned a s → AreAssigned (join a b) s
joined_left Unreached b s h = absurd h
joined_left (Reached set) Unreached s h = h
joined_left (Reached set) (Reached other) s h = λ local e. h local (both (set local) (other local) e).0

joined_right : (a b : Assigned) (s : State) → AreAssigned b s → AreAssigned (join a b) s
joined_right Unreached b s h = h
joined_right (Reached set) Unreached s h = absurd h
joined_right (Reached set) (Reached other) s h = λ local e. h local (both (set local) (other local) e).1

-- what has a value before a turn has one behind it
turned_assigned : (size : ℕ) (before behind : Assigned) (s t : State) → AreDeclared size before → AreAssigned before s → ((local : ℕ) → local < size → has_value before local ≡ true → has_value behind local ≡ true)
    → AreAssigned behind t → AreAssigned before t
turned_assigned size Unreached behind s t declared h kept k = h
turned_assigned size (Reached set) behind s t declared h kept k = λ local e. assigned_has behind t local k (kept local (declared local e) e)

-- a `return` has given each result
results_assigned : (a : Assigned) (t : State) (at : Pos) (from : ℕ) (results : List Param) → unassigned a (results_from at from results) ≡ [] → AreAssigned a t → (local : ℕ) → from ≤ local → local < from + length results → HasValue t local
results_assigned a t at from [] h k local le less = absurd (omega (arith, le, less))
results_assigned a t at from (result ∷ others) h k local le less =
    let u : Use = record { local = from; name = result.declared.name; pos = at } in
    by_order (eq-or-lt_of_le le) (use_has a u (results_from at (suc from) others) h) (λ more. results_assigned a t at (suc from) others (parted a (u ∷ []) (results_from at (suc from) others) h).1 k local more (omega (arith, less)))
  where
    by_order : (from ≡ local) ⊎ (from < local) → has_value a from ≡ true → (from < local → HasValue t local) → HasValue t local
    by_order (inl same) has rest = subst (λ (n : ℕ). HasValue t n) same (assigned_has a t from k has)
    by_order (inr more) has rest = rest more

pub all_results : (a : Assigned) (t : State) (own : Method) (at : Pos) → unassigned a (results_at own at) ≡ [] → AreAssigned a t → HaveResults own t
all_results a t own at h k = λ local le less. results_assigned a t at (length own.parameters) own.results h k local le less

-- ---- loops and calls

-- A loop of a method whose parts miss nothing, where the locals have values before each turn.
pub record IsLoopAssigned (program : Program) (own : Method) (before : Assigned) (loop : Loop) : Type 0 where
  pub locals : List Ty
  pub body : are_stmts (place program locals own true) loop.body ≡ true
  pub declared : AreDeclared (length locals) before
  pub guard : unassigned before (reads loop.guard) ≡ []
  pub invariants : unassigned before (reads_of_clauses loop.invariants) ≡ []
  pub decreases : unassigned before (reads_of_measures loop.decreases) ≡ []
  pub turn : (flow_all own before loop.body).missing ≡ []

-- behind a loop, or where its method returns
abbrev pub AreLeft : Method → Assigned → Loop → Flow → Type 0
AreLeft own before loop flow = AreFlowing own false (goes_to (join before (flow_all own before loop.body).breaks) []) flow

abbrev pub AreResults : Method → Returned → Type 0
AreResults method returned = length returned.values ≡ length method.results

-- calls and turns count
pub record MeaningCounts (program : Program) (m : Meaning) : Type 0 where
  pub call : (at : Pos) (callee : ℕ) (method : Method) (arguments : List values.Value) (store : Store) → method_at program callee ≡ Some method → length arguments ≡ length method.parameters
      → Counts (AreResults method) (m.call at callee arguments store)
  pub turns : (own : Method) (before : Assigned) (loop : Loop) (s : State) → IsLoopAssigned program own before loop → AreAssigned before s → Counts (AreLeft own before loop) (m.turns loop s)

-- ---- numbers of values

exprs_length : (program : Program) (locals : List Ty) (tys : List Ty) (es : List Expr) → are_exprs program locals tys es ≡ true → length es ≡ length tys
exprs_length program locals [] [] are = refl
exprs_length program locals [] (e ∷ es) are = cc
exprs_length program locals (ty ∷ tys) [] are = cc
exprs_length program locals (ty ∷ tys) (e ∷ es) are = ap suc (exprs_length program locals tys es (both (is_expr program locals ty e) (are_exprs program locals tys es) are).1)

types_agree : (tys others : List Ty) → are_same_types tys others ≡ true → length tys ≡ length others
types_agree [] [] are = refl
types_agree [] (b ∷ bs) are = cc
types_agree (a ∷ more) [] are = cc
types_agree (a ∷ more) (b ∷ bs) are = ap suc (types_agree more bs (both (same_type a b) (are_same_types more bs) are).1)

pub types_have : (program : Program) (tys : List Ty) (vs : List values.Value) → have_types program tys vs ≡ true → length vs ≡ length tys
types_have program [] [] have = refl
types_have program [] (v ∷ vs) have = cc
types_have program (ty ∷ tys) [] have = cc
types_have program (ty ∷ tys) (v ∷ vs) have = ap suc (types_have program tys vs (both (has_type program ty v) (have_types program tys vs) have).1)

abbrev AreMany : ℕ → Values → Type 0
AreMany n given = length given.values ≡ n

-- ---- parts of statements

given_counts : (targets : List Target) (vs : List values.Value) (before : Assigned) (s : State) (earlier : List Taken) → length vs ≡ length targets → AreAssigned before s
    → Counts (AreAssigned (assign before targets)) (give_all s earlier targets vs)
given_counts [] vs before s earlier e h = h
given_counts (t ∷ ts) [] before s earlier e h = cc
given_counts (t ∷ ts) (v ∷ vs) before s earlier e h =
    choice (Counts (AreAssigned (assign before (t ∷ ts)))) (is_distinct earlier t.local v) (Wrong t.pos kinds.Distinct) _ tt
    (given_counts ts vs (mark true before t.local) (with_local s t.local v) (record { local = t.local; value = v } ∷ earlier) (omega (arith, e)) (mark_assigned before s t.local v h))

printed_counts : (m : Meaning) (before : Assigned) (operands : List Operand) (s : State) → unassigned before (flat_map reads_of_operand operands) ≡ [] → AreAssigned before s → Counts (AreAssigned before) (print_all m s operands)
printed_counts m before [] s h assigned = assigned
printed_counts m before (operand ∷ others) s h assigned =
    let h = parted before (reads_of_operand operand) (flat_map reads_of_operand others) h in
    then_counts (AreAssigned before) (evaluate_operand m s operand) _ (by_operand operand h.0) (λ v. printed_counts m before others (printed s v) h.1 (store_assigned before s _ assigned))
  where
    by_operand : (o : Operand) → unassigned before (reads_of_operand o) ≡ [] → Counts IsValue (evaluate_operand m s o)
    by_operand (Text characters) h = tt
    by_operand (Value ty value) h = evaluate_counts m before s assigned value h

next_counts : (own : Method) (in_loop : Bool) (flowing : Flowing) (o : Outcome State) → Counts (AreAssigned flowing.behind) o → Counts (AreFlowing own in_loop flowing) (go_on o)
next_counts own in_loop flowing o h = after_counts (AreAssigned flowing.behind) (AreFlowing own in_loop flowing) o _ h (λ t k. k)

-- what one way comes to it comes to where ways join
flow_left : (own : Method) (in_loop : Bool) (one other both_ways : Flowing) → both_ways.behind ≡ join one.behind other.behind → both_ways.breaks ≡ join one.breaks other.breaks → (flow : Flow) → AreFlowing own in_loop one flow
    → AreFlowing own in_loop both_ways flow
flow_left own in_loop one other all behind breaks (flows.Next t) h = subst (λ (a : Assigned). AreAssigned a t) (sym behind) (joined_left one.behind other.behind t h)
flow_left own in_loop one other all behind breaks (flows.Return t) h = h
flow_left own in_loop one other all behind breaks (flows.Break t) h = (h.0, subst (λ (a : Assigned). AreAssigned a t) (sym breaks) (joined_left one.breaks other.breaks t h.1))

flow_right : (own : Method) (in_loop : Bool) (one other both_ways : Flowing) → both_ways.behind ≡ join one.behind other.behind → both_ways.breaks ≡ join one.breaks other.breaks → (flow : Flow) → AreFlowing own in_loop other flow
    → AreFlowing own in_loop both_ways flow
flow_right own in_loop one other all behind breaks (flows.Next t) h = subst (λ (a : Assigned). AreAssigned a t) (sym behind) (joined_right one.behind other.behind t h)
flow_right own in_loop one other all behind breaks (flows.Return t) h = h
flow_right own in_loop one other all behind breaks (flows.Break t) h = (h.0, subst (λ (a : Assigned). AreAssigned a t) (sym breaks) (joined_right one.breaks other.breaks t h.1))

-- what a loop leaves, whatever is around it
left_flows : (own : Method) (in_loop : Bool) (a : Assigned) (one other : List Use) (flow : Flow) → AreFlowing own false (goes_to a one) flow → AreFlowing own in_loop (goes_to a other) flow
left_flows own in_loop a one other (flows.Next t) h = h
left_flows own in_loop a one other (flows.Return t) h = h
left_flows own in_loop a one other (flows.Break t) h = absurd (let f : false ≡ true = h.0 in cc)

module _ (program : Program) (m : Meaning) (counts : MeaningCounts program m) (own : Method) where
  call_counts : (locals : List Ty) (in_loop : Bool) (before : Assigned) (s : State) → AreAssigned before s → (call : Call) (method : Method) → method_at program call.callee ≡ Some method
      → are_exprs program locals (types_of method.parameters) call.arguments ≡ true → unassigned before (reads_of_call call) ≡ [] → Counts (AreMany (length method.results)) (execute_call m s call)
  call_counts locals in_loop before s assigned call method there are h =
      let many : length call.arguments ≡ length method.parameters = exprs_length program locals (types_of method.parameters) call.arguments are ∙ types_length method.parameters in
      after_counts (λ (vs : List values.Value). length vs ≡ length call.arguments) (AreMany (length method.results)) (evaluate_all m s call.arguments) _ (values_count m before s assigned call.arguments h) (λ vs k.
      after_counts (AreResults method) (AreMany (length method.results)) (m.call call.pos call.callee vs s.store) _ (counts.call call.pos call.callee method vs s.store there (k ∙ many)) (λ r l. l))

  source_counts : (locals : List Ty) (in_loop : Bool) (before : Assigned) (s : State) → AreAssigned before s → (source : Source) → is_source (place program locals own in_loop) source ≡ true
      → unassigned before (reads_of_source source) ≡ [] → Counts (AreMany (length (source_types source))) (execute_source m s source)
  source_counts locals in_loop before s assigned (Single ty value) is h = then_counts (AreMany 1) (evaluate m s value) _ (evaluate_counts m before s assigned value h) (λ v. refl)
  source_counts locals in_loop before s assigned (Results call cs) is h =
      let is = both (is_call (place program locals own in_loop) call) (are_results program call cs) is in
      let are = both (option_map_or (λ (method : Method). are_same_types (map (λ (c : Conversion). c.source) cs) (types_of method.results)) (method_at program call.callee) false)
      (list_all (λ (c : Conversion). is_type program c.target && converts c.source c.target) cs) is.1 in
      by_callee (method_at program call.callee) refl is.0 are.0
    where
      by_callee : (o : Option Method) → method_at program call.callee ≡ o → option_map_or (λ (method : Method). are_exprs program locals (types_of method.parameters) call.arguments) o false ≡ true
          → option_map_or (λ (method : Method). are_same_types (map (λ (c : Conversion). c.source) cs) (types_of method.results)) o false ≡ true
          → Counts (AreMany (length (source_types (Results call cs)))) (execute_source m s (Results call cs))
      by_callee None there is_called same = absurd (let f : false ≡ true = same in cc)
      by_callee (Some method) there is_called same =
          let many : length cs ≡ length method.results = sym (length-map cs (λ (c : Conversion). c.source)) ∙ types_agree (map (λ (c : Conversion). c.source) cs) (types_of method.results) same ∙ types_length method.results in
          after_counts (AreMany (length method.results)) (AreMany (length (source_types (Results call cs)))) (execute_call m s call) _ (call_counts locals in_loop before s assigned call method there is_called h) (λ g k.
          after_counts (λ (ws : List values.Value). length ws ≡ length cs) (AreMany (length (source_types (Results call cs)))) (convert_all m call.pos cs g.values) _ (conversions_count m call.pos cs g.values (many ∙ sym k)) (λ ws l.
          l ∙ sym (length-map cs (λ (c : Conversion). c.target))))

  sources_count : (locals : List Ty) (in_loop : Bool) (before : Assigned) (sources : List Source) (s : State) → AreAssigned before s → list_all (is_source (place program locals own in_loop)) sources ≡ true
      → unassigned before (flat_map reads_of_source sources) ≡ [] → Counts (AreMany (length (flat_map source_types sources))) (execute_sources m s sources)
  sources_count locals in_loop before [] s assigned are h = refl
  sources_count locals in_loop before (source ∷ others) s assigned are h =
      let are = both (is_source (place program locals own in_loop) source) (list_all (is_source (place program locals own in_loop)) others) are in
      let h = parted before (reads_of_source source) (flat_map reads_of_source others) h in
      let more : List Ty = flat_map source_types others in
      let goal : Values → Type 0 = AreMany (length (source_types source ++ more)) in
      after_counts (λ (g : Values). AreMany (length (source_types source)) g × StaysAt s g) goal (execute_source m s source) _
      (counts_both (AreMany (length (source_types source))) (StaysAt s) (execute_source m s source) (source_counts locals in_loop before s assigned source are.0 h.0) (source_stays m s source)) (λ g k.
      after_counts (AreMany (length more)) goal (execute_sources m g.state others) _ (sources_count locals in_loop before others g.state (same_assigned before s g.state k.1 assigned) are.1 h.1) (λ n l.
      length-append g.values n.values ∙ ap (λ (x : ℕ). x + length n.values) k.0 ∙ ap (λ (x : ℕ). length (source_types source) + x) l ∙ sym (length-append (source_types source) more)))

  update_counts : (locals : List Ty) (in_loop : Bool) (before : Assigned) (s : State) → AreAssigned before s → (update : Update) → is_update (place program locals own in_loop) update ≡ true
      → unassigned before (flat_map reads_of_source update.sources) ≡ [] → Counts (AreAssigned (assign before update.targets)) (execute_update m s update)
  update_counts locals in_loop before s assigned update is h =
      let is = three (list_all (is_target (place program locals own in_loop)) update.targets) (list_all (is_source (place program locals own in_loop)) update.sources)
      (are_same_types (flat_map source_types update.sources) (map (λ (t : Target). t.ty) update.targets)) is in
      let many : length (flat_map source_types update.sources) ≡ length update.targets =
      types_agree (flat_map source_types update.sources) (map (λ (t : Target). t.ty) update.targets) is.2 ∙ length-map update.targets (λ (t : Target). t.ty) in
      after_counts (λ (g : Values). AreMany (length (flat_map source_types update.sources)) g × StaysAt s g) (AreAssigned (assign before update.targets)) (execute_sources m s update.sources) _
      (counts_both (AreMany (length (flat_map source_types update.sources))) (StaysAt s) (execute_sources m s update.sources) (sources_count locals in_loop before update.sources s assigned is.1 h) (sources_stay m s update.sources)) (λ g k.
      given_counts update.targets g.values before g.state [] (k.0 ∙ many) (same_assigned before s g.state k.1 assigned))

  optional_counts : (locals : List Ty) (in_loop : Bool) (before : Assigned) (s : State) → AreAssigned before s → (update : Option Update) → may_update (place program locals own in_loop) update ≡ true
      → unassigned before (reads_of_update update) ≡ [] → Counts (AreAssigned (assign_all before update)) (execute_optional m s update)
  optional_counts locals in_loop before s assigned None is h = assigned
  optional_counts locals in_loop before s assigned (Some update) is h = update_counts locals in_loop before s assigned update is h

  return_may_update : (locals : List Ty) (in_loop : Bool) (update : Option Update) → is_return (place program locals own in_loop) update ≡ true → may_update (place program locals own in_loop) update ≡ true
  return_may_update locals in_loop None is = refl
  return_may_update locals in_loop (Some update) is = (both (is_update (place program locals own in_loop) update) (gives_results (place program locals own in_loop) update) is).0

  then_flows : (in_loop : Bool) (first rest all : Flowing) → all.behind ≡ rest.behind → all.breaks ≡ join first.breaks rest.breaks → (o : Outcome Flow) (go : State → Outcome Flow) → Counts (AreFlowing own in_loop first) o
      → ((t : State) → AreAssigned first.behind t → Counts (AreFlowing own in_loop rest) (go t)) → Counts (AreFlowing own in_loop all) (then_next o go)
  then_flows in_loop first rest all behind breaks o go h k = after_counts (AreFlowing own in_loop first) (AreFlowing own in_loop all) o (goes go) h by_flow
    where
      by_rest : (flow : Flow) → AreFlowing own in_loop rest flow → AreFlowing own in_loop all flow
      by_rest (flows.Next t) l = subst (λ (a : Assigned). AreAssigned a t) (sym behind) l
      by_rest (flows.Return t) l = l
      by_rest (flows.Break t) l = (l.0, subst (λ (a : Assigned). AreAssigned a t) (sym breaks) (joined_right first.breaks rest.breaks t l.1))

      by_flow : (flow : Flow) → AreFlowing own in_loop first flow → Counts (AreFlowing own in_loop all) (goes go flow)
      by_flow (flows.Next t) l = counts_more (AreFlowing own in_loop rest) (AreFlowing own in_loop all) (go t) by_rest (k t l)
      by_flow (flows.Return t) l = l
      by_flow (flows.Break t) l = (l.0, subst (λ (a : Assigned). AreAssigned a t) (sym breaks) (joined_left first.breaks rest.breaks t l.1))

  -- ---- statements

  mutual
    pub stmt_counts : (stmt : Stmt) (locals : List Ty) (in_loop : Bool) (before : Assigned) (s : State) → is_stmt (place program locals own in_loop) stmt ≡ true → AreDeclared (length locals) before
        → (flow own before stmt).missing ≡ [] → AreAssigned before s → Counts (AreFlowing own in_loop (flow own before stmt)) (execute m s stmt)
    stmt_counts (Block at body) locals in_loop before s is declared h assigned = stmts_count body locals in_loop before s is declared h assigned
    stmt_counts (Var at variables update) locals in_loop before s is declared h assigned =
        let is = three (are_numbered (length locals) (variable_numbers variables)) (list_all (is_type program) (variable_types variables)) (may_update (place program (locals ++ variable_types variables) own in_loop) update) is in
        next_counts own in_loop (flow own before (Var at variables update)) _
        (optional_counts (locals ++ variable_types variables) in_loop (declare before variables) (declare_all s variables) (declared_assigned variables before s assigned) update is.2 h)
    stmt_counts (Assign at update) locals in_loop before s is declared h assigned = next_counts own in_loop (flow own before (Assign at update)) _ (update_counts locals in_loop before s assigned update is h)
    stmt_counts (CallOf call) locals in_loop before s is declared h assigned = by_callee (method_at program call.callee) refl is
      where
        by_callee : (o : Option Method) → method_at program call.callee ≡ o → option_map_or (λ (method : Method). are_exprs program locals (types_of method.parameters) call.arguments) o false ≡ true
            → Counts (AreFlowing own in_loop (flow own before (CallOf call))) (execute m s (CallOf call))
        by_callee None there is_called = absurd (let f : false ≡ true = is_called in cc)
        by_callee (Some method) there is_called =
            after_counts (λ (g : Values). AreMany (length method.results) g × StaysAt s g) (AreFlowing own in_loop (flow own before (CallOf call))) (execute_call m s call) _
            (counts_both (AreMany (length method.results)) (StaysAt s) (execute_call m s call) (call_counts locals in_loop before s assigned call method there is_called h) (call_stays m s call))
            (λ g k. same_assigned before s g.state k.1 assigned)
    stmt_counts (If branches otherwise) locals in_loop before s is declared h assigned =
        let is = both (are_branches (place program locals own in_loop) branches) (are_stmts (place program (locals_after_branches locals branches) own in_loop) otherwise) is in
        let more : List Ty = locals_after_branches locals branches in
        branches_count branches locals in_loop before s is.0 declared assigned (execute_all m s otherwise) (flow_all own before otherwise)
        (λ none. stmts_count otherwise more in_loop before s is.1 (declared_more (length locals) (length more) before (branches_grow locals branches) declared) none assigned) h
    stmt_counts (While at guard invariants decreases body) locals in_loop before s is declared h assigned =
        let is = four (is_expr program locals types.Bool guard) (are_clauses program locals invariants) (is_measured (place program locals own in_loop) guard decreases) (are_stmts (place program locals own true) body) is in
        let turn : Flowing = flow_all own before body in
        let h = nothing_missing (unassigned before (reads guard ++ reads_of_clauses invariants ++ reads_of_measures decreases)) turn.missing h in
        let parts = parted before (reads guard ++ reads_of_clauses invariants) (reads_of_measures decreases) h.0 in
        let first = parted before (reads guard) (reads_of_clauses invariants) parts.0 in
        let loop : Loop = record { pos = at; guard = guard; invariants = invariants; decreases = decreases; body = body } in
        after_counts (λ (t : State). t ≡ s) (AreFlowing own in_loop (flow own before (While at guard invariants decreases body))) (check_all m s kinds.Entry invariants) _ (checks_count m before s assigned kinds.Entry invariants first.1) (λ t e.
        counts_more (AreLeft own before loop) (AreFlowing own in_loop (flow own before (While at guard invariants decreases body))) (m.turns loop t) (left_flows own in_loop (join before turn.breaks) [] (flow own before (While at guard invariants decreases body)).missing)
        (counts.turns own before loop t (record { locals = locals; body = is.3; declared = declared; guard = first.0; invariants = first.1; decreases = parts.1; turn = h.1 }) (subst (λ (u : State). AreAssigned before u) (sym e) assigned)))
    stmt_counts (Break at) locals in_loop before s is declared h assigned = (is, assigned)
    stmt_counts (Return at update) locals in_loop before s is declared h assigned =
        let h = nothing_missing (unassigned before (reads_of_update update)) (unassigned (assign_all before update) (results_at own at)) h in
        after_counts (AreAssigned (assign_all before update)) (AreFlowing own in_loop (flow own before (Return at update))) (execute_optional m s update) _
        (optional_counts locals in_loop before s assigned update (return_may_update locals in_loop update is) h.0) (λ t k. all_results (assign_all before update) t own at h.1 k)
    stmt_counts (Assert at condition) locals in_loop before s is declared h assigned =
        then_counts (AreFlowing own in_loop (flow own before (Assert at condition))) (evaluate m s condition) _ (evaluate_counts m before s assigned condition h)
        (λ v. choice (Counts (AreFlowing own in_loop (flow own before (Assert at condition)))) (truth_of v) (Gives (flows.Next s)) (Wrong at kinds.Assert) assigned tt)
    stmt_counts (Print at operands) locals in_loop before s is declared h assigned = next_counts own in_loop (flow own before (Print at operands)) _ (printed_counts m before operands s h assigned)

    pub stmts_count : (stmts : Stmts) (locals : List Ty) (in_loop : Bool) (before : Assigned) (s : State) → are_stmts (place program locals own in_loop) stmts ≡ true → AreDeclared (length locals) before
        → (flow_all own before stmts).missing ≡ [] → AreAssigned before s → Counts (AreFlowing own in_loop (flow_all own before stmts)) (execute_all m s stmts)
    stmts_count done locals in_loop before s is declared h assigned = assigned
    stmts_count (next stmt others) locals in_loop before s is declared h assigned =
        let is = both (is_stmt (place program locals own in_loop) stmt) (are_stmts (place program (locals_after locals stmt) own in_loop) others) is in
        let first : Flowing = flow own before stmt in
        let rest : Flowing = flow_all own first.behind others in
        let h = nothing_missing first.missing rest.missing h in
        let c = carries program own stmt locals in_loop before is.0 declared in
        then_flows in_loop first rest (flow_all own before (next stmt others)) refl refl (execute m s stmt) _ (stmt_counts stmt locals in_loop before s is.0 declared h.0 assigned)
        (λ t k. stmts_count others (locals_after locals stmt) in_loop first.behind t is.1 c.behind h.1 k)

    branches_count : (branches : Branches) (locals : List Ty) (in_loop : Bool) (before : Assigned) (s : State) → are_branches (place program locals own in_loop) branches ≡ true → AreDeclared (length locals) before
        → AreAssigned before s → (o : Outcome Flow) (otherwise : Flowing) → (otherwise.missing ≡ [] → Counts (AreFlowing own in_loop otherwise) o) → (flow_branches own before branches otherwise).missing ≡ []
        → Counts (AreFlowing own in_loop (flow_branches own before branches otherwise)) (execute_branches m s branches o)
    branches_count no_branch locals in_loop before s is declared assigned o otherwise k h = k h
    branches_count (branch at guard body rest) locals in_loop before s is declared assigned o otherwise k h =
        let is = three (is_expr program locals types.Bool guard) (are_stmts (place program locals own in_loop) body) (are_branches (place program (locals_after_all locals body) own in_loop) rest) is in
        let more : List Ty = locals_after_all locals body in
        let taken : Flowing = flow_all own before body in
        let others : Flowing = flow_branches own before rest otherwise in
        let all : Flowing = flow_branches own before (branch at guard body rest) otherwise in
        let h = nothing_missing (unassigned before (reads guard) ++ taken.missing) others.missing h in
        let first = nothing_missing (unassigned before (reads guard)) taken.missing h.0 in
        then_counts (AreFlowing own in_loop all) (evaluate m s guard) _ (evaluate_counts m before s assigned guard first.0) (λ v.
        choice (Counts (AreFlowing own in_loop all)) (truth_of v) (execute_all m s body) (execute_branches m s rest o)
        (counts_more (AreFlowing own in_loop taken) (AreFlowing own in_loop all) (execute_all m s body) (flow_left own in_loop taken others all refl refl) (stmts_count body locals in_loop before s is.1 declared first.1 assigned))
        (counts_more (AreFlowing own in_loop others) (AreFlowing own in_loop all) (execute_branches m s rest o) (flow_right own in_loop taken others all refl refl)
        (branches_count rest more in_loop before s is.2 (declared_more (length locals) (length more) before (all_grow locals body) declared) assigned o otherwise k h.1)))

  -- ---- turns

  behind_counts : (before : Assigned) (loop : Loop) (s : State) → IsLoopAssigned program own before loop → AreAssigned before s → (flow : Flow) → AreFlowing own true (flow_all own before loop.body) flow
      → Counts (AreLeft own before loop) (behind_turn m loop flow)
  behind_counts before loop s is assigned (flows.Next t) h =
      let c = all_carry program own loop.body is.locals true before is.body is.declared in
      let again : AreAssigned before t = turned_assigned (length is.locals) before (flow_all own before loop.body).behind s t is.declared assigned c.kept h in
      after_counts (λ (u : State). u ≡ t) (AreLeft own before loop) (check_all m t kinds.Turn loop.invariants) _ (checks_count m before t again kinds.Turn loop.invariants is.invariants) (λ u e.
      counts.turns own before loop u is (subst (λ (x : State). AreAssigned before x) (sym e) again))
  behind_counts before loop s is assigned (flows.Return t) h = h
  behind_counts before loop s is assigned (flows.Break t) h = joined_right before (flow_all own before loop.body).breaks t h.1

  pub turn_counts : (before : Assigned) (loop : Loop) (s : State) → IsLoopAssigned program own before loop → AreAssigned before s → Counts (AreLeft own before loop) (turn_by m loop s)
  turn_counts before loop s is assigned =
      after_counts (AreFlowing own true (flow_all own before loop.body)) (AreLeft own before loop) (execute_all m s loop.body) _ (stmts_count loop.body is.locals true before s is.body is.declared is.turn assigned)
      (λ flow h. behind_counts before loop s is assigned flow h)

pub guard_counts : (own : Method) (before : Assigned) (loop : Loop) (o : Outcome values.Value) (s : State) (turn : Outcome Flow) → AreAssigned before s → Counts IsValue o → Counts (AreLeft own before loop) turn
    → Counts (AreLeft own before loop) (turns_with o s turn)
guard_counts own before loop o s turn assigned h k =
    then_counts (AreLeft own before loop) o _ h (λ v. choice (Counts (AreLeft own before loop)) (truth_of v) turn (Gives (flows.Next s)) k (joined_left before (flow_all own before loop.body).breaks s assigned))
