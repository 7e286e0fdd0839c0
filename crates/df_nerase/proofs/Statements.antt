-- Statements without ghosts do the same.
use Rattle.std.proofs.Common.{◌≡◌, ℕ, Bool, true, false, ◌&&◌, List, [], ◌∷◌, map, length, Option, Some, None, refl, sym, ap, subst, ◌∙◌}
use Rattle.std.specs.Option.{option_map, option_map_or}
use Rattle.std.specs.List.{list_all, flat_map}
use Rattle.df_base.specs.declared.pos.Pos.{Pos}
use Rattle.df_lang.specs.declared.ty.Ty.{Ty}
use Rattle.df_lang.specs.declared.ty.Ty.TheVariants as types
use Rattle.df_lang.specs.Expr.{Expr}
use Rattle.df_lang.specs.Stmt.{Operand, Text, Value, Target, Call, Conversion, Source, Single, Results, Update, Variable, Stmt, Block, Var, Assign, CallOf, If, While, Break, Return, Assert, Print, Stmts, done, next, Branches, no_branch, branch}
use Rattle.df_lang.specs.Program.{Method, Program, method_at, types_of}
use Rattle.df_lang.specs.Newtype.{same_type}
use Rattle.df_lang.specs.Typing.{are_same_types, is_type, converts, is_expr, are_exprs, are_clauses, is_operand, is_call, are_results, is_source, source_types, is_target, is_update, may_update, are_numbered, variable_numbers, variable_types, locals_after, locals_after_all, locals_after_branches, is_measured, is_stmt, are_stmts, are_branches}
use Rattle.df_meaning.specs.declared.kind.Kind.TheVariants as kinds
use Rattle.df_meaning.specs.Value.{truth_of}
use Rattle.df_meaning.specs.Value as values
use Rattle.df_meaning.specs.Types.{has_type, have_types}
use Rattle.df_meaning.specs.Outcome.{Outcome, Gives, Wrong}
use Rattle.df_meaning.specs.State.{Store, State, with_local, without_local, printed}
use Rattle.df_meaning.specs.Meaning.{Meaning, Flow, Returned, Loop}
use Rattle.df_meaning.specs.Meaning as flows
use Rattle.df_meaning.specs.Evaluation.{converted, evaluate}
use Rattle.df_meaning.specs.Execution.{Values, Taken, goes, then_next, evaluate_all, check_all, convert_all, execute_call, execute_source, execute_sources, is_distinct, give_all, execute_update, execute_optional, declare_all, evaluate_operand, print_all, go_on, execute, execute_all, execute_branches}
use Rattle.df_meaning.specs.Typed.{AreTyped}
use Rattle.df_meaning.proofs.Cases.{IfGives, after_gives, after_any, choice, both, three, four}
use Rattle.df_meaning.proofs.Types.{same_type_equal}
use Rattle.df_meaning.proofs.Stating.{Within, FlowTyped, IsMeaningTyped, ValuesTyped, here, within_typed, all_typed, checked_same, call_typed, source_typed, declared_typed, store_typed, before_all, before_branches, return_updates, execute_typed}
use Rattle.df_nplain.specs.Stmt as plain_stmt
use Rattle.df_nplain.specs.Outcome as outcomes
use Rattle.df_nplain.specs.State as plain_state
use Rattle.df_nplain.specs.Meaning as plain_meaning
use Rattle.df_nplain.specs.Execution as plain
use Rattle.df_nerase.specs.Erasing.{method_number, erase_expr, erase_operand, erase_call, erase_source, erase_update, erase_variable, kept, erase_stmt, erase_stmts, erase_branches}
use Rattle.df_nerase.specs.Simulation.{Simulates, state_of, flow_of, values_of, returned_of, loop_of}
use Rattle.df_nerase.proofs.Outcomes.{as_is, bound, bound_given, passed, kept_by, chosen}
use Rattle.df_nerase.proofs.Expressions.{conversion_stays, value_alike, guard_known, shown_alike}

-- a loop that is well typed, with types among those of all
pub record IsLoopOf (p : Program) (all : List Ty) (loop : Loop) : Type 0 where
  pub locals : List Ty
  pub own : Method
  pub guard : is_expr p locals types.Bool loop.guard ≡ true
  pub body : are_stmts (record { program = p; method = own; locals = locals; in_loop = true }) loop.body ≡ true
  pub within : Within (locals_after_all locals loop.body) all

-- calls and turns over a meaning that is typed do the same without ghosts
pub record IsSimulated (m : Meaning) (n : plain_meaning.Meaning) : Type 0 where
  pub typed : IsMeaningTyped m
  pub call : (at : Pos) (callee : ℕ) (method : Method) (arguments : List values.Value) (store : Store) → method_at m.program callee ≡ Some method → have_types m.program (types_of method.parameters) arguments ≡ true
      → Simulates returned_of (m.call at callee arguments store) (n.call (method_number m.program callee) arguments store.text)
  pub turns : (all : List Ty) (loop : Loop) (s : State) → IsLoopOf m.program all loop → AreTyped m.program all s
      → Simulates flow_of (m.turns loop s) (n.turns (loop_of m.program loop) (state_of s))

-- ---- parts of statements that need no types

given_alike : (targets : List Target) (vs : List values.Value) (s : State) (earlier : List Taken)
    → Simulates state_of (give_all s earlier targets vs) (plain.give_all (state_of s) earlier (map (λ (t : Target). t.local) targets) vs)
given_alike [] vs s earlier = refl
given_alike (t ∷ ts) [] s earlier = refl
given_alike (t ∷ ts) (v ∷ vs) s earlier =
    chosen state_of (is_distinct earlier t.local v) _ _ _ _ tt (given_alike ts vs (with_local s t.local v) (record { local = t.local; value = v } ∷ earlier))

declared_alike : (p : Program) (variables : List Variable) (s : State) → state_of (declare_all s variables) ≡ plain.declare_all (state_of s) (map (erase_variable p) variables)
declared_alike p [] s = refl
declared_alike p (v ∷ vs) s = declared_alike p vs (without_local s v.local)

conversions_stay : (m : Meaning) (at : Pos) (cs : List Conversion) (tys : List Ty) (vs : List values.Value) → are_same_types (map (λ (c : Conversion). c.source) cs) tys ≡ true → have_types m.program tys vs ≡ true
    → IfGives (λ (ws : List values.Value). ws ≡ vs) (convert_all m at cs vs)
conversions_stay m at [] [] [] same h = refl
conversions_stay m at [] [] (v ∷ vs) same h = cc
conversions_stay m at [] (ty ∷ tys) vs same h = cc
conversions_stay m at (c ∷ cs) [] vs same h = cc
conversions_stay m at (c ∷ cs) (ty ∷ tys) [] same h = cc
conversions_stay m at (c ∷ cs) (ty ∷ tys) (v ∷ vs) same h =
    let same = both (same_type c.source ty) (are_same_types (map (λ (x : Conversion). x.source) cs) tys) same in
    let h = both (has_type m.program ty v) (have_types m.program tys vs) h in
    after_gives (λ (w : values.Value). w ≡ v) (λ (ws : List values.Value). ws ≡ v ∷ vs) (converted m.program c.source c.target at v) _
    (conversion_stays m.program c.source c.target at v (subst (λ (t : Ty). has_type m.program t v ≡ true) (sym (same_type_equal c.source ty same.0)) h.0)) (λ w e.
    after_gives (λ (ws : List values.Value). ws ≡ vs) (λ (ws : List values.Value). ws ≡ v ∷ vs) (convert_all m at cs vs) _ (conversions_stay m at cs tys vs same.1 h.1) (λ ws f.
    ap (λ (x : values.Value). x ∷ ws) e ∙ ap (λ (x : List values.Value). v ∷ x) f))

goes_alike : (m : Meaning) (all : List Ty) (flow : Flow) (f : State → Outcome Flow) (g : plain_state.State → outcomes.Outcome plain_meaning.Flow) → FlowTyped m all flow
    → ((t : State) → AreTyped m.program all t → Simulates flow_of (f t) (g (state_of t))) → Simulates flow_of (goes f flow) (plain.goes g (flow_of flow))
goes_alike m all (flows.Next t) f g typed k = k t typed
goes_alike m all (flows.Return t) f g typed k = refl
goes_alike m all (flows.Break t) f g typed k = refl

-- ---- statements

module _ (m : Meaning) (n : plain_meaning.Meaning) (h : IsSimulated m n) where
  all_alike : (locals : List Ty) (s : State) → AreTyped m.program locals s → (tys : List Ty) (es : List Expr) → are_exprs m.program locals tys es ≡ true
      → Simulates as_is (evaluate_all m s es) (plain.evaluate_all n (state_of s) (map (erase_expr m.program) es))
  all_alike locals s typed [] [] is = refl
  all_alike locals s typed [] (e ∷ es) is = cc
  all_alike locals s typed (ty ∷ tys) [] is = cc
  all_alike locals s typed (ty ∷ tys) (e ∷ es) is =
      let is = both (is_expr m.program locals ty e) (are_exprs m.program locals tys es) is in
      bound as_is as_is _ _ _ _ (value_alike m n locals s typed e ty is.0) (λ v. bound as_is as_is _ _ _ _ (all_alike locals s typed tys es is.1) (λ vs. refl))

  called_alike : (locals all : List Ty) (s : State) → Within locals all → AreTyped m.program all s → (call : Call) (method : Method) → method_at m.program call.callee ≡ Some method
      → are_exprs m.program locals (types_of method.parameters) call.arguments ≡ true → Simulates values_of (execute_call m s call) (plain.execute_call n (state_of s) (erase_call m.program call))
  called_alike locals all s within typed call method there is =
      let own = within_typed m.program locals all s within typed in
      bound_given (λ (vs : List values.Value). have_types m.program (types_of method.parameters) vs ≡ true) as_is values_of (evaluate_all m s call.arguments) _ _ _
      (all_typed m locals s own (types_of method.parameters) call.arguments is) (all_alike locals s own (types_of method.parameters) call.arguments is) (λ vs k.
      bound returned_of values_of (m.call call.pos call.callee vs s.store) _ _ _ (h.call call.pos call.callee method vs s.store there k) (λ r. refl))

  call_alike : (locals all : List Ty) (own : Method) (in_loop : Bool) (s : State) → Within locals all → AreTyped m.program all s → (call : Call) → is_call (here m locals own in_loop) call ≡ true
      → Simulates values_of (execute_call m s call) (plain.execute_call n (state_of s) (erase_call m.program call))
  call_alike locals all own in_loop s within typed call is = by_callee (method_at m.program call.callee) refl is
    where
      by_callee : (o : Option Method) → method_at m.program call.callee ≡ o → option_map_or (λ (method : Method). are_exprs m.program locals (types_of method.parameters) call.arguments) o false ≡ true
          → Simulates values_of (execute_call m s call) (plain.execute_call n (state_of s) (erase_call m.program call))
      by_callee None there is = cc
      by_callee (Some method) there is = called_alike locals all s within typed call method there is

  source_alike : (locals all : List Ty) (own : Method) (in_loop : Bool) (s : State) → Within locals all → AreTyped m.program all s → (source : Source) → is_source (here m locals own in_loop) source ≡ true
      → Simulates values_of (execute_source m s source) (plain.execute_source n (state_of s) (erase_source m.program source))
  source_alike locals all own in_loop s within typed (Single ty value) is =
      let is = both (is_type m.program ty) (is_expr m.program locals ty value) is in
      bound as_is values_of _ _ _ _ (value_alike m n locals s (within_typed m.program locals all s within typed) value ty is.1) (λ v. refl)
  source_alike locals all own in_loop s within typed (Results call cs) is =
      let is = both (is_call (here m locals own in_loop) call) (are_results m.program call cs) is in
      let are = both (option_map_or (λ (method : Method). are_same_types (map (λ (c : Conversion). c.source) cs) (types_of method.results)) (method_at m.program call.callee) false)
      (list_all (λ (c : Conversion). is_type m.program c.target && converts c.source c.target) cs) is.1 in
      by_callee (method_at m.program call.callee) refl is.0 are.0
    where
      by_callee : (o : Option Method) → method_at m.program call.callee ≡ o
          → option_map_or (λ (method : Method). are_exprs m.program locals (types_of method.parameters) call.arguments) o false ≡ true
          → option_map_or (λ (method : Method). are_same_types (map (λ (c : Conversion). c.source) cs) (types_of method.results)) o false ≡ true
          → Simulates values_of (execute_source m s (Results call cs)) (plain.execute_call n (state_of s) (erase_call m.program call))
      by_callee None there is_called same = cc
      by_callee (Some method) there is_called same =
          kept_by (λ (g : Values). (have_types m.program (types_of method.results) g.values ≡ true) × AreTyped m.program all g.state) values_of (execute_call m s call) _ _
          (call_typed m h.typed locals all own in_loop s within typed call (Some method) there is_called (map (λ (c : Conversion). c.source) cs) same)
          (called_alike locals all s within typed call method there is_called) (λ g k.
          after_gives (λ (ws : List values.Value). ws ≡ g.values) (λ (x : Values). x ≡ g) (convert_all m call.pos cs g.values) _ (conversions_stay m call.pos cs (types_of method.results) g.values same k.0) (λ ws e.
          ap (λ (vs : List values.Value). let x : Values = record { values = vs; state = g.state } in x) e))

  sources_alike : (locals all : List Ty) (own : Method) (in_loop : Bool) (s : State) → Within locals all → AreTyped m.program all s → (sources : List Source) → list_all (is_source (here m locals own in_loop)) sources ≡ true
      → Simulates values_of (execute_sources m s sources) (plain.execute_sources n (state_of s) (map (erase_source m.program) sources))
  sources_alike locals all own in_loop s within typed [] are = refl
  sources_alike locals all own in_loop s within typed (source ∷ others) are =
      let are = both (is_source (here m locals own in_loop) source) (list_all (is_source (here m locals own in_loop)) others) are in
      bound_given (ValuesTyped m all (source_types source)) values_of values_of (execute_source m s source) _ _ _ (source_typed m h.typed locals all own in_loop s within typed source are.0)
      (source_alike locals all own in_loop s within typed source are.0) (λ g k.
      bound values_of values_of _ _ _ _ (sources_alike locals all own in_loop g.state within k.1 others are.1) (λ more. refl))

  update_alike : (locals all : List Ty) (own : Method) (in_loop : Bool) (s : State) → Within locals all → AreTyped m.program all s → (update : Update) → is_update (here m locals own in_loop) update ≡ true
      → Simulates state_of (execute_update m s update) (plain.execute_update n (state_of s) (erase_update m.program update))
  update_alike locals all own in_loop s within typed update is =
      let is = three (list_all (is_target (here m locals own in_loop)) update.targets) (list_all (is_source (here m locals own in_loop)) update.sources)
      (are_same_types (flat_map source_types update.sources) (map (λ (t : Target). t.ty) update.targets)) is in
      bound values_of state_of _ _ _ _ (sources_alike locals all own in_loop s within typed update.sources is.1) (λ g. given_alike update.targets g.values g.state [])

  optional_alike : (locals all : List Ty) (own : Method) (in_loop : Bool) (s : State) → Within locals all → AreTyped m.program all s → (update : Option Update) → may_update (here m locals own in_loop) update ≡ true
      → Simulates state_of (execute_optional m s update) (plain.execute_optional n (state_of s) (option_map (erase_update m.program) update))
  optional_alike locals all own in_loop s within typed None is = refl
  optional_alike locals all own in_loop s within typed (Some update) is = update_alike locals all own in_loop s within typed update is

  operand_alike : (locals : List Ty) (own : Method) (in_loop : Bool) (s : State) → AreTyped m.program locals s → (operand : Operand) → is_operand (here m locals own in_loop) operand ≡ true
      → Simulates as_is (evaluate_operand m s operand) (plain.evaluate_operand n (state_of s) (erase_operand m.program operand))
  operand_alike locals own in_loop s typed (Text characters) is = refl
  operand_alike locals own in_loop s typed (Value ty value) is = shown_alike m n locals s typed value ty (both (is_type m.program ty) (is_expr m.program locals ty value) is).1

  prints_alike : (locals : List Ty) (own : Method) (in_loop : Bool) (operands : List Operand) (s : State) → AreTyped m.program locals s → list_all (is_operand (here m locals own in_loop)) operands ≡ true
      → Simulates state_of (print_all m s operands) (plain.print_all n (state_of s) (map (erase_operand m.program) operands))
  prints_alike locals own in_loop [] s typed are = refl
  prints_alike locals own in_loop (operand ∷ others) s typed are =
      let are = both (is_operand (here m locals own in_loop) operand) (list_all (is_operand (here m locals own in_loop)) others) are in
      bound as_is state_of _ _ _ _ (operand_alike locals own in_loop s typed operand are.0) (λ v. prints_alike locals own in_loop others (printed s v) (store_typed m.program locals s _ typed) are.1)

  next_alike : (o : Outcome State) (p : outcomes.Outcome plain_state.State) → Simulates state_of o p → Simulates flow_of (go_on o) (plain.go_on p)
  next_alike o p k = bound state_of flow_of o p _ _ k (λ t. refl)

  -- a statement that is left does the same, and one that is dropped changes nothing
  abbrev IsAlike : State → Stmt → Option plain_stmt.Stmt → Type 0
  IsAlike s stmt None = IfGives (λ (flow : Flow). flow ≡ flows.Next s) (execute m s stmt)
  IsAlike s stmt (Some left) = Simulates flow_of (execute m s stmt) (plain.execute n (state_of s) left)

  kept_alike : (all : List Ty) (s : State) (stmt : Stmt) (go : State → Outcome Flow) (o : Option plain_stmt.Stmt) (others : plain_stmt.Stmts) → AreTyped m.program all s → IsAlike s stmt o → IfGives (FlowTyped m all) (execute m s stmt)
      → ((t : State) → AreTyped m.program all t → Simulates flow_of (go t) (plain.execute_all n (state_of t) others))
      → Simulates flow_of (then_next (execute m s stmt) go) (plain.execute_all n (state_of s) (kept o others))
  kept_alike all s stmt go None others typed alike is k = passed (flows.Next s) flow_of (execute m s stmt) (goes go) _ alike (k s typed)
  kept_alike all s stmt go (Some left) others typed alike is k =
      bound_given (FlowTyped m all) flow_of flow_of (execute m s stmt) _ _ _ is alike (λ flow i. goes_alike m all flow go _ i k)

  mutual
    pub stmt_alike : (stmt : Stmt) (locals all : List Ty) (own : Method) (in_loop : Bool) (s : State) → Within (locals_after locals stmt) all → AreTyped m.program all s → is_stmt (here m locals own in_loop) stmt ≡ true
        → IsAlike s stmt (erase_stmt m.program stmt)
    stmt_alike (Block at body) locals all own in_loop s within typed is = stmts_alike body locals all own in_loop s within typed is
    stmt_alike (Var at variables update) locals all own in_loop s within typed is =
        let is = three (are_numbered (length locals) (variable_numbers variables)) (list_all (is_type m.program) (variable_types variables)) (may_update (here m (locals_after locals (Var at variables update)) own in_loop) update) is in
        next_alike _ _ (subst (λ (x : plain_state.State). Simulates state_of (execute_optional m (declare_all s variables) update) (plain.execute_optional n x (option_map (erase_update m.program) update))) (declared_alike m.program variables s)
        (optional_alike (locals_after locals (Var at variables update)) all own in_loop (declare_all s variables) within (declared_typed m.program all variables s typed) update is.2))
    stmt_alike (Assign at update) locals all own in_loop s within typed is = next_alike _ _ (update_alike locals all own in_loop s within typed update is)
    stmt_alike (CallOf call) locals all own in_loop s within typed is = bound values_of flow_of _ _ _ _ (call_alike locals all own in_loop s within typed call is) (λ g. refl)
    stmt_alike (If branches otherwise) locals all own in_loop s within typed is =
        let is = both (are_branches (here m locals own in_loop) branches) (are_stmts (here m (locals_after_branches locals branches) own in_loop) otherwise) is in
        branches_alike branches locals all own in_loop s (before_all (locals_after_branches locals branches) all otherwise within) typed is.0 _ _
        (stmts_alike otherwise (locals_after_branches locals branches) all own in_loop s within typed is.1)
    stmt_alike (While at guard invariants decreases body) locals all own in_loop s within typed is =
        let is = four (is_expr m.program locals types.Bool guard) (are_clauses m.program locals invariants) (is_measured (here m locals own in_loop) guard decreases) (are_stmts (here m locals own true) body) is in
        passed s flow_of (check_all m s kinds.Entry invariants) _ _ (checked_same m s kinds.Entry invariants)
        (h.turns all (record { pos = at; guard = guard; invariants = invariants; decreases = decreases; body = body }) s (record { locals = locals; own = own; guard = is.0; body = is.3; within = within }) typed)
    stmt_alike (Break at) locals all own in_loop s within typed is = refl
    stmt_alike (Return at update) locals all own in_loop s within typed is =
        bound state_of flow_of _ _ _ _ (optional_alike locals all own in_loop s within typed update (return_updates m locals own in_loop update is)) (λ t. refl)
    stmt_alike (Assert at condition) locals all own in_loop s within typed is =
        after_any (λ (flow : Flow). flow ≡ flows.Next s) (evaluate m s condition) _ (λ v. choice (IfGives (λ (flow : Flow). flow ≡ flows.Next s)) (truth_of v) (Gives (flows.Next s)) (Wrong at kinds.Assert) refl tt)
    stmt_alike (Print at operands) locals all own in_loop s within typed is = next_alike _ _ (prints_alike locals own in_loop operands s (within_typed m.program locals all s within typed) is)

    pub stmts_alike : (stmts : Stmts) (locals all : List Ty) (own : Method) (in_loop : Bool) (s : State) → Within (locals_after_all locals stmts) all → AreTyped m.program all s → are_stmts (here m locals own in_loop) stmts ≡ true
        → Simulates flow_of (execute_all m s stmts) (plain.execute_all n (state_of s) (erase_stmts m.program stmts))
    stmts_alike done locals all own in_loop s within typed is = refl
    stmts_alike (next stmt others) locals all own in_loop s within typed is =
        let is = both (is_stmt (here m locals own in_loop) stmt) (are_stmts (here m (locals_after locals stmt) own in_loop) others) is in
        let first = before_all (locals_after locals stmt) all others within in
        kept_alike all s stmt _ (erase_stmt m.program stmt) (erase_stmts m.program others) typed (stmt_alike stmt locals all own in_loop s first typed is.0)
        (execute_typed m h.typed stmt locals all own in_loop s first typed is.0) (λ t k. stmts_alike others (locals_after locals stmt) all own in_loop t within k is.1)

    branches_alike : (branches : Branches) (locals all : List Ty) (own : Method) (in_loop : Bool) (s : State) → Within (locals_after_branches locals branches) all → AreTyped m.program all s
        → are_branches (here m locals own in_loop) branches ≡ true → (o : Outcome Flow) (p : outcomes.Outcome plain_meaning.Flow) → Simulates flow_of o p
        → Simulates flow_of (execute_branches m s branches o) (plain.execute_branches n (state_of s) (erase_branches m.program branches) p)
    branches_alike no_branch locals all own in_loop s within typed is o p k = k
    branches_alike (branch at guard body rest) locals all own in_loop s within typed is o p k =
        let is = three (is_expr m.program locals types.Bool guard) (are_stmts (here m locals own in_loop) body) (are_branches (here m (locals_after_all locals body) own in_loop) rest) is in
        let first = before_branches (locals_after_all locals body) all rest within in
        guard_known m n locals s (within_typed m.program locals all s (before_all locals all body first) typed) flow_of guard _ _ is.0 (λ v.
        chosen flow_of (truth_of v) _ _ _ _ (stmts_alike body locals all own in_loop s first typed is.1)
        (branches_alike rest (locals_after_all locals body) all own in_loop s within typed is.2 o p k))
