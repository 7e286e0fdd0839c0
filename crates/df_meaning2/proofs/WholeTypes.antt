-- Whole and modular runs keep types.
use Rattle.std.proofs.Common.{◌≡◌, ℕ, zero, suc, nat_lt, Bool, true, false, not, ◌&&◌, if◌then◌else◌, List, [], ◌∷◌, ◌++◌, map, slice_get, Option, None, Some, refl, sym, ap, ◌∙◌, subst, arith}
use Rattle.std.specs.Option.{option_map, option_map_or}
use Rattle.std.specs.List.{AllByRecursion, list_all}
use Rattle.std.proofs.lemmas.Bool.{and_parts, and_from}
use Rattle.df_base.specs.declared.pos.Pos.{Pos}
use Rattle.df_types.specs.declared.kind.Kind.TheVariants as kinds
use Rattle.df_types.specs.Ty.{Ty, Boolean, AnyObject, Tys, same_type, instances_of}
use Rattle.df_types.specs.Stmt.{CallOf, Stmt, Declare, Assign, Choose, Branch, While, Break, Return, Check, Prove, Print, Publish, Ghost}
use Rattle.df_types.specs.Program.{Program, Variable, Param, Head, Function, Method, method_at, types_of, result_type}
use Rattle.df_types.specs.Measures.{frame_objects, function_measure, method_measure}
use Rattle.df_types.specs.ExprTyping.{is_expr}
use Rattle.df_types.specs.StmtTyping.{type_of_local, scope_with, Setting, same_mark, is_stmt, are_stmts, are_demands, may_be_typed}
use Rattle.df_types.specs.Sites.{is_in}
use Rattle.df_types.specs.Ghosts.{are_marked, watch_of}
use Rattle.df_types.specs.Typing.{numbers_of, is_variable, is_param, are_variables, entry_scope, exit_scope, is_head, is_function, has_lawful_frame, are_declared_once, is_method, is_program}
use Rattle.df_types.proofs.SameTypes.{same_type_equal}
use Rattle.df_meaning2.specs.Value.{Value, truth_of, is_among, items_of}
use Rattle.df_meaning2.specs.Heap.{Object, Heap, find, unused_from, object_count, lies_in_readable, lies_in_changeable, may_change, is_new}
use Rattle.df_meaning2.specs.Outcome.{Outcome, Gives, Wrong, TooDeep, NoChoice, Dismissed, after, Each}
use Rattle.df_meaning2.specs.Types.{is_of}
use Rattle.df_meaning2.specs.State.{State, with_local, with_bound, with_heap, with_store, reading_inside, reading_all, entering}
use Rattle.df_meaning2.specs.Meaning.{Meaning, there, evaluate, check_all, as_kind, asked_at, assume_all, Measured, measured}
use Rattle.df_meaning2.specs.Execution.{Flow, Next, Returned, Broken, Assigned, Loop, Actions, conditions, execute_all, loop_of}
use Rattle.df_meaning2.specs.Whole.{entered, apply_function, results_in, end_of, run_body, run_method, call_by, behind_turn, turn_by, pick_next, prove_each, prove_all, whole, call_at, turn_at, doing}
use Rattle.df_meaning2.specs.Modular.{Oracle, Running, if_below, demanding, or_dismissed, dismissing, is_never_below, check_decrease, apply_head, handed, changed_heap, leaving, is_made, call_head, havocked, behind_once, modular_loop, numbered, modular_pick, taking, modular_prove, modular_new, modular}
use Rattle.df_meaning2.specs.Typed.{IsOf, AreOf, Agrees, CallsAreTyped, IsTyped, FlowIsTyped, IsWithin, KeepsLocals, AreGiven, IsPicked, IsLocalOf, LoopIsTyped, ActsTyped}
use Rattle.df_meaning2.proofs.RowTypes.{first_is, others_are}
use Rattle.df_meaning2.proofs.ExprTypes.{after_each, any_after, choice_each, typed}
use Rattle.df_meaning2.proofs.StmtTypes.{kept_self, kept_on, checks_keep, assumed_keeps, more_are, some_typed, agrees_of, stmts_typed, stmts_assigned, here}
use Rattle.df_meaning2.proofs.Declared.{function_is, method_is}

-- ---- parameters and results

module _ (p : Program) (w : Tys) (head : Head) where
  param_at : (x : Param) (o : Option Variable) → option_map_or (is_variable x) o false ≡ true → option_map (λ (y : Variable). y.ty) o ≡ Some x.ty
  param_at x None h = cc
  param_at x (Some y) h = ap Some (sym (same_type_equal x.ty y.ty (and_parts (same_type x.ty y.ty) (same_mark x.is_ghost y.is_ghost) h).0))

  param_type : (x : Param) → is_param head x ≡ true → type_of_local head x.local ≡ Some x.ty
  param_type x h = param_at x (slice_get head.locals x.local) h

  given_typed : (bound : List Ty) (params : List Param) (vs : List Value) (s : State) → list_all (is_param head) params ≡ true → AreOf p w (types_of params) vs → IsTyped p w head bound s → IsTyped p w head bound (leaving params vs s)
  given_typed bound [] vs s h k l = record { types_are = l.types_are; locals = l.locals; bound_are = l.bound_are }
  given_typed bound (x ∷ xs) [] s h k l = record { types_are = l.types_are; locals = l.locals; bound_are = l.bound_are }
  given_typed bound (x ∷ xs) (v ∷ vs) s h k l =
      let are = and_parts (is_param head x) (list_all (is_param head) xs) h in
      let more = given_typed bound xs vs (with_local s x.local (Some v)) are.1 (others_are p w x.ty (types_of xs) (v ∷ vs) k) (some_typed p w head bound s x.local x.ty v (param_type x are.0) (first_is p w x.ty (types_of xs) (v ∷ vs) k) l) in
      record { types_are = more.types_are; locals = more.locals; bound_are = more.bound_are }

  none_typed : (n : ℕ) (t : Ty) (v : Value) → type_of_local head n ≡ Some t → None ≡ Some v → IsOf p w t v
  none_typed n t v e f = cc

  entering_typed : (params : List Param) (vs : List Value) (s : State) → list_all (is_param head) params ≡ true → AreOf p w (types_of params) vs → IsTyped p w head [] (entering w params vs s)
  entering_typed params vs s h k =
      let more = given_typed [] params vs (entering w [] vs s) h k (record { types_are = refl; locals = none_typed; bound_are = record { by = refl } }) in
      record { types_are = refl; locals = more.locals; bound_are = record { by = refl } }

  there_each : (P : Value → Type 0) (o : Option Value) → ((v : Value) → o ≡ Some v → P v) → Each P (there o)
  there_each P None h = tt
  there_each P (Some v) h = h v refl

  results_typed : (bound : List Ty) (results : List Param) (s : State) → list_all (is_param head) results ≡ true → IsTyped p w head bound s → Each (AreOf p w (types_of results)) (results_in results s.locals)
  results_typed bound [] s h k = record { by = refl }
  results_typed bound (x ∷ xs) s h k =
      let are = and_parts (is_param head x) (list_all (is_param head) xs) h in
      after_each (IsOf p w x.ty) (AreOf p w (types_of (x ∷ xs))) (there (s.locals x.local)) _ (there_each (IsOf p w x.ty) (s.locals x.local) (λ v e. k.locals x.local x.ty v (param_type x are.0) e)) (λ v l.
      after_each (AreOf p w (types_of xs)) (AreOf p w (types_of (x ∷ xs))) (results_in xs s.locals) _ (results_typed bound xs s are.1 k) (λ vs r. more_are p w x.ty (types_of xs) v vs l r))

  scope_within : (ns : List ℕ) → IsWithin head (scope_with head ns)
  scope_within ns = record { locals = λ n t e. by_test n (is_in n ns) t e }
    where
      by_test : (n : ℕ) (b : Bool) (t : Ty) → (if b then type_of_local head n else None) ≡ Some t → type_of_local head n ≡ Some t
      by_test n true t e = e
      by_test n false t e = cc

params_of_both : (head : Head) (xs ys : List Param) → list_all (is_param head) (xs ++ ys) ≡ true → (list_all (is_param head) xs ≡ true) × (list_all (is_param head) ys ≡ true)
params_of_both head [] ys h = (refl, h)
params_of_both head (x ∷ xs) ys h =
    let are = and_parts (is_param head x) (list_all (is_param head) (xs ++ ys)) h in
    let more = params_of_both head xs ys are.1 in
    (and_from (is_param head x) (list_all (is_param head) xs) are.0 more.0, more.1)

params_are : (p : Program) (head : Head) → is_head p head ≡ true → list_all (is_param head) (head.parameters ++ head.results) ≡ true
params_are p head h = (and_parts (list_all (is_param head) (head.parameters ++ head.results)) _ (and_parts (are_variables p head.type_parameters head.locals) _ h).1).0

-- ---- functions

each_or_dismissed : {A : Type 0} (Q : A → Type 0) (o : Outcome A) → Each Q o → Each Q (or_dismissed o)
each_or_dismissed Q (Gives a) h = h
each_or_dismissed Q (Wrong at kind) h = tt
each_or_dismissed Q TooDeep h = tt
each_or_dismissed Q NoChoice h = tt
each_or_dismissed Q Dismissed h = tt

entered_each : (Q : Value → Type 0) (m : Meaning) (at : Pos) (types : Tys) (head : Head) (vs : List Value) (s : State) (go : State → Outcome Value)
    → ((frame : Value) → Each Q (go (reading_inside (entering types head.parameters vs s) frame))) → Each Q (entered m at types head vs s go)
entered_each Q m at types head vs s go h =
    any_after Q (check_all m (entering types head.parameters vs s) (map (asked_at at kinds.Requires) head.preconditions)) _ (λ t.
    any_after Q (evaluate m (entering types head.parameters vs s) (frame_objects head)) _ (λ frame.
    any_after Q (check_all m (reading_inside (entering types head.parameters vs s) frame) (map (asked_at at kinds.Requires) head.preconditions)) _ (λ u.
    any_after Q (evaluate m (reading_inside (entering types head.parameters vs s) frame) (frame_objects head)) _ (λ again.
    choice_each Q (lies_in_readable s.readable frame) _ _ (h frame) tt))))

module _ (p : Program) (is : is_program p ≡ true) where
  value_typed : (m : Meaning) → CallsAreTyped m → m.program ≡ p → (f : Function) (types : Tys) (vs : List Value) (s : State) (frame : Value) → is_function p f ≡ true → AreOf p types (types_of f.head.parameters) vs
      → Each (IsOf p types (result_type f.head.results)) (evaluate m (reading_inside (entering types f.head.parameters vs s) frame) f.value)
  value_typed m calls same f types vs s frame h k =
      let a = and_parts (is_head p f.head) _ h in
      let b = and_parts _ _ a.1 in
      let c = and_parts _ (is_expr p (entry_scope f.head) (result_type f.head.results) f.value) b.1 in
      let params = params_of_both f.head f.head.parameters f.head.results (params_are p f.head a.0) in
      let start = entering_typed p types f.head f.head.parameters vs s params.0 k in
      let begun = agrees_of p types f.head (entry_scope f.head) (reading_inside (entering types f.head.parameters vs s) frame) (scope_within p types f.head (numbers_of f.head.parameters))
      (record { types_are = refl; locals = start.locals; bound_are = record { by = refl } }) in
      subst (λ x. Each (IsOf x types (result_type f.head.results)) (evaluate m (reading_inside (entering types f.head.parameters vs s) frame) f.value)) same
      (typed m calls f.value (entry_scope f.head) (reading_inside (entering types f.head.parameters vs s) frame) (result_type f.head.results)
      (subst (λ x. Agrees x (entry_scope f.head) (reading_inside (entering types f.head.parameters vs s) frame)) (sym same) begun)
      (subst (λ x. is_expr x (entry_scope f.head) (result_type f.head.results) f.value ≡ true) (sym same) c.1))

  pub functions_typed : (n : ℕ) → CallsAreTyped (whole p n)
  functions_typed zero at callee f types vs s e k = tt
  functions_typed (suc n) at callee f types vs s e k =
      subst (λ o. Each (IsOf p types (result_type f.head.results)) (option_map_or (apply_function (whole p n) at types vs s) o Dismissed)) (sym e)
      (entered_each (IsOf p types (result_type f.head.results)) (whole p n) at types f.head vs s (λ t. evaluate (whole p n) t f.value)
      (λ frame. value_typed (whole p n) (functions_typed n) refl f types vs s frame (function_is p is callee f e) k))

  -- ---- methods

  end_typed : (types : Tys) (head : Head) (flow : Flow) → FlowIsTyped p types head [] flow → Each (IsTyped p types head []) (end_of flow)
  end_typed types head (Next t) k = k.state
  end_typed types head (Returned t) k = k.state
  end_typed types head (Broken t) k = tt

  module _ (m : Actions) (acts : ActsTyped m) (same : m.meaning.program ≡ p) where
    body_typed : (x : Method) (types : Tys) (s : State) → is_method p x ≡ true → IsTyped p types x.head [] s → Each (IsTyped p types x.head []) (run_body m x s)
    body_typed x types s h k =
        let a = and_parts (is_head p x.head) _ h in
        let b = and_parts (has_lawful_frame x.head) _ a.1 in
        let c = and_parts (are_declared_once x.head x.body) _ b.1 in
        let d = and_parts (are_stmts (here p types x.head (exit_scope x.head) false) x.body) (are_marked (watch_of p x.head) x.body) c.1 in
        after_each (FlowIsTyped p types x.head []) (IsTyped p types x.head []) (execute_all m s x.body) _
        (subst (λ y. Each (FlowIsTyped y types x.head []) (execute_all m s x.body)) same
        (stmts_typed m acts types x.head x.body (exit_scope x.head) false s (scope_within p types x.head (numbers_of (x.head.parameters ++ x.head.results)))
        (subst (λ y. IsTyped y types x.head [] s) (sym same) k)
        (subst (λ y. are_stmts (here y types x.head (exit_scope x.head) false) x.body ≡ true) (sym same) d.0))) (λ flow l.
        after_each (IsTyped p types x.head []) (IsTyped p types x.head []) (end_of flow) _ (end_typed types x.head flow l) (λ t r.
        checks_keep (IsTyped p types x.head []) m.meaning t (map (as_kind kinds.Ensures) x.head.postconditions) r))

    pub method_typed : (at : Pos) (types : Tys) (vs : List Value) (s : State) (x : Method) → is_method p x ≡ true → AreOf p types (types_of x.head.parameters) vs
        → Each (AreGiven p types (types_of x.head.results) s) (run_method m at types vs s x)
    method_typed at types vs s x h k =
        let params = params_of_both x.head x.head.parameters x.head.results (params_are p x.head (and_parts (is_head p x.head) _ h).0) in
        let start = entering_typed p types x.head x.head.parameters vs s params.0 k in
        any_after (AreGiven p types (types_of x.head.results) s) (check_all m.meaning (entering types x.head.parameters vs s) (map (asked_at at kinds.Requires) x.head.preconditions)) _ (λ t.
        any_after (AreGiven p types (types_of x.head.results) s) (evaluate m.meaning (entering types x.head.parameters vs s) (frame_objects x.head)) _ (λ frame.
        choice_each (AreGiven p types (types_of x.head.results) s) (lies_in_changeable s.changeable s.entry frame) _ _
        (after_each (IsTyped p types x.head []) (AreGiven p types (types_of x.head.results) s) (run_body m x (record (entering types x.head.parameters vs s) { changeable = frame })) _
        (body_typed x types (record (entering types x.head.parameters vs s) { changeable = frame }) h (record { types_are = refl; locals = start.locals; bound_are = record { by = refl } })) (λ u l.
        after_each (AreOf p types (types_of x.head.results)) (AreGiven p types (types_of x.head.results) s) (results_in x.head.results u.locals) _ (results_typed p types x.head [] x.head.results u params.1 l) (λ ws r.
        record { values = r; state = record { types = refl; locals = refl; bound = refl } }))) tt))

    called_typed : (call : CallOf) (x : Method) (vs : List Value) (s : State) → method_at p call.callee ≡ Some x → AreOf p (instances_of s.types call.types) (types_of x.head.parameters) vs
        → Each (AreGiven p (instances_of s.types call.types) (types_of x.head.results) s) (call_by m call vs s)
    called_typed call x vs s e k =
        subst (λ o. Each (AreGiven p (instances_of s.types call.types) (types_of x.head.results) s) (option_map_or (run_method m call.pos (instances_of s.types call.types) vs s) o Dismissed))
        (sym (ap (λ y. method_at y call.callee) same ∙ e)) (method_typed call.pos (instances_of s.types call.types) vs s x (method_is p is call.callee x e) k)

    -- ---- loops

    turn_typed : (types : Tys) (g : Setting) (text : Stmt) (s : State) → g.program ≡ p → IsWithin g.head g.scope → is_stmt g text ≡ true → IsTyped p types g.head g.scope.bound s → Each (FlowIsTyped p types g.head g.scope.bound) (turn_by m text s)
    turn_typed types g (Declare locals) s e k h i = tt
    turn_typed types g (Assign update) s e k h i = tt
    turn_typed types g (Choose site at targets ranges condition) s e k h i = tt
    turn_typed types g (Branch branches otherwise) s e k h i = tt
    turn_typed types g (While site at guard invariants decreases body) s e k h i = subst (λ y. Each (FlowIsTyped y types g.head g.scope.bound) (turn_by m (While site at guard invariants decreases body) s)) same (turn (subst (λ y. IsTyped y types g.head g.scope.bound s) (sym same) i))
      where
        own : is_stmt (record { program = m.meaning.program; head = g.head; scope = g.scope; in_loop = g.in_loop }) (While site at guard invariants decreases body) ≡ true
        own = subst (λ (y : Program). is_stmt (record { program = y; head = g.head; scope = g.scope; in_loop = g.in_loop }) (While site at guard invariants decreases body) ≡ true) (e ∙ sym same) h

        body_is : are_stmts (here m.meaning.program types g.head g.scope true) body ≡ true
        body_is =
            let a = and_parts (is_expr m.meaning.program g.scope Boolean guard) _ own in
            let b = and_parts (are_demands m.meaning.program g.scope invariants) _ a.1 in
            (and_parts (may_be_typed m.meaning.program g.scope decreases) (are_stmts (here m.meaning.program types g.head g.scope true) body) b.1).1

        behind : (flow : Flow) → FlowIsTyped m.meaning.program types g.head g.scope.bound flow
            → Each (FlowIsTyped m.meaning.program types g.head g.scope.bound) (behind_turn m (While site at guard invariants decreases body) (loop_of m site at guard invariants decreases body) flow)
        behind (Next t) j = after_each (IsTyped m.meaning.program types g.head g.scope.bound) (FlowIsTyped m.meaning.program types g.head g.scope.bound) (check_all m.meaning t (map (as_kind kinds.Turn) invariants)) _
            (checks_keep (IsTyped m.meaning.program types g.head g.scope.bound) m.meaning t (map (as_kind kinds.Turn) invariants) j.state) (λ u l.
            acts.loop types (record { program = m.meaning.program; head = g.head; scope = g.scope; in_loop = g.in_loop }) (While site at guard invariants decreases body) (loop_of m site at guard invariants decreases body) u refl k own (record {
              assigned = stmts_assigned m.meaning.program types g.head body g.scope true k body_is;
              check = λ kind x r. checks_keep (IsTyped m.meaning.program types g.head g.scope.bound) m.meaning x (map (as_kind kind) invariants) r;
              assume = λ x r. assumed_keeps (IsTyped m.meaning.program types g.head g.scope.bound) m.meaning x (conditions invariants) r;
              body = λ x r. stmts_typed m acts types g.head body g.scope true x k r body_is;
            }) l)
        behind (Returned t) j = record { state = j.state }
        behind (Broken t) j = record { state = j.state }

        turn : IsTyped m.meaning.program types g.head g.scope.bound s → Each (FlowIsTyped m.meaning.program types g.head g.scope.bound) (turn_by m (While site at guard invariants decreases body) s)
        turn j = after_each (FlowIsTyped m.meaning.program types g.head g.scope.bound) (FlowIsTyped m.meaning.program types g.head g.scope.bound) (execute_all m s body) _ (stmts_typed m acts types g.head body g.scope true s k j body_is) behind
    turn_typed types g (Break at) s e k h i = tt
    turn_typed types g (Return at update) s e k h i = tt
    turn_typed types g (Check demand) s e k h i = tt
    turn_typed types g (Prove site at aim body) s e k h i = tt
    turn_typed types g (Print at operands) s e k h i = tt
    turn_typed types g (Publish site at class fields this) s e k h i = tt
    turn_typed types g (Ghost body) s e k h i = tt

-- ---- choices, new objects, proofs

picked : (fits : List Value → Outcome Bool) (choices : List (List Value)) (s : State) → Each (IsPicked fits s) (pick_next fits choices s)
picked fits [] s = tt
picked fits (vs ∷ rest) s = by_fit (fits vs) refl
  where
    by_fit : (o : Outcome Bool) → fits vs ≡ o → Each (IsPicked fits s) (after o (λ b. if b then Gives (record { values = vs; state = record s { store = record s.store { choices = rest } } }) else NoChoice))
    by_fit (Gives true) e = record { fitting = e; state = record { types = refl; locals = refl; bound = refl } }
    by_fit (Gives false) e = tt
    by_fit (Wrong at kind) e = tt
    by_fit TooDeep e = tt
    by_fit NoChoice e = tt
    by_fit Dismissed e = tt

suc_positive : (r : ℕ) → nat_lt 0 (suc r) ≡ true
suc_positive r = grind arith

unused_positive : (heap : Heap) (n r : ℕ) → nat_lt 0 r ≡ true → nat_lt 0 (unused_from heap n r) ≡ true
unused_positive heap zero r h = h
unused_positive heap (suc n) r h = by_found (find heap r) (unused_positive heap n (suc r) (suc_positive r))
  where
    by_found : (o : Option Object) → nat_lt 0 (unused_from heap n (suc r)) ≡ true → nat_lt 0 (option_map_or (λ object. unused_from heap n (suc r)) o r) ≡ true
    by_found None k = h
    by_found (Some object) k = k

each_proof_keeps : (go : State → Outcome State) → ((t : State) → Each (KeepsLocals t) (go t)) → (s : State) (vs : List Value) → Each (KeepsLocals s) (prove_each go s vs)
each_proof_keeps go e s [] = kept_self s
each_proof_keeps go e s (v ∷ vs) = any_after (KeepsLocals s) (go (with_bound s v)) _ (λ t.
    kept_on s (with_store s t.store) _ (record { types = refl; locals = refl; bound = refl }) (each_proof_keeps go e (with_store s t.store) vs))

proofs_keep : (ranges : List (State → Outcome (List Value))) (go : State → Outcome State) → ((t : State) → Each (KeepsLocals t) (go t)) → (s : State) → Each (KeepsLocals s) (prove_all ranges go s)
proofs_keep [] go e s = e s
proofs_keep (range ∷ ranges) go e s = any_after (KeepsLocals s) (range s) _ (λ vs. each_proof_keeps (prove_all ranges go) (proofs_keep ranges go e) s vs)

-- ---- whole runs

module _ (p : Program) (is : is_program p ≡ true) where
  acting_typed : (n : ℕ)
      → ((call : CallOf) (x : Method) (vs : List Value) (s : State) → method_at p call.callee ≡ Some x → AreOf p (instances_of s.types call.types) (types_of x.head.parameters) vs
      → Each (AreGiven p (instances_of s.types call.types) (types_of x.head.results) s) (call_at p n call vs s))
      → ((types : Tys) (g : Setting) (text : Stmt) (s : State) → g.program ≡ p → IsWithin g.head g.scope → is_stmt g text ≡ true → IsTyped p types g.head g.scope.bound s → Each (FlowIsTyped p types g.head g.scope.bound) (turn_at p n text s))
      → ActsTyped (doing p n)
  acting_typed n calls turns = record {
    functions = functions_typed p is n;
    call = calls;
    loop = λ types g text l s e k h parts i. any_after (FlowIsTyped p types g.head g.scope.bound) (l.guard s) _ (λ v. choice_each (FlowIsTyped p types g.head g.scope.bound) (truth_of v) _ _ (turns types g text s e k h i) (record { state = i }));
    pick = λ site count fits s. picked fits s.store.choices s;
    new = λ site s. record { by = unused_positive s.store.heap (object_count s.store.heap) 1 refl };
    prove = λ site ranges go known e k s. proofs_keep ranges go e s;
  }

  mutual
    calls_typed : (n : ℕ) (call : CallOf) (x : Method) (vs : List Value) (s : State) → method_at p call.callee ≡ Some x → AreOf p (instances_of s.types call.types) (types_of x.head.parameters) vs
        → Each (AreGiven p (instances_of s.types call.types) (types_of x.head.results) s) (call_at p n call vs s)
    calls_typed zero call x vs s e k = tt
    calls_typed (suc n) call x vs s e k = called_typed p is (doing p n) (acting_typed n (calls_typed n) (turns_typed n)) refl call x vs s e k

    turns_typed : (n : ℕ) (types : Tys) (g : Setting) (text : Stmt) (s : State) → g.program ≡ p → IsWithin g.head g.scope → is_stmt g text ≡ true → IsTyped p types g.head g.scope.bound s
        → Each (FlowIsTyped p types g.head g.scope.bound) (turn_at p n text s)
    turns_typed zero types g text s e k h i = tt
    turns_typed (suc n) types g text s e k h i = turn_typed p is (doing p n) (acting_typed n (calls_typed n) (turns_typed n)) refl types g text s e k h i

  pub wholes_typed : (n : ℕ) → ActsTyped (doing p n)
  wholes_typed n = acting_typed n (calls_typed n) (turns_typed n)

-- ---- modular runs

handed_typed : (p : Program) (types : Tys) (free : ℕ → Value) (params : List Param) → Each (AreOf p types (types_of params)) (handed p types free params)
handed_typed p types free [] = record { by = refl }
handed_typed p types free (x ∷ xs) = by_test (is_of p types x.ty (free x.local)) refl (handed_typed p types free xs)
  where
    by_test : (b : Bool) → is_of p types x.ty (free x.local) ≡ b → Each (AreOf p types (types_of xs)) (handed p types free xs)
        → Each (AreOf p types (types_of (x ∷ xs))) (if b then after (handed p types free xs) (λ vs. Gives (free x.local ∷ vs)) else Dismissed)
    by_test true e k = after_each (AreOf p types (types_of xs)) (AreOf p types (types_of (x ∷ xs))) (handed p types free xs) _ k (λ vs l. more_are p types x.ty (types_of xs) (free x.local) vs (record { by = e }) l)
    by_test false e k = tt

havocked_typed : (p : Program) (types : Tys) (head : Head) (bound : List Ty) (free : ℕ → Value) (assigned : List Assigned) (s : State) → AllByRecursion (IsLocalOf head) assigned → IsTyped p types head bound s
    → Each (IsTyped p types head bound) (havocked p free assigned s)
havocked_typed p types head bound free [] s h k = k
havocked_typed p types head bound free (x ∷ xs) s h k = by_value (s.locals x.local)
    (havocked_typed p types head bound free xs s h.1 k)
    (λ e. havocked_typed p types head bound free xs (with_local s x.local (Some (free x.local))) h.1 (some_typed p types head bound s x.local x.ty (free x.local) h.0.typed (subst (λ y. IsOf p y x.ty (free x.local)) k.types_are (record { by = e })) k))
  where
    by_test : (b : Bool) → is_of p s.types x.ty (free x.local) ≡ b
        → (is_of p s.types x.ty (free x.local) ≡ true → Each (IsTyped p types head bound) (havocked p free xs (with_local s x.local (Some (free x.local)))))
        → Each (IsTyped p types head bound) (if b then havocked p free xs (with_local s x.local (Some (free x.local))) else Dismissed)
    by_test true e l = l e
    by_test false e l = tt

    by_value : (o : Option Value) → Each (IsTyped p types head bound) (havocked p free xs s)
        → (is_of p s.types x.ty (free x.local) ≡ true → Each (IsTyped p types head bound) (havocked p free xs (with_local s x.local (Some (free x.local)))))
        → Each (IsTyped p types head bound)
        (option_map_or (λ v. if is_of p s.types x.ty (free x.local) then havocked p free xs (with_local s x.local (Some (free x.local))) else Dismissed) o (havocked p free xs s))
    by_value None l r = l
    by_value (Some v) l r = by_test (is_of p s.types x.ty (free x.local)) refl r

module _ (p : Program) (is : is_program p ≡ true) (deep : Meaning) (calls : CallsAreTyped deep) (same : deep.program ≡ p) (o : Oracle) (run : Running) where
  meeting_typed : (t : Ty) (w : Tys) (x : Outcome State) (v : Value) → IsOf deep.program w t v → Each (IsOf deep.program w t) (after x (λ u. Gives v))
  meeting_typed t w x v k = any_after (IsOf deep.program w t) x (λ u. Gives v) (λ u. k)

  demanding_typed : CallsAreTyped (demanding deep o run)
  demanding_typed at callee f types vs s e k =
      subst (λ x. Each (IsOf deep.program types (result_type f.head.results)) (option_map_or (apply_head deep o run at callee types vs s) x Dismissed)) (sym e)
      (choice_each (IsOf deep.program types (result_type f.head.results)) (is_never_below run callee) (Wrong at kinds.Decreases) (entered (dismissing o deep) at types f.head vs s behind) tt
      (entered_each (IsOf deep.program types (result_type f.head.results)) (dismissing o deep) at types f.head vs s behind (λ frame.
      any_after (IsOf deep.program types (result_type f.head.results)) (check_decrease run at callee (measured (dismissing o deep) (reading_all (reading_inside (entering types f.head.parameters vs s) frame)) (function_measure f.head))) _ (λ now.
      after_each (IsOf deep.program types (result_type f.head.results)) (IsOf deep.program types (result_type f.head.results)) (or_dismissed (deep.apply at callee types vs s)) _
      (each_or_dismissed (IsOf deep.program types (result_type f.head.results)) (deep.apply at callee types vs s) (calls at callee f types vs s e k)) (λ v l.
      meeting_typed (result_type f.head.results) types _ v l)))))
    where
      behind : State → Outcome Value
      behind t =
          after (check_decrease run at callee (measured (dismissing o deep) (reading_all t) (function_measure f.head))) (λ now.
          after (or_dismissed (deep.apply at callee types vs s)) (λ v.
          after (or_dismissed (assume_all (dismissing o deep) (leaving f.head.results (v ∷ []) (reading_all t)) (conditions f.head.postconditions))) (λ u. Gives v)))

  handed_call : (call : CallOf) (x : Method) (vs : List Value) (s : State) → Each (AreGiven deep.program (instances_of s.types call.types) (types_of x.head.results) s) (call_head deep o run call vs s x)
  handed_call call x vs s =
      let w = instances_of s.types call.types in
      let begun = entering w x.head.parameters vs s in
      any_after (AreGiven deep.program w (types_of x.head.results) s) (check_all (dismissing o deep) begun (map (asked_at call.pos kinds.Requires) x.head.preconditions)) _ (λ t.
      any_after (AreGiven deep.program w (types_of x.head.results) s) (evaluate (dismissing o deep) begun (frame_objects x.head)) _ (λ frame.
      choice_each (AreGiven deep.program w (types_of x.head.results) s) (lies_in_changeable s.changeable s.entry frame) _ _
      (any_after (AreGiven deep.program w (types_of x.head.results) s) (check_decrease run call.pos call.callee (measured (dismissing o deep) begun (method_measure x.head))) _ (λ now.
      after_each (AreOf deep.program w (types_of x.head.results)) (AreGiven deep.program w (types_of x.head.results) s) (handed deep.program w (o.free call.site) x.head.results) _ (handed_typed deep.program w (o.free call.site) x.head.results) (λ ws l.
      any_after (AreGiven deep.program w (types_of x.head.results) s) (changed_heap (o.heap call.site) (not x.head.is_ghost) (λ v. is_among v (items_of frame)) s) _ (λ heap.
      choice_each (AreGiven deep.program w (types_of x.head.results) s) (is_made x.head s.store.heap heap ws) _ _
      (any_after (AreGiven deep.program w (types_of x.head.results) s) (or_dismissed (assume_all (dismissing o deep) (with_heap (leaving x.head.results ws begun) heap) (conditions x.head.postconditions))) _ (λ u.
      record { values = l; state = record { types = refl; locals = refl; bound = refl } })) tt)))) tt))

  once_typed : (types : Tys) (head : Head) (bound : List Ty) (l : Loop) (before : List Measured) (flow : Flow) → FlowIsTyped deep.program types head bound flow → Each (FlowIsTyped deep.program types head bound) (behind_once l before flow)
  once_typed types head bound l before (Next t) k = any_after (FlowIsTyped deep.program types head bound) (l.check kinds.Turn t) _ (λ u.
      any_after (FlowIsTyped deep.program types head bound) (l.measure u) _ (λ now. any_after (FlowIsTyped deep.program types head bound) (if_below l.pos now before) _ (λ r. tt)))
  once_typed types head bound l before (Returned t) k = record { state = k.state }
  once_typed types head bound l before (Broken t) k = record { state = k.state }

  loop_typed : (types : Tys) (head : Head) (bound : List Ty) (l : Loop) (s : State) → LoopIsTyped deep.program types head bound l → IsTyped deep.program types head bound s → Each (FlowIsTyped deep.program types head bound) (modular_loop deep.program o l s)
  loop_typed types head bound l s parts i =
      any_after (FlowIsTyped deep.program types head bound) (changed_heap (o.heap l.site) l.touches (λ v. may_change s.changeable s.entry v 0) s) _ (λ heap.
      after_each (IsTyped deep.program types head bound) (FlowIsTyped deep.program types head bound) (havocked deep.program (o.free l.site) l.assigned (with_heap s heap)) _
      (havocked_typed deep.program types head bound (o.free l.site) l.assigned (with_heap s heap) parts.assigned (record { types_are = i.types_are; locals = i.locals; bound_are = i.bound_are })) (λ t j.
      after_each (IsTyped deep.program types head bound) (FlowIsTyped deep.program types head bound) (or_dismissed (l.assume t)) _ (each_or_dismissed (IsTyped deep.program types head bound) (l.assume t) (parts.assume t j)) (λ u k.
      any_after (FlowIsTyped deep.program types head bound) (l.guard u) _ (λ v.
      choice_each (FlowIsTyped deep.program types head bound) (truth_of v) _ _
      (any_after (FlowIsTyped deep.program types head bound) (l.measure u) _ (λ before.
      after_each (FlowIsTyped deep.program types head bound) (FlowIsTyped deep.program types head bound) (l.body u) _ (parts.body u k) (once_typed types head bound l before)))
      (record { state = k })))))

  picked_here : (site count : ℕ) (fits : List Value → Outcome Bool) (s : State) → Each (IsPicked fits s) (modular_pick o site count fits s)
  picked_here site count fits s = by_fit (fits (numbered (o.free site) 0 count)) refl
    where
      by_fit : (x : Outcome Bool) → fits (numbered (o.free site) 0 count) ≡ x
          → Each (IsPicked fits s) (after (or_dismissed x) (λ b. if b then Gives (record { values = numbered (o.free site) 0 count; state = s }) else Dismissed))
      by_fit (Gives true) e = record { fitting = e; state = kept_self s }
      by_fit (Gives false) e = tt
      by_fit (Wrong at kind) e = tt
      by_fit TooDeep e = tt
      by_fit NoChoice e = tt
      by_fit Dismissed e = tt

  new_here : (site : ℕ) (s : State) → Each (IsOf deep.program s.types (AnyObject false)) (modular_new deep.program o site s)
  new_here site s = by_test (is_of deep.program s.types (AnyObject false) (o.free site 0)) (is_new s.store.heap (o.free site 0)) refl
    where
      by_test : (a b : Bool) → is_of deep.program s.types (AnyObject false) (o.free site 0) ≡ a → Each (IsOf deep.program s.types (AnyObject false)) (if a && b then Gives (o.free site 0) else Dismissed)
      by_test true true e = record { by = e }
      by_test true false e = tt
      by_test false b e = tt

  proved_here : (site : ℕ) (ranges : List (State → Outcome (List Value))) (go known : State → Outcome State) → ((t : State) → Each (KeepsLocals t) (known t)) → (s : State) → Each (KeepsLocals s) (modular_prove o site ranges go known s)
  proved_here site ranges go known k s = choice_each (KeepsLocals s) (o.inside site) _ _ (any_after (KeepsLocals s) (after (taking (o.free site) 0 ranges s) go) _ (λ u. tt)) (each_or_dismissed (KeepsLocals s) (known s) (k s))

  modular_typed : ActsTyped (modular deep o run)
  modular_typed = record {
    functions = demanding_typed;
    call = λ call x vs s e k. subst (λ y. Each (AreGiven deep.program (instances_of s.types call.types) (types_of x.head.results) s) (option_map_or (call_head deep o run call vs s) y Dismissed)) (sym e) (handed_call call x vs s);
    loop = λ types g text l s e k h parts i. loop_typed types g.head g.scope.bound l s parts i;
    pick = picked_here;
    new = new_here;
    prove = λ site ranges go known e k s. proved_here site ranges go known k s;
  }

pub modulars_typed : (p : Program) → is_program p ≡ true → (n : ℕ) (o : Oracle) (run : Running) → ActsTyped (modular (whole p n) o run)
modulars_typed p is n o run = modular_typed p is (whole p n) (functions_typed p is n) refl o run
