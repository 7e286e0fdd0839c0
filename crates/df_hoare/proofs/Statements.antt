-- Statements: whole and modular executions go together where calls and loops do.
use Rattle.std.proofs.Common.{◌≡◌, ◌≤◌, ℕ, Bool, true, if◌then◌else◌, List, [], ◌∷◌, ◌++◌, length, Option, Some, None, refl, sym, ap, subst}
use Rattle.std.specs.List.{list_all}
use Rattle.df_lang.specs.declared.ty.Ty.{Ty}
use Rattle.df_lang.specs.declared.ty.Ty.TheVariants as types
use Rattle.df_lang.specs.Stmt.{Update, Variable, Stmt, Block, Var, Assign, CallOf, If, While, Break, Return, Assert, Print, Stmts, done, next, Branches, no_branch, branch}
use Rattle.df_lang.specs.Program.{Method, Program}
use Rattle.df_lang.specs.Typing.{is_type, is_expr, are_clauses, is_update, may_update, are_numbered, variable_numbers, variable_types, locals_after, locals_after_all, locals_after_branches, gives_results, is_return, is_measured, is_stmt, are_stmts, are_branches}
use Rattle.df_lang.specs.Groups.{callees, callees_of_all, callees_of_branches}
use Rattle.df_meaning.specs.declared.kind.Kind.TheVariants as kinds
use Rattle.df_meaning.specs.Value.{truth_of}
use Rattle.df_meaning.specs.Outcome.{Outcome, Gives, Wrong, after}
use Rattle.df_meaning.specs.State.{Handed, State, without_local}
use Rattle.df_meaning.specs.Meaning.{Meaning, Flow, Loop, state_of}
use Rattle.df_meaning.specs.Meaning as flows
use Rattle.df_meaning.specs.Evaluation.{evaluate}
use Rattle.df_meaning.specs.Execution.{goes, check_all, execute_call, execute_optional, declare_all, go_on, execute, execute_all, execute_branches}
use Rattle.df_meaning.specs.Modular.{plain_meaning}
use Rattle.df_meaning.specs.Growing.{◌⊑◌}
use Rattle.df_meaning.specs.Typed.{AreTyped}
use Rattle.df_meaning.proofs.Outcomes.{same_grows, choice_grows}
use Rattle.df_meaning.proofs.Executing.{all_grow, branches_grow}
use Rattle.df_meaning.proofs.Cases.{given, both, three, four}
use Rattle.df_meaning.proofs.Stating.{Within, FlowTyped, IsMeaningTyped, within_typed, checked_same, declared_typed, before_all, before_branches, execute_typed}
use Rattle.df_hoare.proofs.Running.{Reaches}
use Rattle.df_hoare.proofs.Simulating.{Simulates, simulates_same, simulates_gives, simulates_wrong, simulates_choice, simulates_after, simulates_read}
use Rattle.df_hoare.proofs.Sides.{hand_state, hand_flow, hand_values, AreSides, value_simulates, value_free, checks_simulate, prints_simulate}
use Rattle.df_hoare.proofs.Clauses.{IsMet, seen_alike, met_by_check}
use Rattle.df_hoare.proofs.Sources.{CallsSimulate, AllAllowed, allowed_front, allowed_behind, allowed_one, place, found_simulates, update_simulates, optional_simulates}

-- loops whose bodies go together go together, from where their invariants are met
pub record LoopsSimulate (program : Program) (W M : ℕ → Meaning) : Type 0 where
  pub loop : (locals all : List Ty) (own : Method) (loop : Loop) (s : State) → are_stmts (place program locals own true) loop.body ≡ true → Within (locals_after_all locals loop.body) all
      → AreTyped program all s → IsMet program s loop.invariants
      → ((t : State) → AreTyped program all t → Simulates hand_flow (λ n. execute_all (W n) t loop.body) (λ d h. execute_all (M d) (hand_state h t) loop.body))
      → Simulates hand_flow (λ n. (W n).turns loop s) (λ d h. (M d).turns loop (hand_state h s))

return_updates : (program : Program) (locals : List Ty) (own : Method) (in_loop : Bool) (update : Option Update) → is_return (place program locals own in_loop) update ≡ true → may_update (place program locals own in_loop) update ≡ true
return_updates program locals own in_loop None is = refl
return_updates program locals own in_loop (Some update) is = (both (is_update (place program locals own in_loop) update) (gives_results (place program locals own in_loop) update) is).0

declared_handed : (h : List Handed) (variables : List Variable) (s : State) → declare_all (hand_state h s) variables ≡ hand_state h (declare_all s variables)
declared_handed h [] s = refl
declared_handed h (variable ∷ others) s = declared_handed h others (without_local s variable.local)

next_simulates : (W : ℕ → Outcome State) (M : ℕ → List Handed → Outcome State) → Simulates hand_state W M → Simulates hand_flow (λ n. go_on (W n)) (λ d h. go_on (M d h))
next_simulates W M s = simulates_after hand_state hand_flow M (λ d t. Gives (flows.Next t)) (λ d e t le. refl) W (λ n t. Gives (flows.Next t)) s (λ t c. simulates_gives hand_flow (flows.Next t))

return_simulates : (W : ℕ → Outcome State) (M : ℕ → List Handed → Outcome State) → Simulates hand_state W M → Simulates hand_flow (λ n. after (W n) (λ t. Gives (flows.Return t))) (λ d h. after (M d h) (λ t. Gives (flows.Return t)))
return_simulates W M s = simulates_after hand_state hand_flow M (λ d t. Gives (flows.Return t)) (λ d e t le. refl) W (λ n t. Gives (flows.Return t)) s (λ t c. simulates_gives hand_flow (flows.Return t))

module _ (program : Program) (W M : ℕ → Meaning) (sides : AreSides program W M) (typed_sides : (n : ℕ) → IsMeaningTyped (W n)) (Allowed : ℕ → Type 0) (calls : CallsSimulate program W M Allowed)
    (loops : LoopsSimulate program W M) where
  -- what a statement gives has values of the types of locals
  flow_typed : (stmt : Stmt) (locals all : List Ty) (own : Method) (in_loop : Bool) (s : State) → Within (locals_after locals stmt) all → AreTyped program all s → is_stmt (place program locals own in_loop) stmt ≡ true
      → (flow : Flow) → Reaches (λ n. execute (W n) s stmt) flow → AreTyped program all (state_of flow)
  flow_typed stmt locals all own in_loop s within typed is flow c =
      subst (λ (p : Program). AreTyped p all s → is_stmt (place p locals own in_loop) stmt ≡ true → AreTyped p all (state_of flow)) (sides.wholes c.depth)
      (λ t i. given (FlowTyped (W c.depth) all) (execute (W c.depth) s stmt) flow (execute_typed (W c.depth) (typed_sides c.depth) stmt locals all own in_loop s within t i) c.gives) typed is

  goes_deeper : (others : Stmts) (d e : ℕ) → d ≤ e → (flow : Flow) → goes (λ t. execute_all (M d) t others) flow ⊑ goes (λ t. execute_all (M e) t others) flow
  goes_deeper others d e le (flows.Next t) = all_grow (M d) (M e) (sides.modulars_grow d e le) t others
  goes_deeper others d e le (flows.Return t) = refl
  goes_deeper others d e le (flows.Break t) = refl

  goes_simulates : (all : List Ty) (others : Stmts) → ((t : State) → AreTyped program all t → Simulates hand_flow (λ n. execute_all (W n) t others) (λ d h. execute_all (M d) (hand_state h t) others))
      → (flow : Flow) → AreTyped program all (state_of flow) → Simulates hand_flow (λ n. goes (λ t. execute_all (W n) t others) flow) (λ d h. goes (λ t. execute_all (M d) t others) (hand_flow h flow))
  goes_simulates all others s (flows.Next t) typed = s t typed
  goes_simulates all others s (flows.Return t) typed = simulates_gives hand_flow (flows.Return t)
  goes_simulates all others s (flows.Break t) typed = simulates_gives hand_flow (flows.Break t)

  -- a loop from where its invariants are checked
  while_simulates : (locals all : List Ty) (own : Method) (loop : Loop) (s : State) → are_stmts (place program locals own true) loop.body ≡ true → Within (locals_after_all locals loop.body) all → AreTyped program all s
      → ((t : State) → AreTyped program all t → Simulates hand_flow (λ n. execute_all (W n) t loop.body) (λ d h. execute_all (M d) (hand_state h t) loop.body))
      → Simulates hand_flow (λ n. after (check_all (W n) s kinds.Entry loop.invariants) (λ t. (W n).turns loop t)) (λ d h. after (check_all (M d) (hand_state h s) kinds.Entry loop.invariants) (λ t. (M d).turns loop t))
  while_simulates locals all own loop s is within typed body =
      simulates_after hand_state hand_flow (λ d h. check_all (M d) (hand_state h s) kinds.Entry loop.invariants) (λ d t. (M d).turns loop t) (λ d e t le. (sides.modulars_grow d e le).turns loop t)
      (λ n. check_all (W n) s kinds.Entry loop.invariants) (λ n t. (W n).turns loop t) (checks_simulate program W M sides s kinds.Entry loop.invariants) (λ t c.
      let same : t ≡ s = given (λ (u : State). u ≡ s) (check_all (W c.depth) s kinds.Entry loop.invariants) t (checked_same (W c.depth) s kinds.Entry loop.invariants) c.gives in
      let met : IsMet program s loop.invariants =
      met_by_check (W c.depth) (plain_meaning program) s s t kinds.Entry loop.invariants
      (seen_alike (W c.depth) (plain_meaning program) s s (record { program = sides.wholes c.depth; locals = λ local. refl }) loop.invariants) c.gives in
      subst (λ (x : State). Simulates hand_flow (λ n. (W n).turns loop x) (λ d h. (M d).turns loop (hand_state h x))) (sym same) (loops.loop locals all own loop s is within typed met body))

  mutual
    pub stmt_simulates : (stmt : Stmt) (locals all : List Ty) (own : Method) (in_loop : Bool) (s : State) → Within (locals_after locals stmt) all → AreTyped program all s
        → is_stmt (place program locals own in_loop) stmt ≡ true → AllAllowed Allowed (callees stmt) → Simulates hand_flow (λ n. execute (W n) s stmt) (λ d h. execute (M d) (hand_state h s) stmt)
    stmt_simulates (Block at body) locals all own in_loop s within typed is allowed = stmts_simulate body locals all own in_loop s within typed is allowed
    stmt_simulates (Var at variables update) locals all own in_loop s within typed is allowed =
        let is = three (are_numbered (length locals) (variable_numbers variables)) (list_all (is_type program) (variable_types variables)) (may_update (place program (locals ++ variable_types variables) own in_loop) update) is in
        let t : State = declare_all s variables in
        simulates_same hand_flow (λ n. execute (W n) s (Var at variables update)) (λ n. go_on (execute_optional (W n) t update))
        (λ d h. execute (M d) (hand_state h s) (Var at variables update)) (λ d h. go_on (execute_optional (M d) (hand_state h t) update))
        (λ n. refl) (λ d h. ap (λ x. go_on (execute_optional (M d) x update)) (declared_handed h variables s))
        (next_simulates _ _ (optional_simulates program W M sides Allowed calls (locals ++ variable_types variables) own in_loop t
        (within_typed program (locals ++ variable_types variables) all t within (declared_typed program all variables s typed)) update is.2 allowed))
    stmt_simulates (Assign at update) locals all own in_loop s within typed is allowed =
        next_simulates _ _ (update_simulates program W M sides Allowed calls locals own in_loop s (within_typed program locals all s within typed) update is allowed)
    stmt_simulates (CallOf call) locals all own in_loop s within typed is allowed =
        simulates_after hand_values hand_flow (λ d h. execute_call (M d) (hand_state h s) call) (λ d g. Gives (flows.Next g.state)) (λ d e g le. refl)
        (λ n. execute_call (W n) s call) (λ n g. Gives (flows.Next g.state))
        (found_simulates program W M sides Allowed calls locals own in_loop s (within_typed program locals all s within typed) call is (allowed_one Allowed call.callee allowed))
        (λ g c. simulates_gives hand_flow (flows.Next g.state))
    stmt_simulates (If branches otherwise) locals all own in_loop s within typed is allowed =
        let is = both (are_branches (place program locals own in_loop) branches) (are_stmts (place program (locals_after_branches locals branches) own in_loop) otherwise) is in
        branches_simulate branches locals all own in_loop s (before_all (locals_after_branches locals branches) all otherwise within) typed is.0 (allowed_front Allowed (callees_of_branches branches) (callees_of_all otherwise) allowed)
        (λ n. execute_all (W n) s otherwise) (λ d h. execute_all (M d) (hand_state h s) otherwise)
        (λ d e h le. all_grow (M d) (M e) (sides.modulars_grow d e le) (hand_state h s) otherwise)
        (stmts_simulate otherwise (locals_after_branches locals branches) all own in_loop s within typed is.1 (allowed_behind Allowed (callees_of_branches branches) (callees_of_all otherwise) allowed))
    stmt_simulates (While at guard invariants decreases body) locals all own in_loop s within typed is allowed =
        let is = four (is_expr program locals types.Bool guard) (are_clauses program locals invariants) (is_measured (place program locals own in_loop) guard decreases) (are_stmts (place program locals own true) body) is in
        while_simulates locals all own (record { pos = at; guard = guard; invariants = invariants; decreases = decreases; body = body }) s is.3 within typed
        (λ t typed_t. stmts_simulate body locals all own true t within typed_t is.3 allowed)
    stmt_simulates (Break at) locals all own in_loop s within typed is allowed = simulates_gives hand_flow (flows.Break s)
    stmt_simulates (Return at update) locals all own in_loop s within typed is allowed =
        return_simulates _ _ (optional_simulates program W M sides Allowed calls locals own in_loop s (within_typed program locals all s within typed) update (return_updates program locals own in_loop update is) allowed)
    stmt_simulates (Assert at condition) locals all own in_loop s within typed is allowed =
        simulates_read hand_flow (λ d h. evaluate (M d) (hand_state h s) condition) (λ d h v. if truth_of v then Gives (flows.Next (hand_state h s)) else Wrong at kinds.Assert) (value_free program W M sides s condition)
        (λ d e h v le. same_grows (if truth_of v then Gives (flows.Next (hand_state h s)) else Wrong at kinds.Assert))
        (λ n. evaluate (W n) s condition) (λ n v. if truth_of v then Gives (flows.Next s) else Wrong at kinds.Assert) (value_simulates program W M sides s condition)
        (λ v c. simulates_choice hand_flow (truth_of v) _ _ _ _ (simulates_gives hand_flow (flows.Next s)) (simulates_wrong hand_flow at kinds.Assert))
    stmt_simulates (Print at operands) locals all own in_loop s within typed is allowed = next_simulates _ _ (prints_simulate program W M sides operands s)

    pub stmts_simulate : (stmts : Stmts) (locals all : List Ty) (own : Method) (in_loop : Bool) (s : State) → Within (locals_after_all locals stmts) all → AreTyped program all s
        → are_stmts (place program locals own in_loop) stmts ≡ true → AllAllowed Allowed (callees_of_all stmts) → Simulates hand_flow (λ n. execute_all (W n) s stmts) (λ d h. execute_all (M d) (hand_state h s) stmts)
    stmts_simulate done locals all own in_loop s within typed is allowed = simulates_gives hand_flow (flows.Next s)
    stmts_simulate (next stmt others) locals all own in_loop s within typed is allowed =
        let is = both (is_stmt (place program locals own in_loop) stmt) (are_stmts (place program (locals_after locals stmt) own in_loop) others) is in
        let here : Within (locals_after locals stmt) all = before_all (locals_after locals stmt) all others within in
        simulates_after hand_flow hand_flow (λ d h. execute (M d) (hand_state h s) stmt) (λ d flow. goes (λ t. execute_all (M d) t others) flow) (λ d e flow le. goes_deeper others d e le flow)
        (λ n. execute (W n) s stmt) (λ n flow. goes (λ t. execute_all (W n) t others) flow)
        (stmt_simulates stmt locals all own in_loop s here typed is.0 (allowed_front Allowed (callees stmt) (callees_of_all others) allowed))
        (λ flow c. goes_simulates all others
        (λ t typed_t. stmts_simulate others (locals_after locals stmt) all own in_loop t within typed_t is.1 (allowed_behind Allowed (callees stmt) (callees_of_all others) allowed))
        flow (flow_typed stmt locals all own in_loop s here typed is.0 flow c))

    branches_simulate : (branches : Branches) (locals all : List Ty) (own : Method) (in_loop : Bool) (s : State) → Within (locals_after_branches locals branches) all → AreTyped program all s
        → are_branches (place program locals own in_loop) branches ≡ true → AllAllowed Allowed (callees_of_branches branches)
        → (o : ℕ → Outcome Flow) (p : ℕ → List Handed → Outcome Flow) → ((d e : ℕ) (h : List Handed) → d ≤ e → p d h ⊑ p e h) → Simulates hand_flow o p
        → Simulates hand_flow (λ n. execute_branches (W n) s branches (o n)) (λ d h. execute_branches (M d) (hand_state h s) branches (p d h))
    branches_simulate no_branch locals all own in_loop s within typed is allowed o p deeper otherwise = otherwise
    branches_simulate (branch at guard body rest) locals all own in_loop s within typed is allowed o p deeper otherwise =
        let is = three (is_expr program locals types.Bool guard) (are_stmts (place program locals own in_loop) body) (are_branches (place program (locals_after_all locals body) own in_loop) rest) is in
        simulates_read hand_flow (λ d h. evaluate (M d) (hand_state h s) guard) (λ d h v. if truth_of v then execute_all (M d) (hand_state h s) body else execute_branches (M d) (hand_state h s) rest (p d h))
        (value_free program W M sides s guard)
        (λ d e h v le. choice_grows (truth_of v) _ _ _ _ (all_grow (M d) (M e) (sides.modulars_grow d e le) (hand_state h s) body) (branches_grow (M d) (M e) (sides.modulars_grow d e le) (hand_state h s) rest (p d h) (p e h) (deeper d e h le)))
        (λ n. evaluate (W n) s guard) (λ n v. if truth_of v then execute_all (W n) s body else execute_branches (W n) s rest (o n)) (value_simulates program W M sides s guard)
        (λ v c. simulates_choice hand_flow (truth_of v) _ _ _ _
        (stmts_simulate body locals all own in_loop s (before_branches (locals_after_all locals body) all rest within) typed is.1 (allowed_front Allowed (callees_of_all body) (callees_of_branches rest) allowed))
        (branches_simulate rest (locals_after_all locals body) all own in_loop s within typed is.2 (allowed_behind Allowed (callees_of_all body) (callees_of_branches rest) allowed) o p deeper otherwise))
