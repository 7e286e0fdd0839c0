-- Whole runs without ghosts, by depth.
use Rattle.std.proofs.Common.{◌≡◌, ℕ, zero, suc, ◌+◌, true, false, List, [], ◌∷◌, ◌++◌, length, Option, Some, None, refl, sym, ap, subst, ◌∙◌, arith}
use Rattle.std.specs.Option.{option_map_or}
use Rattle.df_base.specs.declared.pos.Pos.{Pos}
use Rattle.df_lang.specs.declared.ty.Ty.{Ty}
use Rattle.df_lang.specs.Program.{Param, Method, Program, method_at, types_of}
use Rattle.df_lang.specs.Typing.{is_method, is_well_typed}
use Rattle.df_meaning.specs.declared.kind.Kind.TheVariants as kinds
use Rattle.df_meaning.specs.Value.{truth_of}
use Rattle.df_meaning.specs.Value as values
use Rattle.df_meaning.specs.Types.{have_types}
use Rattle.df_meaning.specs.Outcome.{Outcome, Gives, Wrong, TooDeep, NoChoice, Dismissed, after}
use Rattle.df_meaning.specs.State.{Store, State, begin, value_at}
use Rattle.df_meaning.specs.Meaning.{Meaning, Flow, Returned, Loop}
use Rattle.df_meaning.specs.Meaning as flows
use Rattle.df_meaning.specs.Evaluation.{evaluate}
use Rattle.df_meaning.specs.Execution.{check_all, execute_all}
use Rattle.df_meaning.specs.Whole.{check_call, values_from, results_of, end_of, run_body, run_method, behind_turn, turn_by, turns_with, call_by, whole}
use Rattle.df_meaning.specs.Typed.{AreTyped}
use Rattle.df_meaning.proofs.Cases.{IfGives}
use Rattle.df_meaning.proofs.Stating.{within_front, FlowTyped, within_typed, before_all, checked_same, stmts_typed}
use Rattle.df_meaning.proofs.Laws.{results_are_typed}
use Rattle.df_meaning.proofs.Wholes.{method_typed, begin_typed, owed_same, all_types, body_typed, both_within, program_of_whole, wholes_typed}
use Rattle.df_nplain.specs.Plain as plain_program
use Rattle.df_nplain.specs.Outcome as outcomes
use Rattle.df_nplain.specs.Meaning as plain_meaning
use Rattle.df_nplain.specs.Evaluation as plain_evaluation
use Rattle.df_nplain.specs.Execution as plain_execution
use Rattle.df_nplain.specs.Whole as plain
use Rattle.df_nplain.specs.Growing.{◌⊑◌}
use Rattle.df_nplain.proofs.Growing as growing
use Rattle.df_nerase.specs.Erasing.{method_number, erase_expr, erase_stmts, kinds_of, erase_method, erased}
use Rattle.df_nerase.specs.Simulation.{Simulates, state_of, flow_of, returned_of, loop_of}
use Rattle.df_nerase.specs.Running.{MethodsAreSimulated, CorrectMethodsRunAlike}
use Rattle.df_nerase.proofs.Outcomes.{as_is, bound, bound_given, passed, kept_by, chosen}
use Rattle.df_nerase.proofs.Expressions.{guard_known}
use Rattle.df_nerase.proofs.Statements.{IsLoopOf, IsSimulated, stmts_alike}
use Rattle.df_nerase.proofs.Methods.{methods_are_found}
use Rattle.df_nerase.proofs.Lowering.{arguments_stay, results_stay}

-- ---- a method's run

kinds_length : (p : Program) (params : List Param) → length params ≡ length (kinds_of p params)
kinds_length p [] = refl
kinds_length p (x ∷ xs) = ap suc (kinds_length p xs)

values_alike : (s : State) (count from : ℕ) → Simulates as_is (values_from s from count) (plain.values_from (state_of s) from count)
values_alike s zero from = refl
values_alike s (suc count) from = by_value (value_at s from) (values_alike s count (suc from))
  where
    by_value : (o : Option values.Value) → Simulates as_is (values_from s (suc from) count) (plain.values_from (state_of s) (suc from) count)
        → Simulates as_is (option_map_or (λ v. after (values_from s (suc from) count) (λ vs. Gives (v ∷ vs))) o Dismissed)
        (option_map_or (λ v. outcomes.after (plain.values_from (state_of s) (suc from) count) (λ vs. outcomes.Gives (v ∷ vs))) o outcomes.Stuck)
    by_value None k = tt
    by_value (Some v) k = bound as_is as_is _ _ _ _ k (λ vs. refl)

results_alike : (p : Program) (method : Method) (s : State) → Simulates as_is (results_of method s) (plain.results_of (erase_method p method) (state_of s))
results_alike p method s =
    subst (λ (k : ℕ). Simulates as_is (results_of method s) (plain.values_from (state_of s) k (length (kinds_of p method.results)))) (kinds_length p method.parameters)
    (subst (λ (k : ℕ). Simulates as_is (results_of method s) (plain.values_from (state_of s) (length method.parameters) k)) (kinds_length p method.results)
    (values_alike s (length method.results) (length method.parameters)))

end_alike : (flow : Flow) → Simulates state_of (end_of flow) (plain.end_of (flow_of flow))
end_alike (flows.Next s) = refl
end_alike (flows.Return s) = refl
end_alike (flows.Break s) = tt

-- nothing is asked
anything : {A : Type 0} (o : Outcome A) → IfGives (λ (a : A). Unit {0}) o
anything (Gives a) = tt
anything (Wrong at kind) = tt
anything TooDeep = tt
anything NoChoice = tt
anything Dismissed = tt

joined_after : {A B C : Type 0} (o : outcomes.Outcome A) (f : A → outcomes.Outcome B) (g : B → outcomes.Outcome C) → outcomes.after (outcomes.after o f) g ≡ outcomes.after o (λ a. outcomes.after (f a) g)
joined_after (outcomes.Gives a) f g = refl
joined_after (outcomes.Wrong fault) f g = refl
joined_after outcomes.TooDeep f g = refl
joined_after outcomes.Stuck f g = refl

module _ (m : Meaning) (n : plain_meaning.Meaning) (h : IsSimulated m n) where
  body_alike : (method : Method) → is_method m.program method ≡ true → (s : State) → AreTyped m.program (all_types method) s
      → Simulates state_of (run_body m method s) (outcomes.after (plain_execution.execute_all n (state_of s) (erase_stmts m.program method.body)) plain.end_of)
  body_alike method is s typed =
      bound flow_of state_of (execute_all m s method.body) _ _ plain.end_of
      (stmts_alike m n h method.body (types_of method.parameters ++ types_of method.results) (all_types method) method false s (record { at = λ k ty e. e }) typed (body_typed m.program method is)) (λ flow.
      kept_by (λ (t : State). Unit {0}) state_of (end_of flow) _ (plain.end_of (flow_of flow)) (anything (end_of flow)) (end_alike flow) (λ t u. checked_same m t kinds.Ensures method.postconditions))

  pub method_alike : (at : Pos) (method : Method) (arguments : List values.Value) (store : Store) → is_method m.program method ≡ true → have_types m.program (types_of method.parameters) arguments ≡ true
      → Simulates returned_of (run_method m at method arguments store) (plain.run_method n (erase_method m.program method) arguments store.text)
  method_alike at method arguments store is have =
      let all = all_types method in
      let first = within_front (types_of method.parameters) (types_of method.results) all (both_within method) in
      let s : State = begin arguments store in
      passed s returned_of (check_call m s at method.preconditions) _ _ (owed_same m s at method.preconditions)
      (subst (λ (x : outcomes.Outcome plain_meaning.Returned). Simulates returned_of (after (run_body m method s) (λ t. after (results_of method t) (λ vs. Gives (record { values = vs; store = t.store })))) x)
      (joined_after (plain_execution.execute_all n (state_of s) (erase_stmts m.program method.body)) plain.end_of
      (λ t. outcomes.after (plain.results_of (erase_method m.program method) t) (λ vs. outcomes.Gives (record { values = vs; text = t.text }))))
      (bound state_of returned_of (run_body m method s) _ _ _ (body_alike method is s (begin_typed m.program (types_of method.parameters) all arguments store first have)) (λ t.
      bound as_is returned_of _ _ _ _ (results_alike m.program method t) (λ vs. refl))))

  pub calls_alike : is_well_typed m.program ≡ true → n.program ≡ erased m.program → (at : Pos) (callee : ℕ) (method : Method) (arguments : List values.Value) (store : Store)
      → method_at m.program callee ≡ Some method → have_types m.program (types_of method.parameters) arguments ≡ true
      → Simulates returned_of (call_by m at callee arguments store) (plain.call_by n (method_number m.program callee) arguments store.text)
  calls_alike well same at callee method arguments store there have =
      let found : plain_program.method_at n.program (method_number m.program callee) ≡ Some (erase_method m.program method) =
      subst (λ (p : plain_program.Plain). plain_program.method_at p (method_number m.program callee) ≡ Some (erase_method m.program method)) (sym same) (methods_are_found m.program callee method there) in
      subst (λ (o : Option Method). Simulates returned_of (option_map_or (λ x. run_method m at x arguments store) o Dismissed) (plain.call_by n (method_number m.program callee) arguments store.text)) (sym there)
      (subst (λ (o : Option plain_program.Method). Simulates returned_of (run_method m at method arguments store) (option_map_or (λ x. plain.run_method n x arguments store.text) o outcomes.Stuck)) (sym found)
      (method_alike at method arguments store (method_typed m.program callee method well there) have))

  -- ---- loops

  behind_alike : (all : List Ty) (loop : Loop) → IsLoopOf m.program all loop → (flow : Flow) → FlowTyped m all flow → Simulates flow_of (behind_turn m loop flow) (plain.behind_turn n (loop_of m.program loop) (flow_of flow))
  behind_alike all loop is (flows.Next t) k = passed t flow_of (check_all m t kinds.Turn loop.invariants) _ _ (checked_same m t kinds.Turn loop.invariants) (h.turns all loop t is k)
  behind_alike all loop is (flows.Return t) k = refl
  behind_alike all loop is (flows.Break t) k = refl

  pub turn_alike : (all : List Ty) (loop : Loop) (s : State) → IsLoopOf m.program all loop → AreTyped m.program all s → Simulates flow_of (turn_by m loop s) (plain.turn_by n (loop_of m.program loop) (state_of s))
  turn_alike all loop s is typed =
      bound_given (FlowTyped m all) flow_of flow_of (execute_all m s loop.body) _ _ _ (stmts_typed m h.typed loop.body is.locals all is.own true s is.within typed is.body)
      (stmts_alike m n h loop.body is.locals all is.own true s is.within typed is.body) (λ flow k. behind_alike all loop is flow k)

-- a guard, and what stands behind it
guard_alike : (m : Meaning) (n : plain_meaning.Meaning) (all : List Ty) (loop : Loop) (s : State) (turn : Outcome Flow) (left : outcomes.Outcome plain_meaning.Flow) → IsLoopOf m.program all loop → AreTyped m.program all s → Simulates flow_of turn left
    → Simulates flow_of (turns_with (evaluate m s loop.guard) s turn) (plain.turns_with (plain_evaluation.evaluate n (state_of s) (erase_expr m.program loop.guard)) (state_of s) left)
guard_alike m n all loop s turn left is typed k =
    guard_known m n is.locals s (within_typed m.program is.locals all s (before_all is.locals all loop.body is.within) typed) flow_of loop.guard _ _ is.guard (λ v.
    chosen flow_of (truth_of v) _ _ _ _ k refl)

-- ---- by depth

plain_program_of : (program : plain_program.Plain) (depth : ℕ) → (plain.whole program depth).program ≡ program
plain_program_of program zero = refl
plain_program_of program (suc depth) = refl

-- what is said of calls and turns, over a program
abbrev CallsAlike : Meaning → plain_meaning.Meaning → Program → Type 0
CallsAlike m n p = (at : Pos) (callee : ℕ) (method : Method) (arguments : List values.Value) (store : Store) → method_at p callee ≡ Some method → have_types p (types_of method.parameters) arguments ≡ true
    → Simulates returned_of (call_by m at callee arguments store) (plain.call_by n (method_number p callee) arguments store.text)

abbrev TurnsAlike : Meaning → plain_meaning.Meaning → Program → Type 0
TurnsAlike m n p = (all : List Ty) (loop : Loop) (s : State) → IsLoopOf p all loop → AreTyped p all s → Simulates flow_of (turn_by m loop s) (plain.turn_by n (loop_of p loop) (state_of s))

pub wholes_alike : (program : Program) → is_well_typed program ≡ true → (depth : ℕ) → IsSimulated (whole program depth) (plain.whole (erased program) depth)
wholes_alike program well zero = record {
  typed = wholes_typed program well zero;
  call = λ at callee method arguments store there have. tt;
  turns = λ all loop s is typed. guard_alike _ _ all loop s TooDeep outcomes.TooDeep is typed tt;
}
wholes_alike program well (suc depth) =
    let m : Meaning = whole program depth in
    let n : plain_meaning.Meaning = plain.whole (erased program) depth in
    let h : IsSimulated m n = wholes_alike program well depth in
    let e : m.program ≡ program = program_of_whole program depth in
    let same : n.program ≡ erased m.program = plain_program_of (erased program) depth ∙ ap erased (sym e) in
    let calls : CallsAlike m n program = subst (λ (p : Program). CallsAlike m n p) e (calls_alike m n h (subst (λ (p : Program). is_well_typed p ≡ true) (sym e) well) same) in
    let turns : TurnsAlike m n program = subst (λ (p : Program). TurnsAlike m n p) e (turn_alike m n h) in
    record {
      typed = wholes_typed program well (suc depth);
      call = calls;
      turns = λ all loop s is typed. guard_alike _ _ all loop s (turn_by m loop s) (plain.turn_by n (loop_of program loop) (state_of s)) is typed (turns all loop s is typed);
    }

-- ---- the laws

pub methods_are_simulated : MethodsAreSimulated
methods_are_simulated program well depth number pos method arguments store there have =
    let m : Meaning = whole program depth in
    let n : plain_meaning.Meaning = plain.whole (erased program) depth in
    subst (λ (p : Program). is_method p method ≡ true → have_types p (types_of method.parameters) arguments ≡ true
    → Simulates returned_of (run_method m pos method arguments store) (plain.run_method n (erase_method p method) arguments store.text)) (program_of_whole program depth)
    (method_alike m n (wholes_alike program well depth) pos method arguments store) (method_typed program number method well there) have

gives_more : {A : Type 0} (o p : outcomes.Outcome A) (a : A) → o ⊑ p → o ≡ outcomes.Gives a → p ≡ outcomes.Gives a
gives_more o p a h e = let g : (outcomes.Gives a) ⊑ p = subst (λ x. x ⊑ p) e h in g

wrong_more : {A : Type 0} (o p : outcomes.Outcome A) (fault : outcomes.Fault) → o ⊑ p → o ≡ outcomes.Wrong fault → p ≡ outcomes.Wrong fault
wrong_more o p fault h e = let g : (outcomes.Wrong fault) ⊑ p = subst (λ x. x ⊑ p) e h in g

stuck_more : {A : Type 0} (o p : outcomes.Outcome A) → o ⊑ p → o ≡ outcomes.Stuck → p ≡ outcomes.Stuck
stuck_more o p h e = let g : outcomes.Stuck ⊑ p = subst (λ x. x ⊑ p) e h in g

pub correct_methods_run_alike : CorrectMethodsRunAlike
correct_methods_run_alike program well native number method there correct arguments store have met =
    let c = correct.completes arguments store have met in
    let simulated = methods_are_simulated program well c.depth number method.declared.pos method arguments store there have in
    let run = λ (depth : ℕ). plain.run_method (plain.whole (erased program) depth) (erase_method program method) arguments store.text in
    let alike : run c.depth ≡ outcomes.Gives (returned_of c.returned) = subst (λ (o : Outcome Returned). Simulates returned_of o (run c.depth)) c.ends simulated in
    record {
      depth = c.depth;
      returned = c.returned;
      given = arguments;
      left = c.returned.values;
      ends = c.ends;
      begins_lowered = arguments_stay program number method arguments well native there have;
      ends_lowered = results_stay program number method c.returned.values well native there (results_are_typed program c.depth number method.declared.pos method arguments store c.returned well there have c.ends);
      ends_alike = alike;
      never_stuck = λ other e.
          let both_depths : ℕ = c.depth + other in
          let a = gives_more (run c.depth) (run both_depths) (returned_of c.returned) (growing.methods_grow (erased program) c.depth both_depths (omega arith) (erase_method program method) arguments store.text) alike in
          let b = stuck_more (run other) (run both_depths) (growing.methods_grow (erased program) other both_depths (omega arith) (erase_method program method) arguments store.text) e in
          let f : outcomes.Gives (returned_of c.returned) ≡ outcomes.Stuck = sym a ∙ b in cc;
      never_wrong = λ other fault e.
          let both_depths : ℕ = c.depth + other in
          let a = gives_more (run c.depth) (run both_depths) (returned_of c.returned) (growing.methods_grow (erased program) c.depth both_depths (omega arith) (erase_method program method) arguments store.text) alike in
          let b = wrong_more (run other) (run both_depths) fault (growing.methods_grow (erased program) other both_depths (omega arith) (erase_method program method) arguments store.text) e in
          let f : outcomes.Gives (returned_of c.returned) ≡ outcomes.Wrong fault = sym a ∙ b in cc;
    }
