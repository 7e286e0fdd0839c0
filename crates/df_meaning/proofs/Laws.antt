-- The laws of runs, from what holds of meanings.
use Rattle.std.proofs.Common.{◌≡◌, ◌≤◌, ◌+◌, ℕ, Bool, true, false, List, ◌++◌, length, sym, subst, length-append, arith}
use Rattle.std.proofs.lemmas.Bool.{lt-leb}
use Rattle.df_lang.specs.declared.ty.Ty.{Ty}
use Rattle.df_lang.specs.Stmt.{Stmt}
use Rattle.df_lang.specs.Program.{Method, Program, types_of}
use Rattle.df_lang.specs.Typing.{locals_after, is_stmt, is_method, is_well_typed}
use Rattle.df_meaning.specs.declared.kind.Kind.TheVariants as kinds
use Rattle.df_meaning.specs.Types.{have_types}
use Rattle.df_meaning.specs.Outcome.{Gives}
use Rattle.df_meaning.specs.State.{State}
use Rattle.df_meaning.specs.Meaning.{Meaning, Flow, state_of, Returned}
use Rattle.df_meaning.specs.Meaning as flows
use Rattle.df_meaning.specs.Evaluation.{evaluate}
use Rattle.df_meaning.specs.Execution.{check_all, execute, execute_all}
use Rattle.df_meaning.specs.Whole.{end_of, run_body, run_method, whole}
use Rattle.df_meaning.specs.Modular.{changed_by}
use Rattle.df_meaning.specs.Growing.{MethodsGrow}
use Rattle.df_meaning.specs.Typed.{AreTyped, ExpressionsAreTyped, LocalsKeepTypes, ResultsAreTyped}
use Rattle.df_meaning.specs.Texts.{StatementsKeepText, MethodsKeepText}
use Rattle.df_meaning.specs.Agreement.{is_changed, Agrees, StatementsAgree, ParametersStay}
use Rattle.df_meaning.proofs.Cases.{IfGives, after_gives, widened, given}
use Rattle.df_meaning.proofs.Executing.{method_grows, wholes_grow}
use Rattle.df_meaning.proofs.Typing.{Is, evaluate_typed}
use Rattle.df_meaning.proofs.Stating.{FlowTyped, checked_same, execute_typed}
use Rattle.df_meaning.proofs.Wholes.{method_typed, types_length, body_typed, returned_typed, program_of_whole, wholes_typed}
use Rattle.df_meaning.proofs.Kept.{AgreesBut, FlowAgrees, Covers, KeepsTurns, stmt_kept, all_kept, wholes_keep}
use Rattle.df_meaning.proofs.Changing.{anything, from_on, stmt_included, all_past}
use Rattle.df_meaning.proofs.Texts.{FlowTextAfter, CallTextAfter, stmt_text, method_text, wholes_text}

-- ---- depth

pub methods_grow : MethodsGrow
methods_grow program depth more le pos method arguments store = method_grows (whole program depth) (whole program more) (wholes_grow program depth more le) pos method arguments store

-- ---- types

pub expressions_are_typed : ExpressionsAreTyped
expressions_are_typed m locals s ty e value typed is gives = given (Is m.program ty) (evaluate m s e) value (evaluate_typed m locals s typed e ty is) gives

locals_typed : (program : Program) → is_well_typed program ≡ true → (depth : ℕ) (locals : List Ty) (own : Method) (in_loop : Bool) (s : State) (stmt : Stmt) (flow : Flow)
    → is_stmt (record { program = program; method = own; locals = locals; in_loop = in_loop }) stmt ≡ true → AreTyped program (locals_after locals stmt) s → execute (whole program depth) s stmt ≡ Gives flow
    → AreTyped program (locals_after locals stmt) (state_of flow)
locals_typed program well depth locals own in_loop s stmt flow is typed gives =
    let m : Meaning = whole program depth in
    let all : List Ty = locals_after locals stmt in
    subst (λ (p : Program). AreTyped p all s → is_stmt (record { program = p; method = own; locals = locals; in_loop = in_loop }) stmt ≡ true → AreTyped p all (state_of flow)) (program_of_whole program depth)
    (λ t i. given (FlowTyped m all) (execute m s stmt) flow (execute_typed m (wholes_typed program well depth) stmt locals all own in_loop s (record { at = λ n ty e. e }) t i) gives) typed is

pub locals_keep_types : LocalsKeepTypes
locals_keep_types setting depth s stmt flow well is typed gives = locals_typed setting.program well depth setting.locals setting.method setting.in_loop s stmt flow is typed gives

pub results_are_typed : ResultsAreTyped
results_are_typed program depth number pos method arguments store returned well there have gives =
    let m : Meaning = whole program depth in
    subst (λ (p : Program). is_method p method ≡ true → have_types p (types_of method.parameters) arguments ≡ true → have_types p (types_of method.results) returned.values ≡ true) (program_of_whole program depth)
    (λ is k. given (λ (r : Returned). have_types m.program (types_of method.results) r.values ≡ true) (run_method m pos method arguments store) returned
    (returned_typed m (wholes_typed program well depth) pos method arguments store is k) gives)
    (method_typed program number method well there) have

-- ---- printed text

pub statements_keep_text : StatementsKeepText
statements_keep_text program depth s stmt flow gives = given (FlowTextAfter s) (execute (whole program depth) s stmt) flow (stmt_text (whole program depth) (wholes_text program depth) stmt s) gives

pub methods_keep_text : MethodsKeepText
methods_keep_text program depth pos method arguments store returned gives =
    given (CallTextAfter store) (run_method (whole program depth) pos method arguments store) returned (method_text (whole program depth) (wholes_text program depth) pos method arguments store) gives

-- ---- what isn't assigned

not_anything : (may : ℕ → Bool) → Covers may anything
not_anything may n e = absurd (let f : true ≡ false = e in cc)

agrees : (stmt : Stmt) (s : State) (flow : Flow) → FlowAgrees (is_changed (changed_by stmt)) anything s flow → Agrees (changed_by stmt) s flow
agrees stmt s (flows.Next t) a = a
agrees stmt s (flows.Return t) a = tt
agrees stmt s (flows.Break t) a = a

pub statements_agree : StatementsAgree
statements_agree program depth s stmt flow gives =
    let may : ℕ → Bool = is_changed (changed_by stmt) in
    agrees stmt s flow (given (FlowAgrees may anything s) (execute (whole program depth) s stmt) flow
    (stmt_kept (whole program depth) (wholes_keep program depth) may anything (not_anything may) stmt s (stmt_included may stmt (λ n e. e))) gives)

ended_agrees : (may : ℕ → Bool) (s : State) (flow : Flow) → FlowAgrees may may s flow → IfGives (AgreesBut may s) (end_of flow)
ended_agrees may s (flows.Next t) a = a
ended_agrees may s (flows.Return t) a = a
ended_agrees may s (flows.Break t) a = tt

many_locals : (method : Method) → length method.parameters ≤ length (types_of method.parameters ++ types_of method.results)
many_locals method =
    let a : length (types_of method.parameters ++ types_of method.results) ≡ length (types_of method.parameters) + length (types_of method.results) = length-append (types_of method.parameters) (types_of method.results) in
    let b : length (types_of method.parameters) ≡ length method.parameters = types_length method.parameters in
    omega arith

body_agrees : (m : Meaning) → KeepsTurns m → (method : Method) → is_method m.program method ≡ true → (s : State) → IfGives (AgreesBut (from_on (length method.parameters)) s) (run_body m method s)
body_agrees m keeps method is s =
    let may : ℕ → Bool = from_on (length method.parameters) in
    let within = all_past m method method.body (types_of method.parameters ++ types_of method.results) false (many_locals method) (body_typed m.program method is) in
    after_gives (FlowAgrees may may s) (AgreesBut may s) (execute_all m s method.body) _ (all_kept m keeps may may (λ n e. e) method.body s within) (λ flow k.
    after_gives (AgreesBut may s) (AgreesBut may s) (end_of flow) _ (ended_agrees may s flow k) (λ t l.
    widened (λ (u : State). u ≡ t) (AgreesBut may s) (check_all m t kinds.Ensures method.postconditions) (λ u e. subst (λ (x : State). AgreesBut may s x) (sym e) l)
    (checked_same m t kinds.Ensures method.postconditions)))

pub parameters_stay : ParametersStay
parameters_stay program depth number method s t local well there lt gives =
    let m : Meaning = whole program depth in
    let is : is_method m.program method ≡ true = subst (λ (p : Program). is_method p method ≡ true) (sym (program_of_whole program depth)) (method_typed program number method well there) in
    let kept : AgreesBut (from_on (length method.parameters)) s t = given (AgreesBut (from_on (length method.parameters)) s) (run_body m method s) t (body_agrees m (wholes_keep program depth) method is s) gives in
    kept local (lt-leb (length method.parameters) local lt)
