-- Printed text stays in front.
use Rattle.std.proofs.Common.{◌≡◌, ℕ, zero, suc, List, [], ◌∷◌, ◌++◌, Option, Some, None, refl, sym, ap, subst, ◌∙◌, append_assoc, append-nil}
use Rattle.std.specs.Option.{option_map_or}
use Rattle.df_meaning.specs.Value.{text_of}
use Rattle.df_meaning.specs.Value as values
use Rattle.df_meaning.specs.Execution.{Taken, is_distinct}
use Rattle.df_meaning.specs.Texts.{Extends}
use Rattle.df_nplain.specs.Stmt.{Operand, Call, Source, Single, Results, Update, Variable, Stmt, Block, Var, Assign, CallOf, If, While, Break, Return, Print, Stmts, done, next, Branches, no_branch, branch}
use Rattle.df_nplain.specs.Plain.{Method, Plain, method_at}
use Rattle.df_nplain.specs.Outcome.{Outcome, Gives, Wrong, TooDeep, Stuck}
use Rattle.df_nplain.specs.Outcome as faults
use Rattle.df_nplain.specs.State.{State, begin, with_local, without_local, printed}
use Rattle.df_nplain.specs.Meaning.{Meaning, Flow, state_of, Returned, Loop}
use Rattle.df_nplain.specs.Meaning as flows
use Rattle.df_nplain.specs.Evaluation.{truth_in, evaluate}
use Rattle.df_nplain.specs.Execution.{Values, goes, then_next, evaluate_all, execute_call, execute_source, execute_sources, give_all, execute_update, execute_optional, declare_all, evaluate_operand, print_all, go_on, execute, execute_all, execute_branches}
use Rattle.df_nplain.specs.Whole.{results_of, end_of, run_method, behind_turn, turn_by, turns_with, call_by, whole}
use Rattle.df_nplain.specs.Texts.{StatementsKeepText, MethodsKeepText}
use Rattle.df_nplain.proofs.Outcomes.{IfGives, after_gives, after_any, choice, widened, given}

same_text : (text : List ℕ) → Extends text text
same_text text = record { rest = []; parts = sym (append-nil text) }

more_text : (a b c : List ℕ) → Extends b a → Extends c b → Extends c a
more_text a b c h k = record { rest = h.rest ++ k.rest; parts = k.parts ∙ ap (λ (x : List ℕ). x ++ k.rest) h.parts ∙ append_assoc a h.rest k.rest }

abbrev TextAfter : State → State → Type 0
TextAfter s t = Extends t.text s.text

abbrev FlowTextAfter : State → Flow → Type 0
FlowTextAfter s flow = TextAfter s (state_of flow)

abbrev ValuesTextAfter : State → Values → Type 0
ValuesTextAfter s given = TextAfter s given.state

abbrev CallTextAfter : List ℕ → Returned → Type 0
CallTextAfter text returned = Extends returned.text text

-- calls and turns keep the text
pub record KeepsText (m : Meaning) : Type 0 where
  pub call : (callee : ℕ) (arguments : List values.Value) (text : List ℕ) → IfGives (CallTextAfter text) (m.call callee arguments text)
  pub turns : (loop : Loop) (s : State) → IfGives (FlowTextAfter s) (m.turns loop s)

-- ---- parts of statements

given_text : (targets : List ℕ) (vs : List values.Value) (s : State) (earlier : List Taken) → IfGives (TextAfter s) (give_all s earlier targets vs)
given_text [] vs s earlier = same_text s.text
given_text (t ∷ ts) [] s earlier = same_text s.text
given_text (t ∷ ts) (v ∷ vs) s earlier =
    choice (IfGives (TextAfter s)) (is_distinct earlier t v) (Wrong faults.Distinct) _ tt (given_text ts vs (with_local s t v) (record { local = t; value = v } ∷ earlier))

declared_text : (variables : List Variable) (s : State) → (declare_all s variables).text ≡ s.text
declared_text [] s = refl
declared_text (v ∷ vs) s = declared_text vs (without_local s v.local)

module _ (m : Meaning) (h : KeepsText m) where
  call_text : (s : State) (call : Call) → IfGives (ValuesTextAfter s) (execute_call m s call)
  call_text s call =
      after_any (ValuesTextAfter s) (evaluate_all m s call.arguments) _ (λ arguments.
      after_gives (CallTextAfter s.text) (ValuesTextAfter s) (m.call call.callee arguments s.text) _ (h.call call.callee arguments s.text) (λ r k. k))

  source_text : (s : State) (source : Source) → IfGives (ValuesTextAfter s) (execute_source m s source)
  source_text s (Single value) = after_any (ValuesTextAfter s) (evaluate m s value) _ (λ v. same_text s.text)
  source_text s (Results call) = call_text s call

  sources_text : (s : State) (sources : List Source) → IfGives (ValuesTextAfter s) (execute_sources m s sources)
  sources_text s [] = same_text s.text
  sources_text s (source ∷ others) =
      after_gives (ValuesTextAfter s) (ValuesTextAfter s) (execute_source m s source) _ (source_text s source) (λ g k.
      after_gives (ValuesTextAfter g.state) (ValuesTextAfter s) (execute_sources m g.state others) _ (sources_text g.state others) (λ more l.
      more_text s.text g.state.text more.state.text k l))

  update_text : (s : State) (update : Update) → IfGives (TextAfter s) (execute_update m s update)
  update_text s update =
      after_gives (ValuesTextAfter s) (TextAfter s) (execute_sources m s update.sources) _ (sources_text s update.sources) (λ g k.
      widened (TextAfter g.state) (TextAfter s) (give_all g.state [] update.targets g.values) (λ t l. more_text s.text g.state.text t.text k l) (given_text update.targets g.values g.state []))

  optional_text : (s : State) (update : Option Update) → IfGives (TextAfter s) (execute_optional m s update)
  optional_text s None = same_text s.text
  optional_text s (Some update) = update_text s update

  printed_text : (operands : List Operand) (s : State) → IfGives (TextAfter s) (print_all m s operands)
  printed_text [] s = same_text s.text
  printed_text (operand ∷ others) s =
      after_any (TextAfter s) (evaluate_operand m s operand) _ (λ v.
      widened (TextAfter (printed s v)) (TextAfter s) (print_all m (printed s v) others)
      (λ t l. more_text s.text (s.text ++ text_of v) t.text (record { rest = text_of v; parts = refl }) l) (printed_text others (printed s v)))

  next_text : (s : State) (o : Outcome State) → IfGives (TextAfter s) o → IfGives (FlowTextAfter s) (go_on o)
  next_text s o k = after_gives (TextAfter s) (FlowTextAfter s) o _ k (λ t l. l)

  then_text : (s : State) (o : Outcome Flow) (go : State → Outcome Flow) → IfGives (FlowTextAfter s) o → ((t : State) → IfGives (FlowTextAfter t) (go t)) → IfGives (FlowTextAfter s) (then_next o go)
  then_text s o go k l = after_gives (FlowTextAfter s) (FlowTextAfter s) o (goes go) k by_flow
    where
      by_flow : (flow : Flow) → FlowTextAfter s flow → IfGives (FlowTextAfter s) (goes go flow)
      by_flow (flows.Next t) a = widened (FlowTextAfter t) (FlowTextAfter s) (go t) (λ flow b. more_text s.text t.text (state_of flow).text a b) (l t)
      by_flow (flows.Return t) a = a
      by_flow (flows.Break t) a = a

  -- ---- statements

  mutual
    pub stmt_text : (stmt : Stmt) (s : State) → IfGives (FlowTextAfter s) (execute m s stmt)
    stmt_text (Block body) s = all_text body s
    stmt_text (Var variables update) s =
        next_text s _ (widened (TextAfter (declare_all s variables)) (TextAfter s) (execute_optional m (declare_all s variables) update)
        (λ t l. subst (λ (text : List ℕ). Extends t.text text) (declared_text variables s) l) (optional_text (declare_all s variables) update))
    stmt_text (Assign update) s = next_text s _ (update_text s update)
    stmt_text (CallOf call) s = after_gives (ValuesTextAfter s) (FlowTextAfter s) (execute_call m s call) _ (call_text s call) (λ g k. k)
    stmt_text (If branches otherwise) s = branches_text branches s (execute_all m s otherwise) (all_text otherwise s)
    stmt_text (While guard body) s = h.turns (record { guard = guard; body = body }) s
    stmt_text Break s = same_text s.text
    stmt_text (Return update) s = after_gives (TextAfter s) (FlowTextAfter s) (execute_optional m s update) _ (optional_text s update) (λ t k. k)
    stmt_text (Print operands) s = next_text s _ (printed_text operands s)

    pub all_text : (stmts : Stmts) (s : State) → IfGives (FlowTextAfter s) (execute_all m s stmts)
    all_text done s = same_text s.text
    all_text (next stmt others) s = then_text s (execute m s stmt) _ (stmt_text stmt s) (λ t. all_text others t)

    branches_text : (branches : Branches) (s : State) (o : Outcome Flow) → IfGives (FlowTextAfter s) o → IfGives (FlowTextAfter s) (execute_branches m s branches o)
    branches_text no_branch s o e = e
    branches_text (branch guard body rest) s o e =
        after_any (FlowTextAfter s) (evaluate m s guard) _ (λ v. after_any (FlowTextAfter s) (truth_in v) _ (λ b. choice (IfGives (FlowTextAfter s)) b (execute_all m s body) (execute_branches m s rest o) (all_text body s) (branches_text rest s o e)))

  -- ---- methods and turns

  ended_text : (s : State) (flow : Flow) → FlowTextAfter s flow → IfGives (TextAfter s) (end_of flow)
  ended_text s (flows.Next t) a = a
  ended_text s (flows.Return t) a = a
  ended_text s (flows.Break t) a = tt

  pub method_text : (method : Method) (arguments : List values.Value) (text : List ℕ) → IfGives (CallTextAfter text) (run_method m method arguments text)
  method_text method arguments text =
      let s : State = begin arguments text in
      after_gives (FlowTextAfter s) (CallTextAfter text) (execute_all m s method.body) _ (all_text method.body s) (λ flow k.
      after_gives (TextAfter s) (CallTextAfter text) (end_of flow) _ (ended_text s flow k) (λ t l.
      after_any (CallTextAfter text) (results_of method t) _ (λ vs. l)))

  found_text : (callee : ℕ) (arguments : List values.Value) (text : List ℕ) → IfGives (CallTextAfter text) (call_by m callee arguments text)
  found_text callee arguments text = by_method (method_at m.program callee)
    where
      by_method : (o : Option Method) → IfGives (CallTextAfter text) (option_map_or (λ method. run_method m method arguments text) o Stuck)
      by_method None = tt
      by_method (Some method) = method_text method arguments text

  behind_text : (loop : Loop) (s : State) (flow : Flow) → FlowTextAfter s flow → IfGives (FlowTextAfter s) (behind_turn m loop flow)
  behind_text loop s (flows.Next t) a =
      widened (FlowTextAfter t) (FlowTextAfter s) (m.turns loop t) (λ flow b. more_text s.text t.text (state_of flow).text a b) (h.turns loop t)
  behind_text loop s (flows.Return t) a = a
  behind_text loop s (flows.Break t) a = a

  turn_text : (loop : Loop) (s : State) → IfGives (FlowTextAfter s) (turn_by m loop s)
  turn_text loop s = after_gives (FlowTextAfter s) (FlowTextAfter s) (execute_all m s loop.body) _ (all_text loop.body s) (λ flow a. behind_text loop s flow a)

guard_text : (s : State) (o : Outcome values.Value) (turn : Outcome Flow) → IfGives (FlowTextAfter s) turn → IfGives (FlowTextAfter s) (turns_with o s turn)
guard_text s o turn h = after_any (FlowTextAfter s) o _ (λ v. after_any (FlowTextAfter s) (truth_in v) _ (λ b. choice (IfGives (FlowTextAfter s)) b turn (Gives (flows.Next s)) h (same_text s.text)))

pub wholes_text : (program : Plain) (depth : ℕ) → KeepsText (whole program depth)
wholes_text program zero = record {
  call = λ callee arguments text. tt;
  turns = λ loop s. guard_text s _ TooDeep tt;
}
wholes_text program (suc depth) = record {
  call = λ callee arguments text. found_text (whole program depth) (wholes_text program depth) callee arguments text;
  turns = λ loop s. guard_text s _ (turn_by (whole program depth) loop s) (turn_text (whole program depth) (wholes_text program depth) loop s);
}

pub statements_keep_text : StatementsKeepText
statements_keep_text program depth s stmt flow gives = given (FlowTextAfter s) (execute (whole program depth) s stmt) flow (stmt_text (whole program depth) (wholes_text program depth) stmt s) gives

pub methods_keep_text : MethodsKeepText
methods_keep_text program depth method arguments text returned gives =
    given (CallTextAfter text) (run_method (whole program depth) method arguments text) returned (method_text (whole program depth) (wholes_text program depth) method arguments text) gives
