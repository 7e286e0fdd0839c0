-- Printed text stays in front.
use Rattle.std.proofs.Common.{◌≡◌, ℕ, zero, suc, List, [], ◌∷◌, ◌++◌, Option, Some, None, refl, sym, ap, subst, ◌∙◌, append_assoc, append-nil}
use Rattle.std.specs.Option.{option_map_or}
use Rattle.df_base.specs.declared.pos.Pos.{Pos}
use Rattle.df_lang.specs.Stmt.{Operand, Target, Call, Source, Single, Results, Update, Variable, Stmt, Block, Var, Assign, CallOf, If, While, Break, Return, Assert, Print, Stmts, done, next, Branches, no_branch, branch}
use Rattle.df_lang.specs.Program.{Method, Program, method_at}
use Rattle.df_meaning.specs.declared.kind.Kind.TheVariants as kinds
use Rattle.df_meaning.specs.Value.{text_of, truth_of}
use Rattle.df_meaning.specs.Value as values
use Rattle.df_meaning.specs.Outcome.{Outcome, Gives, Wrong, TooDeep, Dismissed}
use Rattle.df_meaning.specs.State.{Store, State, begin, with_local, without_local, printed}
use Rattle.df_meaning.specs.Meaning.{Meaning, Flow, state_of, Returned, Loop}
use Rattle.df_meaning.specs.Meaning as flows
use Rattle.df_meaning.specs.Evaluation.{evaluate}
use Rattle.df_meaning.specs.Execution.{Values, Taken, goes, then_next, evaluate_all, check_all, convert_all, execute_call, execute_source, execute_sources, is_distinct, give_all, execute_update, execute_optional, declare_all, evaluate_operand, print_all, go_on, execute, execute_all, execute_branches}
use Rattle.df_meaning.specs.Whole.{check_call, results_of, end_of, run_body, run_method, behind_turn, turn_by, turns_with, call_by, whole}
use Rattle.df_meaning.specs.Texts.{Extends}
use Rattle.df_meaning.proofs.Cases.{IfGives, after_gives, after_any, choice, widened}
use Rattle.df_meaning.proofs.Stating.{checked_same}
use Rattle.df_meaning.proofs.Wholes.{owed_same}

same_text : (text : List ℕ) → Extends text text
same_text text = record { rest = []; parts = sym (append-nil text) }

more_text : (a b c : List ℕ) → Extends b a → Extends c b → Extends c a
more_text a b c h k = record { rest = h.rest ++ k.rest; parts = k.parts ∙ ap (λ (x : List ℕ). x ++ k.rest) h.parts ∙ append_assoc a h.rest k.rest }

abbrev pub TextAfter : State → State → Type 0
TextAfter s t = Extends t.store.text s.store.text

abbrev pub FlowTextAfter : State → Flow → Type 0
FlowTextAfter s flow = TextAfter s (state_of flow)

abbrev pub ValuesTextAfter : State → Values → Type 0
ValuesTextAfter s given = TextAfter s given.state

abbrev pub CallTextAfter : Store → Returned → Type 0
CallTextAfter store returned = Extends returned.store.text store.text

-- calls and turns keep the text
pub record KeepsText (m : Meaning) : Type 0 where
  pub call : (at : Pos) (callee : ℕ) (arguments : List values.Value) (store : Store) → IfGives (CallTextAfter store) (m.call at callee arguments store)
  pub turns : (loop : Loop) (s : State) → IfGives (FlowTextAfter s) (m.turns loop s)

-- ---- parts of statements

given_text : (targets : List Target) (vs : List values.Value) (s : State) (earlier : List Taken) → IfGives (TextAfter s) (give_all s earlier targets vs)
given_text [] vs s earlier = same_text s.store.text
given_text (t ∷ ts) [] s earlier = same_text s.store.text
given_text (t ∷ ts) (v ∷ vs) s earlier =
    choice (IfGives (TextAfter s)) (is_distinct earlier t.local v) (Wrong t.pos kinds.Distinct) _ tt
    (given_text ts vs (with_local s t.local v) (record { local = t.local; value = v } ∷ earlier))

call_text : (m : Meaning) → KeepsText m → (s : State) (call : Call) → IfGives (ValuesTextAfter s) (execute_call m s call)
call_text m h s call =
    after_any (ValuesTextAfter s) (evaluate_all m s call.arguments) _ (λ arguments.
    after_gives (CallTextAfter s.store) (ValuesTextAfter s) (m.call call.pos call.callee arguments s.store) _ (h.call call.pos call.callee arguments s.store) (λ r k. k))

source_text : (m : Meaning) → KeepsText m → (s : State) (source : Source) → IfGives (ValuesTextAfter s) (execute_source m s source)
source_text m h s (Single ty value) = after_any (ValuesTextAfter s) (evaluate m s value) _ (λ v. same_text s.store.text)
source_text m h s (Results call results) =
    after_gives (ValuesTextAfter s) (ValuesTextAfter s) (execute_call m s call) _ (call_text m h s call) (λ g k.
    after_any (ValuesTextAfter s) (convert_all m call.pos results g.values) _ (λ vs. k))

sources_text : (m : Meaning) → KeepsText m → (s : State) (sources : List Source) → IfGives (ValuesTextAfter s) (execute_sources m s sources)
sources_text m h s [] = same_text s.store.text
sources_text m h s (source ∷ others) =
    after_gives (ValuesTextAfter s) (ValuesTextAfter s) (execute_source m s source) _ (source_text m h s source) (λ g k.
    after_gives (ValuesTextAfter g.state) (ValuesTextAfter s) (execute_sources m g.state others) _ (sources_text m h g.state others) (λ more l.
    more_text s.store.text g.state.store.text more.state.store.text k l))

update_text : (m : Meaning) → KeepsText m → (s : State) (update : Update) → IfGives (TextAfter s) (execute_update m s update)
update_text m h s update =
    after_gives (ValuesTextAfter s) (TextAfter s) (execute_sources m s update.sources) _ (sources_text m h s update.sources) (λ g k.
    widened (TextAfter g.state) (TextAfter s) (give_all g.state [] update.targets g.values) (λ t l. more_text s.store.text g.state.store.text t.store.text k l)
    (given_text update.targets g.values g.state []))

optional_text : (m : Meaning) → KeepsText m → (s : State) (update : Option Update) → IfGives (TextAfter s) (execute_optional m s update)
optional_text m h s None = same_text s.store.text
optional_text m h s (Some update) = update_text m h s update

declared_store : (variables : List Variable) (s : State) → (declare_all s variables).store ≡ s.store
declared_store [] s = refl
declared_store (v ∷ vs) s = declared_store vs (without_local s v.local)

declared_text : (variables : List Variable) (s t : State) → TextAfter (declare_all s variables) t → TextAfter s t
declared_text variables s t h = subst (λ (store : Store). Extends t.store.text store.text) (declared_store variables s) h

printed_text : (m : Meaning) (operands : List Operand) (s : State) → IfGives (TextAfter s) (print_all m s operands)
printed_text m [] s = same_text s.store.text
printed_text m (operand ∷ others) s =
    after_any (TextAfter s) (evaluate_operand m s operand) _ (λ v.
    widened (TextAfter (printed s v)) (TextAfter s) (print_all m (printed s v) others)
    (λ t l. more_text s.store.text (s.store.text ++ text_of v) t.store.text (record { rest = text_of v; parts = refl }) l) (printed_text m others (printed s v)))

next_text : (s : State) (o : Outcome State) → IfGives (TextAfter s) o → IfGives (FlowTextAfter s) (go_on o)
next_text s o h = after_gives (TextAfter s) (FlowTextAfter s) o _ h (λ t k. k)

then_text : (s : State) (o : Outcome Flow) (go : State → Outcome Flow) → IfGives (FlowTextAfter s) o → ((t : State) → IfGives (FlowTextAfter t) (go t)) → IfGives (FlowTextAfter s) (then_next o go)
then_text s o go h k = after_gives (FlowTextAfter s) (FlowTextAfter s) o (goes go) h by_flow
  where
    by_flow : (flow : Flow) → FlowTextAfter s flow → IfGives (FlowTextAfter s) (goes go flow)
    by_flow (flows.Next t) a = widened (FlowTextAfter t) (FlowTextAfter s) (go t) (λ flow b. more_text s.store.text t.store.text (state_of flow).store.text a b) (k t)
    by_flow (flows.Return t) a = a
    by_flow (flows.Break t) a = a

-- ---- statements

module _ (m : Meaning) (h : KeepsText m) where
  mutual
    pub stmt_text : (stmt : Stmt) (s : State) → IfGives (FlowTextAfter s) (execute m s stmt)
    stmt_text (Block at body) s = all_text body s
    stmt_text (Var at variables update) s =
        next_text s _ (widened (TextAfter (declare_all s variables)) (TextAfter s) (execute_optional m (declare_all s variables) update) (λ t l. declared_text variables s t l)
        (optional_text m h (declare_all s variables) update))
    stmt_text (Assign at update) s = next_text s _ (update_text m h s update)
    stmt_text (CallOf call) s = after_gives (ValuesTextAfter s) (FlowTextAfter s) (execute_call m s call) _ (call_text m h s call) (λ g k. k)
    stmt_text (If branches otherwise) s = branches_text branches s (execute_all m s otherwise) (all_text otherwise s)
    stmt_text (While at guard invariants decreases body) s =
        after_gives (λ (t : State). t ≡ s) (FlowTextAfter s) (check_all m s kinds.Entry invariants) _ (checked_same m s kinds.Entry invariants) (λ t e.
        let loop : Loop = record { pos = at; guard = guard; invariants = invariants; decreases = decreases; body = body } in
        subst (λ (x : State). IfGives (FlowTextAfter x) (m.turns loop t)) e (h.turns loop t))
    stmt_text (Break at) s = same_text s.store.text
    stmt_text (Return at update) s = after_gives (TextAfter s) (FlowTextAfter s) (execute_optional m s update) _ (optional_text m h s update) (λ t k. k)
    stmt_text (Assert at condition) s =
        after_any (FlowTextAfter s) (evaluate m s condition) _ (λ v. choice (IfGives (FlowTextAfter s)) (truth_of v) (Gives (flows.Next s)) (Wrong at kinds.Assert) (same_text s.store.text) tt)
    stmt_text (Print at operands) s = next_text s _ (printed_text m operands s)

    pub all_text : (stmts : Stmts) (s : State) → IfGives (FlowTextAfter s) (execute_all m s stmts)
    all_text done s = same_text s.store.text
    all_text (next stmt others) s = then_text s (execute m s stmt) _ (stmt_text stmt s) (λ t. all_text others t)

    branches_text : (branches : Branches) (s : State) (o : Outcome Flow) → IfGives (FlowTextAfter s) o → IfGives (FlowTextAfter s) (execute_branches m s branches o)
    branches_text no_branch s o e = e
    branches_text (branch at guard body rest) s o e =
        after_any (FlowTextAfter s) (evaluate m s guard) _ (λ v. choice (IfGives (FlowTextAfter s)) (truth_of v) (execute_all m s body) (execute_branches m s rest o) (all_text body s) (branches_text rest s o e))

  -- ---- methods and turns

  ended_text : (s : State) (flow : Flow) → FlowTextAfter s flow → IfGives (TextAfter s) (end_of flow)
  ended_text s (flows.Next t) a = a
  ended_text s (flows.Return t) a = a
  ended_text s (flows.Break t) a = tt

  body_text : (method : Method) (s : State) → IfGives (TextAfter s) (run_body m method s)
  body_text method s =
      after_gives (FlowTextAfter s) (TextAfter s) (execute_all m s method.body) _ (all_text method.body s) (λ flow k.
      after_gives (TextAfter s) (TextAfter s) (end_of flow) _ (ended_text s flow k) (λ t l.
      widened (λ (u : State). u ≡ t) (TextAfter s) (check_all m t kinds.Ensures method.postconditions) (λ u e. subst (λ (x : State). TextAfter s x) (sym e) l)
      (checked_same m t kinds.Ensures method.postconditions)))

  pub method_text : (at : Pos) (method : Method) (arguments : List values.Value) (store : Store) → IfGives (CallTextAfter store) (run_method m at method arguments store)
  method_text at method arguments store =
      after_gives (λ (t : State). t ≡ begin arguments store) (CallTextAfter store) (check_call m (begin arguments store) at method.preconditions) _
      (owed_same m (begin arguments store) at method.preconditions) (λ s e.
      after_gives (TextAfter s) (CallTextAfter store) (run_body m method s) _ (body_text method s) (λ t l.
      after_any (CallTextAfter store) (results_of method t) _ (λ vs. subst (λ (x : State). TextAfter x t) e l)))

  found_text : (at : Pos) (callee : ℕ) (arguments : List values.Value) (store : Store) → IfGives (CallTextAfter store) (call_by m at callee arguments store)
  found_text at callee arguments store = by_method (method_at m.program callee)
    where
      by_method : (o : Option Method) → IfGives (CallTextAfter store) (option_map_or (λ method. run_method m at method arguments store) o Dismissed)
      by_method None = tt
      by_method (Some method) = method_text at method arguments store

  behind_text : (loop : Loop) (s : State) (flow : Flow) → FlowTextAfter s flow → IfGives (FlowTextAfter s) (behind_turn m loop flow)
  behind_text loop s (flows.Next t) a =
      after_gives (λ (u : State). u ≡ t) (FlowTextAfter s) (check_all m t kinds.Turn loop.invariants) _ (checked_same m t kinds.Turn loop.invariants) (λ u e.
      widened (FlowTextAfter u) (FlowTextAfter s) (m.turns loop u)
      (λ flow b. more_text s.store.text u.store.text (state_of flow).store.text (subst (λ (x : State). TextAfter s x) (sym e) a) b) (h.turns loop u))
  behind_text loop s (flows.Return t) a = a
  behind_text loop s (flows.Break t) a = a

  turn_text : (loop : Loop) (s : State) → IfGives (FlowTextAfter s) (turn_by m loop s)
  turn_text loop s = after_gives (FlowTextAfter s) (FlowTextAfter s) (execute_all m s loop.body) _ (all_text loop.body s) (λ flow a. behind_text loop s flow a)

guard_text : (s : State) (o : Outcome values.Value) (turn : Outcome Flow) → IfGives (FlowTextAfter s) turn → IfGives (FlowTextAfter s) (turns_with o s turn)
guard_text s o turn h = after_any (FlowTextAfter s) o _ (λ v. choice (IfGives (FlowTextAfter s)) (truth_of v) turn (Gives (flows.Next s)) h (same_text s.store.text))

pub wholes_text : (program : Program) (depth : ℕ) → KeepsText (whole program depth)
wholes_text program zero = record {
  call = λ at callee arguments store. tt;
  turns = λ loop s. guard_text s _ TooDeep tt;
}
wholes_text program (suc depth) = record {
  call = λ at callee arguments store. found_text (whole program depth) (wholes_text program depth) at callee arguments store;
  turns = λ loop s. guard_text s _ (turn_by (whole program depth) loop s) (turn_text (whole program depth) (wholes_text program depth) loop s);
}
