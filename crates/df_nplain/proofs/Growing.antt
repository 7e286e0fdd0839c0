-- More depth keeps an answer.
use Rattle.std.proofs.Common.{ℕ, zero, suc, List, [], ◌∷◌, Option, None, Some, refl, subst, arith}
use Rattle.std.specs.Option.{option_map_or}
use Rattle.df_lang.specs.declared.expr.Junction.{Junction as JunctionKind}
use Rattle.df_meaning.specs.Value as values
use Rattle.df_meaning.specs.Evaluation.{decides}
use Rattle.df_nplain.specs.Kind.{Range}
use Rattle.df_nplain.specs.Expr.{Expr, Number, Truth, Character, Local, Negate, Not, Sum, Product, Junction, Implies, Iff, Chain, As, Addends, no_addend, addend, Factors, no_factor, factor, Members, no_member, member, Links, no_link, link}
use Rattle.df_nplain.specs.Stmt.{Operand, Text, Value, Call, Source, Single, Results, Update, Stmt, Block, Var, Assign, CallOf, If, While, Break, Return, Print, Stmts, done, next, Branches, no_branch, branch}
use Rattle.df_nplain.specs.Plain.{Method, Plain, method_at}
use Rattle.df_nplain.specs.Outcome.{Outcome, Stuck}
use Rattle.df_nplain.specs.State.{State, begin, printed}
use Rattle.df_nplain.specs.Meaning.{Meaning, Flow, Loop, Returned}
use Rattle.df_nplain.specs.Meaning as flows
use Rattle.df_nplain.specs.Evaluation.{truth_in, added, multiplied, equivalent, compared, evaluate, evaluate_addends, evaluate_factors, evaluate_junction, evaluate_implications, evaluate_equivalences, evaluate_links}
use Rattle.df_nplain.specs.Execution.{goes, evaluate_all, execute_call, execute_source, execute_sources, execute_update, execute_optional, declare_all, evaluate_operand, print_all, execute, execute_all, execute_branches}
use Rattle.df_nplain.specs.Whole.{run_method, behind_turn, turn_by, turns_with, meaning_of, call_by, whole}
use Rattle.df_nplain.specs.Growing.{◌⊑◌, Below, StatementsGrow, WholesGrow, MethodsGrow}
use Rattle.df_nplain.proofs.Outcomes.{same_grows, after_grows, after_same, choice_grows, found_grows}

-- ---- expressions

module _ (m n : Meaning) where
  mutual
    pub evaluate_grows : (s : State) (e : Expr) → evaluate m s e ⊑ evaluate n s e
    evaluate_grows s (Number value) = refl
    evaluate_grows s (Truth value) = refl
    evaluate_grows s (Character code) = refl
    evaluate_grows s (Local local) = same_grows _
    evaluate_grows s (Negate range operand) = after_grows _ _ _ _ (evaluate_grows s operand) (λ v. same_grows _)
    evaluate_grows s (Not operand) = after_grows _ _ _ _ (evaluate_grows s operand) (λ v. same_grows _)
    evaluate_grows s (Sum range first rest) = after_grows _ _ _ _ (evaluate_grows s first) (λ v. addends_grow s range v rest)
    evaluate_grows s (Product range first rest) = after_grows _ _ _ _ (evaluate_grows s first) (λ v. factors_grow s range v rest)
    evaluate_grows s (Junction junction first rest) = after_grows _ _ _ _ (evaluate_grows s first) (λ v. junction_grows s junction v rest)
    evaluate_grows s (Implies first rest) = after_grows _ _ _ _ (evaluate_grows s first) (λ v. implications_grow s v rest)
    evaluate_grows s (Iff first rest) = after_grows _ _ _ _ (evaluate_grows s first) (λ v. equivalences_grow s v rest)
    evaluate_grows s (Chain first rest) = after_grows _ _ _ _ (evaluate_grows s first) (λ v. links_grow s v rest)
    evaluate_grows s (As source target operand) = after_grows _ _ _ _ (evaluate_grows s operand) (λ v. same_grows _)

    addends_grow : (s : State) (range : Range) (v : values.Value) (rest : Addends) → evaluate_addends m s range v rest ⊑ evaluate_addends n s range v rest
    addends_grow s range v no_addend = refl
    addends_grow s range v (addend operator operand rest) = after_grows _ _ _ _ (evaluate_grows s operand) (λ w. after_same (added operator range v w) _ _ (λ u. addends_grow s range u rest))

    factors_grow : (s : State) (range : Range) (v : values.Value) (rest : Factors) → evaluate_factors m s range v rest ⊑ evaluate_factors n s range v rest
    factors_grow s range v no_factor = refl
    factors_grow s range v (factor operator operand rest) = after_grows _ _ _ _ (evaluate_grows s operand) (λ w. after_same (multiplied operator range v w) _ _ (λ u. factors_grow s range u rest))

    junction_grows : (s : State) (junction : JunctionKind) (v : values.Value) (rest : Members) → evaluate_junction m s junction v rest ⊑ evaluate_junction n s junction v rest
    junction_grows s junction v no_member = refl
    junction_grows s junction v (member operand rest) = after_same (truth_in v) _ _ (λ b. choice_grows (decides junction b) _ _ _ _ refl (after_grows _ _ _ _ (evaluate_grows s operand) (λ w. junction_grows s junction w rest)))

    implications_grow : (s : State) (v : values.Value) (rest : Members) → evaluate_implications m s v rest ⊑ evaluate_implications n s v rest
    implications_grow s v no_member = refl
    implications_grow s v (member operand rest) = after_same (truth_in v) _ _ (λ b. choice_grows b _ _ _ _ (after_grows _ _ _ _ (evaluate_grows s operand) (λ w. implications_grow s w rest)) refl)

    equivalences_grow : (s : State) (v : values.Value) (rest : Members) → evaluate_equivalences m s v rest ⊑ evaluate_equivalences n s v rest
    equivalences_grow s v no_member = refl
    equivalences_grow s v (member operand rest) = after_grows _ _ _ _ (evaluate_grows s operand) (λ w. after_same (equivalent v w) _ _ (λ u. equivalences_grow s u rest))

    links_grow : (s : State) (v : values.Value) (rest : Links) → evaluate_links m s v rest ⊑ evaluate_links n s v rest
    links_grow s v no_link = refl
    links_grow s v (link comparison operand rest) = after_grows _ _ _ _ (evaluate_grows s operand) (λ w. after_same (compared comparison v w) _ _ (λ b. choice_grows b _ _ _ _ (links_grow s w rest) refl))

pub turns_grow : (o p : Outcome values.Value) (s : State) (x y : Outcome Flow) → o ⊑ p → x ⊑ y → turns_with o s x ⊑ turns_with p s y
turns_grow o p s x y e h = after_grows _ _ _ _ e (λ v. after_same (truth_in v) _ _ (λ b. choice_grows b _ _ _ _ h refl))

-- ---- statements

module _ (m n : Meaning) (h : Below m n) where
  all_values : (s : State) (es : List Expr) → evaluate_all m s es ⊑ evaluate_all n s es
  all_values s [] = refl
  all_values s (e ∷ others) = after_grows _ _ _ _ (evaluate_grows m n s e) (λ v. after_grows _ _ _ _ (all_values s others) (λ vs. refl))

  call_grows : (s : State) (call : Call) → execute_call m s call ⊑ execute_call n s call
  call_grows s call = after_grows _ _ _ _ (all_values s call.arguments) (λ arguments. after_grows _ _ _ _ (h.call call.callee arguments s.text) (λ returned. refl))

  source_grows : (s : State) (source : Source) → execute_source m s source ⊑ execute_source n s source
  source_grows s (Single value) = after_grows _ _ _ _ (evaluate_grows m n s value) (λ v. refl)
  source_grows s (Results call) = call_grows s call

  sources_grow : (s : State) (sources : List Source) → execute_sources m s sources ⊑ execute_sources n s sources
  sources_grow s [] = refl
  sources_grow s (source ∷ others) = after_grows _ _ _ _ (source_grows s source) (λ given. after_grows _ _ _ _ (sources_grow given.state others) (λ more. refl))

  update_grows : (s : State) (update : Update) → execute_update m s update ⊑ execute_update n s update
  update_grows s update = after_grows _ _ _ _ (sources_grow s update.sources) (λ given. same_grows _)

  optional_grows : (s : State) (update : Option Update) → execute_optional m s update ⊑ execute_optional n s update
  optional_grows s None = refl
  optional_grows s (Some update) = update_grows s update

  operand_grows : (s : State) (operand : Operand) → evaluate_operand m s operand ⊑ evaluate_operand n s operand
  operand_grows s (Text characters) = refl
  operand_grows s (Value kind value) = after_grows _ _ _ _ (evaluate_grows m n s value) (λ v. same_grows _)

  prints_grow : (s : State) (operands : List Operand) → print_all m s operands ⊑ print_all n s operands
  prints_grow s [] = refl
  prints_grow s (operand ∷ others) = after_grows _ _ _ _ (operand_grows s operand) (λ v. prints_grow (printed s v) others)

  goes_grow : (flow : Flow) (f g : State → Outcome Flow) → ((s : State) → f s ⊑ g s) → goes f flow ⊑ goes g flow
  goes_grow (flows.Next s) f g k = k s
  goes_grow (flows.Return s) f g k = refl
  goes_grow (flows.Break s) f g k = refl

  mutual
    pub execute_grows : (s : State) (stmt : Stmt) → execute m s stmt ⊑ execute n s stmt
    execute_grows s (Block body) = all_grow s body
    execute_grows s (Var variables update) = after_grows _ _ _ _ (optional_grows (declare_all s variables) update) (λ t. refl)
    execute_grows s (Assign update) = after_grows _ _ _ _ (update_grows s update) (λ t. refl)
    execute_grows s (CallOf call) = after_grows _ _ _ _ (call_grows s call) (λ given. refl)
    execute_grows s (If branches otherwise) = branches_grow s branches _ _ (all_grow s otherwise)
    execute_grows s (While guard body) = h.turns _ s
    execute_grows s Break = refl
    execute_grows s (Return update) = after_grows _ _ _ _ (optional_grows s update) (λ t. refl)
    execute_grows s (Print operands) = after_grows _ _ _ _ (prints_grow s operands) (λ t. refl)

    pub all_grow : (s : State) (all : Stmts) → execute_all m s all ⊑ execute_all n s all
    all_grow s done = refl
    all_grow s (next stmt others) = after_grows _ _ _ _ (execute_grows s stmt) (λ flow. goes_grow flow _ _ (λ t. all_grow t others))

    branches_grow : (s : State) (branches : Branches) (o p : Outcome Flow) → o ⊑ p → execute_branches m s branches o ⊑ execute_branches n s branches p
    branches_grow s no_branch o p e = e
    branches_grow s (branch guard body rest) o p e = after_grows _ _ _ _ (evaluate_grows m n s guard) (λ v. after_same (truth_in v) _ _ (λ b. choice_grows b _ _ _ _ (all_grow s body) (branches_grow s rest o p e)))

  -- ---- methods and turns

  pub method_grows : (method : Method) (arguments : List values.Value) (text : List ℕ) → run_method m method arguments text ⊑ run_method n method arguments text
  method_grows method arguments text = after_grows _ _ _ _ (all_grow (begin arguments text) method.body) (λ flow. same_grows _)

  behind_grows : (loop : Loop) (flow : Flow) → behind_turn m loop flow ⊑ behind_turn n loop flow
  behind_grows loop (flows.Next t) = h.turns loop t
  behind_grows loop (flows.Return t) = refl
  behind_grows loop (flows.Break t) = refl

  pub turn_grows : (loop : Loop) (s : State) → turn_by m loop s ⊑ turn_by n loop s
  turn_grows loop s = after_grows _ _ _ _ (all_grow s loop.body) (λ flow. behind_grows loop flow)

  pub calls_grow : (callee : ℕ) (arguments : List values.Value) (text : List ℕ) → call_by m callee arguments text ⊑ call_by n callee arguments text
  calls_grow callee arguments text =
      subst (λ (p : Plain). call_by m callee arguments text ⊑ option_map_or (λ method. run_method n method arguments text) (method_at p callee) Stuck) h.program
      (found_grows (method_at m.program callee) _ _ Stuck (λ method. method_grows method arguments text))

-- ---- whole runs

-- meanings of calls and turns that grow
meaning_grows : (program : Plain) (f g : ℕ → List values.Value → List ℕ → Outcome Returned) (t u : Loop → State → Outcome Flow)
    → ((callee : ℕ) (arguments : List values.Value) (text : List ℕ) → f callee arguments text ⊑ g callee arguments text)
    → ((loop : Loop) (s : State) → t loop s ⊑ u loop s) → Below (meaning_of program f t) (meaning_of program g u)
meaning_grows program f g t u calls turns = record {
  program = refl;
  call = calls;
  turns = λ loop s. turns_grow _ _ s _ _ (evaluate_grows _ _ s loop.guard) (turns loop s);
}

pub wholes_grow : WholesGrow
wholes_grow program zero zero le = meaning_grows program _ _ _ _ (λ callee arguments text. tt) (λ loop s. tt)
wholes_grow program zero (suc more) le = meaning_grows program _ _ _ _ (λ callee arguments text. tt) (λ loop s. tt)
wholes_grow program (suc depth) zero le = absurd (omega (arith, le))
wholes_grow program (suc depth) (suc more) le =
    let h : Below (whole program depth) (whole program more) = wholes_grow program depth more (omega (arith, le)) in
    meaning_grows program _ _ _ _ (calls_grow _ _ h) (turn_grows _ _ h)

pub statements_grow : StatementsGrow
statements_grow m n h s stmt = execute_grows m n h s stmt

pub methods_grow : MethodsGrow
methods_grow program depth more le method arguments text = method_grows (whole program depth) (whole program more) (wholes_grow program depth more le) method arguments text
