-- Execution of statements without ghosts, over what calls and turns of loops mean.
use Rattle.std.specs.Prelude.{ℕ, List, [], ◌∷◌, ◌++◌, Option, None, Some, if◌then◌else◌}
use Rattle.df_meaning.specs.Value as values
use Rattle.df_meaning.specs.Execution.{Taken, is_distinct}
use Rattle.df_nplain.specs.Expr.{Expr}
use Rattle.df_nplain.specs.Stmt.{Operand, Text, Value, Call, Source, Single, Results, Update, Variable, Stmt, Block, Var, Assign, CallOf, If, While, Break, Return, Print, Stmts, done, next, Branches, no_branch, branch}
use Rattle.df_nplain.specs.Outcome.{Outcome, Gives, Wrong, after}
use Rattle.df_nplain.specs.Outcome as faults
use Rattle.df_nplain.specs.State.{State, with_text, with_local, without_local, printed}
use Rattle.df_nplain.specs.Meaning.{Meaning, Flow, Loop}
use Rattle.df_nplain.specs.Meaning as flows
use Rattle.df_nplain.specs.Evaluation.{truth_in, of_kind, evaluate}

-- goes on with the next statement; a return or a break passes it by
abbrev pub goes : (State → Outcome Flow) → Flow → Outcome Flow
goes go (flows.Next s) = go s
goes go (flows.Return s) = Gives (flows.Return s)
goes go (flows.Break s) = Gives (flows.Break s)

abbrev pub then_next : Outcome Flow → (State → Outcome Flow) → Outcome Flow
then_next o go = after o (goes go)

-- expressions in order
abbrev pub evaluate_all : Meaning → State → List Expr → Outcome (List values.Value)
evaluate_all m s [] = Gives []
evaluate_all m s (e ∷ others) = after (evaluate m s e) (λ v. after (evaluate_all m s others) (λ vs. Gives (v ∷ vs)))

-- values that a right side gives, and the state then
pub record Values : Type 0 where
  pub values : List values.Value
  pub state : State

abbrev pub execute_call : Meaning → State → Call → Outcome Values
execute_call m s call =
    after (evaluate_all m s call.arguments) (λ arguments.
    after (m.call call.callee arguments s.text) (λ returned.
    Gives (record { values = returned.values; state = with_text s returned.text })))

abbrev pub execute_source : Meaning → State → Source → Outcome Values
execute_source m s (Single value) = after (evaluate m s value) (λ v. Gives (record { values = v ∷ []; state = s }))
execute_source m s (Results call) = execute_call m s call

-- right sides in order
abbrev pub execute_sources : Meaning → State → List Source → Outcome Values
execute_sources m s [] = Gives (record { values = []; state = s })
execute_sources m s (source ∷ others) =
    after (execute_source m s source) (λ given.
    after (execute_sources m given.state others) (λ more.
    Gives (record { values = given.values ++ more.values; state = more.state })))

-- Values go to their places. Those that coincide must be given equal values, so that the order makes no difference.
abbrev pub give_all : State → List Taken → List ℕ → List values.Value → Outcome State
give_all s earlier [] vs = Gives s
give_all s earlier (t ∷ ts) [] = Gives s
give_all s earlier (t ∷ ts) (v ∷ vs) =
    if is_distinct earlier t v then Wrong faults.Distinct
    else give_all (with_local s t v) (record { local = t; value = v } ∷ earlier) ts vs

-- all right sides are evaluated before any place takes its value
abbrev pub execute_update : Meaning → State → Update → Outcome State
execute_update m s update = after (execute_sources m s update.sources) (λ given. give_all given.state [] update.targets given.values)

abbrev pub execute_optional : Meaning → State → Option Update → Outcome State
execute_optional m s None = Gives s
execute_optional m s (Some update) = execute_update m s update

-- declared locals have no values yet
abbrev pub declare_all : State → List Variable → State
declare_all s [] = s
declare_all s (variable ∷ others) = declare_all (without_local s variable.local) others

-- a text has its characters as its value
abbrev pub evaluate_operand : Meaning → State → Operand → Outcome values.Value
evaluate_operand m s (Text characters) = Gives (values.Text characters)
evaluate_operand m s (Value kind value) = after (evaluate m s value) (of_kind kind)

-- each operand is evaluated and written before the next
abbrev pub print_all : Meaning → State → List Operand → Outcome State
print_all m s [] = Gives s
print_all m s (operand ∷ others) = after (evaluate_operand m s operand) (λ v. print_all m (printed s v) others)

abbrev pub go_on : Outcome State → Outcome Flow
go_on o = after o (λ s. Gives (flows.Next s))

abbrev mutual
  pub execute : Meaning → State → Stmt → Outcome Flow
  execute m s (Block body) = execute_all m s body
  execute m s (Var variables update) = go_on (execute_optional m (declare_all s variables) update)
  execute m s (Assign update) = go_on (execute_update m s update)
  execute m s (CallOf call) = after (execute_call m s call) (λ given. Gives (flows.Next given.state))
  execute m s (If branches otherwise) = execute_branches m s branches (execute_all m s otherwise)
  execute m s (While guard body) = m.turns (record { guard = guard; body = body }) s
  execute m s Break = Gives (flows.Break s)
  execute m s (Return update) = after (execute_optional m s update) (λ t. Gives (flows.Return t))
  execute m s (Print operands) = go_on (print_all m s operands)

  -- statements in order
  pub execute_all : Meaning → State → Stmts → Outcome Flow
  execute_all m s done = Gives (flows.Next s)
  execute_all m s (next stmt others) = then_next (execute m s stmt) (λ t. execute_all m t others)

  -- the first branch whose guard is true, or else what is done without any
  pub execute_branches : Meaning → State → Branches → Outcome Flow → Outcome Flow
  execute_branches m s no_branch otherwise = otherwise
  execute_branches m s (branch guard body rest) otherwise =
      after (evaluate m s guard) (λ v. after (truth_in v) (λ b. if b then execute_all m s body else execute_branches m s rest otherwise))
