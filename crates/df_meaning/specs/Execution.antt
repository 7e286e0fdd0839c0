-- Execution of statements, over what calls and turns of loops mean.
use Rattle.std.specs.Prelude.{ℕ, Bool, not, ◌==◌, ◌&&◌, List, [], ◌∷◌, ◌++◌, Option, None, Some, if◌then◌else◌}
use Rattle.std.specs.List.{list_any}
use Rattle.df_base.specs.declared.pos.Pos.{Pos}
use Rattle.df_lang.specs.Expr.{Expr}
use Rattle.df_lang.specs.Stmt.{Operand, Text, Value, Target, Call, Conversion, Source, Single, Results, Update, Variable, Clause, Stmt, Block, Var, Assign, CallOf, If, While, Break, Return, Assert, Print, Stmts, done, next, Branches, no_branch, branch}
use Rattle.df_meaning.specs.declared.kind.Kind.{Kind}
use Rattle.df_meaning.specs.declared.kind.Kind.TheVariants as kinds
use Rattle.df_meaning.specs.Value.{truth_of, same_value}
use Rattle.df_meaning.specs.Value as values
use Rattle.df_meaning.specs.Outcome.{Outcome, Gives, Wrong, after}
use Rattle.df_meaning.specs.State.{State, with_store, with_local, without_local, printed}
use Rattle.df_meaning.specs.Meaning.{Meaning, Flow, Returned, Loop}
use Rattle.df_meaning.specs.Meaning as flows
use Rattle.df_meaning.specs.Evaluation.{evaluate, converted}

-- goes on with the next statement; a return or a break passes it by
abbrev pub goes : (State → Outcome Flow) → Flow → Outcome Flow
goes go (flows.Next s) = go s
goes go (flows.Return s) = Gives (flows.Return s)
goes go (flows.Break s) = Gives (flows.Break s)

abbrev pub then_next : Outcome Flow → (State → Outcome Flow) → Outcome Flow
then_next o go = after o (goes go)

-- expressions in order
abbrev pub evaluate_all : Meaning → State → List Expr → Outcome (List values.Value)
evaluate_all m s [] = Gives []
evaluate_all m s (e ∷ others) = after (evaluate m s e) (λ v. after (evaluate_all m s others) (λ vs. Gives (v ∷ vs)))

-- the clauses in order: the first that is not true is wrong, where its expression begins
abbrev pub check_all : Meaning → State → Kind → List Clause → Outcome State
check_all m s kind [] = Gives s
check_all m s kind (clause ∷ others) =
    after (evaluate m s clause.condition) (λ v. if truth_of v then check_all m s kind others else Wrong clause.pos kind)

-- values that a right side gives, and the state then
pub record Values : Type 0 where
  pub values : List values.Value
  pub state : State

abbrev pub execute_call : Meaning → State → Call → Outcome Values
execute_call m s call =
    after (evaluate_all m s call.arguments) (λ arguments.
    after (m.call call.pos call.callee arguments s.store) (λ returned.
    Gives (record { values = returned.values; state = with_store s returned.store })))

-- each result is converted to the type of its place
abbrev pub convert_all : Meaning → Pos → List Conversion → List values.Value → Outcome (List values.Value)
convert_all m pos [] vs = Gives []
convert_all m pos (c ∷ cs) [] = Gives []
convert_all m pos (c ∷ cs) (v ∷ vs) = after (converted m.program c.source c.target pos v) (λ w. after (convert_all m pos cs vs) (λ ws. Gives (w ∷ ws)))

abbrev pub execute_source : Meaning → State → Source → Outcome Values
execute_source m s (Single ty value) = after (evaluate m s value) (λ v. Gives (record { values = v ∷ []; state = s }))
execute_source m s (Results call results) =
    after (execute_call m s call) (λ given.
    after (convert_all m call.pos results given.values) (λ vs.
    Gives (record { values = vs; state = given.state })))

-- right sides in order
abbrev pub execute_sources : Meaning → State → List Source → Outcome Values
execute_sources m s [] = Gives (record { values = []; state = s })
execute_sources m s (source ∷ others) =
    after (execute_source m s source) (λ given.
    after (execute_sources m given.state others) (λ more.
    Gives (record { values = given.values ++ more.values; state = more.state })))

-- a value that a local was given
pub record Taken : Type 0 where
  pub local : ℕ
  pub value : values.Value

-- the local was given another value before
abbrev pub is_distinct : List Taken → ℕ → values.Value → Bool
is_distinct earlier local value = list_any (λ (taken : Taken). taken.local == local && not (same_value taken.value value)) earlier

-- values go to their places; those that coincide must be given equal values, or the later place is wrong
abbrev pub give_all : State → List Taken → List Target → List values.Value → Outcome State
give_all s earlier [] vs = Gives s
give_all s earlier (t ∷ ts) [] = Gives s
give_all s earlier (t ∷ ts) (v ∷ vs) =
    if is_distinct earlier t.local v then Wrong t.pos kinds.Distinct
    else give_all (with_local s t.local v) (record { local = t.local; value = v } ∷ earlier) ts vs

-- all right sides are evaluated before any place takes its value
abbrev pub execute_update : Meaning → State → Update → Outcome State
execute_update m s update = after (execute_sources m s update.sources) (λ given. give_all given.state [] update.targets given.values)

abbrev pub execute_optional : Meaning → State → Option Update → Outcome State
execute_optional m s None = Gives s
execute_optional m s (Some update) = execute_update m s update

-- declared locals have no values yet
abbrev pub declare_all : State → List Variable → State
declare_all s [] = s
declare_all s (variable ∷ others) = declare_all (without_local s variable.local) others

-- a text has its characters as its value
abbrev pub evaluate_operand : Meaning → State → Operand → Outcome values.Value
evaluate_operand m s (Text characters) = Gives (values.Text characters)
evaluate_operand m s (Value ty value) = evaluate m s value

-- each operand is evaluated and written before the next
abbrev pub print_all : Meaning → State → List Operand → Outcome State
print_all m s [] = Gives s
print_all m s (operand ∷ others) = after (evaluate_operand m s operand) (λ v. print_all m (printed s v) others)

abbrev pub go_on : Outcome State → Outcome Flow
go_on o = after o (λ s. Gives (flows.Next s))

abbrev mutual
  pub execute : Meaning → State → Stmt → Outcome Flow
  execute m s (Block pos body) = execute_all m s body
  execute m s (Var pos variables update) = go_on (execute_optional m (declare_all s variables) update)
  execute m s (Assign pos update) = go_on (execute_update m s update)
  execute m s (CallOf call) = after (execute_call m s call) (λ given. Gives (flows.Next given.state))
  execute m s (If branches otherwise) = execute_branches m s branches (execute_all m s otherwise)
  execute m s (While pos guard invariants decreases body) =
      after (check_all m s kinds.Entry invariants) (λ t.
      m.turns (record { pos = pos; guard = guard; invariants = invariants; decreases = decreases; body = body }) t)
  execute m s (Break pos) = Gives (flows.Break s)
  execute m s (Return pos update) = after (execute_optional m s update) (λ t. Gives (flows.Return t))
  execute m s (Assert pos condition) = after (evaluate m s condition) (λ v. if truth_of v then Gives (flows.Next s) else Wrong pos kinds.Assert)
  execute m s (Print pos operands) = go_on (print_all m s operands)

  -- statements in order
  pub execute_all : Meaning → State → Stmts → Outcome Flow
  execute_all m s done = Gives (flows.Next s)
  execute_all m s (next stmt others) = then_next (execute m s stmt) (λ t. execute_all m t others)

  -- the first branch whose guard is true, or else what is done without any
  pub execute_branches : Meaning → State → Branches → Outcome Flow → Outcome Flow
  execute_branches m s no_branch otherwise = otherwise
  execute_branches m s (branch pos guard body rest) otherwise =
      after (evaluate m s guard) (λ v. if truth_of v then execute_all m s body else execute_branches m s rest otherwise)
