-- Modular runs of one declaration: what calls and loops leave is handed in.
use Rattle.std.specs.Prelude.{◌≡◌, ℕ, zero, suc, ◌==◌, Bool, true, List, [], ◌∷◌, ◌++◌, map, Option, None, Some, if◌then◌else◌}
use Rattle.std.specs.Option.{option_map_or}
use Rattle.df_base.specs.declared.pos.Pos.{Pos}
use Rattle.df_lang.specs.declared.ty.Ty.{Ty}
use Rattle.df_lang.specs.Stmt.{Target, Variable, Update, Measure, Clause, Stmt, Block, Var, Assign, CallOf, If, While, Break, Return, Assert, Print, Stmts, done, next, Branches, no_branch, branch}
use Rattle.df_lang.specs.Program.{Method, Program, method_at, types_of}
use Rattle.df_lang.specs.Measures.{loop_measure, method_measure}
use Rattle.df_lang.specs.Groups.{AreGroups, group_at}
use Rattle.df_meaning.specs.declared.kind.Kind.{Kind}
use Rattle.df_meaning.specs.declared.kind.Kind.TheVariants as kinds
use Rattle.df_meaning.specs.Value.{Value, truth_of}
use Rattle.df_meaning.specs.Types.{has_type, have_types}
use Rattle.df_meaning.specs.Outcome.{Outcome, Gives, Wrong, TooDeep, NoChoice, Dismissed, after}
use Rattle.df_meaning.specs.State.{Handed, Given, Turned, Store, State, Locals, begin, set_local, with_locals, with_store, store_with}
use Rattle.df_meaning.specs.Meaning.{Meaning, Flow, Returned, Loop}
use Rattle.df_meaning.specs.Meaning as flows
use Rattle.df_meaning.specs.Evaluation.{evaluate}
use Rattle.df_meaning.specs.Execution.{check_all, execute_all, evaluate_all}
use Rattle.df_meaning.specs.Whole.{check_call, run_body, turns_with, meaning_of}
use Rattle.df_meaning.specs.Order.{are_below}

-- the run counts only where the clauses are true
abbrev pub assume_all : Meaning → State → List Clause → Outcome State
assume_all m s [] = Gives s
assume_all m s (clause ∷ others) = after (evaluate m s clause.condition) (λ v. if truth_of v then assume_all m s others else Dismissed)

-- what is wrong there does not count either; what is too deep stays so
abbrev pub or_dismissed : {A : Type 0} → Outcome A → Outcome A
or_dismissed (Gives a) = Gives a
or_dismissed (Wrong pos kind) = Dismissed
or_dismissed TooDeep = TooDeep
or_dismissed NoChoice = Dismissed
or_dismissed Dismissed = Dismissed

abbrev pub measure_values : Meaning → State → List Measure → Outcome (List Value)
measure_values m s measures = evaluate_all m s (map (λ (measure : Measure). measure.value) measures)

-- what was is above what is
abbrev pub check_below : Pos → List Value → List Value → Outcome (List Value)
check_below pos now before = if are_below now before then Gives now else Wrong pos kinds.Decreases

-- ---- Which locals a loop may change.

-- a local and its type
pub record Changed : Type 0 where
  pub local : ℕ
  pub ty : Ty

abbrev pub changed_by_update : Option Update → List Changed
changed_by_update None = []
changed_by_update (Some update) = map (λ (target : Target). record { local = target.local; ty = target.ty }) update.targets

abbrev pub changed_by_variables : List Variable → List Changed
changed_by_variables variables = map (λ (variable : Variable). record { local = variable.local; ty = variable.ty }) variables

abbrev mutual
  -- the locals that a statement declares or assigns; what a `return` gives reaches no further turn, and nothing behind the loop
  pub changed_by : Stmt → List Changed
  changed_by (Block pos body) = changed_by_all body
  changed_by (Var pos variables update) = changed_by_variables variables ++ changed_by_update update
  changed_by (Assign pos update) = changed_by_update (Some update)
  changed_by (CallOf call) = []
  changed_by (If branches otherwise) = changed_by_branches branches ++ changed_by_all otherwise
  changed_by (While pos guard invariants decreases body) = changed_by_all body
  changed_by (Break pos) = []
  changed_by (Return pos update) = []
  changed_by (Assert pos condition) = []
  changed_by (Print pos operands) = []

  pub changed_by_all : Stmts → List Changed
  changed_by_all done = []
  changed_by_all (next stmt others) = changed_by stmt ++ changed_by_all others

  pub changed_by_branches : Branches → List Changed
  changed_by_branches no_branch = []
  changed_by_branches (branch pos guard body rest) = changed_by_all body ++ changed_by_branches rest

-- ---- What is handed in.

-- a value that is there is of the type
abbrev pub may_have : Program → Ty → Option Value → Bool
may_have program ty None = true
may_have program ty (Some value) = has_type program ty value

-- the changed locals take what is handed in for them, of their types
abbrev pub turned : Program → List Changed → Locals → State → Outcome State
turned program [] handed s = Gives s
turned program (changed ∷ others) handed s =
    if may_have program changed.ty (handed changed.local)
    then turned program others handed (with_locals s (set_local s.locals changed.local (handed changed.local)))
    else Dismissed

-- the state before some turn of a loop
abbrev pub handed_turn : Program → List Changed → State → List Handed → Outcome State
handed_turn program changed s [] = Dismissed
handed_turn program changed s (Given values text ∷ rest) = Dismissed
handed_turn program changed s (Turned locals text ∷ rest) = turned program changed locals (with_store s (store_with text rest))

-- what a call gave
abbrev pub handed_results : Program → Method → List Handed → Outcome Returned
handed_results program method [] = Dismissed
handed_results program method (Turned locals text ∷ rest) = Dismissed
handed_results program method (Given values text ∷ rest) =
    if have_types program (types_of method.results) values then Gives (record { values = values; store = store_with text rest }) else Dismissed

-- ---- The run.

-- the declaration that runs: its number, and its measure on entry; and the group of each declaration
pub record Running : Type 0 where
  pub program : Program
  pub groups : List ℕ
  pub number : ℕ
  pub entry : List Value

-- expressions are evaluated over it
abbrev pub plain_meaning : Program → Meaning
plain_meaning program = meaning_of program (λ pos callee arguments store. Dismissed) (λ loop s. Dismissed)

-- inside its group a callee's measure is below that of the declaration that runs
abbrev pub check_decrease : Running → Pos → ℕ → Method → State → Outcome (List Value)
check_decrease run pos callee method s =
    if group_at run.groups run.number == group_at run.groups callee
    then after (measure_values (plain_meaning run.program) s (method_measure method)) (λ now. check_below pos now run.entry)
    else Gives []

-- what the callee owes is true of what it gave
abbrev pub assume_returned : Program → Method → List Value → Returned → Outcome Returned
assume_returned program method arguments returned =
    after (or_dismissed (assume_all (plain_meaning program) (begin (arguments ++ returned.values) returned.store) method.postconditions)) (λ s. Gives returned)

abbrev pub modular_call : Running → Pos → ℕ → List Value → Store → Outcome Returned
modular_call run pos callee arguments store =
    option_map_or (λ (method : Method).
    after (check_call (plain_meaning run.program) (begin arguments store) pos method.preconditions) (λ s.
    after (check_decrease run pos callee method s) (λ now.
    after (handed_results run.program method store.handed) (assume_returned run.program method arguments))))
    (method_at run.program callee) Dismissed

-- what is owed behind the one turn of a loop; the run ends there
abbrev pub behind_once : Meaning → Loop → List Value → Flow → Outcome Flow
behind_once m loop before (flows.Next t) =
    after (check_all m t kinds.Turn loop.invariants) (λ u.
    after (measure_values m u (loop_measure loop.guard loop.decreases)) (λ now.
    after (check_below loop.pos now before) (λ checked. Dismissed)))
behind_once m loop before (flows.Return t) = Gives (flows.Return t)
behind_once m loop before (flows.Break t) = Gives (flows.Next t)

-- the body of a loop runs once
abbrev pub modular_turn : Meaning → Loop → State → Outcome Flow
modular_turn m loop s =
    after (measure_values m s (loop_measure loop.guard loop.decreases)) (λ before.
    after (execute_all m s loop.body) (behind_once m loop before))

-- the invariants are true of what is handed in, and then the guard is evaluated
abbrev pub modular_turns : Meaning → Loop → State → Outcome Flow
modular_turns m loop s =
    after (handed_turn m.program (changed_by_all loop.body) s s.store.handed) (λ t.
    after (or_dismissed (assume_all m t loop.invariants)) (λ u.
    turns_with (evaluate m u loop.guard) u (modular_turn m loop u)))

-- each loop leaves one less depth for its body
abbrev pub modular : Running → ℕ → Meaning
modular run zero = record { program = run.program; call = modular_call run; turns = λ loop s. TooDeep }
modular run (suc depth) = record { program = run.program; call = modular_call run; turns = modular_turns (modular run depth) }

-- The run of a method on arguments: it is dismissed where a precondition is not true.
abbrev pub modular_run : Program → List ℕ → ℕ → ℕ → Method → List Value → Store → Outcome State
modular_run program groups depth number method arguments store =
    after (assume_all (plain_meaning program) (begin arguments store) method.preconditions) (λ s.
    after (measure_values (plain_meaning program) s (method_measure method)) (λ entry.
    run_body (modular (record { program = program; groups = groups; number = number; entry = entry }) depth) method s))

-- some modular run of the method is wrong at a position by an obligation of a kind
pub record IsModularlyWrong (program : Program) (groups : List ℕ) (number : ℕ) (method : Method) (pos : Pos) (kind : Kind) : Type 0 where
  pub depth : ℕ
  pub arguments : List Value
  pub store : Store
  pub typed : have_types program (types_of method.parameters) arguments ≡ true
  pub wrong : modular_run program groups depth number method arguments store ≡ Wrong pos kind

-- no modular run of the method is wrong
abbrev pub IsModularlySafe : Program → List ℕ → ℕ → Method → Type 0
IsModularlySafe program groups number method = (pos : Pos) (kind : Kind) → IsModularlyWrong program groups number method pos kind → ⊥

-- no modular run of any method is wrong
abbrev pub AreModularlySafe : Program → List ℕ → Type 0
AreModularlySafe program groups = (number : ℕ) (method : Method) → method_at program number ≡ Some method → IsModularlySafe program groups number method

-- A program is safe where no modular run of any of its methods is wrong, over its own groups: over others a call
-- inside a group would owe no decrease.
pub record IsSafe (program : Program) : Type 0 where
  pub groups : List ℕ
  pub are_groups : AreGroups program groups
  pub methods : AreModularlySafe program groups
