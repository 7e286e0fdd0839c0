-- Whole runs: calls run their bodies, and loops their turns, as deep as the depth reaches.
use Rattle.std.specs.Prelude.{ℕ, zero, suc, List, [], ◌∷◌, length, if◌then◌else◌}
use Rattle.std.specs.Option.{option_map_or}
use Rattle.df_base.specs.declared.pos.Pos.{Pos}
use Rattle.df_lang.specs.Stmt.{Clause}
use Rattle.df_lang.specs.Program.{Method, Program, method_at}
use Rattle.df_meaning.specs.declared.kind.Kind.TheVariants as kinds
use Rattle.df_meaning.specs.Value.{Value, truth_of}
use Rattle.df_meaning.specs.Outcome.{Outcome, Gives, Wrong, TooDeep, Dismissed, after}
use Rattle.df_meaning.specs.State.{Store, State, begin, value_at}
use Rattle.df_meaning.specs.Meaning.{Meaning, Flow, Returned, Loop}
use Rattle.df_meaning.specs.Meaning as flows
use Rattle.df_meaning.specs.Evaluation.{evaluate}
use Rattle.df_meaning.specs.Execution.{check_all, execute_all}

-- what a caller owes: its call is wrong where a clause is not true
abbrev pub check_call : Meaning → State → Pos → List Clause → Outcome State
check_call m s pos [] = Gives s
check_call m s pos (clause ∷ others) =
    after (evaluate m s clause.condition) (λ v. if truth_of v then check_call m s pos others else Wrong pos kinds.Requires)

-- the values of locals from a number on; a local without one has none to give
abbrev pub values_from : State → ℕ → ℕ → Outcome (List Value)
values_from s from zero = Gives []
values_from s from (suc count) = option_map_or (λ v. after (values_from s (suc from) count) (λ vs. Gives (v ∷ vs))) (value_at s from) Dismissed

-- the results stand behind the parameters
abbrev pub results_of : Method → State → Outcome (List Value)
results_of method s = values_from s (length method.parameters) (length method.results)

-- the body ends in a state; a break out of no loop is none of a well-typed program
abbrev pub end_of : Flow → Outcome State
end_of (flows.Next s) = Gives s
end_of (flows.Return s) = Gives s
end_of (flows.Break s) = Dismissed

-- a method's body on arguments that meet its preconditions, and what it owes then
abbrev pub run_body : Meaning → Method → State → Outcome State
run_body m method s =
    after (execute_all m s method.body) (λ flow.
    after (end_of flow) (λ t.
    check_all m t kinds.Ensures method.postconditions))

abbrev pub run_method : Meaning → Pos → Method → List Value → Store → Outcome Returned
run_method m pos method arguments store =
    after (check_call m (begin arguments store) pos method.preconditions) (λ s.
    after (run_body m method s) (λ t.
    after (results_of method t) (λ values.
    Gives (record { values = values; store = t.store }))))

-- a turn, what is owed behind it, and then the loop goes on
abbrev pub behind_turn : Meaning → Loop → Flow → Outcome Flow
behind_turn m loop (flows.Next t) = after (check_all m t kinds.Turn loop.invariants) (λ u. m.turns loop u)
behind_turn m loop (flows.Return t) = Gives (flows.Return t)
behind_turn m loop (flows.Break t) = Gives (flows.Next t)

abbrev pub turn_by : Meaning → Loop → State → Outcome Flow
turn_by m loop s = after (execute_all m s loop.body) (behind_turn m loop)

-- the guard is evaluated, and where it is true there is a turn
abbrev pub turns_with : Outcome Value → State → Outcome Flow → Outcome Flow
turns_with guard s turn = after guard (λ v. if truth_of v then turn else Gives (flows.Next s))

-- calls that are this, and loops whose turns are that: a guard is evaluated first
abbrev pub meaning_of : Program → (Pos → ℕ → List Value → Store → Outcome Returned) → (Loop → State → Outcome Flow) → Meaning
meaning_of program call turn = record {
  program = program;
  call = call;
  turns = λ loop s. turns_with (evaluate (record { program = program; call = call; turns = λ other t. TooDeep }) s loop.guard) s (turn loop s);
}

-- a call of a method of the program
abbrev pub call_by : Meaning → Pos → ℕ → List Value → Store → Outcome Returned
call_by m pos callee arguments store = option_map_or (λ method. run_method m pos method arguments store) (method_at m.program callee) Dismissed

-- Each called body and each turn leaves one less depth for what is in it, and for the turns after it.
abbrev pub by_depth : (Meaning → Pos → ℕ → List Value → Store → Outcome Returned) → (Meaning → Loop → State → Outcome Flow) → Program → ℕ → Meaning
by_depth call turn program zero = meaning_of program (λ pos callee arguments store. TooDeep) (λ loop s. TooDeep)
by_depth call turn program (suc depth) = meaning_of program (call (by_depth call turn program depth)) (turn (by_depth call turn program depth))

abbrev pub whole : Program → ℕ → Meaning
whole program depth = by_depth call_by turn_by program depth
