-- Whole runs: calls run their bodies, and loops their turns, as deep as the depth reaches.
use Rattle.std.specs.Prelude.{ℕ, zero, suc, List, [], ◌∷◌, length, if◌then◌else◌}
use Rattle.std.specs.Option.{option_map_or}
use Rattle.df_meaning.specs.Value.{Value}
use Rattle.df_nplain.specs.Plain.{Method, Plain, method_at}
use Rattle.df_nplain.specs.Outcome.{Outcome, Gives, TooDeep, Stuck, after}
use Rattle.df_nplain.specs.State.{State, begin, value_at}
use Rattle.df_nplain.specs.Meaning.{Meaning, Flow, Returned, Loop}
use Rattle.df_nplain.specs.Meaning as flows
use Rattle.df_nplain.specs.Evaluation.{truth_in, evaluate}
use Rattle.df_nplain.specs.Execution.{execute_all}

-- the values of locals from a number on; a local without one has none to give
abbrev pub values_from : State → ℕ → ℕ → Outcome (List Value)
values_from s from zero = Gives []
values_from s from (suc count) = option_map_or (λ v. after (values_from s (suc from) count) (λ vs. Gives (v ∷ vs))) (value_at s from) Stuck

-- the results stand behind the parameters
abbrev pub results_of : Method → State → Outcome (List Value)
results_of method s = values_from s (length method.parameters) (length method.results)

-- the body ends in a state; a break out of no loop ends in none
abbrev pub end_of : Flow → Outcome State
end_of (flows.Next s) = Gives s
end_of (flows.Return s) = Gives s
end_of (flows.Break s) = Stuck

-- a method's body on arguments, and the results that it leaves
abbrev pub run_method : Meaning → Method → List Value → List ℕ → Outcome Returned
run_method m method arguments text =
    after (execute_all m (begin arguments text) method.body) (λ flow.
    after (end_of flow) (λ t.
    after (results_of method t) (λ values.
    Gives (record { values = values; text = t.text }))))

-- behind a turn the loop goes on, unless the turn returned or broke out of it
abbrev pub behind_turn : Meaning → Loop → Flow → Outcome Flow
behind_turn m loop (flows.Next t) = m.turns loop t
behind_turn m loop (flows.Return t) = Gives (flows.Return t)
behind_turn m loop (flows.Break t) = Gives (flows.Next t)

abbrev pub turn_by : Meaning → Loop → State → Outcome Flow
turn_by m loop s = after (execute_all m s loop.body) (behind_turn m loop)

-- the guard is evaluated, and where it is true there is a turn
abbrev pub turns_with : Outcome Value → State → Outcome Flow → Outcome Flow
turns_with guard s turn = after guard (λ v. after (truth_in v) (λ b. if b then turn else Gives (flows.Next s)))

-- calls that are this, and loops whose turns are that: a guard is evaluated first
abbrev pub meaning_of : Plain → (ℕ → List Value → List ℕ → Outcome Returned) → (Loop → State → Outcome Flow) → Meaning
meaning_of program call turn = record {
  program = program;
  call = call;
  turns = λ loop s. turns_with (evaluate (record { program = program; call = call; turns = λ other t. TooDeep }) s loop.guard) s (turn loop s);
}

-- a call of a method of the program
abbrev pub call_by : Meaning → ℕ → List Value → List ℕ → Outcome Returned
call_by m callee arguments text = option_map_or (λ method. run_method m method arguments text) (method_at m.program callee) Stuck

-- Each called body and each turn leaves one less depth for what is in it, and for the turns after it.
abbrev pub whole : Plain → ℕ → Meaning
whole program zero = meaning_of program (λ callee arguments text. TooDeep) (λ loop s. TooDeep)
whole program (suc depth) = meaning_of program (call_by (whole program depth)) (turn_by (whole program depth))
