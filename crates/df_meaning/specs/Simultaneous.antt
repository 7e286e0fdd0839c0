-- That an assignment evaluates all its right sides, calls among them, before any place takes a value.
use Rattle.std.specs.Prelude.{◌≡◌, List, [], ◌∷◌, ◌++◌}
use Rattle.df_lang.specs.Stmt.{Source, Single, Results, Update}
use Rattle.df_meaning.specs.Outcome.{Outcome, Gives, after}
use Rattle.df_meaning.specs.State.{Store, State, with_store}
use Rattle.df_meaning.specs.Meaning.{Meaning, Returned}
use Rattle.df_meaning.specs.Evaluation.{evaluate}
use Rattle.df_meaning.specs.Execution.{evaluate_all, convert_all, give_all, execute_update}

-- the values of a right side over the locals of the state, and the store behind it
abbrev pub given_by : Meaning → State → Source → Outcome Returned
given_by m s (Single ty value) = after (evaluate m s value) (λ v. Gives (record { values = v ∷ []; store = s.store }))
given_by m s (Results call results) =
    after (evaluate_all m s call.arguments) (λ arguments.
    after (m.call call.pos call.callee arguments s.store) (λ returned.
    after (convert_all m call.pos results returned.values) (λ vs.
    Gives (record { values = vs; store = returned.store }))))

-- the right sides in order, all over the same locals: each takes the store that the one before left
abbrev pub given_by_all : Meaning → State → Store → List Source → Outcome Returned
given_by_all m s store [] = Gives (record { values = []; store = store })
given_by_all m s store (source ∷ others) =
    after (given_by m (with_store s store) source) (λ first.
    after (given_by_all m s first.store others) (λ more.
    Gives (record { values = first.values ++ more.values; store = more.store })))

-- All right sides are evaluated over the locals before, in order, and then the places take their values.
abbrev pub AssignmentsAreSimultaneous : Type 0
AssignmentsAreSimultaneous = (m : Meaning) (s : State) (update : Update)
    → execute_update m s update ≡ after (given_by_all m s s.store update.sources) (λ given. give_all (with_store s given.store) [] update.targets given.values)
