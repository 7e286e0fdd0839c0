-- Right sides, calls among them, leave the locals.
use Rattle.std.proofs.Common.{◌≡◌, List, [], ◌∷◌, ◌++◌, refl, ap, ◌∙◌}
use Rattle.df_lang.specs.Stmt.{Call, Conversion, Source, Single, Results}
use Rattle.df_meaning.specs.Value as values
use Rattle.df_meaning.specs.Outcome.{Outcome, Gives, Wrong, TooDeep, NoChoice, Dismissed, after}
use Rattle.df_meaning.specs.State.{Store, State, with_store}
use Rattle.df_meaning.specs.Meaning.{Meaning, Returned}
use Rattle.df_meaning.specs.Evaluation.{evaluate}
use Rattle.df_meaning.specs.Execution.{Values, evaluate_all, convert_all, execute_source, execute_sources, give_all}
use Rattle.df_meaning.specs.Simultaneous.{given_by, given_by_all, AssignmentsAreSimultaneous}

-- the values, in the state with the store
abbrev left : State → Returned → Outcome Values
left s r = Gives (record { values = r.values; state = with_store s r.store })

abbrev of_values : Store → List values.Value → Outcome Returned
of_values store vs = Gives (record { values = vs; store = store })

abbrev in_state : State → List values.Value → Outcome Values
in_state s vs = Gives (record { values = vs; state = s })

values_left : (s : State) (store : Store) (o : Outcome (List values.Value)) → after o (in_state (with_store s store)) ≡ after (after o (of_values store)) (left s)
values_left s store (Gives vs) = refl
values_left s store (Wrong at kind) = refl
values_left s store TooDeep = refl
values_left s store NoChoice = refl
values_left s store Dismissed = refl

single_leaves : (s : State) (o : Outcome values.Value) → after o (λ v. in_state s (v ∷ [])) ≡ after (after o (λ v. of_values s.store (v ∷ []))) (left s)
single_leaves s (Gives v) = refl
single_leaves s (Wrong at kind) = refl
single_leaves s TooDeep = refl
single_leaves s NoChoice = refl
single_leaves s Dismissed = refl

-- what a call gave, converted
abbrev in_places : Meaning → Call → List Conversion → Values → Outcome Values
in_places m call results given = after (convert_all m call.pos results given.values) (in_state given.state)

abbrev for_places : Meaning → Call → List Conversion → Returned → Outcome Returned
for_places m call results returned = after (convert_all m call.pos results returned.values) (of_values returned.store)

returned_leaves : (m : Meaning) (s : State) (call : Call) (results : List Conversion) (o : Outcome Returned)
    → after (after o (left s)) (in_places m call results) ≡ after (after o (for_places m call results)) (left s)
returned_leaves m s call results (Gives r) = values_left s r.store (convert_all m call.pos results r.values)
returned_leaves m s call results (Wrong at kind) = refl
returned_leaves m s call results TooDeep = refl
returned_leaves m s call results NoChoice = refl
returned_leaves m s call results Dismissed = refl

call_leaves : (m : Meaning) (s : State) (call : Call) (results : List Conversion) (o : Outcome (List values.Value))
    → after (after o (λ arguments. after (m.call call.pos call.callee arguments s.store) (left s))) (in_places m call results)
    ≡ after (after o (λ arguments. after (m.call call.pos call.callee arguments s.store) (for_places m call results))) (left s)
call_leaves m s call results (Gives arguments) = returned_leaves m s call results (m.call call.pos call.callee arguments s.store)
call_leaves m s call results (Wrong at kind) = refl
call_leaves m s call results TooDeep = refl
call_leaves m s call results NoChoice = refl
call_leaves m s call results Dismissed = refl

source_leaves : (m : Meaning) (s : State) (source : Source) → execute_source m s source ≡ after (given_by m s source) (left s)
source_leaves m s (Single ty value) = single_leaves s (evaluate m s value)
source_leaves m s (Results call results) = call_leaves m s call results (evaluate_all m s call.arguments)

-- the values of the first right side, before those of others
abbrev with_more : Returned → Values → Outcome Values
with_more first more = Gives (record { values = first.values ++ more.values; state = more.state })

abbrev and_more : Returned → Returned → Outcome Returned
and_more first more = Gives (record { values = first.values ++ more.values; store = more.store })

more_leaves : (s : State) (first : Returned) (o : Outcome Returned) → after (after o (left s)) (with_more first) ≡ after (after o (and_more first)) (left s)
more_leaves s first (Gives more) = refl
more_leaves s first (Wrong at kind) = refl
more_leaves s first TooDeep = refl
more_leaves s first NoChoice = refl
more_leaves s first Dismissed = refl

abbrev then_others : Meaning → List Source → Values → Outcome Values
then_others m others given = after (execute_sources m given.state others) (λ more. Gives (record { values = given.values ++ more.values; state = more.state }))

first_and_others : (m : Meaning) (s : State) (store : Store) (others : List Source) (o : Outcome Returned)
    → ((store : Store) → execute_sources m (with_store s store) others ≡ after (given_by_all m s store others) (left s))
    → after (after o (left (with_store s store))) (then_others m others) ≡ after (after o (λ first. after (given_by_all m s first.store others) (and_more first))) (left s)
first_and_others m s store others (Gives first) h = ap (λ o. after o (with_more first)) (h first.store) ∙ more_leaves s first (given_by_all m s first.store others)
first_and_others m s store others (Wrong at kind) h = refl
first_and_others m s store others TooDeep h = refl
first_and_others m s store others NoChoice h = refl
first_and_others m s store others Dismissed h = refl

sources_leave : (m : Meaning) (s : State) (sources : List Source) (store : Store) → execute_sources m (with_store s store) sources ≡ after (given_by_all m s store sources) (left s)
sources_leave m s [] store = refl
sources_leave m s (source ∷ others) store =
    ap (λ o. after o (then_others m others)) (source_leaves m (with_store s store) source)
    ∙ first_and_others m s store others (given_by m (with_store s store) source) (sources_leave m s others)

then_given : (s : State) (targets : State → List values.Value → Outcome State) (o : Outcome Returned) → after (after o (left s)) (λ given. targets given.state given.values) ≡ after o (λ given. targets (with_store s given.store) given.values)
then_given s targets (Gives given) = refl
then_given s targets (Wrong at kind) = refl
then_given s targets TooDeep = refl
then_given s targets NoChoice = refl
then_given s targets Dismissed = refl

pub assignments_are_simultaneous : AssignmentsAreSimultaneous
assignments_are_simultaneous m s update =
    ap (λ o. after o (λ given. give_all given.state [] update.targets given.values)) (sources_leave m s update.sources s.store)
    ∙ then_given s (λ t vs. give_all t [] update.targets vs) (given_by_all m s s.store update.sources)
