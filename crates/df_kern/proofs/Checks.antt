-- A log that is checked step by step.
use Rattle.std.proofs.Common.{append-nil, map, ◌≡◌, Result, Ok, Err, OnOk, IfOk, ℕ, suc, ◌+◌, ◌<◌, ◌≤◌, Bool, true, false, List, [], ◌∷◌, ◌++◌, length, take, drop, get_or, slice_get, Option, None, Some, sym, ap, ◌∙◌, arith, drop-cons, add-one, if◌then◌else◌}
use Rattle.std.specs.Option.{option_and_then, option_map}
use Rattle.std.proofs.Math.Seq.{take-suc}
use Rattle.std.proofs.lemmas.List.{drop_all, take-append-drop}
use Rattle.std.proofs.lemmas.Option.{slice_get_within, get_or_from_slice_get, slice_get-map, slice_get-get_or}
use Rattle.df_form.specs.Log.{Step, step_of}
use Rattle.df_form.specs.declared.log.Step as declared
use Rattle.df_form.specs.Sequent.{Sequent, IsSequent, IsValid}
use Rattle.df_rules.specs.Derivation.{State, begin, after, after_all, ends_empty, kind_row, Derives}
use Rattle.df_kern.specs.Refusal.{refusal, refusal_from, or_refused, Answers}
use Rattle.df_kern.specs.declared.accepted.Accepted.{Accepted}
use Rattle.df_kern.specs.declared.checker.Checker.{Checker}
use Rattle.df_kern.specs.Accepted.{IsTaken}
use Rattle.df_kern.specs.declared.fault.KernFault.{KernFault}
use Rattle.df_kern.specs.declared.fault.KernFault.TheVariants.{Refused, Memory}
use Rattle.df_kern.specs.CheckerView.{goal_of, state_of, HasTaken, Takes, Finishes, ProvesGoal}
use Rattle.df_rules.proofs.Logs.{after_all-append}
use Rattle.df_rules.proofs.Sound.{derivation_is_valid}

-- so many steps of the log were taken, each a line of a derivation
pub record IsAt (s : Sequent) (steps : List Step) (i : ℕ) (goal : Sequent) (state : State) (taken : ℕ) : Type 0 where
  pub goal_is : goal ≡ s
  pub state_is : after_all s (begin s) (take i steps) ≡ Some state
  pub rest_is : refusal s steps ≡ refusal_from s (suc taken) state (drop i steps)
  pub count_is : taken ≡ i

pub at_begin : (s : Sequent) (steps : List Step) (goal : Sequent) (state : State) (taken : ℕ) → goal ≡ s → state ≡ begin s → taken ≡ 0 → IsAt s steps 0 goal state taken
at_begin s steps goal state taken goal_is state_is taken_is = record {
  goal_is = goal_is;
  state_is = ap Some (sym state_is);
  rest_is = λ k. refusal_from s (suc (sym taken_is k)) (sym state_is k) steps;
  count_is = taken_is;
}

module _ (s : Sequent) (steps : List Step) (i : ℕ) (goal : Sequent) (state : State) (taken : ℕ) (is : IsAt s steps i goal state taken) where
  dropped : (step : Step) → slice_get steps i ≡ Some step → drop i steps ≡ step ∷ drop (i + 1) steps
  dropped step at =
      let within = slice_get_within steps i step at in
      let here = get_or_from_slice_get steps i step step at in
      rw (add-one) (drop-cons steps i step within ∙ ap (λ (x : Step). x ∷ drop (suc i) steps) here)

  line_here : (step : Step) (r : Option State) → after goal state step ≡ r → after s state step ≡ r
  line_here step r e = ap (λ (g : Sequent). after g state step) (sym is.goal_is) ∙ e

  rest_here : (step : Step) (r : Option State) → slice_get steps i ≡ Some step → after goal state step ≡ r → refusal s steps ≡ or_refused (suc taken) (kind_row step) r (λ next. refusal_from s (suc (suc taken)) next (drop (i + 1) steps))
  rest_here step r at line =
      is.rest_is ∙ ap (refusal_from s (suc taken) state) (dropped step at)
      ∙ ap (λ (o : Option State). or_refused (suc taken) (kind_row step) o (λ next. refusal_from s (suc (suc taken)) next (drop (i + 1) steps))) (line_here step r line)

  taken_more : (step : Step) (next : State) → slice_get steps i ≡ Some step → after goal state step ≡ Some next → after_all s (begin s) (take (i + 1) steps) ≡ Some next
  taken_more step next at line =
      let within = slice_get_within steps i step at in
      let here = get_or_from_slice_get steps i step step at in
      let front : take (i + 1) steps ≡ take i steps ++ step ∷ [] = rw (add-one) (take-suc steps i step within ∙ ap (λ (x : Step). take i steps ++ x ∷ []) here) in
      ap (after_all s (begin s)) front ∙ after_all-append s (begin s) (take i steps) (step ∷ []) ∙ ap (option_and_then (λ next. after_all s next (step ∷ []))) is.state_is
      ∙ ap (λ (o : Option State). option_and_then (λ next. Some next) o) (line_here step (Some next) line)

  -- one more step is taken
  pub at_next : (step : Step) (after_goal : Sequent) (next : State) (more : ℕ) → slice_get steps i ≡ Some step → after_goal ≡ goal → after goal state step ≡ Some next → more ≡ taken + 1 → IsAt s steps (i + 1) after_goal next more
  at_next step after_goal next more at goal_stays line count =
      let one : suc taken ≡ more = omega (arith, count) in
      record {
        goal_is = goal_stays ∙ is.goal_is;
        state_is = taken_more step next at line;
        rest_is = rest_here step (Some next) at line ∙ ap (λ (n : ℕ). refusal_from s (suc n) next (drop (i + 1) steps)) one;
        count_is = omega (arith, count, is.count_is);
      }

  -- a step is refused
  pub at_refused : (step : Step) → slice_get steps i ≡ Some step → after goal state step ≡ None → (number row : ℕ) → number ≡ taken + 1 → row ≡ kind_row step → refusal s steps ≡ Some (record { at = number; broken = row })
  at_refused step at line number row number_is row_is =
      let one : suc taken ≡ number = omega (arith, number_is) in
      rest_here step None at line ∙ (λ k. Some (record { at = one k; broken = sym row_is k }))

  all_taken : length steps ≤ i → take i steps ≡ steps
  all_taken past = sym (append-nil (take i steps)) ∙ ap (λ (rest : List Step). take i steps ++ rest) (sym (drop_all i steps past)) ∙ take-append-drop i steps

  at_last : length steps ≤ i → refusal s steps ≡ refusal_from s (suc taken) state []
  at_last past = is.rest_is ∙ ap (refusal_from s (suc taken) state) (drop_all i steps past)

  -- the log ends with the empty clause
  pub at_end : length steps ≤ i → ends_empty state.clauses ≡ true → (refusal s steps ≡ None) × Derives s steps
  at_end past empty =
      (at_last past ∙ ap (λ (b : Bool). if b then None else Some (record { at = suc taken; broken = 0 })) empty, (state, ap (after_all s (begin s)) (sym (all_taken past)) ∙ is.state_is, empty))

  -- or without it
  pub at_unended : length steps ≤ i → ends_empty state.clauses ≡ false → (number row : ℕ) → number ≡ taken + 1 → row ≡ 0 → refusal s steps ≡ Some (record { at = number; broken = row })
  at_unended past empty number row number_is row_is =
      let one : suc taken ≡ number = omega (arith, number_is) in
      at_last past ∙ ap (λ (b : Bool). if b then None else Some (record { at = suc taken; broken = 0 })) empty ∙ (λ k. Some (record { at = one k; broken = sym row_is k }))

-- what a checker's calls say of the whole log
module _ (s : Sequent) (steps : List Step) (i : ℕ) (checker : Checker) (is : IsAt s steps i (goal_of checker) (state_of checker) checker.taken) where
  pub takes : (after_take : Checker) (step : Step) → slice_get steps i ≡ Some step → HasTaken checker after_take step → IsAt s steps (i + 1) (goal_of after_take) (state_of after_take) after_take.taken
  takes after_take step at taken = at_next s steps i (goal_of checker) (state_of checker) checker.taken is step (goal_of after_take) (state_of after_take) after_take.taken at taken.sequent taken.state taken.taken

  pub fails : (after_take : Checker) (step : Step) (fault : KernFault) → slice_get steps i ≡ Some step → Takes checker after_take (Err fault) step → Answers (refusal s steps) (Err fault)
  fails after_take step (Refused number row) at told = at_refused s steps i (goal_of checker) (state_of checker) checker.taken is step at told.0.line number row told.0.at told.0.broken
  fails after_take step Memory at told = tt

  pub finishes : (result : Result Accepted KernFault) → length steps ≤ i → Finishes checker result → Answers (refusal s steps) result
  finishes (Ok accepted) past told = (at_end s steps i (goal_of checker) (state_of checker) checker.taken is past told.0).0
  finishes (Err (Refused number row)) past told = at_unended s steps i (goal_of checker) (state_of checker) checker.taken is past told.0 number row told.1 told.2
  finishes (Err Memory) past told = tt

  pub derives : (result : Result Accepted KernFault) → length steps ≤ i → Finishes checker result → OnOk result (Derives s steps)
  derives (Ok accepted) past told = (at_end s steps i (goal_of checker) (state_of checker) checker.taken is past told.0).1
  derives (Err fault) past told = tt

  pub is_taken : (result : Result Accepted KernFault) → length steps ≡ i → Finishes checker result → IfOk result (IsTaken s steps)
  is_taken (Ok accepted) all told = record {
    derives = (at_end s steps i (goal_of checker) (state_of checker) checker.taken is (omega (arith, all)) told.0).1;
    steps = omega (arith, told.1, is.count_is, all);
  }
  is_taken (Err fault) all told = tt

  pub proves : (result : Result Accepted KernFault) → IsSequent s → length steps ≤ i → Finishes checker result → OnOk result (IsValid s)
  proves (Ok accepted) sequent past told = derivation_is_valid s sequent steps (at_end s steps i (goal_of checker) (state_of checker) checker.taken is past told.0).1
  proves (Err fault) sequent past told = tt

-- the step that a loop over a log reads
pub step-at : (log : List declared.Step) (i : ℕ) (step : declared.Step) → i < length log → step ≡ get_or log i step → slice_get (map step_of log) i ≡ Some (step_of step)
step-at log i step less is = slice_get-map step_of log i ∙ ap (option_map step_of) (slice_get-get_or log i step less ∙ ap Some (sym is))

-- a checker that ends with the empty clause has proved its sequent
pub proves-goal : (c : Checker) (result : Result Accepted KernFault) → IsSequent (goal_of c) → Finishes c result → OnOk result (ProvesGoal c)
proves-goal c (Ok accepted) sequent told = λ log reached. derivation_is_valid (goal_of c) sequent log (state_of c, reached, told.0)
proves-goal c (Err fault) sequent told = tt
