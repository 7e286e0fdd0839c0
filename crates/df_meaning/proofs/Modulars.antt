-- More depth keeps what modular runs do.
use Rattle.std.proofs.Common.{◌≡◌, ◌≤◌, ℕ, zero, suc, List, [], ◌∷◌, map, refl, sym, ap, arith}
use Rattle.df_lang.specs.Stmt.{Clause, Measure}
use Rattle.df_lang.specs.Measures.{loop_measure}
use Rattle.df_meaning.specs.declared.kind.Kind.TheVariants as kinds
use Rattle.df_meaning.specs.Value.{Value, truth_of}
use Rattle.df_meaning.specs.Outcome.{Outcome, Gives, Wrong, TooDeep, NoChoice, Dismissed, after}
use Rattle.df_meaning.specs.State.{State}
use Rattle.df_meaning.specs.Meaning.{Meaning, Flow, Loop}
use Rattle.df_meaning.specs.Meaning as flows
use Rattle.df_meaning.specs.Modular.{assume_all, or_dismissed, measure_values, check_below, changed_by_all, handed_turn, Running, behind_once, modular_turn, modular_turns, modular}
use Rattle.df_meaning.specs.Growing.{◌⊑◌, Below}
use Rattle.df_meaning.proofs.Outcomes.{same_grows, equal_grows, after_grows, choice_grows}
use Rattle.df_meaning.proofs.Growing.{evaluate_grows}
use Rattle.df_meaning.proofs.Executing.{values_grow, checks_grow, all_grow, turns_grow}

pub program_of_modular : (run : Running) (depth : ℕ) → (modular run depth).program ≡ run.program
program_of_modular run zero = refl
program_of_modular run (suc depth) = refl

dismissed_grows : {A : Type 0} (o p : Outcome A) → o ⊑ p → or_dismissed o ⊑ or_dismissed p
dismissed_grows (Gives a) p e = ap (λ x. or_dismissed x) e
dismissed_grows (Wrong at kind) p e = ap (λ x. or_dismissed x) e
dismissed_grows TooDeep p e = tt
dismissed_grows NoChoice p e = ap (λ x. or_dismissed x) e
dismissed_grows Dismissed p e = ap (λ x. or_dismissed x) e

module _ (m n : Meaning) (h : Below m n) where
  assumed_grows : (s : State) (clauses : List Clause) → assume_all m s clauses ⊑ assume_all n s clauses
  assumed_grows s [] = refl
  assumed_grows s (clause ∷ others) = after_grows _ _ _ _ (evaluate_grows m n h s clause.condition) (λ v. choice_grows (truth_of v) _ _ _ _ (assumed_grows s others) refl)

  pub measured_grow : (s : State) (measures : List Measure) → measure_values m s measures ⊑ measure_values n s measures
  measured_grow s measures = values_grow m n h s (map (λ (measure : Measure). measure.value) measures)

  pub behind_grows : (loop : Loop) (before : List Value) (flow : Flow) → behind_once m loop before flow ⊑ behind_once n loop before flow
  behind_grows loop before (flows.Next t) =
      after_grows _ _ _ _ (checks_grow m n h t kinds.Turn loop.invariants) (λ u.
      after_grows _ _ _ _ (measured_grow u (loop_measure loop.guard loop.decreases)) (λ now. same_grows (after (check_below loop.pos now before) (λ checked. Dismissed))))
  behind_grows loop before (flows.Return t) = refl
  behind_grows loop before (flows.Break t) = refl

  pub once_grows : (loop : Loop) (s : State) → modular_turn m loop s ⊑ modular_turn n loop s
  once_grows loop s = after_grows _ _ _ _ (measured_grow s (loop_measure loop.guard loop.decreases)) (λ before. after_grows _ _ _ _ (all_grow m n h s loop.body) (λ flow. behind_grows loop before flow))

  modular_turns_grow : (loop : Loop) (s : State) → modular_turns m loop s ⊑ modular_turns n loop s
  modular_turns_grow loop s =
      after_grows _ _ _ _ (equal_grows _ _ (ap (λ p. handed_turn p (changed_by_all loop.body) s s.store.handed) (sym h.program))) (λ t.
      after_grows _ _ _ _ (dismissed_grows _ _ (assumed_grows t loop.invariants)) (λ u.
      turns_grow _ _ u _ _ (evaluate_grows m n h u loop.guard) (once_grows loop u)))

pub modulars_grow : (run : Running) (depth more : ℕ) → depth ≤ more → Below (modular run depth) (modular run more)
modulars_grow run zero zero le = record { program = refl; call = λ at callee arguments store. same_grows _; turns = λ loop s. tt }
modulars_grow run zero (suc more) le = record { program = refl; call = λ at callee arguments store. same_grows _; turns = λ loop s. tt }
modulars_grow run (suc depth) zero le = absurd (omega (arith, le))
modulars_grow run (suc depth) (suc more) le = record {
  program = refl;
  call = λ at callee arguments store. same_grows _;
  turns = λ loop s. modular_turns_grow (modular run depth) (modular run more) (modulars_grow run depth more (omega (arith, le))) loop s;
}
