-- Whole runs of methods end with what they owe, and those of loops by the guard or by a `break`.
use Rattle.std.proofs.Common.{◌≡◌, ◌⊎◌, inl, inr, ℕ, zero, suc, Bool, true, false, if◌then◌else◌, ◌++◌, refl, sym, ap, subst, ◌∙◌}
use Rattle.df_lang.specs.Program.{Program, types_of}
use Rattle.df_lang.specs.Typing.{is_method}
use Rattle.df_meaning.specs.declared.kind.Kind.TheVariants as kinds
use Rattle.df_meaning.specs.Value.{Value, truth_of}
use Rattle.df_meaning.specs.Types.{have_types}
use Rattle.df_meaning.specs.Outcome.{Outcome, Gives, Wrong, TooDeep, NoChoice, Dismissed, after}
use Rattle.df_meaning.specs.State.{State, begin}
use Rattle.df_meaning.specs.Meaning.{Meaning, Flow, state_of, Returned, Loop}
use Rattle.df_meaning.specs.Meaning as flows
use Rattle.df_meaning.specs.Evaluation.{evaluate}
use Rattle.df_meaning.specs.Execution.{check_all, execute_all}
use Rattle.df_meaning.specs.Whole.{check_call, results_of, run_body, behind_turn, turn_by, turns_with, whole}
use Rattle.df_meaning.specs.Modular.{plain_meaning}
use Rattle.df_meaning.proofs.Cases.{given}
use Rattle.df_meaning.proofs.Same.{evaluate_same}
use Rattle.df_meaning.proofs.Stating.{checked_same}
use Rattle.df_meaning.proofs.Wholes.{method_typed, owed_same, program_of_whole}
use Rattle.df_meaning.proofs.Kept.{wholes_keep}
use Rattle.df_hoare.specs.Ends.{AreTrue, MethodsMeetPostconditions, EndsByGuard, EndsByBreak, LoopsEnd}
use Rattle.df_hoare.proofs.Running.{given_is}
use Rattle.df_hoare.proofs.Clauses.{IsMet, seen_alike, met_by_check}
use Rattle.df_hoare.proofs.Returned.{bound_gives, owed_met}

-- ---- methods

pub methods_meet_postconditions : MethodsMeetPostconditions
methods_meet_postconditions program depth number at method arguments store returned well there have gives =
    let m : Meaning = whole program depth in
    let start : State = begin arguments store in
    let c = bound_gives (check_call m start at method.preconditions) (λ s. after (run_body m method s) (λ t. after (results_of method t) (λ vs. Gives (record { values = vs; store = t.store })))) returned gives in
    let begins : c.0 ≡ start = given (λ (t : State). t ≡ start) (check_call m start at method.preconditions) c.0 (owed_same m start at method.preconditions) c.1 in
    let d = bound_gives (run_body m method c.0) (λ t. after (results_of method t) (λ vs. Gives (record { values = vs; store = t.store }))) returned c.2 in
    let f = bound_gives (results_of method d.0) (λ vs. Gives (record { values = vs; store = d.0.store })) returned d.2 in
    subst (λ (r : Returned). AreTrue program (begin (arguments ++ r.values) r.store) method.postconditions) (given_is (record { values = f.0; store = d.0.store }) returned f.2)
    (subst (λ (p : Program). is_method p method ≡ true → have_types p (types_of method.parameters) arguments ≡ true → IsMet p (begin (arguments ++ f.0) d.0.store) method.postconditions) (program_of_whole program depth)
    (λ is typed. owed_met m (wholes_keep program depth) method is arguments store typed c.0 d.0 f.0 begins d.1 f.1 d.0.store) (method_typed program number method well there) have)

-- ---- loops

-- the guard was false, or the turn counts
by_guard : (o : Outcome Value) (s t : State) (turn : Outcome Flow) → turns_with o s turn ≡ Gives (flows.Next t) → ((v : Value) × (o ≡ Gives v) × (truth_of v ≡ false) × (s ≡ t)) ⊎ (turn ≡ Gives (flows.Next t))
by_guard (Gives v) s t turn e = by_truth (truth_of v) refl e
  where
    by_truth : (b : Bool) → truth_of v ≡ b → (if b then turn else Gives (flows.Next s)) ≡ Gives (flows.Next t) → ((w : Value) × (Gives v ≡ Gives w) × (truth_of w ≡ false) × (s ≡ t)) ⊎ (turn ≡ Gives (flows.Next t))
    by_truth true is f = inr f
    by_truth false is f = inl (v, refl, is, ap state_of (given_is (flows.Next s) (flows.Next t) f))
by_guard (Wrong at kind) s t turn e = absurd (let f : Wrong at kind ≡ Gives (flows.Next t) = e in cc)
by_guard TooDeep s t turn e = absurd (let f : TooDeep ≡ Gives (flows.Next t) = e in cc)
by_guard NoChoice s t turn e = absurd (let f : NoChoice ≡ Gives (flows.Next t) = e in cc)
by_guard Dismissed s t turn e = absurd (let f : Dismissed ≡ Gives (flows.Next t) = e in cc)

module _ (program : Program) (loop : Loop) where
  guard_ends : (m : Meaning) (s t : State) → m.program ≡ program → AreTrue program s loop.invariants → ((v : Value) × (evaluate m s loop.guard ≡ Gives v) × (truth_of v ≡ false) × (s ≡ t)) → EndsByGuard program loop t
  guard_ends m s t e here h =
      subst (λ (u : State). EndsByGuard program loop u) h.3
      (record { invariants = here; value = h.0; guard = evaluate_same (plain_meaning program) m s s (record { program = sym e; locals = λ local. refl }) loop.guard ∙ h.1; untrue = h.2 })

  -- behind a turn from where the invariants are true
  behind_ends : (depth : ℕ) (s t : State) → AreTrue program s loop.invariants → ((u : State) → AreTrue program u loop.invariants → (whole program depth).turns loop u ≡ Gives (flows.Next t) → EndsByGuard program loop t ⊎ EndsByBreak program loop t)
      → (flow : Flow) → execute_all (whole program depth) s loop.body ≡ Gives flow → behind_turn (whole program depth) loop flow ≡ Gives (flows.Next t) → EndsByGuard program loop t ⊎ EndsByBreak program loop t
  behind_ends depth s t here again (flows.Next u) ran e =
      let m : Meaning = whole program depth in
      let b = bound_gives (check_all m u kinds.Turn loop.invariants) (λ x. m.turns loop x) (flows.Next t) e in
      let same : b.0 ≡ u = given (λ (x : State). x ≡ u) (check_all m u kinds.Turn loop.invariants) b.0 (checked_same m u kinds.Turn loop.invariants) b.1 in
      let there : AreTrue program u loop.invariants =
      met_by_check m (plain_meaning program) u u b.0 kinds.Turn loop.invariants (seen_alike m (plain_meaning program) u u (record { program = program_of_whole program depth; locals = λ local. refl }) loop.invariants) b.1 in
      again b.0 (subst (λ (x : State). AreTrue program x loop.invariants) (sym same) there) b.2
  behind_ends depth s t here again (flows.Return u) ran e = absurd (let f : Gives (flows.Return u) ≡ Gives (flows.Next t) = e in cc)
  behind_ends depth s t here again (flows.Break u) ran e =
      let same : u ≡ t = ap state_of (given_is (flows.Next u) (flows.Next t) e) in
      inr (record { depth = depth; start = s; invariants = here; turn = ran ∙ ap (λ (x : State). Gives (flows.Break x)) same })

  turns_end : (depth : ℕ) (s t : State) → AreTrue program s loop.invariants → (whole program depth).turns loop s ≡ Gives (flows.Next t) → EndsByGuard program loop t ⊎ EndsByBreak program loop t
  turns_end zero s t here e = elim (by_guard _ s t TooDeep e) [ inl h ↦ inl (guard_ends _ s t refl here h) | inr f ↦ absurd (let g : TooDeep ≡ Gives (flows.Next t) = f in cc) ]
  turns_end (suc depth) s t here e = elim (by_guard _ s t (turn_by (whole program depth) loop s) e) [
    | inl h ↦ inl (guard_ends _ s t refl here h)
    | inr f ↦
        let b = bound_gives (execute_all (whole program depth) s loop.body) (behind_turn (whole program depth) loop) (flows.Next t) f in
        behind_ends depth s t here (λ u there g. turns_end depth u t there g) b.0 b.1 b.2
  ]

pub loops_end : LoopsEnd
loops_end program depth loop s t here e = turns_end program loop depth s t here e
