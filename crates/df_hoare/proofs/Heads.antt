-- The heads of a loop: states before its turns, and what a modular run does to which one is handed in.
use Rattle.std.proofs.Common.{◌≡◌, ◌≤◌, ℕ, zero, suc, ◌==◌, Bool, true, false, ◌||◌, if◌then◌else◌, ◌⊎◌, inl, inr, List, [], ◌∷◌, ◌++◌, slice_get, Option, Some, None, refl, sym, ap, subst, ◌∙◌, ne_eqb, arith}
use Rattle.std.specs.Option.{option_map_or}
use Rattle.std.specs.List.{list_all}
use Rattle.df_lang.specs.declared.ty.Ty.{Ty}
use Rattle.df_lang.specs.Program.{Program}
use Rattle.df_lang.specs.Newtype.{same_type}
use Rattle.df_meaning.specs.Value.{Value}
use Rattle.df_meaning.specs.Outcome.{Outcome, Gives, Dismissed, after}
use Rattle.df_meaning.specs.State.{Handed, Turned, Locals, State, set_local, with_locals}
use Rattle.df_meaning.specs.Meaning.{Meaning, Flow, Loop}
use Rattle.df_meaning.specs.Evaluation.{evaluate}
use Rattle.df_meaning.specs.Whole.{turns_with}
use Rattle.df_meaning.specs.Modular.{assume_all, or_dismissed, Changed, changed_by_all, may_have, turned, Running, plain_meaning, modular_turn, modular}
use Rattle.df_meaning.specs.Typed.{AreTyped}
use Rattle.df_meaning.proofs.Cases.{both, joined}
use Rattle.df_meaning.proofs.Types.{same_type_equal}
use Rattle.df_meaning.proofs.Stating.{set_same, set_other, is_or_not}
use Rattle.df_meaning.proofs.Kept.{AgreesBut}
use Rattle.df_meaning.specs.Agreement.{is_changed}
use Rattle.df_meaning.proofs.Changing.{are_there}
use Rattle.df_meaning.proofs.Modulars.{program_of_modular}
use Rattle.df_hoare.proofs.Simulating.{IsSafe, Follows}
use Rattle.df_hoare.proofs.Sides.{hand_state, hand_flow}
use Rattle.df_hoare.proofs.Clauses.{IsMet, seen_alike, met_by_met}

-- a state that a loop may come to from where it is entered
pub record IsHead (program : Program) (all : List Ty) (loop : Loop) (entry s : State) : Type 0 where
  pub typed : AreTyped program all s
  pub agrees : AgreesBut (is_changed (changed_by_all loop.body)) entry s
  pub met : IsMet program s loop.invariants

-- ---- what is handed in for changed locals

abbrev MayHaveAll : Program → List Changed → Locals → Type 0
MayHaveAll program changed handed = list_all (λ (c : Changed). may_have program c.ty (handed c.local)) changed ≡ true

has_its_type : (all : List Ty) (c : Changed) (o : Option Ty) → option_map_or (same_type c.ty) o false ≡ true → o ≡ Some c.ty
has_its_type all c None is = absurd (let f : false ≡ true = is in cc)
has_its_type all c (Some ty) is = ap Some (sym (same_type_equal c.ty ty is))

typed_may_have : (program : Program) (all : List Ty) (s : State) (c : Changed) (o : Option Value) → AreTyped program all s → slice_get all c.local ≡ Some c.ty → s.locals c.local ≡ o → may_have program c.ty o ≡ true
typed_may_have program all s c None typed there e = refl
typed_may_have program all s c (Some v) typed there e = typed.at c.local c.ty v there e

may_have_all : (program : Program) (all : List Ty) (s : State) (changed : List Changed) → AreTyped program all s → are_there all changed ≡ true → MayHaveAll program changed s.locals
may_have_all program all s [] typed are = refl
may_have_all program all s (c ∷ cs) typed are =
    let are = both (option_map_or (same_type c.ty) (slice_get all c.local) false) (are_there all cs) are in
    joined (may_have program c.ty (s.locals c.local)) _
    (typed_may_have program all s c (s.locals c.local) typed (has_its_type all c (slice_get all c.local) are.0) refl) (may_have_all program all s cs typed are.1)

neither : (a b : Bool) → a ≡ false → b ≡ false → (a || b) ≡ false
neither true b e f = absurd (let g : true ≡ false = e in cc)
neither false b e f = f

-- where the others agree, all do
turned_all : (program : Program) (changed : List Changed) (handed : Locals) (s : State) → MayHaveAll program changed handed → ((n : ℕ) → is_changed changed n ≡ false → s.locals n ≡ handed n)
    → turned program changed handed s ≡ Gives (with_locals s handed)
turned_all program [] handed s may agrees = λ i. Gives (record { locals = λ n. agrees n refl i; store = s.store })
turned_all program (c ∷ cs) handed s may agrees =
    let may = both (may_have program c.ty (handed c.local)) (list_all (λ (x : Changed). may_have program x.ty (handed x.local)) cs) may in
    let t : State = with_locals s (set_local s.locals c.local (handed c.local)) in
    ap (λ b. if b then turned program cs handed t else Dismissed) may.0
    ∙ turned_all program cs handed t may.1 (λ n outside. by_place n outside (is_or_not n c.local))
  where
    by_place : (n : ℕ) → is_changed cs n ≡ false → (n ≡ c.local) ⊎ (n ≡ c.local → ⊥) → set_local s.locals c.local (handed c.local) n ≡ handed n
    by_place n outside (inl same) = subst (λ (k : ℕ). set_local s.locals c.local (handed c.local) k ≡ handed k) (sym same) (set_same s.locals c.local (handed c.local))
    by_place n outside (inr other) =
        set_other s.locals c.local n (handed c.local) other ∙ agrees n (neither (c.local == n) (is_changed cs n) (ne_eqb c.local n (λ e. other (sym e))) outside)

-- ---- a modular run to which a head is handed in

module _ (run : Running) (all : List Ty) (loop : Loop) (entry : State) (there : are_there all (changed_by_all loop.body) ≡ true) where
  -- from the guard on
  abbrev pub from_guard : State → ℕ → List Handed → Outcome Flow
  from_guard s d h = turns_with (evaluate (modular run d) (hand_state h s) loop.guard) (hand_state h s) (modular_turn (modular run d) loop (hand_state h s))

  abbrev pub from_entry : ℕ → List Handed → Outcome Flow
  from_entry d h = (modular run d).turns loop (hand_state h entry)

  -- the head, and what is left behind it
  abbrev pub with_head : State → List Handed → List Handed
  with_head s h = Turned s.locals s.store.text ∷ h

  pub at_head : (s : State) → IsHead run.program all loop entry s → (d : ℕ) (h : List Handed) → from_entry (suc d) (with_head s h) ≡ from_guard s d h
  at_head s head d h =
      let m : Meaning = modular run d in
      let back : run.program ≡ m.program = sym (program_of_modular run d) in
      let changed : List Changed = changed_by_all loop.body in
      let may : MayHaveAll m.program changed s.locals = subst (λ (p : Program). MayHaveAll p changed s.locals) back (may_have_all run.program all s changed head.typed there) in
      let start : State = record { locals = entry.locals; store = record { text = s.store.text; handed = h } } in
      let taken : turned m.program changed s.locals start ≡ Gives (hand_state h s) = turned_all m.program changed s.locals start may (λ n outside. sym (head.agrees n outside)) in
      let met : assume_all m (hand_state h s) loop.invariants ≡ Gives (hand_state h s) =
      met_by_met (plain_meaning run.program) m s (hand_state h s) s loop.invariants (seen_alike (plain_meaning run.program) m s (hand_state h s) (record { program = back; locals = λ local. refl }) loop.invariants) head.met in
      ap (λ o. after o (λ t. after (or_dismissed (assume_all m t loop.invariants)) (λ u. turns_with (evaluate m u loop.guard) u (modular_turn m loop u)))) taken
      ∙ ap (λ o. after (or_dismissed o) (λ u. turns_with (evaluate m u loop.guard) u (modular_turn m loop u))) met

  pub guard_safe : IsSafe from_entry → (s : State) → IsHead run.program all loop entry s → IsSafe (from_guard s)
  guard_safe safe s head = record { never = λ d h at kind e. safe.never (suc d) (with_head s h) at kind (at_head s head d h ∙ e) }

  -- what follows from a head follows from the entry
  pub from_head : (s : State) → IsHead run.program all loop entry s → (x : Flow) → Follows hand_flow (from_guard s) x → Follows hand_flow from_entry x
  from_head s head x f = record { front = with_head s f.front; depth = suc f.depth; by = λ d more le. by_depth d more le }
    where
      by_depth : (d : ℕ) (more : List Handed) → suc f.depth ≤ d → from_entry d (with_head s f.front ++ more) ≡ Gives (hand_flow more x)
      by_depth zero more le = absurd (omega (arith, le))
      by_depth (suc d) more le = at_head s head d (f.front ++ more) ∙ f.by d more (omega (arith, le))
