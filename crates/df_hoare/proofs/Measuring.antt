-- Measured runs: more depth keeps what they do, they have values of their types, they change what they assign, and
-- whole runs give what they give.
use Rattle.std.proofs.Common.{◌≡◌, ◌≤◌, ℕ, zero, suc, Bool, true, List, Option, Some, refl, sym, ap, subst}
use Rattle.std.specs.Option.{option_map_or}
use Rattle.df_base.specs.declared.pos.Pos.{Pos}
use Rattle.df_lang.specs.declared.ty.Ty.{Ty}
use Rattle.df_lang.specs.Program.{Method, Program, method_at, types_of}
use Rattle.df_lang.specs.Measures.{loop_measure, method_measure}
use Rattle.df_lang.specs.Typing.{is_method, is_well_typed}
use Rattle.df_meaning.specs.Value.{Value}
use Rattle.df_meaning.specs.Types.{have_types}
use Rattle.df_meaning.specs.Outcome.{Outcome, Gives, Wrong, TooDeep, NoChoice, Dismissed, after}
use Rattle.df_meaning.specs.State.{Store, State, begin}
use Rattle.df_meaning.specs.Meaning.{Meaning, Flow, Returned, Loop}
use Rattle.df_meaning.specs.Whole.{check_call, run_method, turn_by, meaning_of, whole}
use Rattle.df_meaning.specs.Modular.{measure_values}
use Rattle.df_meaning.specs.Growing.{◌⊑◌, Below}
use Rattle.df_meaning.specs.Typed.{AreTyped}
use Rattle.df_meaning.proofs.Outcomes.{after_grows}
use Rattle.df_meaning.proofs.Executing.{Grown, same_grown, bound_grown, owed_grows, method_grows, turn_grows, by_depth_grows}
use Rattle.df_meaning.proofs.Modulars.{measured_grow}
use Rattle.df_meaning.proofs.Lifting.{AreRelated}
use Rattle.df_meaning.proofs.Lifting as lifted
use Rattle.df_meaning.proofs.Cases.{IfGives, after_any, given}
use Rattle.df_meaning.proofs.Same.{evaluate_same}
use Rattle.df_meaning.proofs.Stating.{FlowTyped, IsLoopTyped, IsMeaningTyped}
use Rattle.df_meaning.proofs.Wholes.{method_typed, returned_typed, turn_typed, program_of_depth, by_depth_typed}
use Rattle.df_meaning.proofs.Kept.{FlowAgrees, Covers, KeepsTurns, all_within, turn_kept, by_depth_keeps}
use Rattle.df_hoare.proofs.Measured.{measured_method, measured_call, measured_turn, measured}

pub program_of_measured : (program : Program) (depth : ℕ) → (measured program depth).program ≡ program
program_of_measured program depth = program_of_depth measured_call measured_turn program depth

-- the callee of a number
pub found_is : (p q : Program) (callee : ℕ) (method : Method) (f : Method → Outcome Returned) → q ≡ p → method_at p callee ≡ Some method → option_map_or f (method_at q callee) Dismissed ≡ f method
found_is p q callee method f e there =
    let here : method_at q callee ≡ Some method = subst (λ (x : Program). method_at x callee ≡ Some method) (sym e) there in
    ap (λ (o : Option Method). option_map_or f o Dismissed) here

-- ---- more depth

pub measured_grows : (m n : Meaning) → Below m n → (at : Pos) (method : Method) (arguments : List Value) (store : Store) → measured_method m at method arguments store ⊑ measured_method n at method arguments store
measured_grows m n h at method arguments store =
    after_grows _ _ _ _ (owed_grows m n h (begin arguments store) at method.preconditions) (λ s.
    after_grows _ _ _ _ (measured_grow m n h s (method_measure method)) (λ entry. method_grows m n h at method arguments store))

calls_grow : (m n : Meaning) → Below m n → (at : Pos) (callee : ℕ) (arguments : List Value) (store : Store) → measured_call m at callee arguments store ⊑ measured_call n at callee arguments store
calls_grow m n h at callee arguments store = lifted.found Grown same_grown bound_grown Returned m.program n.program callee _ _ h.program (λ method. measured_grows m n h at method arguments store)

turns_grow : (m n : Meaning) → Below m n → (loop : Loop) (s : State) → measured_turn m loop s ⊑ measured_turn n loop s
turns_grow m n h loop s = after_grows _ _ _ _ (measured_grow m n h s (loop_measure loop.guard loop.decreases)) (λ before. turn_grows m n h loop s)

pub measureds_grow : (program : Program) (depth more : ℕ) → depth ≤ more → Below (measured program depth) (measured program more)
measureds_grow program depth more le = by_depth_grows measured_call measured_turn calls_grow turns_grow program depth more le

-- ---- types

measured_typed : (m : Meaning) → IsMeaningTyped m → (at : Pos) (method : Method) (arguments : List Value) (store : Store) → is_method m.program method ≡ true → have_types m.program (types_of method.parameters) arguments ≡ true
    → IfGives (λ (r : Returned). have_types m.program (types_of method.results) r.values ≡ true) (measured_method m at method arguments store)
measured_typed m h at method arguments store is have =
    let R = λ (r : Returned). have_types m.program (types_of method.results) r.values ≡ true in
    after_any R (check_call m (begin arguments store) at method.preconditions) _ (λ s.
    after_any R (measure_values m s (method_measure method)) _ (λ entry. returned_typed m h at method arguments store is have))

-- over a meaning of a well-typed program
pub results_typed : (program : Program) (m : Meaning) → m.program ≡ program → IsMeaningTyped m → is_well_typed program ≡ true → (at : Pos) (callee : ℕ) (method : Method) (arguments : List Value) (store : Store)
    → method_at program callee ≡ Some method → have_types program (types_of method.parameters) arguments ≡ true
    → IfGives (λ (r : Returned). have_types program (types_of method.results) r.values ≡ true) (measured_method m at method arguments store)
results_typed program m e h well at callee method arguments store there have =
    subst (λ (p : Program). is_method p method ≡ true → have_types p (types_of method.parameters) arguments ≡ true
    → IfGives (λ (r : Returned). have_types p (types_of method.results) r.values ≡ true) (measured_method m at method arguments store)) e
    (λ is typed. measured_typed m h at method arguments store is typed) (method_typed program callee method well there) have

call_typed : (program : Program) (m : Meaning) → m.program ≡ program → IsMeaningTyped m → is_well_typed program ≡ true → (at : Pos) (callee : ℕ) (method : Method) (arguments : List Value) (store : Store)
    → method_at program callee ≡ Some method → have_types program (types_of method.parameters) arguments ≡ true
    → IfGives (λ (r : Returned). have_types program (types_of method.results) r.values ≡ true) (measured_call m at callee arguments store)
call_typed program m e h well at callee method arguments store there have =
    subst (λ (o : Outcome Returned). IfGives (λ (r : Returned). have_types program (types_of method.results) r.values ≡ true) o)
    (sym (found_is program m.program callee method (λ x. measured_method m at x arguments store) e there))
    (results_typed program m e h well at callee method arguments store there have)

measured_turn_typed : (m : Meaning) → IsMeaningTyped m → (all : List Ty) (loop : Loop) (s : State) → IsLoopTyped m all loop → AreTyped m.program all s → IfGives (FlowTyped m all) (measured_turn m loop s)
measured_turn_typed m h all loop s is typed = after_any (FlowTyped m all) (measure_values m s (loop_measure loop.guard loop.decreases)) _ (λ before. turn_typed m h all loop s is typed)

pub measureds_typed : (program : Program) → is_well_typed program ≡ true → (depth : ℕ) → IsMeaningTyped (measured program depth)
measureds_typed program well depth = by_depth_typed measured_call measured_turn program (λ m e h. call_typed program m e h well) measured_turn_typed depth

-- ---- what is kept

measured_turn_kept : (m : Meaning) → KeepsTurns m → (may back : ℕ → Bool) → Covers may back → (loop : Loop) (s : State) → all_within may back loop.body ≡ true → IfGives (FlowAgrees may back s) (measured_turn m loop s)
measured_turn_kept m keeps may back covers loop s are = after_any (FlowAgrees may back s) (measure_values m s (loop_measure loop.guard loop.decreases)) _ (λ before. turn_kept m keeps may back covers loop s are)

pub measureds_keep : (program : Program) (depth : ℕ) → KeepsTurns (measured program depth)
measureds_keep program depth = by_depth_keeps measured_call measured_turn measured_turn_kept program depth

-- ---- whole runs give what measured ones give

abbrev Given : (A : Type 0) → Outcome A → Outcome A → Type 0
Given A o p = IfGives (λ (a : A). p ≡ Gives a) o

same_given : (A : Type 0) (o : Outcome A) → Given A o o
same_given A (Gives a) = refl
same_given A (Wrong at kind) = tt
same_given A TooDeep = tt
same_given A NoChoice = tt
same_given A Dismissed = tt

bound_given : (A B : Type 0) (o p : Outcome A) (f g : A → Outcome B) → Given A o p → ((a : A) → Given B (f a) (g a)) → Given B (after o f) (after p g)
bound_given A B (Gives a) p f g h k = subst (λ (x : Outcome A). Given B (f a) (after x g)) (sym h) (k a)
bound_given A B (Wrong at kind) p f g h k = tt
bound_given A B TooDeep p f g h k = tt
bound_given A B NoChoice p f g h k = tt
bound_given A B Dismissed p f g h k = tt

-- what is evaluated before adds nothing
more_given : (A B : Type 0) (o : Outcome A) (f : A → Outcome B) (p : Outcome B) → ((a : A) → Given B (f a) p) → Given B (after o f) p
more_given A B (Gives a) f p k = k a
more_given A B (Wrong at kind) f p k = tt
more_given A B TooDeep f p k = tt
more_given A B NoChoice f p k = tt
more_given A B Dismissed f p k = tt

method_given : (m n : Meaning) → AreRelated Given m n → (at : Pos) (method : Method) (arguments : List Value) (store : Store) → Given Returned (measured_method m at method arguments store) (run_method n at method arguments store)
method_given m n h at method arguments store =
    more_given _ _ (check_call m (begin arguments store) at method.preconditions) _ _ (λ s.
    more_given _ _ (measure_values m s (method_measure method)) _ _ (λ entry. lifted.method_related Given same_given bound_given m n h at method arguments store))

turn_given : (m n : Meaning) → AreRelated Given m n → (loop : Loop) (s : State) → Given Flow (measured_turn m loop s) (turn_by n loop s)
turn_given m n h loop s = more_given _ _ (measure_values m s (loop_measure loop.guard loop.decreases)) _ _ (λ before. lifted.turn_related Given same_given bound_given m n h loop s)

meaning_given : (program : Program) (f g : Pos → ℕ → List Value → Store → Outcome Returned) (t u : Loop → State → Outcome Flow)
    → ((at : Pos) (callee : ℕ) (arguments : List Value) (store : Store) → Given Returned (f at callee arguments store) (g at callee arguments store))
    → ((loop : Loop) (s : State) → Given Flow (t loop s) (u loop s)) → AreRelated Given (meaning_of program f t) (meaning_of program g u)
meaning_given program f g t u calls turns = record {
  program = refl;
  value = λ s e. lifted.equal Given same_given bound_given Value _ _ (evaluate_same (meaning_of program f t) (meaning_of program g u) s s (record { program = refl; locals = λ local. refl }) e);
  call = calls;
  turns = λ loop s. lifted.turns_related Given same_given bound_given _ _ s _ _
      (lifted.equal Given same_given bound_given Value _ _ (evaluate_same _ _ s s (record { program = refl; locals = λ local. refl }) loop.guard)) (turns loop s);
}

pub measured_given : (program : Program) (depth : ℕ) → AreRelated Given (measured program depth) (whole program depth)
measured_given program zero = meaning_given program _ _ _ _ (λ at callee arguments store. tt) (λ loop s. tt)
measured_given program (suc depth) =
    let h : AreRelated Given (measured program depth) (whole program depth) = measured_given program depth in
    meaning_given program _ _ _ _
    (λ at callee arguments store. lifted.found Given same_given bound_given Returned (measured program depth).program (whole program depth).program callee _ _ h.program
    (λ method. method_given (measured program depth) (whole program depth) h at method arguments store))
    (λ loop s. turn_given (measured program depth) (whole program depth) h loop s)

-- a whole run gives what the measured one gives
pub whole_gives : (program : Program) (depth : ℕ) (at : Pos) (method : Method) (arguments : List Value) (store : Store) (r : Returned) → measured_method (measured program depth) at method arguments store ≡ Gives r
    → run_method (whole program depth) at method arguments store ≡ Gives r
whole_gives program depth at method arguments store r e =
    given (λ (x : Returned). run_method (whole program depth) at method arguments store ≡ Gives x) (measured_method (measured program depth) at method arguments store) r
    (method_given (measured program depth) (whole program depth) (measured_given program depth) at method arguments store) e
