-- How a method begins.
use Rattle.std.proofs.Common.{◌≡◌, ◌≢◌, ℕ, zero, suc, ◌<◌, Bool, true, false, nat_eq, cond, List, [], ◌∷◌, map, length, get_or, Some, None, slice_get, refl, sym, ap, ◌∙◌, arith}
use Rattle.df_nmach.specs.Value as pure
use Rattle.df_nmach.specs.State as state
use Rattle.df_nmach.specs.State.{Code, Heap, State}
use Rattle.df_nmach.specs.Step.{Stepped, On, Fault, beginning}
use Rattle.df_nmach.specs.Run.{and_then, machine_run, begun, start_of, NeverFaults}
use Rattle.df_nmach.specs.View.{method_of}
use Rattle.df_nmach.specs.declared.code.Method.{Method}

-- a start that never faults is no fault
pub no_fault : (code : Code) (start : Stepped) → NeverFaults code start → start ≢ Fault
no_fault code start never e = never.never 0 (ap (λ o. and_then o (machine_run code 0)) e)

pub is_there : (ms : List Method) (n : ℕ) → slice_get (map method_of ms) n ≢ None → n < length ms
is_there [] n there = absurd (there refl)
is_there (m ∷ ms) zero there = omega arith
is_there (m ∷ ms) (suc n) there = let lt : n < length ms = is_there ms n there in omega arith

pub method_at : (ms : List Method) (n : ℕ) (m : Method) → n < length ms → m ≡ get_or ms n m → slice_get (map method_of ms) n ≡ Some (method_of m)
method_at [] n m lt is = absurd (omega arith)
method_at (x ∷ ms) zero m lt is = ap (λ (y : Method). Some (method_of y)) (sym is)
method_at (x ∷ ms) (suc n) m lt is = method_at ms n m (omega arith) is

begins_if : (b : Bool) (s : State) → cond b (On s) Fault ≢ Fault → cond b (On s) Fault ≡ On s
begins_if true s other = refl
begins_if false s other = absurd (other refl)

-- the method of a start that never faults is there
pub method_there : (code : Code) (ms : List Method) (n : ℕ) (heap : Heap) (arguments : List pure.Value) → code.methods ≡ map method_of ms → NeverFaults code (start_of code n heap arguments) → n < length ms
method_there code ms n heap arguments all never =
    is_there ms n (λ e. no_fault code (start_of code n heap arguments) never (ap (λ (l : List state.Method). begun n heap arguments (slice_get l n)) all ∙ ap (begun n heap arguments) e))

-- and begins there
pub begins : (code : Code) (ms : List Method) (n : ℕ) (m : Method) (heap : Heap) (arguments : List pure.Value) → code.methods ≡ map method_of ms → n < length ms → m ≡ get_or ms n m
    → NeverFaults code (start_of code n heap arguments)
    → start_of code n heap arguments ≡ On (record { heap = heap; frames = beginning n (method_of m) arguments ∷ []; text = [] })
begins code ms n m heap arguments all lt is never =
    let at : start_of code n heap arguments ≡ begun n heap arguments (Some (method_of m)) = ap (λ (l : List state.Method). begun n heap arguments (slice_get l n)) all ∙ ap (begun n heap arguments) (method_at ms n m lt is) in
    at ∙ begins_if (nat_eq (length arguments) m.parameters) (record { heap = heap; frames = beginning n (method_of m) arguments ∷ []; text = [] }) (λ e. no_fault code (start_of code n heap arguments) never (at ∙ e))
