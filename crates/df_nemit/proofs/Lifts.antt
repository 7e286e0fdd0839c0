-- What code reaches, by how a statement goes on.
use Rattle.std.proofs.Common.{◌≡◌, ℕ, true, List, [], ◌∷◌, length, map, Some, subst}
use Rattle.std.specs.List.{list_all}
use Rattle.df_meaning.specs.Value.{Value}
use Rattle.df_nplain.specs.Plain as plain
use Rattle.df_nplain.specs.Outcome.{Outcome, Wrong, TooDeep, Stuck, after}
use Rattle.df_nplain.specs.Outcome as outcomes
use Rattle.df_nplain.specs.State.{State}
use Rattle.df_nplain.specs.Meaning.{Meaning, Flow, Next, Return, Break, Returned}
use Rattle.df_nplain.specs.Execution.{Values, then_next, go_on}
use Rattle.df_nmach.specs.Value as mach
use Rattle.df_nmach.specs.State.{Code, Heap, Frame}
use Rattle.df_nmach.specs.State as machine
use Rattle.df_nemit.specs.Code.{Exits, method_code, plain_code}
use Rattle.df_nemit.specs.Correct.{is_simple, called, returned, Reaches}
use Rattle.df_nemit.specs.Ending.{machine_value}
use Rattle.df_nemit.proofs.Reach.{World, Simple, Carries, carries_on, Gives}
use Rattle.df_nemit.proofs.Places.{pushed}

-- ---- states

-- where an outcome is a state, the code at the one place goes on to the other one with it
abbrev pub Comes : World → ℕ → State → List mach.Value → ℕ → List mach.Value → Outcome State → Type 0
Comes w p s o n o' (outcomes.Gives t) = Simple t × Carries w p s o n t o'
Comes w p s o n o' (Wrong fault) = Unit {0}
Comes w p s o n o' TooDeep = Unit {0}
Comes w p s o n o' Stuck = Unit {0}

pub comes_after : (w : World) (p p1 n : ℕ) (s s1 : State) (o o1 o2 : List mach.Value) (r : Outcome State) → Carries w p s o p1 s1 o1 → Comes w p1 s1 o1 n o2 r → Comes w p s o n o2 r
comes_after w p p1 n s s1 o o1 o2 (outcomes.Gives t) a b = (b.0, carries_on w p p1 n s s1 t o o1 o2 a b.1)
comes_after w p p1 n s s1 o o1 o2 (Wrong fault) a b = tt
comes_after w p p1 n s s1 o o1 o2 TooDeep a b = tt
comes_after w p p1 n s s1 o o1 o2 Stuck a b = tt

pub comes_to : (w : World) (p n k : ℕ) (s : State) (o o' : List mach.Value) (r : Outcome State) → n ≡ k → Comes w p s o n o' r → Comes w p s o k o' r
comes_to w p n k s o o' r e a = subst (λ (x : ℕ). Comes w p s o x o' r) e a

-- ---- values

-- where an outcome is so many values, none is a text, and they come on top
abbrev pub Brings : World → ℕ → State → List mach.Value → ℕ → ℕ → Outcome Values → Type 0
Brings w p s o n count (outcomes.Gives g) = (list_all is_simple g.values ≡ true) × (length g.values ≡ count) × Simple g.state × Carries w p s o n g.state (pushed g.values o)
Brings w p s o n count (Wrong fault) = Unit {0}
Brings w p s o n count TooDeep = Unit {0}
Brings w p s o n count Stuck = Unit {0}

-- ---- flows

-- A statement that goes on leads to the next place, one that returns to where the results are returned, and one that
-- breaks behind the loop.
abbrev pub Flows : World → ℕ → State → Exits → ℕ → Outcome Flow → Type 0
Flows w p s x n (outcomes.Gives (Next t)) = Simple t × Carries w p s [] n t []
Flows w p s x n (outcomes.Gives (Return t)) = Simple t × Carries w p s [] x.ending t []
Flows w p s x n (outcomes.Gives (Break t)) = Simple t × Carries w p s [] x.outside t []
Flows w p s x n (Wrong fault) = Unit {0}
Flows w p s x n TooDeep = Unit {0}
Flows w p s x n Stuck = Unit {0}

pub flows_after : (w : World) (p p1 n : ℕ) (s s1 : State) (x : Exits) (r : Outcome Flow) → Carries w p s [] p1 s1 [] → Flows w p1 s1 x n r → Flows w p s x n r
flows_after w p p1 n s s1 x (outcomes.Gives (Next t)) a b = (b.0, carries_on w p p1 n s s1 t [] [] [] a b.1)
flows_after w p p1 n s s1 x (outcomes.Gives (Return t)) a b = (b.0, carries_on w p p1 x.ending s s1 t [] [] [] a b.1)
flows_after w p p1 n s s1 x (outcomes.Gives (Break t)) a b = (b.0, carries_on w p p1 x.outside s s1 t [] [] [] a b.1)
flows_after w p p1 n s s1 x (Wrong fault) a b = tt
flows_after w p p1 n s s1 x TooDeep a b = tt
flows_after w p p1 n s s1 x Stuck a b = tt

pub flows_to : (w : World) (p n k : ℕ) (s : State) (x : Exits) (r : Outcome Flow) → n ≡ k → Flows w p s x n r → Flows w p s x k r
flows_to w p n k s x r e a = subst (λ (y : ℕ). Flows w p s x y r) e a

-- goes on with the next statement
pub flows_then : (w : World) (p p1 n : ℕ) (s : State) (x : Exits) (r : Outcome Flow) (go : State → Outcome Flow) → Flows w p s x p1 r → ((t : State) → Simple t → Flows w p1 t x n (go t)) → Flows w p s x n (then_next r go)
flows_then w p p1 n s x (outcomes.Gives (Next t)) go a b = flows_after w p p1 n s t x (go t) a.1 (b t a.0)
flows_then w p p1 n s x (outcomes.Gives (Return t)) go a b = a
flows_then w p p1 n s x (outcomes.Gives (Break t)) go a b = a
flows_then w p p1 n s x (Wrong fault) go a b = tt
flows_then w p p1 n s x TooDeep go a b = tt
flows_then w p p1 n s x Stuck go a b = tt

-- what leaves a state goes on with it
pub flows_on : (w : World) (p n : ℕ) (s : State) (x : Exits) (r : Outcome State) → Comes w p s [] n [] r → Flows w p s x n (go_on r)
flows_on w p n s x (outcomes.Gives t) a = a
flows_on w p n s x (Wrong fault) a = tt
flows_on w p n s x TooDeep a = tt
flows_on w p n s x Stuck a = tt

-- the same as a flow, where a value is on top
abbrev pub Takes : World → ℕ → State → Value → Exits → ℕ → Outcome Flow → Type 0
Takes w p s v x n (outcomes.Gives (Next t)) = Simple t × Carries w p s (machine_value v ∷ []) n t []
Takes w p s v x n (outcomes.Gives (Return t)) = Simple t × Carries w p s (machine_value v ∷ []) x.ending t []
Takes w p s v x n (outcomes.Gives (Break t)) = Simple t × Carries w p s (machine_value v ∷ []) x.outside t []
Takes w p s v x n (Wrong fault) = Unit {0}
Takes w p s v x n TooDeep = Unit {0}
Takes w p s v x n Stuck = Unit {0}

-- by the value of an expression
pub flows_value : (w : World) (p p1 n : ℕ) (s : State) (x : Exits) (r : Outcome Value) (f : Value → Outcome Flow) → Gives w p s [] p1 [] r
    → ((v : Value) → Takes w p1 s v x n (f v)) → Flows w p s x n (after r f)
flows_value w p p1 n s x (outcomes.Gives v) f a b = by_cases (f v) (b v)
  where
    by_cases : (r : Outcome Flow) → Takes w p1 s v x n r → Flows w p s x n r
    by_cases (outcomes.Gives (Next t)) c = (c.0, carries_on w p p1 n s s t [] (machine_value v ∷ []) [] a.1 c.1)
    by_cases (outcomes.Gives (Return t)) c = (c.0, carries_on w p p1 x.ending s s t [] (machine_value v ∷ []) [] a.1 c.1)
    by_cases (outcomes.Gives (Break t)) c = (c.0, carries_on w p p1 x.outside s s t [] (machine_value v ∷ []) [] a.1 c.1)
    by_cases (Wrong fault) c = tt
    by_cases TooDeep c = tt
    by_cases Stuck c = tt
flows_value w p p1 n s x (Wrong fault) f a b = tt
flows_value w p p1 n s x TooDeep f a b = tt
flows_value w p p1 n s x Stuck f a b = tt

pub takes_after : (w : World) (p p1 n : ℕ) (s : State) (v : Value) (x : Exits) (r : Outcome Flow) → Carries w p s (machine_value v ∷ []) p1 s [] → Flows w p1 s x n r → Takes w p s v x n r
takes_after w p p1 n s v x (outcomes.Gives (Next t)) a b = (b.0, carries_on w p p1 n s s t (machine_value v ∷ []) [] [] a b.1)
takes_after w p p1 n s v x (outcomes.Gives (Return t)) a b = (b.0, carries_on w p p1 x.ending s s t (machine_value v ∷ []) [] [] a b.1)
takes_after w p p1 n s v x (outcomes.Gives (Break t)) a b = (b.0, carries_on w p p1 x.outside s s t (machine_value v ∷ []) [] [] a b.1)
takes_after w p p1 n s v x (Wrong fault) a b = tt
takes_after w p p1 n s v x TooDeep a b = tt
takes_after w p p1 n s v x Stuck a b = tt

-- ---- calls

-- where a call comes to results, so does the machine, whatever waits below
abbrev pub Answers : Code → ℕ → machine.Method → List Value → ℕ → Heap → List Frame → List ℕ → Outcome Returned → Type 0
Answers code number m arguments count heap waiting text (outcomes.Gives r) =
    (list_all is_simple r.values ≡ true) × (length r.values ≡ count) × Reaches code (called number m (map machine_value arguments) heap waiting text) (returned (map machine_value r.values) heap waiting r.text)
Answers code number m arguments count heap waiting text (Wrong fault) = Unit {0}
Answers code number m arguments count heap waiting text TooDeep = Unit {0}
Answers code number m arguments count heap waiting text Stuck = Unit {0}

pub record Calls (program : plain.Plain) (m : Meaning) : Type 0 where
  pub by : (number : ℕ) (method : plain.Method) (arguments : List Value) (text : List ℕ) → plain.method_at program number ≡ Some method → length arguments ≡ length method.parameters → list_all is_simple arguments ≡ true
      → (heap : Heap) (waiting : List Frame) → Answers (plain_code program) number (method_code program method) arguments (length method.results) heap waiting text (m.call number arguments text)
