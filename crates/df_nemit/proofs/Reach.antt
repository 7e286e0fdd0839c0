-- Where a frame of a method stands, and how it goes on.
use Rattle.std.proofs.Common.{◌≡◌, ℕ, ◌+◌, ◌<◌, Bool, true, List, [], ◌∷◌, ◌++◌, length, Option, Some, refl, ap, ◌∙◌, subst, arith}
use Rattle.std.specs.Prelude.{slice_get}
use Rattle.std.proofs.lemmas.List.{append-nil, map-append}
use Rattle.df_meaning.specs.Value.{Value}
use Rattle.df_nplain.specs.Outcome.{Outcome, Wrong, TooDeep, Stuck, after}
use Rattle.df_nplain.specs.Outcome as outcomes
use Rattle.df_nplain.specs.State.{State}
use Rattle.df_nmach.specs.declared.instruction.Instruction.{Instruction}
use Rattle.df_nmach.specs.declared.instruction.Instruction.TheVariants as i
use Rattle.df_nmach.specs.declared.code.Shape.TheVariants as shapes
use Rattle.df_nmach.specs.Value as mach
use Rattle.df_nmach.specs.State.{Method, Code, Heap, Frame}
use Rattle.df_nmach.specs.State as machine
use Rattle.df_nmach.specs.Step.{Effect, Goes, given, effect, next_effect, stepped, On}
use Rattle.df_nmach.specs.Run.{and_then, machine_run}
use Rattle.df_nmach.proofs.Runs.{run_add}
use Rattle.df_nemit.specs.Code.{Exits, Mark, instruction_of, fixed, slot}
use Rattle.df_nemit.specs.Correct.{is_simple}
use Rattle.df_nemit.specs.Ending.{machine_value}
use Rattle.df_nemit.proofs.Fills.{instructions_of, instructions_fixed, instructions_long}

-- ---- instructions at places

-- the instructions stand in the code from this place on
abbrev pub HasAt : List Instruction → ℕ → List Instruction → Type 0
HasAt code p [] = Unit {0}
HasAt code p (i ∷ is) = (slice_get code p ≡ Some i) × HasAt code (p + 1) is

pub has_front : (code : List Instruction) (p : ℕ) (a b : List Instruction) → HasAt code p (a ++ b) → HasAt code p a
has_front code p [] b h = tt
has_front code p (i ∷ a) b h = (h.0, has_front code (p + 1) a b h.1)

pub has_back : (code : List Instruction) (p : ℕ) (a b : List Instruction) → HasAt code p (a ++ b) → HasAt code (p + length a) b
has_back code p [] b h = let e : p ≡ p + 0 = omega arith in subst (λ n. HasAt code n b) e h
has_back code p (i ∷ a) b h =
    let e : p + 1 + length a ≡ p + length (i ∷ a) = omega arith in
    subst (λ n. HasAt code n b) e (has_back code (p + 1) a b h.1)

pub has_moved : (code : List Instruction) (p q : ℕ) (a : List Instruction) → p ≡ q → HasAt code p a → HasAt code q a
has_moved code p q a e h = subst (λ n. HasAt code n a) e h

-- the same of marks, where the exits are at these places
abbrev pub HasMarks : List Instruction → ℕ → Exits → List Mark → Type 0
HasMarks code p x ms = HasAt code p (instructions_of x ms)

pub marks_front : (code : List Instruction) (p : ℕ) (x : Exits) (a b : List Mark) → HasMarks code p x (a ++ b) → HasMarks code p x a
marks_front code p x a b h = has_front code p (instructions_of x a) (instructions_of x b) (subst (λ (l : List Instruction). HasAt code p l) (map-append (instruction_of x) a b) h)

pub marks_back : (code : List Instruction) (p : ℕ) (x : Exits) (a b : List Mark) → HasMarks code p x (a ++ b) → HasMarks code (p + length a) x b
marks_back code p x a b h =
    has_moved code (p + length (instructions_of x a)) (p + length a) (instructions_of x b) (ap (λ (n : ℕ). p + n) (instructions_long x a))
    (has_back code p (instructions_of x a) (instructions_of x b) (subst (λ (l : List Instruction). HasAt code p l) (map-append (instruction_of x) a b) h))

pub marks_fixed : (code : List Instruction) (p : ℕ) (x : Exits) (a : List Instruction) → HasMarks code p x (fixed a) → HasAt code p a
marks_fixed code p x a h = subst (λ (l : List Instruction). HasAt code p l) (instructions_fixed x a) h

-- ---- frames

-- A method of a code that runs: its number, the heap, the frames that wait, how many locals its frame has, and which
-- one is the scratch local.
pub record World : Type 0 where
  pub code : Code
  pub number : ℕ
  pub method : Method
  pub there : slice_get code.methods number ≡ Some method
  pub shapes : code.shapes ≡ shapes.Number ∷ shapes.Truth ∷ shapes.Char ∷ shapes.Text ∷ []
  pub heap : Heap
  pub waiting : List Frame
  pub scratch : ℕ
  pub long : ℕ
  -- each local that is popped into is there
  pub sets : (p k : ℕ) → slice_get method.instructions p ≡ Some (i.Set k) → k < long

abbrev pub instructions : World → List Instruction
instructions w = w.method.instructions

-- where a frame stands: at an instruction, with these locals and operands, and with this text printed
pub record Point : Type 0 where
  pub place : ℕ
  pub locals : List mach.Value
  pub operands : List mach.Value
  pub text : List ℕ

abbrev pub point : ℕ → List mach.Value → List mach.Value → List ℕ → Point
point p l o t = record { place = p; locals = l; operands = o; text = t }

abbrev pub frame : World → ℕ → List mach.Value → List mach.Value → Frame
frame w p l o = record { method = w.number; next = p; locals = l; operands = o }

abbrev pub at : World → Point → machine.State
at w a = record { heap = w.heap; frames = frame w a.place a.locals a.operands ∷ w.waiting; text = a.text }

-- some steps lead from the one to the other
pub record Leads (w : World) (a b : Point) : Type 0 where
  pub steps : ℕ
  pub runs : machine_run w.code steps (at w a) ≡ On (at w b)

pub leads_none : (w : World) (a : Point) → Leads w a a
leads_none w a = record { steps = 0; runs = refl }

pub leads_on : (w : World) (a b c : Point) → Leads w a b → Leads w b c → Leads w a c
leads_on w a b c x y = record {
  steps = x.steps + y.steps;
  runs = run_add w.code x.steps y.steps (at w a) ∙ ap (λ r. and_then r (machine_run w.code y.steps)) x.runs ∙ y.runs;
}

pub next_is : (w : World) (p : ℕ) (l o : List mach.Value) (i : Instruction) → slice_get (instructions w) p ≡ Some i → next_effect w.code w.heap (frame w p l o) ≡ effect w.code w.method w.heap (frame w p l o) i o
next_is w p l o i h =
    ap (λ (x : Option Method). given x (λ m. given (slice_get m.instructions p) (λ instruction. effect w.code m w.heap (frame w p l o) instruction o))) w.there
    ∙ ap (λ (x : Option Instruction). given x (λ instruction. effect w.code w.method w.heap (frame w p l o) instruction o)) h

-- one instruction that goes on
pub leads_one : (w : World) (p p' : ℕ) (l l' o o' : List mach.Value) (t printed : List ℕ) (i : Instruction) → slice_get (instructions w) p ≡ Some i
    → effect w.code w.method w.heap (frame w p l o) i o ≡ Goes w.heap (frame w p' l' o') printed → Leads w (point p l o t) (point p' l' o' (t ++ printed))
leads_one w p p' l l' o o' t printed i h e = record {
  steps = 1;
  runs = ap (λ (x : Effect). and_then (stepped w.heap t w.waiting x) (machine_run w.code 0)) (next_is w p l o i h ∙ e);
}

-- one that prints nothing
pub leads_silent : (w : World) (p p' : ℕ) (l l' o o' : List mach.Value) (t : List ℕ) (i : Instruction) → slice_get (instructions w) p ≡ Some i
    → effect w.code w.method w.heap (frame w p l o) i o ≡ Goes w.heap (frame w p' l' o') [] → Leads w (point p l o t) (point p' l' o' t)
leads_silent w p p' l l' o o' t i h e = subst (λ (x : List ℕ). Leads w (point p l o t) (point p' l' o' x)) (append-nil t) (leads_one w p p' l l' o o' t [] i h e)

-- ---- whatever the locals and the text are, which stay

pub record Still (w : World) (p : ℕ) (o : List mach.Value) (p' : ℕ) (o' : List mach.Value) : Type 0 where
  pub by : (l : List mach.Value) (t : List ℕ) → Leads w (point p l o t) (point p' l o' t)

pub still_none : (w : World) (p : ℕ) (o : List mach.Value) → Still w p o p o
still_none w p o = record { by = λ l t. leads_none w (point p l o t) }

pub still_on : (w : World) (p p1 p2 : ℕ) (o o1 o2 : List mach.Value) → Still w p o p1 o1 → Still w p1 o1 p2 o2 → Still w p o p2 o2
still_on w p p1 p2 o o1 o2 a b = record { by = λ l t. leads_on w (point p l o t) (point p1 l o1 t) (point p2 l o2 t) (a.by l t) (b.by l t) }

pub still_one : (w : World) (p p' : ℕ) (o o' : List mach.Value) (i : Instruction) → slice_get (instructions w) p ≡ Some i
    → ((l : List mach.Value) → effect w.code w.method w.heap (frame w p l o) i o ≡ Goes w.heap (frame w p' l o') []) → Still w p o p' o'
still_one w p p' o o' i h e = record { by = λ l t. leads_silent w p p' l l o o' t i h (e l) }

-- ---- over the locals of a state

-- Each local that has a value has it in its slot.
pub record Covers (w : World) (s : State) (l : List mach.Value) : Type 0 where
  pub each : (n : ℕ) (v : Value) → s.locals n ≡ Some v → slice_get l (slot w.scratch n) ≡ Some (machine_value v)
  pub long : length l ≡ w.long

-- no local is a text
pub record Simple (s : State) : Type 0 where
  pub each : (n : ℕ) (v : Value) → s.locals n ≡ Some v → is_simple v ≡ true

pub record Arrives (w : World) (a : Point) (p' : ℕ) (s' : State) (o' : List mach.Value) : Type 0 where
  pub locals : List mach.Value
  pub covers : Covers w s' locals
  pub leads : Leads w a (point p' locals o' s'.text)

-- the code at the one place goes on to the other one, from the state to the other state
pub record Carries (w : World) (p : ℕ) (s : State) (o : List mach.Value) (p' : ℕ) (s' : State) (o' : List mach.Value) : Type 0 where
  pub by : (l : List mach.Value) → Covers w s l → Arrives w (point p l o s.text) p' s' o'

pub still_carries : (w : World) (p : ℕ) (s : State) (o : List mach.Value) (p' : ℕ) (o' : List mach.Value) → Still w p o p' o' → Carries w p s o p' s o'
still_carries w p s o p' o' a = record { by = λ l c. record { locals = l; covers = c; leads = a.by l s.text } }

pub carries_on : (w : World) (p p1 p2 : ℕ) (s s1 s2 : State) (o o1 o2 : List mach.Value) → Carries w p s o p1 s1 o1 → Carries w p1 s1 o1 p2 s2 o2 → Carries w p s o p2 s2 o2
carries_on w p p1 p2 s s1 s2 o o1 o2 a b = record {
  by = λ l c.
      let x = a.by l c in
      let y = b.by x.locals x.covers in
      record { locals = y.locals; covers = y.covers; leads = leads_on w (point p l o s.text) (point p1 x.locals o1 s1.text) (point p2 y.locals o2 s2.text) x.leads y.leads };
}

pub carries_to : (w : World) (p p' q' : ℕ) (s s' : State) (o o' : List mach.Value) → p' ≡ q' → Carries w p s o p' s' o' → Carries w p s o q' s' o'
carries_to w p p' q' s s' o o' e a = subst (λ (n : ℕ). Carries w p s o n s' o') e a

pub carries_from : (w : World) (p q p' : ℕ) (s s' : State) (o o' : List mach.Value) → p ≡ q → Carries w p s o p' s' o' → Carries w q s o p' s' o'
carries_from w p q p' s s' o o' e a = subst (λ (n : ℕ). Carries w n s o p' s' o') e a

-- ---- values

-- where an outcome is a value, it is no text, and it comes on top of these operands
abbrev pub Gives : World → ℕ → State → List mach.Value → ℕ → List mach.Value → Outcome Value → Type 0
Gives w p s o p' o' (outcomes.Gives v) = (is_simple v ≡ true) × Carries w p s o p' s (machine_value v ∷ o')
Gives w p s o p' o' (Wrong fault) = Unit {0}
Gives w p s o p' o' TooDeep = Unit {0}
Gives w p s o p' o' Stuck = Unit {0}

pub gives_after : (w : World) (p p1 p2 : ℕ) (s : State) (o o1 o2 : List mach.Value) (r : Outcome Value) → Carries w p s o p1 s o1 → Gives w p1 s o1 p2 o2 r → Gives w p s o p2 o2 r
gives_after w p p1 p2 s o o1 o2 (outcomes.Gives v) a b = (b.0, carries_on w p p1 p2 s s s o o1 (machine_value v ∷ o2) a b.1)
gives_after w p p1 p2 s o o1 o2 (Wrong fault) a b = tt
gives_after w p p1 p2 s o o1 o2 TooDeep a b = tt
gives_after w p p1 p2 s o o1 o2 Stuck a b = tt

pub gives_bind : (w : World) (p p1 p2 : ℕ) (s : State) (o o1 o2 : List mach.Value) (r : Outcome Value) (f : Value → Outcome Value) → Gives w p s o p1 o1 r
    → ((v : Value) → is_simple v ≡ true → Gives w p1 s (machine_value v ∷ o1) p2 o2 (f v)) → Gives w p s o p2 o2 (after r f)
gives_bind w p p1 p2 s o o1 o2 (outcomes.Gives v) f a b = gives_after w p p1 p2 s o (machine_value v ∷ o1) o2 (f v) a.1 (b v a.0)
gives_bind w p p1 p2 s o o1 o2 (Wrong fault) f a b = tt
gives_bind w p p1 p2 s o o1 o2 TooDeep f a b = tt
gives_bind w p p1 p2 s o o1 o2 Stuck f a b = tt

pub gives_to : (w : World) (p p' q' : ℕ) (s : State) (o o' : List mach.Value) (r : Outcome Value) → p' ≡ q' → Gives w p s o p' o' r → Gives w p s o q' o' r
gives_to w p p' q' s o o' r e g = subst (λ (n : ℕ). Gives w p s o n o' r) e g

pub gives_from : (w : World) (p q p' : ℕ) (s : State) (o o' : List mach.Value) (r : Outcome Value) → p ≡ q → Gives w p s o p' o' r → Gives w q s o p' o' r
gives_from w p q p' s o o' r e g = subst (λ (n : ℕ). Gives w n s o p' o' r) e g

-- a truth comes so, whatever the locals and the text are
abbrev pub Tells : World → ℕ → List mach.Value → ℕ → List mach.Value → Outcome Bool → Type 0
Tells w p o p' o' (outcomes.Gives b) = Still w p o p' (mach.Truth b ∷ o')
Tells w p o p' o' (Wrong fault) = Unit {0}
Tells w p o p' o' TooDeep = Unit {0}
Tells w p o p' o' Stuck = Unit {0}
