-- Whole runs: called bodies and turns of loops run, as deep as the depth reaches.
use Rattle.std.specs.Prelude.{ℕ, zero, suc, pos, Bool, false, List, [], ◌∷◌, map, Option, None, Some, if◌then◌else◌}
use Rattle.std.specs.Option.{option_map_or}
use Rattle.df_base.specs.declared.pos.Pos.{Pos}
use Rattle.df_types.specs.declared.kind.Kind.TheVariants as kinds
use Rattle.df_types.specs.Ty.{Ty, Newtype, Int, Nat, Boolean, Char, AnyObject, Class, Array, Seq, Set, Data, Parameter, Tys, instance_of, instances_of}
use Rattle.df_types.specs.Stmt.{CallOf, Stmt, Declare, Assign, Choose, Branch, While, Break, Return, Check, Prove, Print, Publish, Ghost}
use Rattle.df_types.specs.Program as programs
use Rattle.df_types.specs.Program.{Param, Head, Function, Method, Program, function_at, method_at, newtype_at}
use Rattle.df_types.specs.Types.{has_default}
use Rattle.df_types.specs.Measures.{frame_objects}
use Rattle.df_meaning2.specs.Value.{Value, NullReference, Truth, Character, Number, Reference, Made, Sequence, Collection, no_value, truth_of, nat_of}
use Rattle.df_meaning2.specs.Heap.{lies_in_readable, lies_in_changeable, least_unused}
use Rattle.df_meaning2.specs.Outcome.{Outcome, Gives, Wrong, TooDeep, NoChoice, Dismissed, after}
use Rattle.df_meaning2.specs.State.{Locals, State, with_store, with_bound, with_choices, reading_inside, entering}
use Rattle.df_meaning2.specs.Meaning.{Meaning, evaluate, check_all, as_kind, asked_at}
use Rattle.df_meaning2.specs.Execution.{Flow, Next, Returned, Broken, Given, Loop, Actions, values_in, execute_all, loop_of}

-- ---- functions

-- What a function requires is true, what it reads gives a set, both read only inside it, and it lies in what may be read; then it goes on
-- in a state that reads inside the set.
abbrev pub entered : Meaning → Pos → Tys → Head → List Value → State → (State → Outcome Value) → Outcome Value
entered m at types head arguments s go =
    let free = entering types head.parameters arguments s in
    after (check_all m free (map (asked_at at kinds.Requires) head.preconditions)) (λ t.
    after (evaluate m free (frame_objects head)) (λ frame.
    after (check_all m (reading_inside free frame) (map (asked_at at kinds.Requires) head.preconditions)) (λ u.
    after (evaluate m (reading_inside free frame) (frame_objects head)) (λ again.
    if lies_in_readable s.readable frame then go (reading_inside free frame) else Wrong at kinds.Reads))))

abbrev pub apply_function : Meaning → Pos → Tys → List Value → State → Function → Outcome Value
apply_function m at types arguments s f = entered m at types f.head arguments s (λ t. evaluate m t f.value)

abbrev pub apply_by : Meaning → Pos → ℕ → Tys → List Value → State → Outcome Value
apply_by m at callee types arguments s = option_map_or (apply_function m at types arguments s) (function_at m.program callee) Dismissed

-- ---- methods

-- the values of the results
abbrev pub results_in : List Param → Locals → Outcome (List Value)
results_in results locals = values_in (map (λ (x : Param). x.local) results) locals

-- a body ends in a state; a break out of no loop is none of a well-typed program
abbrev pub end_of : Flow → Outcome State
end_of (Next s) = Gives s
end_of (Returned s) = Gives s
end_of (Broken s) = Dismissed

-- a body on arguments, and what it owes then
abbrev pub run_body : Actions → Method → State → Outcome State
run_body m method s =
    after (execute_all m s method.body) (λ flow.
    after (end_of flow) (λ t.
    check_all m.meaning t (map (as_kind kinds.Ensures) method.head.postconditions)))

-- what it requires; what it may change lies in what the caller may change, or is new since; then its body
abbrev pub run_method : Actions → Pos → Tys → List Value → State → Method → Outcome Given
run_method m at types arguments s method =
    let begun = entering types method.head.parameters arguments s in
    after (check_all m.meaning begun (map (asked_at at kinds.Requires) method.head.preconditions)) (λ t.
    after (evaluate m.meaning begun (frame_objects method.head)) (λ frame.
    if lies_in_changeable s.changeable s.entry frame then
    after (run_body m method (record begun { changeable = frame })) (λ u.
    after (results_in method.head.results u.locals) (λ vs.
    Gives (record { values = vs; state = with_store s u.store })))
    else Wrong at kinds.Modifies))

abbrev pub call_by : Actions → CallOf → List Value → State → Outcome Given
call_by m call arguments s = option_map_or (run_method m call.pos (instances_of s.types call.types) arguments s) (method_at m.meaning.program call.callee) Dismissed

-- ---- loops

-- behind a turn: the invariants, and the loop again
abbrev pub behind_turn : Actions → Stmt → Loop → Flow → Outcome Flow
behind_turn m text loop (Next s) = after (loop.check kinds.Turn s) (λ t. m.loop text loop t)
behind_turn m text loop (Returned s) = Gives (Returned s)
behind_turn m text loop (Broken s) = Gives (Next s)

abbrev pub turn_of_loop : Actions → Stmt → Loop → State → Outcome Flow
turn_of_loop m text loop s = after (loop.body s) (behind_turn m text loop)

-- a turn of a loop, and what comes after it
abbrev pub turn_by : Actions → Stmt → State → Outcome Flow
turn_by m (Declare locals) s = Dismissed
turn_by m (Assign update) s = Dismissed
turn_by m (Choose site at targets ranges condition) s = Dismissed
turn_by m (Branch branches otherwise) s = Dismissed
turn_by m (While site at guard invariants decreases body) s = turn_of_loop m (While site at guard invariants decreases body) (loop_of m site at guard invariants decreases body) s
turn_by m (Break at) s = Dismissed
turn_by m (Return at update) s = Dismissed
turn_by m (Check demand) s = Dismissed
turn_by m (Prove site at aim body) s = Dismissed
turn_by m (Print at operands) s = Dismissed
turn_by m (Publish site at class fields this) s = Dismissed
turn_by m (Ghost body) s = Dismissed

-- ---- choices, new objects, proofs

-- the next choice, if it is such
abbrev pub pick_next : (List Value → Outcome Bool) → List (List Value) → State → Outcome Given
pick_next fits [] s = NoChoice
pick_next fits (vs ∷ rest) s = after (fits vs) (λ b. if b then Gives (record { values = vs; state = with_choices s rest }) else NoChoice)

abbrev pub default_in : Option programs.Newtype → Value
default_in None = Number (pos 0)
default_in (Some x) = Number x.default

-- of the types that have one
abbrev pub default_value : Program → Ty → Value
default_value p (Newtype d) = default_in (newtype_at p d)
default_value p Int = Number (pos 0)
default_value p Nat = Number (pos 0)
default_value p Boolean = Truth false
default_value p Char = Character 68
default_value p (AnyObject nullable) = NullReference
default_value p (Class nullable d) = NullReference
default_value p (Array nullable t) = NullReference
default_value p (Seq t) = Sequence no_value
default_value p (Set t) = Collection no_value
default_value p (Data d ts) = Made 0 no_value
default_value p (Parameter n) = NullReference

abbrev pub default_of : Program → Ty → Outcome Value
default_of p t = if has_default p t then Gives (default_value p t) else Dismissed

abbrev pub repeated : ℕ → Value → List Value
repeated zero v = []
repeated (suc n) v = v ∷ repeated n v

-- each value has its proof; choices that one takes are taken for the next
abbrev pub prove_each : (State → Outcome State) → State → List Value → Outcome State
prove_each go s [] = Gives s
prove_each go s (v ∷ vs) = after (go (with_bound s v)) (λ t. prove_each go (with_store s t.store) vs)

-- the ranges, each over the values of those before it
abbrev pub prove_all : List (State → Outcome (List Value)) → (State → Outcome State) → State → Outcome State
prove_all [] go s = go s
prove_all (range ∷ ranges) go s = after (range s) (λ vs. prove_each (prove_all ranges go) s vs)

-- ---- by depth

abbrev pub meaning_with : Program → (Pos → ℕ → Tys → List Value → State → Outcome Value) → Meaning
meaning_with p apply = record { program = p; first = λ site. 0; apply = apply }

-- over what functions, calls and turns do: the guard of a loop is evaluated, and where it is true there is a turn
abbrev pub acting : Meaning → (CallOf → List Value → State → Outcome Given) → (Stmt → State → Outcome Flow) → Actions
acting meaning call turn = record {
  meaning = meaning;
  call = call;
  loop = λ text loop s. after (loop.guard s) (λ v. if truth_of v then turn text s else Gives (Next s));
  pick = λ site count fits s. pick_next fits s.store.choices s;
  new = λ site s. Gives (Reference (least_unused s.store.heap));
  elements = λ site element size s. after (default_of meaning.program (instance_of s.types element)) (λ v. Gives (repeated (nat_of size) v));
  prove = λ site ranges go known s. prove_all ranges go s;
}

-- each called body leaves one less depth for what is in it
abbrev pub apply_at : Program → ℕ → Pos → ℕ → Tys → List Value → State → Outcome Value
apply_at p zero at callee types arguments s = TooDeep
apply_at p (suc n) at callee types arguments s = apply_by (meaning_with p (apply_at p n)) at callee types arguments s

abbrev pub whole : Program → ℕ → Meaning
whole p n = meaning_with p (apply_at p n)

-- and so does each turn, also for the turns after it
abbrev mutual
  pub call_at : Program → ℕ → CallOf → List Value → State → Outcome Given
  call_at p zero call arguments s = TooDeep
  call_at p (suc n) call arguments s = call_by (acting (whole p n) (call_at p n) (turn_at p n)) call arguments s

  pub turn_at : Program → ℕ → Stmt → State → Outcome Flow
  turn_at p zero text s = TooDeep
  turn_at p (suc n) text s = turn_by (acting (whole p n) (call_at p n) (turn_at p n)) text s

abbrev pub doing : Program → ℕ → Actions
doing p n = acting (whole p n) (call_at p n) (turn_at p n)
