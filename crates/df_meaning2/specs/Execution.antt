-- Execution of statements, over what calls, loops, choices, new objects and proofs do.
use Rattle.std.specs.Prelude.{ℕ, ℤ, pos, int_le, Bool, true, false, not, ◌&&◌, ◌||◌, ◌==◌, List, [], ◌∷◌, ◌++◌, map, length, Option, None, Some, if◌then◌else◌}
use Rattle.std.specs.Ordering.{int_eq}
use Rattle.df_base.specs.declared.pos.Pos.{Pos}
use Rattle.df_types.specs.declared.kind.Kind.{Kind}
use Rattle.df_types.specs.declared.kind.Kind.TheVariants as kinds
use Rattle.df_types.specs.declared.expr.Quantifier.TheVariants.{Exists}
use Rattle.df_types.specs.Ty.{Ty, Class, Array, instance_of}
use Rattle.df_types.specs.Op.{Op}
use Rattle.df_types.specs.Expr.{Expr, Exprs}
use Rattle.df_types.specs.Stmt.{Demand, Typed, Target, Nowhere, LocalAt, FieldAt, ElementAt, CallOf, Source, Single, Results, NewArray, Update, Range, Stmt, Declare, Assign, Choose, Branch, While, Break, Return, Check, Prove, Print, Publish, Ghost, Stmts, done, next, Branches, no_branch, branch}
use Rattle.df_types.specs.Program.{Program}
use Rattle.df_types.specs.Aims.{quantified, known_behind}
use Rattle.df_types.specs.Faults.{is_ghost_callee}
use Rattle.df_types.specs.Measures.{loop_measure}
use Rattle.df_meaning2.specs.Value.{Value, same, truth_of, number_of, nat_of, is_among}
use Rattle.df_meaning2.specs.Heap.{Instance, Elements, slots_at, is_there, may_change, put_slot, with_object}
use Rattle.df_meaning2.specs.Outcome.{Outcome, Gives, Wrong, after}
use Rattle.df_meaning2.specs.Answer.{answer, count, is_index}
use Rattle.df_meaning2.specs.Printing.{text_of}
use Rattle.df_meaning2.specs.State.{Locals, State, with_store, with_local, with_bound, with_heap, with_text}
use Rattle.df_meaning2.specs.Meaning.{Meaning, view_of, answered, there, evaluate, evaluate_all, evaluate_range, of_type, check, check_all, as_kind, assume_all, Measured, measured}

-- a statement goes on, returns from its declaration, or breaks out of its loop
pub data Flow : Type 0 where
  Next : State → Flow
  Returned : State → Flow
  Broken : State → Flow

abbrev pub state_of : Flow → State
state_of (Next s) = s
state_of (Returned s) = s
state_of (Broken s) = s

-- values, and the state behind them
pub record Given : Type 0 where
  pub values : List Value
  pub state : State

-- a local that statements assign
pub record Assigned : Type 0 where
  pub local : ℕ
  pub ty : Ty

-- the parts of a loop, as functions over the same meaning
pub record Loop : Type 0 where
  pub site : ℕ
  pub pos : Pos
  pub assigned : List Assigned
  -- whether it may change the heap
  pub touches : Bool
  pub guard : State → Outcome Value
  pub check : Kind → State → Outcome State
  pub assume : State → Outcome State
  pub measure : State → Outcome (List Measured)
  pub body : State → Outcome Flow

-- what whole and modular runs do in their own way
pub record Actions : Type 0 where
  pub meaning : Meaning
  pub call : CallOf → List Value → State → Outcome Given
  pub loop : Stmt → Loop → State → Outcome Flow
  -- as many values, if they are such
  pub pick : (site count : ℕ) → (List Value → Outcome Bool) → State → Outcome Given
  -- the reference of a new object, and the elements of a new array for which none are listed
  pub new : (site : ℕ) → State → Outcome Value
  pub elements : (site : ℕ) → Ty → ℤ → State → Outcome (List Value)
  -- for all values of the ranges: the proof; and what is known behind it
  pub prove : (site : ℕ) → List (State → Outcome (List Value)) → (State → Outcome State) → (State → Outcome State) → State → Outcome State

-- ---- which locals statements assign

abbrev pub assigned_at : Target → List Assigned
assigned_at (Nowhere ty) = []
assigned_at (LocalAt local name at ty) = record { local = local; ty = ty } ∷ []
assigned_at (FieldAt object class field at ty) = []
assigned_at (ElementAt array index at ty) = []

abbrev pub assigned_at_all : List Target → List Assigned
assigned_at_all [] = []
assigned_at_all (target ∷ others) = assigned_at target ++ assigned_at_all others

abbrev mutual
  -- what a `return` does reaches no further turn and nothing behind the loop, and what a proof assigns is dropped
  pub assigned_by : Stmt → List Assigned
  assigned_by (Declare locals) = []
  assigned_by (Assign update) = assigned_at_all update.targets
  assigned_by (Choose site at targets ranges condition) = assigned_at_all targets
  assigned_by (Branch branches otherwise) = assigned_in branches ++ assigned_by_all otherwise
  assigned_by (While site at guard invariants decreases body) = assigned_by_all body
  assigned_by (Break at) = []
  assigned_by (Return at update) = []
  assigned_by (Check demand) = []
  assigned_by (Prove site at aim body) = []
  assigned_by (Print at operands) = []
  assigned_by (Publish site at class fields this) = record { local = this; ty = Class false class } ∷ []
  assigned_by (Ghost body) = assigned_by_all body

  pub assigned_by_all : Stmts → List Assigned
  assigned_by_all done = []
  assigned_by_all (next stmt others) = assigned_by stmt ++ assigned_by_all others

  pub assigned_in : Branches → List Assigned
  assigned_in no_branch = []
  assigned_in (branch guard body rest) = assigned_by_all body ++ assigned_in rest

-- ---- which statements may change the heap: those that assign a field or an element, make an object, or call a method that is no lemma

abbrev pub touched_in : Program → List Source → Bool
touched_in p [] = false
touched_in p (Single ty value ∷ others) = touched_in p others
touched_in p (Results call conversions ∷ others) = not (is_ghost_callee p call.callee) || touched_in p others
touched_in p (NewArray site element at size elements ∷ others) = true

abbrev pub touched_at : List Target → Bool
touched_at [] = false
touched_at (Nowhere ty ∷ others) = touched_at others
touched_at (LocalAt local name at ty ∷ others) = touched_at others
touched_at (FieldAt object class field at ty ∷ others) = true
touched_at (ElementAt array index at ty ∷ others) = true

abbrev mutual
  pub touched_by : Program → Stmt → Bool
  touched_by p (Declare locals) = false
  touched_by p (Assign update) = touched_at update.targets || touched_in p update.sources
  touched_by p (Choose site at targets ranges condition) = touched_at targets
  touched_by p (Branch branches otherwise) = touched_by_branches p branches || touched_by_all p otherwise
  touched_by p (While site at guard invariants decreases body) = touched_by_all p body
  touched_by p (Break at) = false
  touched_by p (Return at update) = false
  touched_by p (Check demand) = false
  touched_by p (Prove site at aim body) = false
  touched_by p (Print at operands) = false
  touched_by p (Publish site at class fields this) = true
  touched_by p (Ghost body) = touched_by_all p body

  pub touched_by_all : Program → Stmts → Bool
  touched_by_all p done = false
  touched_by_all p (next stmt others) = touched_by p stmt || touched_by_all p others

  pub touched_by_branches : Program → Branches → Bool
  touched_by_branches p no_branch = false
  touched_by_branches p (branch guard body rest) = touched_by_all p body || touched_by_branches p rest

-- ---- right sides

-- results go to their places by the operations beside them
abbrev pub convert_all : Meaning → State → Pos → List Op → List Value → Outcome (List Value)
convert_all m s at [] vs = Gives []
convert_all m s at (op ∷ ops) [] = Gives []
convert_all m s at (op ∷ ops) (v ∷ vs) = after (answered at (answer (view_of m s) op (v ∷ []))) (λ w. after (convert_all m s at ops vs) (λ ws. Gives (w ∷ ws)))

abbrev pub new_array : Actions → State → ℕ → Ty → List Value → Outcome Given
new_array m s site element vs =
    after (m.new site s) (λ v. Gives (record { values = v ∷ []; state = with_heap s (with_object s.store.heap v (Elements (instance_of s.types element) vs)) }))

-- the listed elements, which must be as many as the size
abbrev pub listed_elements : Actions → State → Pos → ℤ → Exprs → Outcome (List Value)
listed_elements m s at size es = after (evaluate_all m.meaning s es) (λ vs. if int_eq (count vs) size then Gives vs else Wrong at kinds.Size)

abbrev pub first_elements : Actions → State → ℕ → Ty → Pos → ℤ → Option Exprs → Outcome (List Value)
first_elements m s site element at size None = if int_le (pos 0) size then m.elements site element size s else Wrong at kinds.Size
first_elements m s site element at size (Some es) = listed_elements m s at size es

abbrev pub execute_source : Actions → State → Source → Outcome Given
execute_source m s (Single ty value) = after (evaluate m.meaning s value) (λ v. Gives (record { values = v ∷ []; state = s }))
execute_source m s (Results call conversions) =
    after (evaluate_all m.meaning s call.arguments) (λ arguments.
    after (m.call call arguments s) (λ given.
    after (convert_all m.meaning given.state call.pos conversions given.values) (λ vs.
    Gives (record { values = vs; state = given.state }))))
execute_source m s (NewArray site element at size elements) =
    after (evaluate m.meaning s size) (λ n.
    after (first_elements m s site element at (number_of n) elements) (λ vs.
    new_array m s site element vs))

-- in order
abbrev pub execute_sources : Actions → State → List Source → Outcome Given
execute_sources m s [] = Gives (record { values = []; state = s })
execute_sources m s (source ∷ others) =
    after (execute_source m s source) (λ given.
    after (execute_sources m given.state others) (λ more.
    Gives (record { values = given.values ++ more.values; state = more.state })))

-- ---- places on the left

pub data Place : Type 0 where
  NoPlace : Place
  LocalPlace : (local : ℕ) → Place
  SlotPlace : (object : Value) (slot : ℕ) → Place

-- where it stands, for what is told of it
pub record Placed : Type 0 where
  pub place : Place
  pub pos : Pos

-- an object of the type that may be changed there
abbrev pub slot_place : State → Pos → Ty → Value → ℤ → Outcome Placed
slot_place s at t v n =
    if is_there s.store.heap t v then
    (if is_index n (count (slots_at s.store.heap v)) then
    (if may_change s.changeable s.entry v (nat_of n) then Gives (record { place = SlotPlace v (nat_of n); pos = at })
    else Wrong at kinds.Modifies) else Wrong at kinds.Index) else Wrong at kinds.Null

abbrev pub place_of : Meaning → State → Pos → Target → Outcome Placed
place_of m s outer (Nowhere ty) = Gives (record { place = NoPlace; pos = outer })
place_of m s outer (LocalAt local name at ty) = Gives (record { place = LocalPlace local; pos = at })
place_of m s outer (FieldAt object class field at ty) = after (evaluate m s object) (λ v. slot_place s at (Class false class) v (pos field))
place_of m s outer (ElementAt array index at ty) = after (evaluate m s array) (λ v. after (evaluate m s index) (λ n. slot_place s at (Array false (instance_of s.types ty)) v (number_of n)))

abbrev pub places_of : Meaning → State → List Target → Outcome (List Placed)
places_of m s [] = Gives []
places_of m s (target ∷ others) = after (place_of m s (record { line = 0; col = 0 }) target) (λ place. after (places_of m s others) (λ places. Gives (place ∷ places)))

abbrev pub put : State → Place → Value → State
put s NoPlace x = s
put s (LocalPlace n) x = with_local s n (Some x)
put s (SlotPlace v n) x = with_heap s (put_slot s.store.heap v n x)

abbrev pub same_place : Place → Place → Bool
same_place NoPlace q = false
same_place (LocalPlace n) NoPlace = false
same_place (LocalPlace n) (LocalPlace k) = n == k
same_place (LocalPlace n) (SlotPlace w k) = false
same_place (SlotPlace v n) NoPlace = false
same_place (SlotPlace v n) (LocalPlace k) = false
same_place (SlotPlace v n) (SlotPlace w k) = same v w && (n == k)

-- what the same place was given before is equal, or the later place is wrong
abbrev pub if_equal : Placed → Value → List (Place × Value) → Outcome State → Outcome State
if_equal x v [] o = o
if_equal x v (one ∷ earlier) o = if same_place one.0 x.place then (if same one.1 v then if_equal x v earlier o else Wrong x.pos kinds.Distinct) else if_equal x v earlier o

-- values go to their places
abbrev pub put_all : State → List (Place × Value) → List Placed → List Value → Outcome State
put_all s earlier [] vs = Gives s
put_all s earlier (x ∷ xs) [] = Gives s
put_all s earlier (x ∷ xs) (v ∷ vs) = if_equal x v earlier (put_all (put s x.place v) ((x.place, v) ∷ earlier) xs vs)

-- all right sides, then all places, and only then is anything changed
abbrev pub execute_update : Actions → State → Update → Outcome State
execute_update m s update =
    after (execute_sources m s update.sources) (λ given.
    after (places_of m.meaning given.state update.targets) (λ places.
    put_all given.state [] places given.values))

abbrev pub execute_optional : Actions → State → Option Update → Outcome State
execute_optional m s None = Gives s
execute_optional m s (Some update) = execute_update m s update

-- ---- choices

-- that some values of the ranges meet the condition
abbrev pub some_meet : ℕ → Pos → List Range → Expr → Expr
some_meet site at ranges condition = quantified Exists site at ranges condition

-- the values of a range that are of its variable's type
abbrev pub values_of_range : Meaning → Range → State → Outcome (List Value)
values_of_range m r s = after (evaluate_range m s r.extent) (λ vs. Gives (of_type m s r.variable.ty vs))

abbrev pub holds : Meaning → State → Expr → Outcome Bool
holds m s condition = after (evaluate m s condition) (λ v. Gives (truth_of v))

-- whether these are of the ranges and meet the condition
abbrev pub meet : Meaning → State → List Range → Expr → List Value → Outcome Bool
meet m s [] condition [] = holds m s condition
meet m s [] condition (v ∷ vs) = Gives false
meet m s (r ∷ rs) condition [] = Gives false
meet m s (r ∷ rs) condition (v ∷ vs) =
    after (values_of_range m r s) (λ items. if is_among v items then meet m (with_bound s v) rs condition vs else Gives false)

-- the condition must have a value on the whole range, and be true somewhere
abbrev pub execute_choice : Actions → State → ℕ → Pos → List Target → List Range → Expr → Outcome State
execute_choice m s site at targets ranges condition =
    after (evaluate m.meaning s (some_meet site at ranges condition)) (λ some.
    if truth_of some then
    after (m.pick site (length ranges) (meet m.meaning s ranges condition) s) (λ given.
    after (places_of m.meaning given.state targets) (λ places.
    put_all given.state [] places given.values))
    else Wrong at kinds.Choice)

-- ---- other statements

abbrev pub declare_all : State → List ℕ → State
declare_all s [] = s
declare_all s (local ∷ others) = declare_all (with_local s local None) others

-- each operand is evaluated and written before the next
abbrev pub print_all : Meaning → State → List Typed → Outcome State
print_all m s [] = Gives s
print_all m s (x ∷ others) = after (evaluate m s x.value) (λ v. print_all m (with_text s (text_of m.program (instance_of s.types x.ty) v)) others)

-- the values of locals; one that has none keeps the run from counting
abbrev pub values_in : List ℕ → Locals → Outcome (List Value)
values_in [] locals = Gives []
values_in (n ∷ ns) locals = after (there (locals n)) (λ v. after (values_in ns locals) (λ vs. Gives (v ∷ vs)))

-- the locals of a first phase become the fields of a new object
abbrev pub execute_publish : Actions → State → ℕ → ℕ → List ℕ → ℕ → Outcome State
execute_publish m s site class fields this =
    after (values_in fields s.locals) (λ slots.
    after (m.new site s) (λ v.
    Gives (with_local (with_heap s (with_object s.store.heap v (Instance class slots))) this (Some v))))

-- where what is given is true, the proof
abbrev pub where_true : Meaning → Option Expr → (State → Outcome State) → State → Outcome State
where_true m None go s = go s
where_true m (Some e) go s = after (evaluate m s e) (λ v. if truth_of v then go s else Gives s)

-- ---- statements in order

-- a return or a break passes the others by
abbrev pub goes : (State → Outcome Flow) → Flow → Outcome Flow
goes go (Next s) = go s
goes go (Returned s) = Gives (Returned s)
goes go (Broken s) = Gives (Broken s)

abbrev pub then_next : Outcome Flow → (State → Outcome Flow) → Outcome Flow
then_next o go = after o (goes go)

abbrev pub go_on : Outcome State → Outcome Flow
go_on o = after o (λ s. Gives (Next s))

-- the changes of a proof are dropped, but the choices that it took stay taken
abbrev pub dropped : State → State → State
dropped s t = with_store s (record s.store { choices = t.store.choices })

abbrev pub conditions : List Demand → List Expr
conditions demands = map (λ (d : Demand). d.condition) demands

abbrev mutual
  pub execute : Actions → State → Stmt → Outcome Flow
  execute m s (Declare locals) = Gives (Next (declare_all s locals))
  execute m s (Assign update) = go_on (execute_update m s update)
  execute m s (Choose site at targets ranges condition) = go_on (execute_choice m s site at targets ranges condition)
  execute m s (Branch branches otherwise) = execute_branches m s branches (execute_all m s otherwise)
  execute m s (While site at guard invariants decreases body) = after (check_all m.meaning s (map (as_kind kinds.Entry) invariants)) (λ u.
      m.loop (While site at guard invariants decreases body) (record {
        site = site;
        pos = at;
        assigned = assigned_by_all body;
        touches = touched_by_all m.meaning.program body;
        guard = λ t. evaluate m.meaning t guard;
        check = λ kind t. check_all m.meaning t (map (as_kind kind) invariants);
        assume = λ t. assume_all m.meaning t (conditions invariants);
        measure = λ t. measured m.meaning t (loop_measure at guard decreases);
        body = λ t. execute_all m t body;
      }) u)
  execute m s (Break at) = Gives (Broken s)
  execute m s (Return at update) = after (execute_optional m s update) (λ t. Gives (Returned t))
  execute m s (Check demand) = go_on (check m.meaning s demand)
  -- the body first, then the claims in the state before it
  execute m s (Prove site at aim body) = go_on (m.prove site (map (values_of_range m.meaning) aim.ranges)
      (where_true m.meaning aim.given (λ t. after (execute_all m t body) (λ flow. check_all m.meaning (dropped t (state_of flow)) aim.claims)))
      (λ t. assume_all m.meaning t (known_behind site at aim)) s)
  execute m s (Print at operands) = go_on (print_all m.meaning s operands)
  execute m s (Publish site at class fields this) = go_on (execute_publish m s site class fields this)
  execute m s (Ghost body) = execute_all m s body

  pub execute_all : Actions → State → Stmts → Outcome Flow
  execute_all m s done = Gives (Next s)
  execute_all m s (next stmt others) = then_next (execute m s stmt) (λ t. execute_all m t others)

  -- the first branch whose guard is true, or else what is done without any
  pub execute_branches : Actions → State → Branches → Outcome Flow → Outcome Flow
  execute_branches m s no_branch otherwise = otherwise
  execute_branches m s (branch guard body rest) otherwise =
      after (evaluate m.meaning s guard) (λ v. if truth_of v then execute_all m s body else execute_branches m s rest otherwise)

-- the parts of a loop of the text
abbrev pub loop_of : Actions → ℕ → Pos → Expr → List Demand → Option (List Typed) → Stmts → Loop
loop_of m site at guard invariants decreases body = record {
  site = site;
  pos = at;
  assigned = assigned_by_all body;
  touches = touched_by_all m.meaning.program body;
  guard = λ t. evaluate m.meaning t guard;
  check = λ kind t. check_all m.meaning t (map (as_kind kind) invariants);
  assume = λ t. assume_all m.meaning t (conditions invariants);
  measure = λ t. measured m.meaning t (loop_measure at guard decreases);
  body = λ t. execute_all m t body;
}
