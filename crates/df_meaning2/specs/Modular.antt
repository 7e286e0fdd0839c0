-- Modular runs of one declaration: functions have their values by whole runs, behind what their calls demand; what calls, loops,
-- choices and proofs do is handed in, found by the number of the place.
use Rattle.std.specs.Prelude.{ℕ, ℤ, zero, suc, Bool, true, false, not, ◌&&◌, ◌||◌, ◌==◌, List, [], ◌∷◌, length, map, is_none, Option, None, Some, if◌then◌else◌}
use Rattle.std.specs.Ordering.{int_eq}
use Rattle.std.specs.Option.{option_map_or}
use Rattle.std.specs.List.{list_any}
use Rattle.df_base.specs.declared.pos.Pos.{Pos}
use Rattle.df_types.specs.declared.kind.Kind.TheVariants as kinds
use Rattle.df_types.specs.Ty.{Ty, AnyObject, Seq, Tys, instances_of, same_types}
use Rattle.df_types.specs.Regular.{own_types}
use Rattle.df_types.specs.Expr.{Expr, Local, Bound, Apply, Junction, Chain, If, Let, Call, Quantify, Old, Exprs, no_expr, expr, Links, no_link, link, Arms, no_arm, arm, Extent, Between, Among}
use Rattle.df_types.specs.Stmt.{Demand, CallOf}
use Rattle.df_types.specs.Program.{Param, Head, Function, Method, Decl, NewtypeDecl, DatatypeDecl, ClassDecl, FunctionDecl, MethodDecl, Program, function_at, method_at, types_of}
use Rattle.df_types.specs.Measures.{function_measure, method_measure, frame_objects}
use Rattle.df_types.specs.Calls.{group_at}
use Rattle.df_meaning2.specs.Value.{Value, Collection, no_value, items_of, truth_of, is_among}
use Rattle.df_meaning2.specs.Heap.{Heap, may_change, keeps, lies_in_changeable, is_new, is_there}
use Rattle.df_meaning2.specs.Outcome.{Outcome, Gives, Wrong, TooDeep, NoChoice, Dismissed, after}
use Rattle.df_meaning2.specs.Types.{is_of}
use Rattle.df_meaning2.specs.Answer.{count}
use Rattle.df_meaning2.specs.State.{State, with_local, with_bound, with_heap, reading_all, reading_inside, given, entering}
use Rattle.df_meaning2.specs.Meaning.{Meaning, evaluate, check_all, as_kind, asked_at, assume_all, Measured, measured}
use Rattle.df_meaning2.specs.Execution.{Flow, Next, Returned, Broken, Given, Assigned, Loop, Actions, conditions}
use Rattle.df_meaning2.specs.Order.{are_below}
use Rattle.df_meaning2.specs.Whole.{entered, run_body}

-- At each place any values and a heap, whether the run ends in the proof there, and which value of a quantifier's range is looked at
-- first. At 0 the declaration has its arguments and its heap.
pub record Oracle : Type 0 where
  pub free : (site part : ℕ) → Value
  pub heap : (site : ℕ) → Heap
  pub inside : (site : ℕ) → Bool
  pub first : (site : ℕ) → ℕ

-- The declaration that runs: its group, and its measure at entry. There is none where nothing is below it: in what it requires and reads,
-- and in the measure itself.
pub record Running : Type 0 where
  pub groups : List ℕ
  pub number : ℕ
  pub entry : Option (List Measured)

-- what does not come to a value does not count
abbrev pub or_dismissed : {A : Type 0} → Outcome A → Outcome A
or_dismissed (Gives a) = Gives a
or_dismissed (Wrong at kind) = Dismissed
or_dismissed TooDeep = Dismissed
or_dismissed NoChoice = Dismissed
or_dismissed Dismissed = Dismissed

-- contracts of callees are evaluated over it: a call in them that has no value keeps the run from counting
abbrev pub dismissing : Oracle → Meaning → Meaning
dismissing o deep = record deep { first = o.first; apply = λ at callee types arguments s. or_dismissed (deep.apply at callee types arguments s) }

-- ---- decreases

abbrev pub in_group : Running → ℕ → Bool
in_group run callee = group_at run.groups run.number == group_at run.groups callee

abbrev pub if_below : Pos → List Measured → List Measured → Outcome (List Measured)
if_below at now before = if are_below now before then Gives now else Wrong at kinds.Decreases

abbrev pub falls_from : Pos → Outcome (List Measured) → Option (List Measured) → Outcome (List Measured)
falls_from at now None = Wrong at kinds.Decreases
falls_from at now (Some before) = after now (λ vs. if_below at vs before)

-- inside the group the callee's measure is below that of the declaration that runs
abbrev pub check_decrease : Running → Pos → ℕ → Outcome (List Measured) → Outcome (List Measured)
check_decrease run at callee now = if in_group run callee then falls_from at now run.entry else Gives []

-- ---- calls of functions

abbrev pub leaving : List Param → List Value → State → State
leaving params vs s = record s { locals = given params vs s.locals }

-- in what it requires and reads, and in the measure itself, no call into the own group is below
abbrev pub is_never_below : Running → ℕ → Bool
is_never_below run callee = in_group run callee && is_none run.entry

-- What it requires and reads; the decrease; then its value, which meets what it ensures. `deep` is whole at the depth.
abbrev pub apply_head : Meaning → Oracle → Running → Pos → ℕ → Tys → List Value → State → Function → Outcome Value
apply_head deep o run at callee types arguments s f =
    if is_never_below run callee then Wrong at kinds.Decreases else
    entered (dismissing o deep) at types f.head arguments s (λ t.
    after (check_decrease run at callee (measured (dismissing o deep) (reading_all t) (function_measure f.head))) (λ now.
    after (or_dismissed (deep.apply at callee types arguments s)) (λ v.
    after (or_dismissed (assume_all (dismissing o deep) (leaving f.head.results (v ∷ []) (reading_all t)) (conditions f.head.postconditions))) (λ u. Gives v))))

-- the meaning of a declaration's own text
abbrev pub demanding : Meaning → Oracle → Running → Meaning
demanding deep o run = record {
  program = deep.program;
  first = o.first;
  apply = λ at callee types arguments s. option_map_or (apply_head deep o run at callee types arguments s) (function_at deep.program callee) Dismissed;
}

-- ---- what is handed in

-- for parameters or results, if it is of their types
abbrev pub handed : Program → Tys → (ℕ → Value) → List Param → Outcome (List Value)
handed p types free [] = Gives []
handed p types free (x ∷ xs) = if is_of p types x.ty (free x.local) then after (handed p types free xs) (λ vs. Gives (free x.local ∷ vs)) else Dismissed

-- a heap, if it is what may come of the present one
abbrev pub changed_heap : Heap → Bool → (Value → Bool) → State → Outcome Heap
changed_heap heap touches free s = if touches then (if keeps free s.store.heap heap then Gives heap else Dismissed) else Gives s.store.heap

-- ---- calls of methods and lemmas

-- a constructor: its `this` is its result
abbrev pub is_constructor : Head → Bool
is_constructor head = option_map_or (λ n. list_any (λ (x : Param). x.local == n) head.results) head.receiver false

-- objects of the types that were not there before
abbrev pub are_new : List Ty → Heap → Heap → List Value → Bool
are_new [] before later vs = true
are_new (t ∷ ts) before later [] = true
are_new (t ∷ ts) before later (v ∷ vs) = (is_new before v && is_there later t v) && are_new ts before later vs

-- what a constructor gives is new
abbrev pub is_made : Head → Heap → Heap → List Value → Bool
is_made head before later vs = not (is_constructor head) || are_new (types_of head.results) before later vs

-- what is required, the frame, the decrease, and then any results that meet what is ensured
abbrev pub call_head : Meaning → Oracle → Running → CallOf → List Value → State → Method → Outcome Given
call_head deep o run call arguments s m =
    let types = instances_of s.types call.types in
    let begun = entering types m.head.parameters arguments s in
    after (check_all (dismissing o deep) begun (map (asked_at call.pos kinds.Requires) m.head.preconditions)) (λ t.
    after (evaluate (dismissing o deep) begun (frame_objects m.head)) (λ frame.
    if lies_in_changeable s.changeable s.entry frame then
    after (check_decrease run call.pos call.callee (measured (dismissing o deep) begun (method_measure m.head))) (λ now.
    after (handed deep.program types (o.free call.site) m.head.results) (λ vs.
    after (changed_heap (o.heap call.site) (not m.head.is_ghost) (λ v. is_among v (items_of frame)) s) (λ heap.
    if is_made m.head s.store.heap heap vs then
    after (or_dismissed (assume_all (dismissing o deep) (with_heap (leaving m.head.results vs begun) heap) (conditions m.head.postconditions))) (λ u.
    Gives (record { values = vs; state = with_heap s heap }))
    else Dismissed)))
    else Wrong call.pos kinds.Modifies))

abbrev pub modular_call : Meaning → Oracle → Running → CallOf → List Value → State → Outcome Given
modular_call deep o run call arguments s = option_map_or (call_head deep o run call arguments s) (method_at deep.program call.callee) Dismissed

-- ---- loops

-- An assigned local that has a value takes what is handed in, of its type. One that has none is assigned in each turn before it is read.
abbrev pub havocked : Program → (ℕ → Value) → List Assigned → State → Outcome State
havocked p free [] s = Gives s
havocked p free (x ∷ xs) s =
    option_map_or (λ v. if is_of p s.types x.ty (free x.local) then havocked p free xs (with_local s x.local (Some (free x.local))) else Dismissed)
    (s.locals x.local) (havocked p free xs s)

-- behind the body the invariants hold and the measure has fallen, and the run ends
abbrev pub behind_once : Loop → List Measured → Flow → Outcome Flow
behind_once loop before (Next s) = after (loop.check kinds.Turn s) (λ t. after (loop.measure t) (λ now. after (if_below loop.pos now before) (λ u. Dismissed)))
behind_once loop before (Returned s) = Gives (Returned s)
behind_once loop before (Broken s) = Gives (Next s)

-- what is handed in, of which the invariants are true; the guard; the body once
abbrev pub modular_loop : Program → Oracle → Loop → State → Outcome Flow
modular_loop p o loop s =
    after (changed_heap (o.heap loop.site) loop.touches (λ v. may_change s.changeable s.entry v 0) s) (λ heap.
    after (havocked p (o.free loop.site) loop.assigned (with_heap s heap)) (λ t.
    after (or_dismissed (loop.assume t)) (λ u.
    after (loop.guard u) (λ v.
    if truth_of v then after (loop.measure u) (λ before. after (loop.body u) (behind_once loop before)) else Gives (Next u)))))

-- ---- choices, proofs, new objects

abbrev pub numbered : (ℕ → Value) → (from count : ℕ) → List Value
numbered free from zero = []
numbered free from (suc n) = free from ∷ numbered free (suc from) n

abbrev pub modular_pick : Oracle → (site count : ℕ) → (List Value → Outcome Bool) → State → Outcome Given
modular_pick o site count fits s =
    after (or_dismissed (fits (numbered (o.free site) 0 count))) (λ b. if b then Gives (record { values = numbered (o.free site) 0 count; state = s }) else Dismissed)

-- values of the ranges, if they are such
abbrev pub taking : (ℕ → Value) → ℕ → List (State → Outcome (List Value)) → State → Outcome State
taking free part [] s = Gives s
taking free part (range ∷ ranges) s = after (range s) (λ vs. if is_among (free part) vs then taking free (suc part) ranges (with_bound s (free part)) else Dismissed)

-- the run ends in the proof for some values, or goes on from what is known behind it
abbrev pub modular_prove : Oracle → (site : ℕ) → List (State → Outcome (List Value)) → (State → Outcome State) → (State → Outcome State) → State → Outcome State
modular_prove o site ranges go known s = if o.inside site then after (after (taking (o.free site) 0 ranges s) go) (λ u. Dismissed) else or_dismissed (known s)

-- any reference that is not used
abbrev pub modular_new : Program → Oracle → (site : ℕ) → State → Outcome Value
modular_new p o site s = if is_of p s.types (AnyObject false) (o.free site 0) && is_new s.store.heap (o.free site 0) then Gives (o.free site 0) else Dismissed

-- any elements of the type
abbrev pub modular_elements : Program → Oracle → (site : ℕ) → Ty → ℤ → State → Outcome (List Value)
modular_elements p o site element n s =
    if is_of p s.types (Seq element) (o.free site 1) && int_eq (count (items_of (o.free site 1))) n then Gives (items_of (o.free site 1)) else Dismissed

abbrev pub modular : Meaning → Oracle → Running → Actions
modular deep o run = record {
  meaning = demanding deep o run;
  call = modular_call deep o run;
  loop = λ text loop s. modular_loop deep.program o loop s;
  pick = modular_pick o;
  new = modular_new deep.program o;
  elements = modular_elements deep.program o;
  prove = modular_prove o;
}

-- ---- what a function ensures: there its call on just its parameters is the result

-- the arguments are the parameters in order
abbrev pub reads_parameter : ℕ → Expr → Bool
reads_parameter n (Local local name at) = local == n
reads_parameter n (Bound index name at) = false
reads_parameter n (Apply op at es) = false
reads_parameter n (Junction connective first rest) = false
reads_parameter n (Chain ty first rest) = false
reads_parameter n (If ty arms otherwise) = false
reads_parameter n (Let variable is_ghost value body) = false
reads_parameter n (Call callee types at es) = false
reads_parameter n (Quantify site at quantifier variable extent triggers body) = false
reads_parameter n (Old at e) = false

abbrev pub are_parameters : List Param → Exprs → Bool
are_parameters [] no_expr = true
are_parameters [] (expr e es) = false
are_parameters (x ∷ xs) no_expr = false
are_parameters (x ∷ xs) (expr e es) = reads_parameter x.local e && are_parameters xs es

-- the function that runs, by its number, its parameters and its type parameters, and the local of its result
pub record Itself : Type 0 where
  pub number : ℕ
  pub parameters : List Param
  pub types : Tys
  pub result : ℕ

abbrev pub calls_itself : Itself → ℕ → Tys → Exprs → Bool
calls_itself f callee types es = (callee == f.number) && (same_types types f.types && are_parameters f.parameters es)

abbrev mutual
  pub resulting : Itself → Expr → Expr
  resulting f (Local local name at) = Local local name at
  resulting f (Bound index name at) = Bound index name at
  resulting f (Apply op at es) = Apply op at (resulting_all f es)
  resulting f (Junction connective first rest) = Junction connective (resulting f first) (resulting_all f rest)
  resulting f (Chain ty first rest) = Chain ty (resulting f first) (resulting_links f rest)
  resulting f (If ty arms otherwise) = If ty (resulting_arms f arms) (resulting f otherwise)
  resulting f (Let variable is_ghost value body) = Let variable is_ghost (resulting f value) (resulting f body)
  resulting f (Call callee types at es) = if calls_itself f callee types es then Local f.result 0 at else Call callee types at (resulting_all f es)
  resulting f (Quantify site at quantifier variable extent triggers body) = Quantify site at quantifier variable (resulting_extent f extent) triggers (resulting f body)
  resulting f (Old at e) = Old at (resulting f e)

  pub resulting_all : Itself → Exprs → Exprs
  resulting_all f no_expr = no_expr
  resulting_all f (expr e es) = expr (resulting f e) (resulting_all f es)

  pub resulting_links : Itself → Links → Links
  resulting_links f no_link = no_link
  resulting_links f (link comparison at e rest) = link comparison at (resulting f e) (resulting_links f rest)

  pub resulting_arms : Itself → Arms → Arms
  resulting_arms f no_arm = no_arm
  resulting_arms f (arm guard value rest) = arm (resulting f guard) (resulting f value) (resulting_arms f rest)

  pub resulting_extent : Itself → Extent → Extent
  resulting_extent f (Between ty low low_strict high high_strict) = Between ty (resulting f low) low_strict (resulting f high) high_strict
  resulting_extent f (Among ty container) = Among ty (resulting f container)

abbrev pub result_local : List Param → ℕ
result_local [] = 0
result_local (x ∷ xs) = x.local

abbrev pub itself : ℕ → Head → Itself
itself number head = record { number = number; parameters = head.parameters; types = own_types 0 (length head.type_parameters); result = result_local head.results }

abbrev pub resulting_demand : Itself → Demand → Demand
resulting_demand f d = record { kind = kinds.Ensures; pos = d.pos; condition = resulting f d.condition }

-- ---- the run of a declaration

abbrev pub running : List ℕ → ℕ → Option (List Measured) → Running
running groups number entry = record { groups = groups; number = number; entry = entry }

-- What it requires, which dismisses the run where it is not true; what it reads, inside which both are read; its measure; its body inside
-- what it reads; and what it ensures.
abbrev pub run_function : Meaning → Oracle → List ℕ → ℕ → Function → State → Outcome State
run_function deep o groups number f s =
    let top = demanding deep o (running groups number None) in
    after (assume_all top s (conditions f.head.preconditions)) (λ t.
    after (evaluate top s (frame_objects f.head)) (λ frame.
    after (check_all top (reading_inside s frame) (map (as_kind kinds.Requires) f.head.preconditions)) (λ u.
    after (evaluate top (reading_inside s frame) (frame_objects f.head)) (λ again.
    after (measured top s (function_measure f.head)) (λ entry.
    let own = demanding deep o (running groups number (Some entry)) in
    after (evaluate own (reading_inside s frame) f.value) (λ v.
    check_all own (leaving f.head.results (v ∷ []) s) (map (resulting_demand (itself number f.head)) f.head.postconditions)))))))

-- What it requires; what it may change; its measure; its body; and what it ensures.
abbrev pub run_declared : Meaning → Oracle → List ℕ → ℕ → Method → State → Outcome State
run_declared deep o groups number m s =
    let top = demanding deep o (running groups number None) in
    after (assume_all top s (conditions m.head.preconditions)) (λ t.
    after (evaluate top s (frame_objects m.head)) (λ frame.
    after (measured top s (method_measure m.head)) (λ entry.
    run_body (modular deep o (running groups number (Some entry))) m (record s { changeable = frame }))))

abbrev pub run_decl : Meaning → Oracle → List ℕ → ℕ → Decl → State → Outcome State
run_decl deep o groups number (NewtypeDecl x) s = Dismissed
run_decl deep o groups number (DatatypeDecl x) s = Dismissed
run_decl deep o groups number (ClassDecl x) s = Dismissed
run_decl deep o groups number (FunctionDecl f) s = run_function deep o groups number f s
run_decl deep o groups number (MethodDecl m) s = run_declared deep o groups number m s

abbrev pub parameters_of : Decl → List Param
parameters_of (NewtypeDecl x) = []
parameters_of (DatatypeDecl x) = []
parameters_of (ClassDecl x) = []
parameters_of (FunctionDecl f) = f.head.parameters
parameters_of (MethodDecl m) = m.head.parameters

-- before anything is handed in: nothing printed, no choices
abbrev pub blank : Tys → Heap → State
blank types heap = record { types = types; locals = λ n. None; bound = []; entry = heap; changeable = Collection no_value; readable = None; store = record { text = []; heap = heap; choices = [] } }

-- at types for its type parameters, on arguments and a heap that are handed in
abbrev pub run : Meaning → Oracle → List ℕ → ℕ → Tys → Decl → Outcome State
run deep o groups number types decl =
    after (handed deep.program types (o.free 0) (parameters_of decl)) (λ vs. run_decl deep o groups number decl (entering types (parameters_of decl) vs (blank types (o.heap 0))))
