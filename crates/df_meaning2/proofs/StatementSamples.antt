-- Each statement with its ends and its faults, by computation of whole runs.
use Rattle.std.proofs.Common.{◌≡◌, ℕ, pos, ◌==◌, if◌then◌else◌, true, false, List, [], ◌∷◌, map, Option, None, Some, codes, refl}
use Rattle.df_base.specs.declared.pos.Pos.{Pos}
use Rattle.df_types.specs.declared.kind.Kind.{Kind}
use Rattle.df_types.specs.declared.kind.Kind.TheVariants.{Assert, Requires, Ensures, Entry, Turn, Modifies, Index, Null, Divisor, Choice, Size, Distinct}
use Rattle.df_types.specs.declared.op.Comparison.TheVariants.{Equal, Less}
use Rattle.df_types.specs.Ty.{Ty, Int, Boolean, Char, Class, Array, Seq, no_ty}
use Rattle.df_types.specs.Op.{Op}
use Rattle.df_types.specs.Expr.{Expr, Local, Bound, Apply, Exprs, no_expr, expr, exprs_of, Between}
use Rattle.df_types.specs.Stmt.{Demand, Target, LocalAt, FieldAt, ElementAt, Source, Single, Results, NewArray, Range, Stmt, Declare, Assign, Choose, Branch, While, Break, Return, Check, Prove, Print, Publish, Ghost, Stmts, done, stmts_of, no_branch, branch}
use Rattle.df_types.specs.Program.{Declared, Variable, Param, Decl, ClassDecl, MethodDecl, Program}
use Rattle.df_meaning2.specs.Value.{Value, Number, Reference, Collection, no_value, no_object, instance_at, values_of}
use Rattle.df_meaning2.specs.Heap.{slots_at}
use Rattle.df_meaning2.specs.Outcome.{Outcome, Gives, Wrong, TooDeep, NoChoice, after}
use Rattle.df_meaning2.specs.State.{State}
use Rattle.df_meaning2.specs.Execution.{Flow, Next, Returned, Broken, execute_all}
use Rattle.df_meaning2.specs.Whole.{doing}

abbrev at : ℕ → Pos
at n = record { line = 1; col = n }

abbrev named : List ℕ → Declared
named text = record { name = 0; text = text; pos = at 1 }

abbrev variable : Ty → Variable
variable t = record { declared = named (codes "x"); ty = t; is_ghost = false; is_written = true }

abbrev param : ℕ → Ty → Param
param n t = record { local = n; ty = t; is_ghost = false }

-- ---- expressions: local 0 and 1 are numbers, local 2 an array, local 3 an object

abbrev num : ℕ → Expr
num n = Apply (Op.NumberOf Int (pos n)) (at 2) no_expr

abbrev x : Expr
x = Local 0 0 (at 3)

abbrev y : Expr
y = Local 1 0 (at 3)

abbrev a : Expr
a = Local 2 0 (at 3)

abbrev two : Op → Expr → Expr → Expr
two op e f = Apply op (at 4) (expr e (expr f no_expr))

abbrev less : Expr → Expr → Expr
less e f = two (Op.Compare Less Int) e f

abbrev equal : Expr → Expr → Expr
equal e f = two (Op.Compare Equal Int) e f

abbrev minus : Expr → Expr → Expr
minus e f = two (Op.Subtract Int) e f

abbrev minus_one : Expr
minus_one = minus (num 0) (num 1)

-- ---- statements

abbrev demand : Kind → Expr → Demand
demand kind e = record { kind = kind; pos = at 5; condition = e }

abbrev to : ℕ → Target
to n = LocalAt n 0 (at 6) Int

abbrev array_to : Target
array_to = LocalAt 2 0 (at 6) (Array false Int)

abbrev element : Expr → Target
element i = ElementAt a i (at 6) Int

abbrev assign : List Target → List Source → Stmt
assign targets sources = Assign (record { targets = targets; sources = sources })

abbrev set : ℕ → Expr → Stmt
set n e = assign (to n ∷ []) (Single Int e ∷ [])

abbrev new : Expr → Option Exprs → Stmt
new size elements = assign (array_to ∷ []) (NewArray 1 Int (at 7) size elements ∷ [])

abbrev range : Range
range = record { variable = record { name = 0; pos = at 8; ty = Int; is_written = true }; extent = Between Int (num 0) false (num 3) true }

abbrev choose : Expr → Stmt
choose condition = Choose 2 (at 8) (to 1 ∷ []) (range ∷ []) condition

-- while 0 < x invariant .. { .. }
abbrev loop : Expr → List Stmt → Stmt
loop invariant body = While 3 (at 9) (less (num 0) x) (demand Assert invariant ∷ []) None (stmts_of body)

abbrev call : ℕ → Expr → Stmt
call callee e = assign (to 1 ∷ []) (Results (record { site = 4; callee = callee; types = no_ty; pos = at 10; arguments = expr e no_expr }) (Op.Fit Int Int ∷ []) ∷ [])

abbrev by : Expr → List Stmt → Stmt
by claim body = Prove 5 (at 11) (record { ranges = []; given = None; claims = demand Assert claim ∷ [] }) (stmts_of body)

abbrev for_all : Expr → Stmt
for_all claim = Prove 5 (at 11) (record { ranges = range ∷ []; given = Some (less (num 0) (Bound 0 0 (at 3))); claims = demand Assert claim ∷ [] }) done

-- method Half(n: int) returns (r: int) requires 0 < n ensures r < n { r := n / 2; }, and one that breaks what it ensures
abbrev method : Expr → Decl
method value = MethodDecl (record {
  head = record {
    declared = named (codes "Half");
    is_ghost = false;
    type_parameters = [];
    locals = variable Int ∷ variable Int ∷ [];
    receiver = None;
    parameters = param 0 Int ∷ [];
    results = param 1 Int ∷ [];
    preconditions = demand Requires (less (num 0) x) ∷ [];
    frame = [];
    decreases = None;
    postconditions = demand Ensures (less y x) ∷ [];
  };
  pos = at 1;
  body = stmts_of (set 1 value ∷ []);
})

-- class Cell { var f: int }
abbrev program : Program
program = record { decls = ClassDecl (record { declared = named (codes "Cell"); fields = variable Int ∷ [] }) ∷ method (two (Op.Divide Int) x (num 2)) ∷ method x ∷ [] }

-- ---- what is seen of a run: how it ends, the first two locals, the text, the choices that are left, and the first object

pub record Seen : Type 0 where
  pub ending : List ℕ
  pub x : Option Value
  pub y : Option Value
  pub text : List ℕ
  pub choices : List (List Value)
  pub slots : List Value

abbrev seen_in : List ℕ → State → Seen
seen_in ending s = record { ending = ending; x = s.locals 0; y = s.locals 1; text = s.store.text; choices = s.store.choices; slots = slots_at s.store.heap (Reference 1) }

abbrev seen : Flow → Seen
seen (Next s) = seen_in (codes "on") s
seen (Returned s) = seen_in (codes "returned") s
seen (Broken s) = seen_in (codes "broken") s

-- x is 2, and all else has no value; there is an object 9 from before that may not be changed, in local 3
abbrev start : State
start = record {
  types = no_ty;
  locals = λ n. if n == 0 then Some (Number (pos 2)) else (if n == 3 then Some (Reference 9) else None);
  bound = [];
  entry = instance_at 9 0 (values_of (Number (pos 7) ∷ [])) no_object;
  changeable = Collection no_value;
  readable = None;
  store = record { text = []; heap = instance_at 9 0 (values_of (Number (pos 7) ∷ [])) no_object; choices = (Number (pos 1) ∷ []) ∷ (Number (pos 2) ∷ []) ∷ [] };
}

abbrev here : Seen
here = seen_in (codes "on") start

abbrev with_y : ℕ → Seen
with_y n = record here { y = Some (Number (pos n)) }

abbrev ran : Stmts → Outcome Seen
ran stmts = after (execute_all (doing program 5) start stmts) (λ flow. Gives (seen flow))

pub record Run : Type 0 where
  pub text : List Stmt
  pub comes : Outcome Seen

abbrev run : List Stmt → Outcome Seen → Run
run text comes = record { text = text; comes = comes }

abbrev bad : ℕ → Kind → Outcome Seen
bad n kind = Wrong (at n) kind

abbrev runs : List Run
runs =
    run (Declare (0 ∷ []) ∷ []) (Gives (record here { x = None }))
    ∷ run (set 1 (num 4) ∷ []) (Gives (with_y 4))
    ∷ run (assign (to 0 ∷ to 1 ∷ []) (Single Int (num 4) ∷ Single Int x ∷ []) ∷ []) (Gives (record here { x = Some (Number (pos 4)); y = Some (Number (pos 2)) }))
    ∷ run (assign (to 1 ∷ to 1 ∷ []) (Single Int x ∷ Single Int (num 2) ∷ []) ∷ []) (Gives (with_y 2))
    ∷ run (assign (to 1 ∷ to 1 ∷ []) (Single Int x ∷ Single Int (num 3) ∷ []) ∷ []) (bad 6 Distinct)
    ∷ run (new (num 2) None ∷ []) (Gives (record here { slots = Number (pos 0) ∷ Number (pos 0) ∷ [] }))
    ∷ run (new minus_one None ∷ []) (bad 7 Size)
    ∷ run (new (num 2) (Some (exprs_of (num 5 ∷ num 6 ∷ []))) ∷ assign (element (num 1) ∷ []) (Single Int (num 8) ∷ []) ∷ []) (Gives (record here { slots = Number (pos 5) ∷ Number (pos 8) ∷ [] }))
    ∷ run (new (num 1) (Some (exprs_of (num 5 ∷ num 6 ∷ []))) ∷ []) (bad 7 Size)
    ∷ run (new (num 2) None ∷ assign (element (num 2) ∷ []) (Single Int (num 8) ∷ []) ∷ []) (bad 6 Index)
    ∷ run (assign (FieldAt (Local 3 0 (at 3)) 0 0 (at 6) Int ∷ []) (Single Int (num 8) ∷ []) ∷ []) (bad 6 Modifies)
    ∷ run (assign (FieldAt (Apply (Op.NullOf (Class true 0)) (at 2) no_expr) 0 0 (at 6) Int ∷ []) (Single Int (num 8) ∷ []) ∷ []) (bad 6 Null)
    ∷ run (call 1 x ∷ []) (Gives (with_y 1))
    ∷ run (call 1 (num 0) ∷ []) (bad 10 Requires)
    ∷ run (call 2 x ∷ []) (bad 5 Ensures)
    ∷ run (choose (less (num 0) (Bound 0 0 (at 3))) ∷ []) (Gives (record (with_y 1) { choices = (Number (pos 2) ∷ []) ∷ [] }))
    ∷ run (choose (less (num 1) (Bound 0 0 (at 3))) ∷ []) NoChoice
    ∷ run (choose (less (num 5) (Bound 0 0 (at 3))) ∷ []) (bad 8 Choice)
    ∷ run (choose (equal (two (Op.Divide Int) (num 2) (Bound 0 0 (at 3))) (num 2)) ∷ []) (bad 4 Divisor)
    ∷ run (Branch (branch (less x (num 1)) (stmts_of (set 1 (num 1) ∷ [])) (branch (less x (num 3)) (stmts_of (set 1 (num 3) ∷ [])) no_branch)) done ∷ []) (Gives (with_y 3))
    ∷ run (Branch (branch (less x (num 1)) (stmts_of (set 1 (num 1) ∷ [])) no_branch) (stmts_of (set 1 (num 9) ∷ [])) ∷ []) (Gives (with_y 9))
    ∷ run (loop (less x (num 3)) (set 0 (minus x (num 1)) ∷ []) ∷ []) (Gives (record here { x = Some (Number (pos 0)) }))
    ∷ run (loop (less x (num 2)) (set 0 (minus x (num 1)) ∷ []) ∷ []) (bad 5 Entry)
    ∷ run (loop (less (num 1) x) (set 0 (minus x (num 1)) ∷ []) ∷ []) (bad 5 Turn)
    ∷ run (loop (less x (num 3)) (Break (at 12) ∷ []) ∷ set 1 (num 4) ∷ []) (Gives (with_y 4))
    ∷ run (loop (less x (num 3)) (Return (at 12) None ∷ []) ∷ set 1 (num 4) ∷ []) (Gives (record here { ending = codes "returned" }))
    ∷ run (loop (less x (num 3)) [] ∷ []) TooDeep
    ∷ run (Break (at 12) ∷ set 1 (num 4) ∷ []) (Gives (record here { ending = codes "broken" }))
    ∷ run (Return (at 12) (Some (record { targets = to 1 ∷ []; sources = Single Int (num 4) ∷ [] })) ∷ set 1 (num 5) ∷ []) (Gives (record (with_y 4) { ending = codes "returned" }))
    ∷ run (Check (demand Assert (less x (num 3))) ∷ []) (Gives here)
    ∷ run (Check (demand Assert (less x (num 2))) ∷ []) (bad 5 Assert)
    ∷ run (by (less x (num 3)) (set 0 (num 7) ∷ choose (less (num 0) (Bound 0 0 (at 3))) ∷ []) ∷ []) (Gives (record here { choices = (Number (pos 2) ∷ []) ∷ [] }))
    ∷ run (by (less x (num 2)) [] ∷ []) (bad 5 Assert)
    ∷ run (by (less x (num 3)) (Check (demand Assert (less x (num 1))) ∷ []) ∷ []) (bad 5 Assert)
    ∷ run (for_all (less (num 0) (Bound 0 0 (at 3))) ∷ []) (Gives here)
    ∷ run (for_all (less (num 1) (Bound 0 0 (at 3))) ∷ []) (bad 5 Assert)
    ∷ run (Print (at 13) (record { ty = Seq Char; value = Apply (Op.TextOf (codes "n is ")) (at 2) no_expr } ∷ record { ty = Boolean; value = less x (num 1) } ∷ []) ∷ []) (Gives (record here { text = codes "n is false" }))
    ∷ run (Publish 6 (at 14) 0 (0 ∷ []) 3 ∷ []) (Gives (record here { slots = Number (pos 2) ∷ [] }))
    ∷ run (Ghost (stmts_of (set 1 (num 4) ∷ [])) ∷ []) (Gives (with_y 4))
    ∷ []

runs_come : map (λ (r : Run). ran (stmts_of r.text)) runs ≡ map (λ (r : Run). r.comes) runs
runs_come = refl
