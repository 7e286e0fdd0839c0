-- That what is well typed gives values of its type.
use Rattle.std.specs.Prelude.{◌≡◌, ℕ, Bool, true, false, List, map, Some}
use Rattle.std.specs.List.{AllByRecursion}
use Rattle.df_base.specs.declared.pos.Pos.{Pos}
use Rattle.df_types.specs.declared.kind.Kind.{Kind}
use Rattle.df_types.specs.Ty.{Ty, AnyObject, Tys, instance_of, instances_of}
use Rattle.df_types.specs.Op.{Op}
use Rattle.df_types.specs.Expr.{Expr}
use Rattle.df_types.specs.Stmt.{CallOf, Stmt}
use Rattle.df_types.specs.Program.{Head, Function, Method, Program, function_at, method_at, types_of, result_type}
use Rattle.df_types.specs.Rows.{operands, result, allowed}
use Rattle.df_types.specs.ExprTyping.{Scope, is_expr}
use Rattle.df_types.specs.StmtTyping.{type_of_local, Setting, is_stmt}
use Rattle.df_types.specs.Typing.{is_program}
use Rattle.df_meaning2.specs.Value.{Value, values_of}
use Rattle.df_meaning2.specs.Outcome.{Outcome, Gives, Each}
use Rattle.df_meaning2.specs.Types.{is_of, have_types}
use Rattle.df_meaning2.specs.Answer.{Answer, EachAnswer, View, answer}
use Rattle.df_meaning2.specs.State.{State}
use Rattle.df_meaning2.specs.Meaning.{Meaning, evaluate}
use Rattle.df_meaning2.specs.Execution.{Flow, state_of, Given, Assigned, Loop, Actions, execute}
use Rattle.df_meaning2.specs.Whole.{whole, doing}
use Rattle.df_meaning2.specs.Modular.{Oracle, Running, modular}

-- over what the type parameters stand for
pub record IsOf (p : Program) (types : Tys) (t : Ty) (v : Value) : Type 0 where
  pub by : is_of p types t v ≡ true

pub record AreOf (p : Program) (types : Tys) (ts : List Ty) (vs : List Value) : Type 0 where
  pub by : have_types p (map (instance_of types) ts) (values_of vs) ≡ true

abbrev pub AnswerIsOf : View → Ty → Answer → Type 0
AnswerIsOf view t a = EachAnswer (IsOf view.program view.types t) a

-- The answer of each operation to values of the types of its operands has the type of its result.
abbrev pub RowsAreTyped : Type 0
RowsAreTyped = (view : View) (op : Op) (vs : List Value) → allowed view.program op ≡ true → AreOf view.program view.types (operands view.program op) vs
    → AnswerIsOf view (result op) (answer view op vs)

-- a local that has a value has one of its type, and so have the binders
pub record Agrees (p : Program) (g : Scope) (s : State) : Type 0 where
  pub locals : (n : ℕ) (t : Ty) (v : Value) → g.locals n ≡ Some t → s.locals n ≡ Some v → IsOf p s.types t v
  pub bound : AreOf p s.types g.bound s.bound

-- functions give values of their types on arguments of the types of their parameters
abbrev pub CallsAreTyped : Meaning → Type 0
CallsAreTyped m = (at : Pos) (callee : ℕ) (f : Function) (types : Tys) (vs : List Value) (s : State)
    → function_at m.program callee ≡ Some f → AreOf m.program types (types_of f.head.parameters) vs
    → Each (IsOf m.program types (result_type f.head.results)) (m.apply at callee types vs s)

-- The value of a well-typed expression is of its type.
abbrev pub ExpressionsAreTyped : Type 0
ExpressionsAreTyped = (m : Meaning) → CallsAreTyped m → (g : Scope) (s : State) → Agrees m.program g s
    → (t : Ty) (e : Expr) → is_expr m.program g t e ≡ true → Each (IsOf m.program s.types t) (evaluate m s e)

-- ---- statements

-- each local of the declaration that has a value has one of its type, and so have the binders
pub record IsTyped (p : Program) (types : Tys) (head : Head) (bound : List Ty) (s : State) : Type 0 where
  pub types_are : s.types ≡ types
  pub locals : (n : ℕ) (t : Ty) (v : Value) → type_of_local head n ≡ Some t → s.locals n ≡ Some v → IsOf p types t v
  pub bound_are : AreOf p types bound s.bound

pub record FlowIsTyped (p : Program) (types : Tys) (head : Head) (bound : List Ty) (flow : Flow) : Type 0 where
  pub state : IsTyped p types head bound (state_of flow)

-- what is there is a local of the declaration, with its type
pub record IsWithin (head : Head) (g : Scope) : Type 0 where
  pub locals : (n : ℕ) (t : Ty) → g.locals n ≡ Some t → type_of_local head n ≡ Some t

-- a state that differs in what calls share, and in what may be read or changed
pub record KeepsLocals (s t : State) : Type 0 where
  pub types : t.types ≡ s.types
  pub locals : t.locals ≡ s.locals
  pub bound : t.bound ≡ s.bound

pub record AreGiven (p : Program) (types : Tys) (ts : List Ty) (s : State) (given : Given) : Type 0 where
  pub values : AreOf p types ts given.values
  pub state : KeepsLocals s given.state

pub record IsPicked (fits : List Value → Outcome Bool) (s : State) (given : Given) : Type 0 where
  pub fitting : fits given.values ≡ Gives true
  pub state : KeepsLocals s given.state

pub record IsLocalOf (head : Head) (x : Assigned) : Type 0 where
  pub typed : type_of_local head x.local ≡ Some x.ty

-- the parts of a loop keep types
pub record LoopIsTyped (p : Program) (types : Tys) (head : Head) (bound : List Ty) (l : Loop) : Type 0 where
  pub assigned : AllByRecursion (IsLocalOf head) l.assigned
  pub check : (kind : Kind) (s : State) → IsTyped p types head bound s → Each (IsTyped p types head bound) (l.check kind s)
  pub assume : (s : State) → IsTyped p types head bound s → Each (IsTyped p types head bound) (l.assume s)
  pub body : (s : State) → IsTyped p types head bound s → Each (FlowIsTyped p types head bound) (l.body s)

-- what runs do in their own way keeps types
pub record ActsTyped (m : Actions) : Type 0 where
  pub functions : CallsAreTyped m.meaning
  pub call : (call : CallOf) (method : Method) (vs : List Value) (s : State) → method_at m.meaning.program call.callee ≡ Some method
      → AreOf m.meaning.program (instances_of s.types call.types) (types_of method.head.parameters) vs
      → Each (AreGiven m.meaning.program (instances_of s.types call.types) (types_of method.head.results) s) (m.call call vs s)
  pub loop : (types : Tys) (g : Setting) (text : Stmt) (l : Loop) (s : State) → g.program ≡ m.meaning.program → IsWithin g.head g.scope → is_stmt g text ≡ true
      → LoopIsTyped m.meaning.program types g.head g.scope.bound l → IsTyped m.meaning.program types g.head g.scope.bound s
      → Each (FlowIsTyped m.meaning.program types g.head g.scope.bound) (m.loop text l s)
  pub pick : (site count : ℕ) (fits : List Value → Outcome Bool) (s : State) → Each (IsPicked fits s) (m.pick site count fits s)
  pub new : (site : ℕ) (s : State) → Each (IsOf m.meaning.program s.types (AnyObject false)) (m.new site s)
  pub prove : (site : ℕ) (ranges : List (State → Outcome (List Value))) (go known : State → Outcome State)
      → ((t : State) → Each (KeepsLocals t) (go t)) → ((t : State) → Each (KeepsLocals t) (known t)) → (s : State) → Each (KeepsLocals s) (m.prove site ranges go known s)

-- A well-typed statement leaves in each local that has a value one of its type, however it ends.
abbrev pub StatementsAreTyped : Type 0
StatementsAreTyped = (m : Actions) → ActsTyped m → (types : Tys) (g : Setting) (s : State) (stmt : Stmt) → g.program ≡ m.meaning.program → IsWithin g.head g.scope
    → IsTyped m.meaning.program types g.head g.scope.bound s → is_stmt g stmt ≡ true → Each (FlowIsTyped m.meaning.program types g.head g.scope.bound) (execute m s stmt)

-- So it is with whole runs of a well-typed program: functions give values of their types, methods results of theirs.
abbrev pub WholesAreTyped : Type 0
WholesAreTyped = (p : Program) → is_program p ≡ true → (depth : ℕ) → ActsTyped (doing p depth)

-- And with modular runs, whatever is handed in.
abbrev pub ModularRunsAreTyped : Type 0
ModularRunsAreTyped = (p : Program) → is_program p ≡ true → (depth : ℕ) (o : Oracle) (run : Running) → ActsTyped (modular (whole p depth) o run)
