-- What is correct, over whole runs alone; and what is safe, over modular runs alone.
use Rattle.std.specs.Prelude.{◌≡◌, ◌≢◌, ℕ, true, List, [], ◌∷◌, map, slice_get, Some}
use Rattle.df_base.specs.declared.pos.Pos.{Pos}
use Rattle.df_types.specs.declared.kind.Kind.{Kind}
use Rattle.df_types.specs.Ty.{Tys, instance_of}
use Rattle.df_types.specs.Program.{TypeParameter, Head, Function, Method, Decl, NewtypeDecl, DatatypeDecl, ClassDecl, FunctionDecl, MethodDecl, Program, function_at, method_at, types_of}
use Rattle.df_types.specs.Types.{are_arguments, are_types}
use Rattle.df_types.specs.Calls.{AreGroups}
use Rattle.df_types.specs.Measures.{frame_objects}
use Rattle.df_meaning2.specs.Value.{Value, values_of, items_of, is_among, no_object}
use Rattle.df_meaning2.specs.Heap.{Heap, keeps}
use Rattle.df_meaning2.specs.Outcome.{Outcome, Gives, Wrong, TooDeep, Dismissed}
use Rattle.df_meaning2.specs.Types.{have_types}
use Rattle.df_meaning2.specs.State.{State, with_choices, entering}
use Rattle.df_meaning2.specs.Meaning.{evaluate, assume_all}
use Rattle.df_meaning2.specs.Execution.{Given, conditions}
use Rattle.df_meaning2.specs.Whole.{whole, doing, run_method}
use Rattle.df_meaning2.specs.Modular.{Oracle, blank, leaving, run}

-- ---- arguments

-- closed types for the type parameters of a declaration, with equality where one is marked, and arguments of their types
pub record AreArguments (p : Program) (head : Head) (types : Tys) (arguments : List Value) : Type 0 where
  pub marked : are_arguments p [] head.type_parameters types ≡ true
  pub closed : are_types p [] types ≡ true
  pub typed : have_types p (map (instance_of types) (types_of head.parameters)) (values_of arguments) ≡ true

-- where a declaration begins on them
abbrev pub beginning : Head → Tys → List Value → Heap → State
beginning head types arguments heap = entering types head.parameters arguments (blank types heap)

-- at some depth what it requires is true
pub record IsMet (p : Program) (head : Head) (types : Tys) (arguments : List Value) (heap : Heap) : Type 0 where
  pub depth : ℕ
  pub met : assume_all (whole p depth) (beginning head types arguments heap) (conditions head.preconditions) ≡ Gives (beginning head types arguments heap)

-- ---- functions

-- at some depth the function has a value, of which what it ensures is true; and at no depth is it undefined
pub record HasValue (p : Program) (number : ℕ) (f : Function) (types : Tys) (arguments : List Value) (heap : Heap) : Type 0 where
  pub depth : ℕ
  pub value : Value
  pub gives : (at : Pos) → (whole p depth).apply at number types arguments (blank types heap) ≡ Gives value
  pub ensured : assume_all (whole p depth) (leaving f.head.results (value ∷ []) (beginning f.head types arguments heap)) (conditions f.head.postconditions)
      ≡ Gives (leaving f.head.results (value ∷ []) (beginning f.head types arguments heap))
  pub never_wrong : (deep : ℕ) (at place : Pos) (kind : Kind) → (whole p deep).apply at number types arguments (blank types heap) ≢ Wrong place kind

abbrev pub IsCorrectFunction : Program → ℕ → Function → Type 0
IsCorrectFunction p number f = (types : Tys) (arguments : List Value) (heap : Heap) → AreArguments p f.head types arguments → IsMet p f.head types arguments heap → HasValue p number f types arguments heap

-- ---- methods, lemmas and constructors

-- where a run of the method is called from: all may be changed there
abbrev pub outside : Tys → Heap → State
outside types heap = record (blank types heap) { entry = no_object }

-- a run of the method, with the choices that it takes
abbrev pub run_at : Program → ℕ → Method → Tys → List Value → Heap → List (List Value) → Outcome Given
run_at p depth m types arguments heap choices = run_method (doing p depth) m.head.declared.pos types arguments (with_choices (outside types heap) choices) m

-- it comes to an end at some depth
pub record Ends (p : Program) (m : Method) (types : Tys) (arguments : List Value) (heap : Heap) (choices : List (List Value)) : Type 0 where
  pub depth : ℕ
  pub given : Given
  pub ends : run_at p depth m types arguments heap choices ≡ Gives given

-- some depth gives another answer than too deep
pub record IsDecided (p : Program) (m : Method) (types : Tys) (arguments : List Value) (heap : Heap) (choices : List (List Value)) : Type 0 where
  pub depth : ℕ
  pub decided : run_at p depth m types arguments heap choices ≢ TooDeep

-- Whatever the choices, no run is wrong, none is dismissed, and some depth decides it; for some choices it comes to an end; and each end
-- leaves the objects of the heap at entry, but for those that it may change.
pub record IsRight (p : Program) (m : Method) (types : Tys) (arguments : List Value) (heap : Heap) : Type 0 where
  pub never_wrong : (choices : List (List Value)) (depth : ℕ) (at : Pos) (kind : Kind) → run_at p depth m types arguments heap choices ≢ Wrong at kind
  pub never_dismissed : (choices : List (List Value)) (depth : ℕ) → run_at p depth m types arguments heap choices ≢ Dismissed
  pub decided : (choices : List (List Value)) → IsDecided p m types arguments heap choices
  pub choices : List (List Value)
  pub ends : Ends p m types arguments heap choices
  pub keeps_others : (picks : List (List Value)) (end : Ends p m types arguments heap picks) (depth : ℕ) (frame : Value)
      → evaluate (whole p depth) (beginning m.head types arguments heap) (frame_objects m.head) ≡ Gives frame → keeps (λ v. is_among v (items_of frame)) heap end.given.state.store.heap ≡ true

abbrev pub IsCorrectMethod : Program → Method → Type 0
IsCorrectMethod p m = (types : Tys) (arguments : List Value) (heap : Heap) → AreArguments p m.head types arguments → IsMet p m.head types arguments heap → IsRight p m types arguments heap

-- every function and every method is correct
pub record IsCorrect (p : Program) : Type 0 where
  pub functions : (number : ℕ) (f : Function) → function_at p number ≡ Some f → IsCorrectFunction p number f
  pub methods : (number : ℕ) (m : Method) → method_at p number ≡ Some m → IsCorrectMethod p m

-- ---- safety

abbrev pub type_parameters_of : Decl → List TypeParameter
type_parameters_of (NewtypeDecl x) = []
type_parameters_of (DatatypeDecl x) = []
type_parameters_of (ClassDecl x) = []
type_parameters_of (FunctionDecl f) = f.head.type_parameters
type_parameters_of (MethodDecl m) = m.head.type_parameters

-- a declaration has a modular run that is wrong at a position by an obligation of a kind
pub record IsModularlyWrong (p : Program) (groups : List ℕ) (number : ℕ) (decl : Decl) (at : Pos) (kind : Kind) : Type 0 where
  pub depth : ℕ
  pub oracle : Oracle
  pub types : Tys
  pub marked : are_arguments p [] (type_parameters_of decl) types ≡ true
  pub closed : are_types p [] types ≡ true
  pub wrong : run (whole p depth) oracle groups number types decl ≡ Wrong at kind

abbrev pub IsModularlySafe : Program → List ℕ → ℕ → Decl → Type 0
IsModularlySafe p groups number decl = (at : Pos) (kind : Kind) → IsModularlyWrong p groups number decl at kind → ⊥

-- No modular run of any declaration is wrong, over the program's own groups: over others a call inside a group would owe no decrease.
pub record IsSafe (p : Program) : Type 0 where
  pub groups : List ℕ
  pub are_groups : AreGroups p groups
  pub declarations : (number : ℕ) (decl : Decl) → slice_get p.decls number ≡ Some decl → IsModularlySafe p groups number decl
