-- Which programs are well typed.
use Rattle.std.specs.Prelude.{◌≡◌, ℕ, suc, Bool, true, false, not, ◌&&◌, ◌||◌, ◌==◌, int_le, List, [], ◌∷◌, ◌++◌, map, length, is_some, slice_get, Option, None, Some}
use Rattle.std.specs.Option.{option_map_or}
use Rattle.std.specs.List.{list_all}
use Rattle.df_types.specs.Ty.{Ty, Newtype as NewtypeOf, Int, Nat, Boolean, Char, AnyObject, Class, Array, Seq, Set, Data, Parameter, same_type}
use Rattle.df_types.specs.Stmt.{Stmt, Declare, Assign, Choose, Branch, While, Break, Return, Check, Prove, Print, Publish, Ghost, Stmts}
use Rattle.df_types.specs.Program as programs
use Rattle.df_types.specs.Program.{Newtype, Variable, TypeParameter, Datatype, Constructor, Param, Head, Function, Method, Decl, NewtypeDecl, DatatypeDecl, ClassDecl, FunctionDecl, MethodDecl, Program, result_type}
use Rattle.df_types.specs.Types.{is_type}
use Rattle.df_types.specs.Regular.{is_regular}
use Rattle.df_types.specs.ExprTyping.{Scope, is_expr}
use Rattle.df_types.specs.StmtTyping.{type_of_local, scope_with, same_mark, is_parameter, are_demands, are_frame, may_be_typed, are_stmts}
use Rattle.df_types.specs.Gathering.{gather_stmts}
use Rattle.df_types.specs.Measures.{guard_measure}
use Rattle.df_types.specs.Sites.{are_distinct, have_sites}
use Rattle.df_types.specs.Ghosts.{watch_of, are_marked}

-- ---- parameters and results

abbrev pub numbers_of : List Param → List ℕ
numbers_of params = map (λ (x : Param). x.local) params

abbrev pub is_variable : Param → Variable → Bool
is_variable x y = same_type x.ty y.ty && same_mark x.is_ghost y.is_ghost

-- a local of this number, type and mark
abbrev pub is_param : Head → Param → Bool
is_param head x = option_map_or (is_variable x) (slice_get head.locals x.local) false

abbrev pub are_variables : Program → List TypeParameter → List Variable → Bool
are_variables p marks variables = list_all (λ (x : Variable). is_type p marks x.ty) variables

-- in a ghost declaration all that it takes and gives is ghost
abbrev pub are_ghosts : Head → Bool
are_ghosts head = not head.is_ghost || list_all (λ (x : Param). x.is_ghost) (head.parameters ++ head.results)

-- the one result has the number
abbrev pub is_only : ℕ → List Param → Bool
is_only n [] = false
is_only n (x ∷ xs) = (x.local == n) && (length xs == 0)

abbrev pub is_object : Ty → Bool
is_object (NewtypeOf d) = false
is_object Int = false
is_object Nat = false
is_object Boolean = false
is_object Char = false
is_object (AnyObject nullable) = false
is_object (Class nullable d) = not nullable
is_object (Array nullable t) = false
is_object (Seq t) = false
is_object (Set t) = false
is_object (Data d ts) = false
is_object (Parameter n) = false

-- `this` of a member is a parameter, that of a constructor its one result, each an object of a class
abbrev pub is_receiver : Head → Option ℕ → Bool
is_receiver head None = true
is_receiver head (Some n) = option_map_or is_object (type_of_local head n) false && (is_parameter head n || is_only n head.results)

-- what is required, the frame and the measure speak of parameters alone, what is ensured of results too
abbrev pub entry_scope : Head → Scope
entry_scope head = scope_with head (numbers_of head.parameters)

abbrev pub exit_scope : Head → Scope
exit_scope head = scope_with head (numbers_of (head.parameters ++ head.results))

-- parameters and results have numbers of their own
abbrev pub is_head : Program → Head → Bool
is_head p head =
    are_variables p head.type_parameters head.locals
    && (list_all (is_param head) (head.parameters ++ head.results)
    && (are_distinct (numbers_of (head.parameters ++ head.results))
    && (is_receiver head head.receiver
    && (are_ghosts head
    && (are_demands p (entry_scope head) head.preconditions
    && (are_frame p (entry_scope head) head.frame
    && (may_be_typed p (entry_scope head) head.decreases
    && are_demands p (exit_scope head) head.postconditions)))))))

abbrev pub is_newtype : Newtype → Bool
is_newtype x = int_le x.low x.default && int_le x.default x.high

abbrev pub is_datatype : Program → ℕ → Datatype → Bool
is_datatype p d x = list_all (λ (c : Constructor). are_variables p x.type_parameters c.parts) x.constructors && is_regular p d x

abbrev pub is_class : Program → programs.Class → Bool
is_class p x = are_variables p [] x.fields

abbrev pub is_result_of : Head → Param → Bool
is_result_of head x = same_mark x.is_ghost head.is_ghost

-- a function has one result, a ghost where it is one
abbrev pub is_function : Program → Function → Bool
is_function p f =
    is_head p f.head && ((length f.head.results == 1)
    && (list_all (is_result_of f.head) f.head.results && is_expr p (entry_scope f.head) (result_type f.head.results) f.value))

abbrev pub declared_by : Stmt → List ℕ
declared_by (Declare locals) = locals
declared_by (Assign update) = []
declared_by (Choose site at targets ranges condition) = []
declared_by (Branch branches otherwise) = []
declared_by (While site at guard invariants decreases body) = []
declared_by (Break at) = []
declared_by (Return at update) = []
declared_by (Check demand) = []
declared_by (Prove site at aim body) = []
declared_by (Print at operands) = []
declared_by (Publish site at class fields this) = []
declared_by (Ghost body) = []

-- each local is declared once
abbrev pub are_declared_once : Head → Stmts → Bool
are_declared_once head body = are_distinct (numbers_of (head.parameters ++ head.results) ++ gather_stmts (λ e. []) declared_by body)

-- a lemma changes nothing
abbrev pub has_lawful_frame : Head → Bool
has_lawful_frame head = not head.is_ghost || (length head.frame == 0)

-- the marks of ghost code stand just where it is
abbrev pub is_method : Program → Method → Bool
is_method p m =
    is_head p m.head && (has_lawful_frame m.head && (are_declared_once m.head m.body
    && (are_stmts (record { program = p; head = m.head; scope = exit_scope m.head; in_loop = false }) m.body
    && are_marked (watch_of p m.head) m.body)))

abbrev pub is_decl : Program → ℕ → Decl → Bool
is_decl p d (NewtypeDecl x) = is_newtype x
is_decl p d (DatatypeDecl x) = is_datatype p d x
is_decl p d (ClassDecl x) = is_class p x
is_decl p d (FunctionDecl f) = is_function p f && have_sites (FunctionDecl f)
is_decl p d (MethodDecl m) = is_method p m && have_sites (MethodDecl m)

-- from a number on
abbrev pub are_decls : Program → ℕ → List Decl → Bool
are_decls p d [] = true
are_decls p d (x ∷ xs) = is_decl p d x && are_decls p (suc d) xs

abbrev pub is_program : Program → Bool
is_program p = are_decls p 0 p.decls

-- ---- measures

abbrev pub measured_by : Stmt → List Bool
measured_by (Declare locals) = []
measured_by (Assign update) = []
measured_by (Choose site at targets ranges condition) = []
measured_by (Branch branches otherwise) = []
measured_by (While site at guard invariants decreases body) = (is_some decreases || is_some (guard_measure at guard)) ∷ []
measured_by (Break at) = []
measured_by (Return at update) = []
measured_by (Check demand) = []
measured_by (Prove site at aim body) = []
measured_by (Print at operands) = []
measured_by (Publish site at class fields this) = []
measured_by (Ghost body) = []

abbrev pub has_measures : Decl → Bool
has_measures (NewtypeDecl x) = true
has_measures (DatatypeDecl x) = true
has_measures (ClassDecl x) = true
has_measures (FunctionDecl f) = true
has_measures (MethodDecl m) = list_all (λ b. b) (gather_stmts (λ e. []) measured_by m.body)

-- Each loop has a clause, or a guard that has a measure by default. Programs without ghosts need none.
abbrev pub HasMeasures : Program → Type 0
HasMeasures p = list_all has_measures p.decls ≡ true
