-- What is to hold of names and typing.
use Rattle.std.specs.Prelude.{is_some, slice_get, None, Contains, nat_le, ◌∷◌, [], ◌≡◌, ◌<◌, ℕ, true, List, length, Option, Some, ◌⊎◌}
use Rattle.std.specs.List.{AllByRecursion}
use Rattle.df_base.specs.declared.refusal.Refusal.{Refusal}
use Rattle.df_lang.specs.declared.ty.Ty.{Ty}
use Rattle.df_lang.specs.Expr as typed
use Rattle.df_lang.specs.Program as program
use Rattle.df_lang.specs.Assignment.{IsDefinitelyAssigned}
use Rattle.df_lang.specs.Typing.{is_type, is_expr, is_well_typed}
use Rattle.df_ntree.specs.Expr.{Expr}
use Rattle.df_ntree.specs.ExprSpelling.{spell, IsExpr}
use Rattle.df_ntree.specs.declared.tree.Ident.{Ident}
use Rattle.df_ntree.specs.declared.file.Parameter.{Parameter}
use Rattle.df_ntree.specs.File.{Declaration, Newtype, Method, File}
use Rattle.df_ntree.specs.FileSpelling.{spell_file, IsFile}
use Rattle.df_ntyping.specs.Literals.{AreInRange}
use Rattle.df_ntyping.specs.Table.{newtype_of, results_of}
use Rattle.df_ntyping.specs.Environment.{Local, Environment, local_type}
use Rattle.df_ntyping.specs.LocalTypes.{names_in}
use Rattle.df_ntyping.specs.Meaning.{TheLocal, Means}
use Rattle.df_ntyping.specs.ExprTypes.{type_in}
use Rattle.df_ntyping.specs.ExprNodes.{expr_nodes}
use Rattle.df_ntyping.specs.Wanted.{Wanted, IsWanted, wanted_nodes}
use Rattle.df_ntyping.specs.ExprElaboration.{Elaborates}
use Rattle.df_ntyping.specs.FileNodes.{file_nodes}
use Rattle.df_ntyping.specs.FileElaboration.{ElaboratesFile}
use Rattle.df_ntyping.specs.Least.{Fault, IsFault, IsLeastBroken, IsTold, by_number}
use Rattle.df_ntyping.specs.Node.{Occurrence}
use Rattle.df_ntyping.specs.Stages.{IsRefusedFile}
use Rattle.df_ntyping.specs.Unassigned.{IsToldMissing}

-- each name that is declared as one of the program's has a text
abbrev pub HasText : List (List ℕ) → Ident → Type 0
HasText names ident = ident.name < length names

abbrev pub HaveTexts : List (List ℕ) → List Parameter → Type 0
HaveTexts names parameters = AllByRecursion (λ (parameter : Parameter). HasText names parameter.name) parameters

abbrev pub IsDeclaredByText : List (List ℕ) → Declaration → Type 0
IsDeclaredByText names (Newtype x) = HasText names x.name
IsDeclaredByText names (Method x) = HasText names x.name × HaveTexts names x.parameters × HaveTexts names (results_of x)

abbrev pub AreTexts : List (List ℕ) → File → Type 0
AreTexts names file = AllByRecursion (IsDeclaredByText names) file.declarations

-- no rule is broken
abbrev pub BreaksNothing : File → Type 0
BreaksNothing file = (fault : Fault) → IsFault (file_nodes file) fault → ⊥

-- each node comes before those behind it in the order of faults, or stands at one place with them
abbrev pub AreInOrder : List Occurrence → Type 0
AreInOrder [] = Unit {0}
AreInOrder (one ∷ others) = AllByRecursion (λ (other : Occurrence). by_number one.after other.after (nat_le other.start one.start) ≡ true) others × AreInOrder others

-- so the least is broken at the first place where a rule is, and it is the lowest that is broken there
abbrev pub NodesAreInOrder : Type 0
NodesAreInOrder = (file : File) → IsFile file → AreInOrder (file_nodes file)

-- where a rule is broken, a least one is
abbrev pub LeastExists : Type 0
LeastExists = (nodes : List Occurrence) (fault : Fault) → IsFault nodes fault → (told : Fault) × IsLeastBroken nodes told

abbrev pub OneTyping : Type 0
OneTyping = (env : Environment) (expected : Option Ty) (e : Expr) (ty other : Ty) (t u : typed.Expr)
    → Elaborates env expected e ty t → Elaborates env expected e other u → (ty ≡ other) × (t ≡ u)

-- the type of what elaborates is that which rules look at
abbrev pub OneType : Type 0
OneType = (env : Environment) (expected : Option Ty) (e : Expr) (ty : Ty) (t : typed.Expr) → IsExpr e → Elaborates env expected e ty t → type_in env expected e ≡ Some ty

-- each local in it has a type
abbrev pub HasTypes : Environment → Expr → Type 0
HasTypes env e = (name : ℕ) (local : Local) → Contains (names_in e) name → Means env name (TheLocal local) → (ty : Ty) × (local_type env local.number ≡ Some ty)

-- an expression that breaks nothing, and whose locals have types, elaborates
abbrev pub FaultlessIsTyped : Type 0
FaultlessIsTyped = (env : Environment) (expected : Option Ty) (e : Expr) → IsExpr e → HasTypes env e → ((fault : Fault) → IsFault (expr_nodes env 0 e) fault → ⊥)
    → (ty : Ty) × (t : typed.Expr) × Elaborates env expected e ty t

-- what elaborates breaks nothing
abbrev pub TypedIsFaultless : Type 0
TypedIsFaultless = (env : Environment) (expected : Option Ty) (e : Expr) (ty : Ty) (t : typed.Expr) → IsExpr e → Elaborates env expected e ty t
    → (fault : Fault) → IsFault (expr_nodes env 0 e) fault → ⊥

-- Nothing may be asked of the whole, or that it is a truth, or that it goes to a place. An expression that breaks nothing,
-- of which nothing that is asked is broken, and whose locals have types, elaborates to what is asked.
abbrev pub FaultlessIsWanted : Type 0
FaultlessIsWanted = (env : Environment) (wanted : Wanted) (e : Expr) → IsExpr e → HasTypes env e → ((fault : Fault) → IsFault (wanted_nodes env 0 wanted e) fault → ⊥)
    → (ty : Ty) × (t : typed.Expr) × IsWanted env wanted e ty t

-- what elaborates to what is asked breaks nothing, nor is anything broken that is asked
abbrev pub WantedIsFaultless : Type 0
WantedIsFaultless = (env : Environment) (wanted : Wanted) (e : Expr) (ty : Ty) (t : typed.Expr) → IsExpr e → IsWanted env wanted e ty t
    → (fault : Fault) → IsFault (wanted_nodes env 0 wanted e) fault → ⊥

-- ---- where the types of the table are the program's, and locals have their types by their numbers

abbrev pub NewtypesHold : program.Program → Environment → Type 0
NewtypesHold one env = (name id : ℕ) → newtype_of env.table.newtypes name ≡ Some id → is_some (program.newtype_at one id) ≡ true

abbrev pub LocalsHold : program.Program → Environment → List Ty → Type 0
LocalsHold one env locals =
    (name : ℕ) (local : Local) (ty : Ty) → Means env name (TheLocal local) → local_type env local.number ≡ Some ty
    → (slice_get locals local.number ≡ Some ty) × (is_type one ty ≡ true)

abbrev pub IsExpected : program.Program → Option Ty → Type 0
IsExpected one None = Unit {0}
IsExpected one (Some ty) = is_type one ty ≡ true

-- what elaborates is well typed
abbrev pub TypedIsWellTyped : Type 0
TypedIsWellTyped = (one : program.Program) (env : Environment) (locals : List Ty) (expected : Option Ty) (e : Expr) (ty : Ty) (t : typed.Expr)
    → NewtypesHold one env → LocalsHold one env locals → IsExpected one expected → AreInRange (spell e) → Elaborates env expected e ty t → is_expr one locals ty t ≡ true

abbrev pub OneProgram : Type 0
OneProgram = (names : List (List ℕ)) (file : File) (one other : program.Program) → ElaboratesFile names file one → ElaboratesFile names file other → one ≡ other

abbrev pub ElaboratedIsFaultless : Type 0
ElaboratedIsFaultless = (names : List (List ℕ)) (file : File) (one : program.Program) → ElaboratesFile names file one → BreaksNothing file

-- where the names of its declarations, parameters and results have texts, a file that breaks nothing elaborates
abbrev pub FaultlessIsElaborated : Type 0
FaultlessIsElaborated = (names : List (List ℕ)) (file : File) → IsFile file → AreTexts names file → BreaksNothing file → (one : program.Program) × ElaboratesFile names file one

abbrev pub ElaboratedIsWellTyped : Type 0
ElaboratedIsWellTyped = (names : List (List ℕ)) (file : File) (one : program.Program) → AreInRange (spell_file file) → ElaboratesFile names file one → is_well_typed one ≡ true

-- a file that breaks something has a least rule that it breaks, which a refusal can tell
abbrev pub FaultIsTold : Type 0
FaultIsTold = (file : File) (fault : Fault) → IsFile file → IsFault (file_nodes file) fault → (refusal : Refusal) × IsTold (file_nodes file) refusal

-- a file has at most one refusal
abbrev pub OneRefusal : Type 0
OneRefusal = (names : List (List ℕ)) (file : File) (one other : Refusal) → IsFile file → IsRefusedFile names file one → IsRefusedFile names file other → one ≡ other

-- at most one use without a value is told of a program
abbrev pub OneMissingTold : Type 0
OneMissingTold = (one : program.Program) (first second : Refusal) → IsToldMissing one first → IsToldMissing one second → first ≡ second

-- a program is definitely assigned, or a first use is told
abbrev pub AssignedOrTold : Type 0
AssignedOrTold = (one : program.Program) → IsDefinitelyAssigned one ⊎ ((refusal : Refusal) × IsToldMissing one refusal)
