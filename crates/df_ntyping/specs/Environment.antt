-- Where a node stands: what the file declares, which locals are in scope, what is known of their types, and what is
-- around it. How many locals a statement declares, and the environment behind it.
use Rattle.std.specs.Prelude.{ℕ, suc, ◌+◌, Bool, true, List, [], ◌∷◌, ◌++◌, map, slice_get, Option, Some, None, length}
use Rattle.df_lang.specs.declared.ty.Ty.{Ty}
use Rattle.df_ntree.specs.declared.file.Local as declared_local
use Rattle.df_ntree.specs.declared.file.Parameter.{Parameter}
use Rattle.df_ntyping.specs.Table.{Table}
use Rattle.df_ntree.specs.File.{Statement, Nested, Var, Assign, Expression, If, While, Return, Break, Assert, Print, Statements, done, next, Branches, end, more, Otherwise, without, otherwise}

-- what declares a local: parameters keep their values
pub data Role : Type 0 where
  Parameter_role : Role
  Result_role : Role
  Variable_role : Role

-- a local: its name, and its own number in its method
pub record Local : Type 0 where
  pub name : ℕ
  pub number : ℕ
  pub role : Role

-- What fixes the type of a local. Without a type and a value it takes that of its first assignment, unless it is used
-- before.
pub data Inferred : Type 0 where
  Open : Inferred
  Used : Inferred
  Fixed : Option Ty → Inferred

pub record Environment : Type 0 where
  pub table : Table
  -- the locals of the scopes around, and of the innermost one, each in the order of their declarations
  pub outer : List Local
  pub inner : List Local
  -- the number that the next local gets
  pub next : ℕ
  -- what fixes the types of the method's locals, by their numbers
  pub types : List Inferred
  -- the results of the method
  pub results : List Local
  pub in_loop : Bool

-- ---- scopes

-- all that are in scope
abbrev pub locals_of : Environment → List Local
locals_of env = env.outer ++ env.inner

abbrev pub names_of : List Local → List ℕ
names_of locals = map (λ (local : Local). local.name) locals

-- a scope begins
abbrev pub enter : Environment → Environment
enter env = record env { outer = env.outer ++ env.inner; inner = [] }

abbrev pub inside_loop : Environment → Environment
inside_loop env = record env { in_loop = true }

-- so many locals were declared in scopes that have ended
abbrev pub past : Environment → ℕ → Environment
past env count = record env { next = env.next + count }

-- what is known of the types of locals
abbrev pub with_types : Environment → List Inferred → Environment
with_types env types = record env { types = types }

-- one more local
abbrev pub declare : Environment → Role → ℕ → Environment
declare env role name = record env { inner = env.inner ++ record { name = name; number = env.next; role = role } ∷ []; next = suc env.next }

abbrev pub declare_parameters : Environment → Role → List Parameter → Environment
declare_parameters env role [] = env
declare_parameters env role (parameter ∷ others) = declare_parameters (declare env role parameter.name.name) role others

abbrev pub declare_variables : Environment → List declared_local.Local → Environment
declare_variables env [] = env
declare_variables env (local ∷ others) = declare_variables (declare env Variable_role local.name.name) others

-- ---- types of locals

-- nothing fixes a type yet, or a rule is broken there
abbrev pub fixed_type : Option Inferred → Option Ty
fixed_type (Some (Fixed ty)) = ty
fixed_type inferred = None

-- the type of the local of this number
abbrev pub local_type : Environment → ℕ → Option Ty
local_type env number = fixed_type (slice_get env.types number)

-- ---- the environment behind a statement

-- how many locals a statement declares, with those of the scopes inside it
abbrev mutual
  pub locals_in : Statement → ℕ
  locals_in (Nested pos body) = locals_in_all body
  locals_in (Var pos locals values) = length locals
  locals_in (Assign targets values) = 0
  locals_in (Expression value) = 0
  locals_in (If pos guard opens body others last) = locals_in_all body + locals_in_branches others + locals_in_otherwise last
  locals_in (While pos guard clauses opens body) = locals_in_all body
  locals_in (Return pos values) = 0
  locals_in (Break pos) = 0
  locals_in (Assert pos condition) = 0
  locals_in (Print pos operands) = 0

  pub locals_in_all : Statements → ℕ
  locals_in_all done = 0
  locals_in_all (next statement others) = locals_in statement + locals_in_all others

  pub locals_in_branches : Branches → ℕ
  locals_in_branches end = 0
  locals_in_branches (more pos guard opens body others) = locals_in_all body + locals_in_branches others

  pub locals_in_otherwise : Otherwise → ℕ
  locals_in_otherwise without = 0
  locals_in_otherwise (otherwise opens body) = locals_in_all body

-- what the statement declares itself is in scope behind it, and its inner scopes have ended
abbrev pub behind : Environment → Statement → Environment
behind env (Var pos locals values) = declare_variables env locals
behind env statement = past env (locals_in statement)
