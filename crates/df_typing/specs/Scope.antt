-- Names in scope, what they mean, and what a construct sees at a node.
use Rattle.std.specs.Prelude.{ℕ, zero, suc, ◌+◌, ◌-◌, ◌==◌, nat_le, Bool, true, false, not, ◌&&◌, ◌||◌, if◌then◌else◌, length, List, [], ◌∷◌, ◌++◌, drop, take, Option, Some, None, slice_get}
use Rattle.std.specs.List.{list_any}
use Rattle.df_typing.specs.declared.form.Role.TheVariants as roles
use Rattle.df_typing.specs.declared.form.Within.TheVariants as withins
use Rattle.df_typing.specs.declared.form.Naming.TheVariants as namings
use Rattle.df_typing.specs.declared.form.Uses.TheVariants as uses
use Rattle.df_typing.specs.declared.form.Owner.TheVariants as owners
use Rattle.df_typing.specs.declared.scope.Use.TheVariants as used
use Rattle.df_typing.specs.Tree.{Asts, Mark, Span, Named, name_in, marks, before_sign}
use Rattle.df_typing.specs.Types.{Ty}
use Rattle.df_typing.specs.Form.{Form, Role, Within, Naming, Uses}
use Rattle.df_typing.specs.Table.{Entry, Global, TheNewtype, TheCallable, entry_of}
use Rattle.df_typing.specs.Newtypes.{Bounds, bounds_of}
pub use Rattle.df_typing.specs.declared.scope.Use.{Use}
pub use Rattle.df_typing.specs.declared.scope.Known.{Known}
pub use Rattle.df_typing.specs.declared.scope.Around.{Around}

-- What fixes the type of a name. Without a type and a value it takes that of its first assignment, unless it is used before.
pub data Inferred : Type 0 where
  Open : Inferred
  Used : Inferred
  Fixed : Option Ty → Inferred

pub record Env : Type 0 where
  -- the names in scope, innermost last, and how many of them stand in the scopes around the innermost
  pub names : List Known
  pub outer : ℕ
  -- of all that was declared in the declaration
  pub types : List Inferred
  -- how many locals were declared, and how many bound variables are around
  pub locals : ℕ
  pub depth : ℕ

abbrev pub nothing_known : Env
nothing_known = record { names = []; outer = 0; types = []; locals = 0; depth = 0 }

-- ---- meanings

abbrev pub is_result : Role → Bool
is_result roles.Result = true
is_result roles.Parameter = false
is_result roles.Variable = false
is_result roles.Bound = false

abbrev pub is_bound : Role → Bool
is_bound roles.Bound = true
is_bound roles.Parameter = false
is_bound roles.Variable = false
is_bound roles.Result = false

-- it is known at a token
abbrev pub is_seen : Around → ℕ → Known → Bool
is_seen around place known = nat_le around.above known.index && nat_le known.from place && (around.sees_results || not (is_result known.role))

-- the innermost of the name that is known there
abbrev pub latest : Around → ℕ → ℕ → List Known → Option Known
latest around place name [] = None
latest around place name (known ∷ rest) = or_this (latest around place name rest) where
  or_this : Option Known → Option Known
  or_this (Some later) = Some later
  or_this None = if known.name == name && is_seen around place known then Some known else None

-- what is known of the type of the name of this index
abbrev pub type_at : List Inferred → ℕ → Option Ty
type_at types index = of (slice_get types index) where
  of : Option Inferred → Option Ty
  of (Some (Fixed ty)) = ty
  of inferred = None

pub data Meaning : Type 0 where
  Unknown : Meaning
  TheKnown : Known → (ty : Option Ty) → Meaning
  TheGlobal : Entry → Meaning

-- in an expression a newtype has no meaning, and as a type nothing else has
abbrev pub callable_meaning : Option Entry → Meaning
callable_meaning None = Unknown
callable_meaning (Some entry) = by entry.is where
  by : Global → Meaning
  by TheNewtype = Unknown
  by (TheCallable signature) = TheGlobal entry

abbrev pub type_meaning : Option Entry → Meaning
type_meaning None = Unknown
type_meaning (Some entry) = by entry.is where
  by : Global → Meaning
  by TheNewtype = TheGlobal entry
  by (TheCallable signature) = Unknown

abbrev pub meaning_of : List Entry → Around → Env → Named → Meaning
meaning_of table around env named = by (latest around named.place named.name env.names) where
  by : Option Known → Meaning
  by (Some known) = TheKnown known (type_at env.types known.index)
  by None = callable_meaning (entry_of table named.name)

-- of a type locals are not looked at
abbrev pub means : Naming → List Entry → Around → Env → Option Named → Meaning
means namings.Value table around env (Some named) = meaning_of table around env named
means namings.Type table around env (Some named) = type_meaning (entry_of table named.name)
means naming table around env named = Unknown

-- ---- what stands around the parts of a node

abbrev pub around_in : Within → Around → Around
around_in withins.Same around = around
around_in withins.Names around = record around { is_names = true; role = roles.Bound }
around_in withins.Alone around = around
around_in (withins.Declaring role) around = record around { role = role; from = 0 }
around_in withins.Body around = record around { role = roles.Variable; from = 0; sees_results = true }
around_in withins.Promise around = record around { sees_results = true }
around_in withins.Loop around = record around { owner = owners.Loop; is_loop = true }
around_in withins.Proof around = record around { is_loop = false }

-- ---- what is seen at a node before its parts

pub record Facts : Type 0 where
  pub marks : List Mark
  pub around : Around
  pub used : Use
  pub meaning : Meaning
  -- its name is declared before in its scope
  pub is_twice : Bool
  -- the index and the numbers that the next name gets
  pub index : ℕ
  pub local : ℕ
  pub depth : ℕ
  -- how many parts stand before its `:=`
  pub before : ℕ
  -- of a newtype of its form
  pub bounds : Option Bounds

abbrev pub is_among : List Known → ℕ → Bool
is_among names name = list_any (λ (known : Known). known.name == name) names

abbrev pub is_twice_in : Env → Option Named → Bool
is_twice_in env None = false
is_twice_in env (Some named) = is_among (drop env.outer env.names) named.name

-- a `return` has right sides alone
abbrev pub sides_before : Uses → Asts → ℕ
sides_before uses.Returned inside = 0
sides_before uses.Values inside = before_sign inside
sides_before uses.Initial inside = before_sign inside
sides_before uses.Assigned inside = before_sign inside
sides_before uses.Whole inside = before_sign inside

abbrev pub facts_of : List Entry → Form → Around → Use → Env → Asts → Facts
facts_of table form around usage env inside = record {
  marks = marks inside;
  around = record around { role = (around_in form.within around).role };
  used = usage;
  meaning = means form.naming table around env (name_in (marks inside));
  is_twice = is_twice_in env (name_in (marks inside));
  index = length env.types;
  local = env.locals;
  depth = env.depth;
  before = sides_before form.uses inside;
  bounds = bounds_of form.declares inside;
}

-- what is declared inside is known only behind it
abbrev pub hidden : Bool → Span → Around → Around
hidden true span around = record around { from = span.after }
hidden false span around = around

-- nothing that is declared so far is seen inside
abbrev pub alone : Within → Env → Around → Around
alone withins.Alone env around = record around { above = length env.types }
alone withins.Same env around = around
alone withins.Names env around = around
alone (withins.Declaring role) env around = around
alone withins.Body env around = around
alone withins.Promise env around = around
alone withins.Loop env around = around
alone withins.Proof env around = around

abbrev pub around_parts : Form → Span → Env → Around → Around
around_parts form span env around = alone form.within env (hidden form.hides span (around_in form.within around))

abbrev pub repeated : ℕ → Use → List Use → List Use
repeated zero usage rest = rest
repeated (suc n) usage rest = usage ∷ repeated n usage rest

-- what is bound takes values alone, and no right sides
abbrev pub initial_use : Role → Use
initial_use roles.Bound = used.Value
initial_use roles.Variable = used.Source
initial_use roles.Parameter = used.Source
initial_use roles.Result = used.Source

-- how the parts are used: so many before the `:=`, of all
abbrev pub uses_of : Uses → Role → (before all : ℕ) → List Use
uses_of uses.Values role before all = []
uses_of uses.Initial role before all = repeated before used.Value (repeated (all - before) (initial_use role) [])
uses_of uses.Assigned role before all = repeated before used.Target (repeated (all - before) used.Source [])
uses_of uses.Returned role before all = repeated all used.Source []
uses_of uses.Whole role before all = used.Statement ∷ []

abbrev pub first_use : List Use → Use
first_use [] = used.Value
first_use (usage ∷ rest) = usage

abbrev pub other_uses : List Use → List Use
other_uses [] = []
other_uses (usage ∷ rest) = rest

-- a scope begins
abbrev pub entered : Bool → Env → Env
entered true env = record env { outer = length env.names }
entered false env = env

-- ---- behind a node

-- where nothing fixes a type yet this does
abbrev pub if_open : Inferred → Inferred → Inferred
if_open Open fixing = fixing
if_open Used fixing = Used
if_open (Fixed ty) fixing = Fixed ty

abbrev pub fixed_at : ℕ → Inferred → List Inferred → List Inferred
fixed_at index fixing [] = []
fixed_at zero fixing (inferred ∷ rest) = if_open inferred fixing ∷ rest
fixed_at (suc index) fixing (inferred ∷ rest) = inferred ∷ fixed_at index fixing rest

abbrev pub fix : Env → ℕ → Inferred → Env
fix env index fixing = record env { types = fixed_at index fixing env.types }

-- what is assigned is not used
abbrev pub is_use : Use → Bool
is_use used.Target = false
is_use used.Value = true
is_use used.Source = true
is_use used.Statement = true

abbrev pub with_use : Use → Meaning → Env → Env
with_use usage (TheKnown known ty) env = if is_use usage then fix env known.index Used else env
with_use usage Unknown env = env
with_use usage (TheGlobal entry) env = env

abbrev pub number_for : Role → Env → ℕ
number_for role env = if is_bound role then env.depth else env.locals

-- the name, if it has one, is known in its scope, unless it is another's there
abbrev pub with_name : Bool → Option Named → Around → Env → List Known
with_name is_twice None around env = env.names
with_name true (Some named) around env = env.names
with_name false (Some named) around env =
    env.names ++ record { name = named.name; role = around.role; index = length env.types; number = number_for around.role env; from = around.from } ∷ []

-- so many bound variables more are around
abbrev pub deepened : Bool → ℕ → Env → Env
deepened true n env = record env { depth = env.depth + n }
deepened false n env = env

-- a variable that is hidden inside a construct is around only behind that
abbrev pub is_around : Around → Bool
is_around around = is_bound around.role && (around.from == 0)

abbrev pub declare : Facts → Inferred → Env → Env
declare facts inferred env = record {
  names = with_name facts.is_twice (name_in facts.marks) facts.around env;
  outer = env.outer;
  types = env.types ++ inferred ∷ [];
  locals = if is_bound facts.around.role then env.locals else suc env.locals;
  depth = if is_around facts.around then suc env.depth else env.depth;
}

-- names that were declared inside are unknown behind it
abbrev pub behind_scope : Bool → Env → Env → Env
behind_scope true before env = record env { names = take (length before.names) env.names; outer = before.outer; depth = before.depth }
behind_scope false before env = env
