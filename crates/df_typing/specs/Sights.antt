-- What is seen of trees, bottom up: of each part its own type, or that it takes the type that is expected where it stands. What is seen
-- is kept beside the tree.
use Rattle.std.specs.Prelude.{ℕ, zero, suc, Bool, true, false, not, ◌&&◌, if◌then◌else◌, List, [], ◌∷◌, ◌++◌, drop, take, Option, Some, None, slice_get, is_some}
use Rattle.std.specs.Option.{option_map, option_or}
use Rattle.std.specs.List.{list_all, list_any}
use Rattle.df_typing.specs.declared.form.Demand.TheVariants as demands
use Rattle.df_typing.specs.declared.form.Places.TheVariants as places
use Rattle.df_typing.specs.declared.form.Own.TheVariants as owns
use Rattle.df_typing.specs.declared.form.Naming.TheVariants as namings
use Rattle.df_typing.specs.Tree.{Asts, Kept, Made, Nil, Next, Label, Span, count}
use Rattle.df_typing.specs.Types.{Ty, Int, Boolean, Char, Seq, counted, arithmetic, arithmetic_all, common, first, others, literal_type}
use Rattle.df_typing.specs.Form.{Form, form_of, Demand, Own, Places, Naming}
use Rattle.df_typing.specs.Table.{Entry, Signature, Global, TheNewtype, TheCallable, type_by}
use Rattle.df_typing.specs.Scope.{Inferred, Open, Fixed, Env, Around, Use, Meaning, Unknown, TheKnown, TheGlobal, Facts, facts_of, around_parts, uses_of, first_use, other_uses, entered, with_use, fix, declare, behind_scope, deepened, is_bound}

-- ---- how the type of a part depends on what is expected

-- how many values it gives as a right side, and their types
pub data Values : Type 0 where
  One : Values
  -- those of a call
  Results : List (Option Ty) → Values
  -- of a call of what is not known
  NotKnown : Values

pub record Sight : Type 0 where
  -- the type of those of its branches that have their own, if there are any; it may not be known
  pub own : Option (Option Ty)
  -- others are literals, or made of literals by operators
  pub has_literal : Bool
  pub has_operator : Bool
  -- a literal itself, to which a sign before it belongs
  pub is_digits : Bool
  -- its type where none is expected
  pub ty : Option Ty
  pub values : Values

-- it has no type of its own
abbrev pub is_open : Sight → Bool
is_open sight = not (is_some sight.own)

abbrev pub closed : Option Ty → Sight
closed ty = record { own = Some ty; has_literal = false; has_operator = false; is_digits = false; ty = ty; values = One }

abbrev pub opened : (is_digits is_operator : Bool) → Sight
opened is_digits is_operator = record { own = None; has_literal = not is_operator; has_operator = is_operator; is_digits = is_digits; ty = Some Int; values = One }

abbrev pub listed : Option (Option Ty) → List (Option Ty)
listed None = []
listed (Some ty) = ty ∷ []

-- A literal takes the type that is expected; what operators make of literals is of no narrower type than `int`.
abbrev pub open_types : Sight → Ty → List (Option Ty)
open_types sight expected =
    (if sight.has_literal then Some (literal_type expected) ∷ [] else []) ++ (if sight.has_operator then Some (counted (literal_type expected)) ∷ [] else [])

-- its type where this one is expected
abbrev pub settled : Sight → Option Ty → Option Ty
settled sight None = sight.ty
settled sight (Some expected) = common (listed sight.own ++ open_types sight expected)

abbrev pub settle : List Sight → List (Option Ty) → List (Option Ty)
settle [] demands = []
settle (sight ∷ sights) demands = settled sight (first demands) ∷ settle sights (others demands)

-- ---- what is expected of parts

-- its own type, as an operand
abbrev pub fixed : Sight → Option Ty
fixed sight = if is_open sight then None else option_map counted sight.ty

abbrev pub nearest : List Sight → Option Ty
nearest [] = None
nearest (sight ∷ sights) = option_or (fixed sight) (nearest sights)

-- of an open part; another one is as it is
abbrev pub if_is_open : Sight → Option Ty → Option Ty
if_is_open sight wanted = if is_open sight then wanted else None

abbrev pub neighbours : (left expected : Option Ty) → List Sight → List (Option Ty)
neighbours left expected [] = []
neighbours left expected (sight ∷ sights) =
    if_is_open sight (option_or left (option_or (nearest sights) expected)) ∷ neighbours (option_or (fixed sight) left) expected sights

abbrev pub nothing_for : {A : Type 0} → List A → List (Option Ty)
nothing_for [] = []
nothing_for (x ∷ xs) = None ∷ nothing_for xs

abbrev pub each_expects : Option Ty → List Sight → List (Option Ty)
each_expects expected [] = []
each_expects expected (sight ∷ sights) = expected ∷ each_expects expected sights

-- what is expected of branches: that of the whole, else what a neighbour has
abbrev pub of_branches : Option Ty → List Sight → List (Option Ty)
of_branches None sights = neighbours None None sights
of_branches (Some expected) sights = each_expects (Some expected) sights

-- an operator hands on what is expected where all its operands are open
abbrev pub if_all_open : List Sight → Option Ty → Option Ty
if_all_open sights expected = if list_all is_open sights then option_map counted expected else None

-- Of a chain nothing is expected, since it has a type.
abbrev pub demands_of : Demand → (is_typed : Bool) → Option Ty → (places : List (Option Ty)) → List Sight → List (Option Ty)
demands_of demands.Nothing is_typed expected places parts = nothing_for parts
demands_of demands.Neighbours is_typed expected places parts = neighbours None (if is_typed then None else if_all_open parts expected) parts
demands_of (demands.Branches k) is_typed expected places parts = nothing_for (take k parts) ++ of_branches expected (drop k parts)
demands_of (demands.Passed k) is_typed expected places parts = nothing_for (take k parts) ++ expected ∷ []
demands_of demands.Given is_typed expected places parts = places

abbrev pub is_truth : Own → Bool
is_truth owns.Truth = true
is_truth own = false

abbrev pub part_demands : Form → Option Ty → (places : List (Option Ty)) → List Sight → List (Option Ty)
part_demands form expected places parts = demands_of form.demand (is_truth form.own) expected places parts

-- ---- what is seen of a node

abbrev pub only_type : List (Option Ty) → Option Ty
only_type (ty ∷ []) = ty
only_type types = None

-- a call has the type of its one result; without a call it has none
abbrev pub called : Bool → Signature → Sight
called true signature = record (closed (only_type signature.results)) { values = Results signature.results }
called false signature = closed None

abbrev pub unknown_sight : Bool → Sight
unknown_sight is_call = record (closed None) { values = if is_call then NotKnown else One }

abbrev pub global_sight : Bool → Global → Sight
global_sight is_call TheNewtype = unknown_sight is_call
global_sight is_call (TheCallable signature) = called is_call signature

abbrev pub named_sight : Bool → Meaning → Sight
named_sight is_call Unknown = unknown_sight is_call
named_sight false (TheKnown known ty) = closed ty
named_sight true (TheKnown known ty) = unknown_sight true
named_sight is_call (TheGlobal entry) = global_sight is_call entry.is

abbrev pub sight_at : ℕ → List Sight → Sight
sight_at k parts = elim (slice_get parts k) [
  | Some sight ↦ sight
  | None ↦ closed None
]

abbrev pub last_sight : Sight → List Sight → Sight
last_sight last [] = last
last_sight last (sight ∷ sights) = last_sight sight sights

-- no sign belongs to a literal through parentheses, and a call in them is no right side
abbrev pub passed : Sight → Sight
passed sight = record sight { is_digits = false; values = One }

abbrev pub minus : Sight → Sight
minus sight = if is_open sight then opened false (not sight.is_digits) else closed (arithmetic sight.ty sight.ty)

-- of operands of which not all are open
abbrev pub own_types : List Sight → List (Option Ty)
own_types [] = []
own_types (sight ∷ sights) = listed (if is_open sight then None else Some sight.ty) ++ own_types sights

abbrev pub arithmetic_of : List (Option Ty) → Option Ty
arithmetic_of [] = None
arithmetic_of (ty ∷ types) = arithmetic_all (arithmetic ty ty) types

abbrev pub operated : List Sight → Sight
operated parts = if list_all is_open parts then opened false true else closed (arithmetic_of (own_types parts))

abbrev pub branch_types : List Sight → List (Option Ty)
branch_types [] = []
branch_types (sight ∷ sights) = listed sight.own ++ branch_types sights

abbrev pub own_if_any : List (Option Ty) → Option (Option Ty)
own_if_any [] = None
own_if_any (ty ∷ types) = Some (common (ty ∷ types))

abbrev pub branched : List Sight → Sight
branched parts = record {
  own = own_if_any (branch_types parts);
  has_literal = list_any (λ (sight : Sight). sight.has_literal) parts;
  has_operator = list_any (λ (sight : Sight). sight.has_operator) parts;
  is_digits = false;
  ty = common (settle parts (of_branches None parts));
  values = One;
}

-- that of the first part, which is declared, where it is written, else that of the value
abbrev pub local_type : List Sight → Option Ty
local_type [] = None
local_type (local ∷ rest) = option_or local.ty (first (settle rest []))

abbrev pub sight_of : Own → List Entry → Facts → Bool → List Sight → Sight
sight_of owns.Untyped table facts is_call parts = unknown_sight is_call
sight_of owns.Truth table facts is_call parts = closed (Some Boolean)
sight_of owns.Character table facts is_call parts = closed (Some Char)
sight_of owns.Text table facts is_call parts = closed (Some (Seq Char))
sight_of owns.Digits table facts is_call parts = opened true false
sight_of owns.Minus table facts is_call parts = minus (sight_at 0 parts)
sight_of owns.Arithmetic table facts is_call parts = operated parts
sight_of (owns.Passed k) table facts is_call parts = passed (sight_at k parts)
sight_of owns.Last table facts is_call parts = passed (last_sight (closed None) parts)
sight_of (owns.Branches k) table facts is_call parts = branched (drop k parts)
sight_of owns.Named table facts is_call parts = named_sight is_call facts.meaning
sight_of owns.Type table facts is_call parts = closed (type_by table facts.marks)
sight_of owns.Local table facts is_call parts = closed (local_type parts)

-- ---- notes

-- what is seen of nodes, kept beside the tree: of each what stands there, what is seen before its parts, and what is seen of them
pub data Notes : Type 0 where
  NoNote : Notes
  Note : Label → Span → Facts → (parts : List Sight) → (inside : Notes) → (rest : Notes) → Notes

pub record Look : Type 0 where
  pub parts : List Sight
  pub notes : Notes
  pub behind : Env

-- ---- what is known behind a node

-- right sides' types: one right side gives all its values, of several each gives one
abbrev pub types_of_values : Values → Option Ty → List (Option Ty)
types_of_values One ty = ty ∷ []
types_of_values (Results types) ty = types
types_of_values NotKnown ty = None ∷ []

abbrev pub type_of_one : Values → Option Ty → Option Ty
type_of_one One ty = ty
type_of_one (Results types) ty = only_type types
type_of_one NotKnown ty = None

abbrev pub each_value : List Sight → List (Option Ty) → List (Option Ty)
each_value [] types = []
each_value (sight ∷ sights) types = type_of_one sight.values (first types) ∷ each_value sights (others types)

abbrev pub source_types : List Sight → List (Option Ty) → List (Option Ty)
source_types (sight ∷ []) types = types_of_values sight.values (first types)
source_types sights types = each_value sights types

-- the names that the first parts mean, by their indices
abbrev pub index_of : Meaning → Option ℕ
index_of Unknown = None
index_of (TheKnown known ty) = Some known.index
index_of (TheGlobal entry) = None

-- a part that declares a name, or is one
abbrev pub index_at : Naming → Facts → Option ℕ
index_at namings.Declared facts = Some facts.index
index_at namings.Value facts = index_of facts.meaning
index_at namings.Nameless facts = None
index_at namings.Type facts = None

abbrev pub indices : ℕ → Notes → List (Option ℕ)
indices zero notes = []
indices (suc n) NoNote = []
indices (suc n) (Note label span facts parts inside rest) = index_at (form_of label).naming facts ∷ indices n rest

abbrev pub take_type : Env → Option ℕ → Option Ty → Env
take_type env None ty = env
take_type env (Some index) ty = fix env index (Fixed ty)

-- what is assigned first fixes the type
abbrev pub take_types : Env → List (Option ℕ) → List (Option Ty) → Env
take_types env [] types = env
take_types env (index ∷ rest) types = take_types (take_type env index (first types)) rest (others types)

abbrev pub taken : Facts → Look → Env
taken facts found = by (drop facts.before found.parts) where
  by : List Sight → Env
  by [] = found.behind
  by (sight ∷ sights) = take_types found.behind (indices facts.before found.notes) (source_types (sight ∷ sights) (settle (sight ∷ sights) []))

abbrev pub with_targets : Places → Facts → Look → Env
with_targets places.Targets facts found = taken facts found
with_targets places.Nowhere facts found = found.behind
with_targets places.Parameters facts found = found.behind
with_targets places.Results facts found = found.behind
with_targets places.Body facts found = found.behind

-- it takes the type that is written, or none yet
abbrev pub inferred_of : List Sight → Inferred
inferred_of [] = Open
inferred_of (sight ∷ sights) = Fixed sight.ty

abbrev pub with_naming : Naming → Facts → List Sight → Env → Env
with_naming namings.Declared facts parts env = declare facts (inferred_of parts) env
with_naming namings.Value facts parts env = with_use facts.used facts.meaning env
with_naming namings.Nameless facts parts env = env
with_naming namings.Type facts parts env = env

abbrev pub behind : Form → Facts → Env → Look → Env
behind form facts before found =
    behind_scope form.is_scope before (deepened (form.hides && is_bound facts.around.role) facts.before (with_naming form.naming facts found.parts (with_targets form.places facts found)))

-- ---- trees

abbrev pub look : List Entry → Around → List Use → Env → Asts → Look
look table around uses env Nil = record { parts = []; notes = NoNote; behind = env }
look table around uses env (Next (Kept x) rest) = look table around uses env rest
look table around uses env (Next (Made label span inside) rest) =
    let form = form_of label in
    let facts = facts_of table form around (first_use uses) env inside in
    let found = look table (around_parts form span env around) (uses_of form.uses around.role facts.before (count inside)) (entered form.is_scope env) inside in
    let more = look table around (other_uses uses) (behind form facts env found) rest in
    record {
      parts = sight_of form.own table facts form.is_call found.parts ∷ more.parts;
      notes = Note label span facts found.parts found.notes more.notes;
      behind = more.behind;
    }
