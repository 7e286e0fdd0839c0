-- What fixes the types of a method's locals, in the order of the text: the type that is written, else that of the first
-- value, else that of the first assignment, unless the local is used before. For it, and for the rules of assignments: how
-- many values right sides give, and the types of places and of values.
use Rattle.std.specs.Prelude.{ℕ, zero, suc, List, [], ◌∷◌, ◌++◌, map, Option, Some, None, ◌==◌, ◌&&◌, Bool, true, length, option_map}
use Rattle.std.specs.List.{flat_map, list_all}
use Rattle.df_lang.specs.declared.ty.Ty.{Ty}
use Rattle.df_ntree.specs.declared.expr.TreeType.{TreeType}
use Rattle.df_ntree.specs.declared.file.Local as declared_local
use Rattle.df_ntree.specs.declared.file.Parameter.{Parameter}
use Rattle.df_ntree.specs.Expr.{Expr, Number, Character, Truth, Name, Parentheses, Call, Unary, Cast, Operations, Leading, Members, end, more, Arguments, no_more, argument}
use Rattle.df_ntree.specs.File as file
use Rattle.df_ntree.specs.File.{Clause, Condition, Decreases, PrintOperand, Text, Value, Statement, Nested, Var, Assign, Expression, If, While, Return, Break, Assert, Print, Statements, done, next, Branches, Otherwise, without, otherwise}
use Rattle.df_ntyping.specs.Table.{type_of, Signature}
use Rattle.df_ntyping.specs.Environment.{Inferred, Open, Used, Fixed, Environment, enter, past, with_types, behind, locals_in_all, locals_in_branches, Local, local_type}
use Rattle.df_ntyping.specs.Meaning.{Meaning, TheLocal, meaning_of, called_signature}
use Rattle.df_ntyping.specs.ExprTypes.{type_in}

-- ---- the names in an expression

abbrev mutual
  pub names_in : Expr → List ℕ
  names_in (Number literal) = []
  names_in (Character code pos) = []
  names_in (Truth value pos) = []
  names_in (Name ident) = ident.name ∷ []
  names_in (Parentheses pos inner) = names_in inner
  names_in (Call callee arguments) = names_in callee ++ names_in_arguments arguments
  names_in (Unary operator pos operand) = names_in operand
  names_in (Cast operand all) = names_in operand
  names_in (Operations first rest) = names_in first ++ names_in_members rest
  names_in (Leading operations) = names_in_members operations

  pub names_in_members : Members → List ℕ
  names_in_members end = []
  names_in_members (more operator pos operand rest) = names_in operand ++ names_in_members rest

  pub names_in_arguments : Arguments → List ℕ
  names_in_arguments no_more = []
  names_in_arguments (argument e rest) = names_in e ++ names_in_arguments rest

-- ---- one local after another

-- where nothing fixes a type yet this does
abbrev pub if_open : Option Inferred → Inferred → Inferred
if_open (Some Open) fixing = fixing
if_open (Some inferred) fixing = inferred
if_open None fixing = fixing

abbrev pub at_number : ℕ → Inferred → List Inferred → List Inferred
at_number number fixing [] = []
at_number zero fixing (inferred ∷ others) = if_open (Some inferred) fixing ∷ others
at_number (suc number) fixing (inferred ∷ others) = inferred ∷ at_number number fixing others

abbrev pub fix_meaning : Option Meaning → Inferred → List Inferred → List Inferred
fix_meaning (Some (TheLocal local)) fixing types = at_number local.number fixing types
fix_meaning meaning fixing types = types

-- names are used
abbrev pub used_names : Environment → List ℕ → List Inferred → List Inferred
used_names env [] types = types
used_names env (name ∷ others) types = used_names env others (fix_meaning (meaning_of env name) Used types)

abbrev pub used : Environment → List Expr → List Inferred
used env es = used_names env (flat_map names_in es) env.types

-- ---- right sides

-- how many values a right side gives, if it is known: a call as many as its method has results
abbrev pub values_of : Environment → Expr → Option ℕ
values_of env (Call callee arguments) = option_map (λ (signature : Signature). length signature.results) (called_signature env callee)
values_of env e = Some 1

abbrev pub is_count : ℕ → Option ℕ → Bool
is_count wanted (Some given) = given == wanted
is_count wanted None = true

-- As many values as places: one right side gives all of them, of several each gives one. What isn't known is not wrong.
abbrev pub are_enough : Environment → ℕ → List Expr → Bool
are_enough env places (value ∷ []) = is_count places (values_of env value)
are_enough env places values = (length values == places) && list_all (λ (value : Expr). is_count 1 (values_of env value)) values

-- the types of the results of a right side that is a call
abbrev pub results_of_call : Environment → Expr → List (Option Ty)
results_of_call env callee = elim (called_signature env callee) [
  | Some signature ↦ signature.results
  | None ↦ []
]

-- ---- places

abbrev pub type_of_place : Environment → Option Meaning → Option Ty
type_of_place env (Some (TheLocal local)) = local_type env local.number
type_of_place env meaning = None

-- the type of a left side
abbrev pub place_type : Environment → Expr → Option Ty
place_type env (Name ident) = type_of_place env (meaning_of env ident.name)
place_type env e = None

abbrev pub place_types : Environment → List Expr → List (Option Ty)
place_types env targets = map (place_type env) targets

-- of locals by their numbers
abbrev pub types_of_locals : Environment → List Local → List (Option Ty)
types_of_locals env locals = map (λ (local : Local). local_type env local.number) locals

-- ---- places and their values

-- the types of the values of a right side
abbrev pub types_of_value : Environment → Expr → List (Option Ty)
types_of_value env (Call callee arguments) = results_of_call env callee
types_of_value env e = type_in env None e ∷ []

abbrev pub next_type : List (Option Ty) → Option Ty
next_type [] = None
next_type (ty ∷ others) = ty

abbrev pub other_types : List (Option Ty) → List (Option Ty)
other_types [] = []
other_types (ty ∷ others) = others

-- one right side gives all values, of several each gives one
abbrev pub types_of_values : Environment → List Expr → List (Option Ty)
types_of_values env (value ∷ []) = types_of_value env value
types_of_values env values = map (λ (value : Expr). next_type (types_of_value env value)) values

-- a left side that is no name uses the names in it
abbrev pub used_inside : Expr → List ℕ
used_inside (Name ident) = []
used_inside e = names_in e

-- a name takes a value
abbrev pub taken : Environment → Expr → Option Ty → List Inferred → List Inferred
taken env (Name ident) ty types = fix_meaning (meaning_of env ident.name) (Fixed ty) types
taken env e ty types = types

abbrev pub taken_all : Environment → List Expr → List (Option Ty) → List Inferred → List Inferred
taken_all env [] values types = types
taken_all env (target ∷ others) values types = taken_all env others (other_types values) (taken env target (next_type values) types)

-- ---- declared locals

-- without a type and a value nothing fixes the type yet
abbrev pub inferred_of : Environment → Option TreeType → List Expr → Option Ty → Inferred
inferred_of env (Some ty) values value = Fixed (type_of env.table.newtypes ty)
inferred_of env None [] value = Open
inferred_of env None values value = Fixed value

abbrev pub inferred_all : Environment → List declared_local.Local → List Expr → List (Option Ty) → List Inferred
inferred_all env [] values types = []
inferred_all env (local ∷ others) values types = inferred_of env local.ty values (next_type types) ∷ inferred_all env others values (other_types types)

abbrev pub used_in_clause : Clause → List ℕ
used_in_clause (Condition kind pos condition) = names_in condition
used_in_clause (Decreases pos values) = flat_map names_in values

abbrev pub used_in_operand : PrintOperand → List ℕ
used_in_operand (Text characters) = []
used_in_operand (Value e) = names_in e

-- ---- statements: what fixes the types behind each

-- the environment of the next statement, over what is known behind this one
abbrev pub over : Environment → List Inferred → Environment
over env types = with_types env types

abbrev mutual
  pub inferred_behind : Environment → Statement → List Inferred
  inferred_behind env (Nested pos body) = inferred_behind_all (enter env) body
  inferred_behind env (Var pos locals values) = used env values ++ inferred_all env locals values (types_of_values env values)
  inferred_behind env (Assign targets values) =
      taken_all env targets (types_of_values env values) (used_names env (flat_map used_inside targets ++ flat_map names_in values) env.types)
  inferred_behind env (Expression value) = used env (value ∷ [])
  inferred_behind env (If pos guard opens body others last) =
      let behind_body = inferred_behind_all (over (enter env) (used env (guard ∷ []))) body in
      let first = over (past env (locals_in_all body)) behind_body in
      let behind_others = inferred_behind_branches first others in
      inferred_behind_otherwise (over (past first (locals_in_branches others)) behind_others) last
  inferred_behind env (While pos guard clauses opens body) =
      inferred_behind_all (over (enter env) (used_names env (names_in guard ++ flat_map used_in_clause clauses) env.types)) body
  inferred_behind env (Return pos values) = used env values
  inferred_behind env (Break pos) = env.types
  inferred_behind env (Assert pos condition) = used env (condition ∷ [])
  inferred_behind env (Print pos operands) = used_names env (flat_map used_in_operand operands) env.types

  pub inferred_behind_all : Environment → Statements → List Inferred
  inferred_behind_all env done = env.types
  inferred_behind_all env (next statement others) = inferred_behind_all (over (behind env statement) (inferred_behind env statement)) others

  pub inferred_behind_branches : Environment → Branches → List Inferred
  inferred_behind_branches env file.end = env.types
  inferred_behind_branches env (file.more pos guard opens body others) =
      inferred_behind_branches (over (past env (locals_in_all body)) (inferred_behind_all (over (enter env) (used env (guard ∷ []))) body)) others

  pub inferred_behind_otherwise : Environment → Otherwise → List Inferred
  inferred_behind_otherwise env without = env.types
  inferred_behind_otherwise env (otherwise opens body) = inferred_behind_all (enter env) body

-- ---- methods

-- parameters and results have their types
abbrev pub fixed_by : Environment → List Parameter → List Inferred
fixed_by env parameters = map (λ (parameter : Parameter). Fixed (type_of env.table.newtypes parameter.ty)) parameters
