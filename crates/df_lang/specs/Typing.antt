-- What is well typed, as tests that compute.
use Rattle.std.specs.Prelude.{ℕ, suc, Bool, true, false, ◌==◌, ◌&&◌, nat_lt, nat_le, int_le, List, [], ◌∷◌, ◌++◌, map, length, slice_get, is_some, Option, None, Some}
use Rattle.std.specs.Option.{option_map_or}
use Rattle.std.specs.List.{list_all, flat_map}
use Rattle.df_lang.specs.declared.ty.Ty.{Ty}
use Rattle.df_lang.specs.declared.ty.Ty.TheVariants as types
use Rattle.df_lang.specs.declared.expr.Comparison.{Comparison}
use Rattle.df_lang.specs.declared.expr.Comparison.TheVariants as comparisons
use Rattle.df_lang.specs.Expr.{Expr, Number, Truth, Character, Local, Negate, Not, Sum, Product, Junction, Implies, Iff, Chain, As, Convert, Addends, no_addend, addend, Factors, no_factor, factor, Members, no_member, member, Links, no_link, link}
use Rattle.df_lang.specs.Stmt.{Operand, Text, Value, Target, Call, Conversion, Source, Single, Results, Update, Variable, Clause, Measure, Stmt, Block, Var, Assign, CallOf, If, While, Break, Return, Assert, Print, Stmts, done, next, Branches, no_branch, branch}
use Rattle.df_lang.specs.Newtype.{Newtype, same_type}
use Rattle.df_lang.specs.Program.{Method, Decl, NewtypeDecl, MethodDecl, Program, newtype_at, method_at, types_of}
use Rattle.df_lang.specs.Measures.{guard_measure}
use Rattle.df_lang.specs.Marks.{has_no_ghost}

abbrev pub are_same_types : List Ty → List Ty → Bool
are_same_types [] [] = true
are_same_types [] (b ∷ others) = false
are_same_types (a ∷ more) [] = false
are_same_types (a ∷ more) (b ∷ others) = same_type a b && are_same_types more others

-- a type of the program
abbrev pub is_type : Program → Ty → Bool
is_type program (types.Newtype id) = is_some (newtype_at program id)
is_type program ty = true

-- the newtypes, `int` and `nat`
abbrev pub is_integer : Program → Ty → Bool
is_integer program (types.Newtype id) = is_some (newtype_at program id)
is_integer program types.Int = true
is_integer program types.Nat = true
is_integer program types.Bool = false
is_integer program types.Char = false

-- sums and products are of a newtype or of `int`: there `nat` counts as `int`
abbrev pub is_arithmetic : Program → Ty → Bool
is_arithmetic program types.Nat = false
is_arithmetic program ty = is_integer program ty

-- values of one type may stand at places of the other: the type fits it, or is narrowed to it
abbrev pub converts : Ty → Ty → Bool
converts types.Nat types.Int = true
converts types.Int types.Nat = true
converts source target = same_type source target

-- `as` goes between integer types, and between them and characters
abbrev pub casts : Program → Ty → Ty → Bool
casts program types.Char target = is_integer program target
casts program source types.Char = is_integer program source
casts program source target = is_integer program source && is_integer program target

-- values of the type compare so
abbrev pub compares : Program → Ty → Comparison → Bool
compares program ty comparisons.Equal = is_type program ty
compares program ty comparisons.NotEqual = is_type program ty
compares program types.Char comparison = true
compares program ty comparison = is_integer program ty

-- ---- Expressions over locals of these types, by their numbers.

abbrev mutual
  pub is_expr : Program → List Ty → Ty → Expr → Bool
  is_expr program locals ty (Number own value pos) = same_type own ty && is_integer program ty
  is_expr program locals ty (Truth value pos) = same_type ty types.Bool
  is_expr program locals ty (Character code pos) = same_type ty types.Char && nat_lt code 128
  is_expr program locals ty (Local local name pos) = option_map_or (same_type ty) (slice_get locals local) false
  is_expr program locals ty (Negate own pos operand) = same_type own ty && is_arithmetic program ty && is_expr program locals ty operand
  is_expr program locals ty (Not pos operand) = same_type ty types.Bool && is_expr program locals types.Bool operand
  is_expr program locals ty (Sum own first rest) = same_type own ty && is_arithmetic program ty && is_expr program locals ty first && are_addends program locals ty rest
  is_expr program locals ty (Product own first rest) = same_type own ty && is_arithmetic program ty && is_expr program locals ty first && are_factors program locals ty rest
  is_expr program locals ty (Junction junction first rest) = same_type ty types.Bool && is_expr program locals types.Bool first && are_members program locals rest
  is_expr program locals ty (Implies arrow first rest) = same_type ty types.Bool && is_expr program locals types.Bool first && are_members program locals rest
  is_expr program locals ty (Iff first rest) = same_type ty types.Bool && is_expr program locals types.Bool first && are_members program locals rest
  is_expr program locals ty (Chain own first rest) = same_type ty types.Bool && is_expr program locals own first && are_links program locals own rest
  is_expr program locals ty (As source target pos operand) = same_type target ty && casts program source target && is_expr program locals source operand
  is_expr program locals ty (Convert source target pos operand) = same_type target ty && converts source target && is_expr program locals source operand

  pub are_addends : Program → List Ty → Ty → Addends → Bool
  are_addends program locals ty no_addend = true
  are_addends program locals ty (addend operator pos operand rest) = is_expr program locals ty operand && are_addends program locals ty rest

  pub are_factors : Program → List Ty → Ty → Factors → Bool
  are_factors program locals ty no_factor = true
  are_factors program locals ty (factor operator pos operand rest) = is_expr program locals ty operand && are_factors program locals ty rest

  pub are_members : Program → List Ty → Members → Bool
  are_members program locals no_member = true
  are_members program locals (member pos operand rest) = is_expr program locals types.Bool operand && are_members program locals rest

  pub are_links : Program → List Ty → Ty → Links → Bool
  are_links program locals ty no_link = true
  are_links program locals ty (link comparison pos operand rest) = compares program ty comparison && is_expr program locals ty operand && are_links program locals ty rest

-- as many expressions as types, each of its type
abbrev pub are_exprs : Program → List Ty → List Ty → List Expr → Bool
are_exprs program locals [] [] = true
are_exprs program locals [] (e ∷ others) = false
are_exprs program locals (ty ∷ more) [] = false
are_exprs program locals (ty ∷ more) (e ∷ others) = is_expr program locals ty e && are_exprs program locals more others

abbrev pub are_clauses : Program → List Ty → List Clause → Bool
are_clauses program locals clauses = list_all (λ (clause : Clause). is_expr program locals types.Bool clause.condition) clauses

abbrev pub are_measures : Program → List Ty → Option (List Measure) → Bool
are_measures program locals decreases = option_map_or (λ measures. list_all (λ (measure : Measure). is_type program measure.ty && is_expr program locals measure.ty measure.value) measures) decreases true

-- ---- Statements.

-- where a statement stands: the method, the types of the locals by their numbers, and whether a loop is around it
pub record Setting : Type 0 where
  pub program : Program
  pub method : Method
  pub locals : List Ty
  pub in_loop : Bool

abbrev pub over_locals : Setting → List Ty → Setting
over_locals setting locals = record { program = setting.program; method = setting.method; locals = locals; in_loop = setting.in_loop }

abbrev pub inside_loop : Setting → Setting
inside_loop setting = record { program = setting.program; method = setting.method; locals = setting.locals; in_loop = true }

-- the 128 characters have the codes below 128
abbrev pub is_operand : Setting → Operand → Bool
is_operand setting (Text characters) = list_all (λ (code : ℕ). nat_lt code 128) characters
is_operand setting (Value ty value) = is_type setting.program ty && is_expr setting.program setting.locals ty value

-- a call of a method of the program, with an argument for each parameter
abbrev pub is_call : Setting → Call → Bool
is_call setting call = option_map_or (λ (method : Method). are_exprs setting.program setting.locals (types_of method.parameters) call.arguments) (method_at setting.program call.callee) false

-- the results of the callee, each converted to another type
abbrev pub are_results : Program → Call → List Conversion → Bool
are_results program call results =
    option_map_or (λ (method : Method). are_same_types (map (λ (c : Conversion). c.source) results) (types_of method.results)) (method_at program call.callee) false
    && list_all (λ (c : Conversion). is_type program c.target && converts c.source c.target) results

-- a right side
abbrev pub is_source : Setting → Source → Bool
is_source setting (Single ty value) = is_type setting.program ty && is_expr setting.program setting.locals ty value
is_source setting (Results call results) = is_call setting call && are_results setting.program call results

-- the types of its values
abbrev pub source_types : Source → List Ty
source_types (Single ty value) = ty ∷ []
source_types (Results call results) = map (λ (c : Conversion). c.target) results

-- A local that may be assigned: not a parameter. So contracts that are read behind the body speak of the arguments.
abbrev pub is_target : Setting → Target → Bool
is_target setting target = nat_le (length setting.method.parameters) target.local && option_map_or (same_type target.ty) (slice_get setting.locals target.local) false

abbrev pub is_update : Setting → Update → Bool
is_update setting update =
    list_all (is_target setting) update.targets && list_all (is_source setting) update.sources
    && are_same_types (flat_map source_types update.sources) (map (λ (target : Target). target.ty) update.targets)

abbrev pub may_update : Setting → Option Update → Bool
may_update setting None = true
may_update setting (Some update) = is_update setting update

-- the numbers follow each other
abbrev pub are_numbered : ℕ → List ℕ → Bool
are_numbered from [] = true
are_numbered from (number ∷ others) = number == from && are_numbered (suc from) others

abbrev pub variable_numbers : List Variable → List ℕ
variable_numbers variables = map (λ (variable : Variable). variable.local) variables

abbrev pub variable_types : List Variable → List Ty
variable_types variables = map (λ (variable : Variable). variable.ty) variables

abbrev mutual
  -- the types of the locals behind a statement: each declaration of it has its own number, those of inner blocks too
  pub locals_after : List Ty → Stmt → List Ty
  locals_after locals (Block pos body) = locals_after_all locals body
  locals_after locals (Var pos variables update) = locals ++ variable_types variables
  locals_after locals (Assign pos update) = locals
  locals_after locals (CallOf call) = locals
  locals_after locals (If branches otherwise) = locals_after_all (locals_after_branches locals branches) otherwise
  locals_after locals (While pos guard invariants decreases body) = locals_after_all locals body
  locals_after locals (Break pos) = locals
  locals_after locals (Return pos update) = locals
  locals_after locals (Assert pos condition) = locals
  locals_after locals (Print pos operands) = locals

  pub locals_after_all : List Ty → Stmts → List Ty
  locals_after_all locals done = locals
  locals_after_all locals (next stmt others) = locals_after_all (locals_after locals stmt) others

  pub locals_after_branches : List Ty → Branches → List Ty
  locals_after_branches locals no_branch = locals
  locals_after_branches locals (branch pos guard body rest) = locals_after_branches (locals_after_all locals body) rest

-- a `return` with values gives all results theirs, in order: their numbers follow those of the parameters
abbrev pub gives_results : Setting → Update → Bool
gives_results setting update =
    are_numbered (length setting.method.parameters) (map (λ (target : Target). target.local) update.targets)
    && are_same_types (map (λ (target : Target). target.ty) update.targets) (types_of setting.method.results)

abbrev pub is_return : Setting → Option Update → Bool
is_return setting None = true
is_return setting (Some update) = is_update setting update && gives_results setting update

-- a loop has a clause, or a guard that has a measure by default
abbrev pub is_measured : Setting → Expr → Option (List Measure) → Bool
is_measured setting guard None = is_some (guard_measure guard)
is_measured setting guard (Some measures) = are_measures setting.program setting.locals (Some measures)

abbrev mutual
  -- declared locals have the next numbers, in order
  pub is_stmt : Setting → Stmt → Bool
  is_stmt setting (Block pos body) = are_stmts setting body
  is_stmt setting (Var pos variables update) =
      are_numbered (length setting.locals) (variable_numbers variables) && list_all (is_type setting.program) (variable_types variables)
      && may_update (over_locals setting (setting.locals ++ variable_types variables)) update
  is_stmt setting (Assign pos update) = is_update setting update
  is_stmt setting (CallOf call) = is_call setting call
  is_stmt setting (If branches otherwise) = are_branches setting branches && are_stmts (over_locals setting (locals_after_branches setting.locals branches)) otherwise
  is_stmt setting (While pos guard invariants decreases body) =
      is_expr setting.program setting.locals types.Bool guard && are_clauses setting.program setting.locals invariants && is_measured setting guard decreases
      && are_stmts (inside_loop setting) body
  is_stmt setting (Break pos) = setting.in_loop
  is_stmt setting (Return pos update) = is_return setting update
  is_stmt setting (Assert pos condition) = is_expr setting.program setting.locals types.Bool condition
  is_stmt setting (Print pos operands) = list_all (is_operand setting) operands

  pub are_stmts : Setting → Stmts → Bool
  are_stmts setting done = true
  are_stmts setting (next stmt others) = is_stmt setting stmt && are_stmts (over_locals setting (locals_after setting.locals stmt)) others

  pub are_branches : Setting → Branches → Bool
  are_branches setting no_branch = true
  are_branches setting (branch pos guard body rest) =
      is_expr setting.program setting.locals types.Bool guard && are_stmts setting body && are_branches (over_locals setting (locals_after_all setting.locals body)) rest

-- ---- Declarations.

-- Contracts speak of parameters, what is owed of results too; the body has both as its first locals.
abbrev pub is_method : Program → Method → Bool
is_method program m =
    let parameters = types_of m.parameters in
    let both = parameters ++ types_of m.results in
    list_all (is_type program) both && are_clauses program parameters m.preconditions && are_clauses program both m.postconditions
    && are_measures program parameters m.decreases
    && are_stmts (record { program = program; method = m; locals = both; in_loop = false }) m.body

-- a newtype's default lies in its interval
abbrev pub is_newtype : Newtype → Bool
is_newtype newtype = int_le newtype.low newtype.default && int_le newtype.default newtype.high

abbrev pub is_decl : Program → Decl → Bool
is_decl program (NewtypeDecl newtype) = is_newtype newtype
is_decl program (MethodDecl method) = is_method program method && has_no_ghost method

abbrev pub is_well_typed : Program → Bool
is_well_typed program = list_all (is_decl program) program.decls
