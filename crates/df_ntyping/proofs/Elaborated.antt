-- The typed program of a file, by computation: the definitions are tried on small files.
use Rattle.std.proofs.Common.{ℕ, suc, Bool, true, false, List, [], ◌∷◌, Option, None, Some}
use Rattle.std.specs.Prelude.{slice_get, not, ◌&&◌, ◌||◌, if◌then◌else◌, option_map, map}
use Rattle.std.specs.List.{list_any, list_all}
use Rattle.df_lang.specs.declared.ty.Ty.{Ty}
use Rattle.df_lang.specs.declared.ty.Ty.TheVariants as types
use Rattle.df_lang.specs.declared.expr.Junction.TheVariants as junctions
use Rattle.df_lang.specs.declared.expr.Arrow.TheVariants as arrows
use Rattle.df_lang.specs.Newtype.{same_type}
use Rattle.df_lang.specs.Expr as typed
use Rattle.df_lang.specs.Stmt as typed_stmt
use Rattle.df_lang.specs.Program as program
use Rattle.df_lang.specs.Newtype as types_of
use Rattle.df_ntree.specs.declared.tree.Ident.{Ident}
use Rattle.df_ntyping.specs.SideElaboration.{types_of_targets, keeps_its_value}
use Rattle.df_ntree.specs.declared.expr.UnaryOperator.TheVariants as unary
use Rattle.df_ntree.specs.declared.expr.Group.{Group}
use Rattle.df_ntree.specs.declared.expr.Group.TheVariants as groups
use Rattle.df_ntree.specs.declared.expr.TreeType.{TreeType}
use Rattle.df_ntree.specs.declared.file.Local as declared_local
use Rattle.df_ntree.specs.declared.file.Parameter.{Parameter}
use Rattle.df_ntree.specs.declared.file.ConditionKind.TheVariants as conditions
use Rattle.df_ntree.specs.Expr.{Expr, Number, Character, Truth, Name, Parentheses, Call, Unary, Cast, Operations, Leading, Members, end, more, Arguments, no_more, argument}
use Rattle.df_ntree.specs.ExprSpelling.{first_group}
use Rattle.df_ntree.specs.File as file
use Rattle.df_ntree.specs.File.{Clause, PrintOperand, Text, Value, Statement, Nested, Var, Assign, Expression, If, While, Return, Break, Assert, Print, Statements, done, next, Branches, Otherwise, without, otherwise, Declaration, Newtype, Method, File, NewtypeDeclaration, MethodDeclaration}
use Rattle.df_base.specs.declared.pos.Pos.{Pos}
use Rattle.df_ntyping.specs.Types.{is_integer, counted, casts, fits_or_narrows, literal_type, all_of, keeps_direction}
use Rattle.df_ntyping.specs.Table.{Signature, Table, table_of, type_of, results_of}
use Rattle.df_ntyping.specs.Environment.{Environment, Local, enter, inside_loop, past, local_type, behind, locals_in_all, locals_in_branches}
use Rattle.df_ntyping.specs.Meaning.{Meaning, TheLocal, meaning_of, callee_of}
use Rattle.df_ntyping.specs.Places.{pos_of, beginning_of, beginning_of_first}
use Rattle.df_ntyping.specs.ExprTypes.{value_of, counted_of, wanted_first, wanted_behind, expected_inside}
use Rattle.df_ntyping.specs.ExprElaboration.{Part, compares, addends_of, factors_of, members_of, links_of, turned}
use Rattle.df_ntyping.specs.StatementElaboration.{as_target, conditions_of, measures_in}
use Rattle.df_ntyping.specs.FileNodes.{over_parameters, over_both, over_body}
use Rattle.df_ntyping.specs.rules.Newtypes.{bounds_of}
use Rattle.df_ntyping.specs.Node.{OfMethod, OfLoop}
use Rattle.df_ntyping.specs.rules.Loops.{belongs, is_decreases, has_measure}

-- ---- options

abbrev pub bind : {A B : Type 0} → Option A → (A → Option B) → Option B
bind None f = None
bind (Some a) f = f a

abbrev pub both : {A B C : Type 0} → (A → B → C) → Option A → Option B → Option C
both f (Some a) (Some b) = Some (f a b)
both f a b = None

-- ---- expressions, each with its type

abbrev pub Typed : Type 0
Typed = Ty × typed.Expr

abbrev pub only_if : {A : Type 0} → Bool → Option A → Option A
only_if true a = a
only_if false a = None

-- a value that is taken as one of another type
abbrev pub converted : Ty → Expr → Typed → Option typed.Expr
converted target e (source, inner) = if same_type source target then Some inner else option_map (λ (at : Pos). typed.Convert source target at inner) (pos_of e)

-- an operand of this type, where `nat` counts as `int`
abbrev pub operand_of : Ty → Expr → Typed → Option typed.Expr
operand_of of e one = only_if (same_type (counted one.0) of) (converted of e one)

abbrev pub local_expr : Environment → Option Meaning → ℕ → Pos → Option Typed
local_expr env (Some (TheLocal local)) name pos = option_map (λ (ty : Ty). (ty, typed.Local local.number name pos)) (local_type env local.number)
local_expr env meaning name pos = None

abbrev pub cast_of : Pos → Ty → Typed → Option Typed
cast_of at target one = only_if (casts one.0 target) (Some (target, typed.As one.0 target at one.1))

abbrev pub casts_in : Environment → Pos → Typed → List TreeType → Option Typed
casts_in env at one [] = Some one
casts_in env at one (tree ∷ others) = bind (bind (type_of env.table.newtypes tree) (λ target. cast_of at target one)) (λ cast. casts_in env at cast others)

abbrev pub truth_run : Ty → typed.Expr → Option Typed
truth_run of t = only_if (same_type of types.Bool) (Some (types.Bool, t))

abbrev pub run_in : Option Group → Members → Ty → typed.Expr → List Part → Option Typed
run_in (Some groups.Sum) rest of first parts = only_if (is_integer of) (Some (of, typed.Sum of first (addends_of parts)))
run_in (Some groups.Product) rest of first parts = only_if (is_integer of) (Some (of, typed.Product of first (factors_of parts)))
run_in (Some groups.Comparison) rest of first parts = only_if (all_of (compares of) rest && keeps_direction rest) (Some (types.Bool, typed.Chain of first (links_of parts)))
run_in (Some groups.Conjunction) rest of first parts = truth_run of (typed.Junction junctions.And first (members_of parts))
run_in (Some groups.Disjunction) rest of first parts = truth_run of (typed.Junction junctions.Or first (members_of parts))
run_in (Some groups.Implication) rest of first parts = truth_run of (typed.Implies arrows.Implies first (members_of parts))
run_in (Some groups.Explication) rest of first parts = truth_run of (turned first typed.no_member parts)
run_in (Some groups.Equivalence) rest of first parts = truth_run of (typed.Iff first (members_of parts))
run_in None rest of first parts = None

abbrev pub minus_of : Pos → Expr → Typed → Option Typed
minus_of pos operand one = only_if (is_integer one.0) (option_map (λ (inner : typed.Expr). (counted one.0, typed.Negate (counted one.0) pos inner)) (converted (counted one.0) operand one))

abbrev pub negation_of : Pos → Typed → Option Typed
negation_of pos one = only_if (same_type one.0 types.Bool) (Some (types.Bool, typed.Not pos one.1))

abbrev mutual
  pub expr_in : Environment → Option Ty → Expr → Option Typed
  expr_in env expected (Number literal) = Some (literal_type expected, typed.Number (literal_type expected) (value_of literal) literal.pos)
  expr_in env expected (Character code pos) = Some (types.Char, typed.Character code pos)
  expr_in env expected (Truth value pos) = Some (types.Bool, typed.Truth value pos)
  expr_in env expected (Name ident) = local_expr env (meaning_of env ident.name) ident.name ident.pos
  expr_in env expected (Parentheses pos inner) = expr_in env expected inner
  expr_in env expected (Call callee arguments) = None
  expr_in env expected (Unary unary.Negate pos operand) = bind (expr_in env (counted_of expected) operand) (minus_of pos operand)
  expr_in env expected (Unary unary.Not pos operand) = bind (expr_in env None operand) (negation_of pos)
  expr_in env expected (Cast operand types) = bind (beginning_of operand) (λ at. bind (expr_in env None operand) (λ one. casts_in env at one types))
  expr_in env expected (Operations first rest) =
      let wanted = wanted_first env (expected_inside (first_group rest) expected) first rest in
      bind (expr_in env wanted first) (λ one.
      bind (converted (counted one.0) first one) (λ inner.
      bind (parts_in env (wanted_behind env wanted first) (counted one.0) rest) (λ parts. run_in (first_group rest) rest (counted one.0) inner parts)))
  expr_in env expected (Leading end) = None
  expr_in env expected (Leading (more operator pos operand rest)) =
      bind (expr_in env None operand) (λ one. bind (parts_in env None types.Bool rest) (λ parts. run_in (first_group (more operator pos operand rest)) rest one.0 one.1 parts))

  pub parts_in : Environment → Option Ty → Ty → Members → Option (List Part)
  parts_in env wanted of end = Some []
  parts_in env wanted of (more operator pos operand rest) =
      both (λ one others. record { operator = operator; pos = pos; operand = one } ∷ others)
      (bind (expr_in env wanted operand) (operand_of of operand)) (parts_in env (wanted_behind env wanted operand) of rest)

-- at a place of the type
abbrev pub given : Ty → Expr → Typed → Option typed.Expr
given place e one = only_if (fits_or_narrows one.0 place) (converted place e one)

abbrev pub expr_at : Environment → Ty → Expr → Option typed.Expr
expr_at env place e = bind (expr_in env (Some place) e) (given place e)

-- a truth
abbrev pub truth_in : Environment → Expr → Option typed.Expr
truth_in env e = bind (expr_in env None e) (λ one. only_if (same_type one.0 types.Bool) (Some one.1))

-- ---- sides

abbrev pub arguments_in : Environment → List (Option Ty) → Arguments → Option (List typed.Expr)
arguments_in env [] no_more = Some []
arguments_in env (parameter ∷ parameters) (argument e rest) = both (λ one others. one ∷ others) (bind parameter (λ ty. expr_at env ty e)) (arguments_in env parameters rest)
arguments_in env parameters arguments = None

-- with the types of its results
abbrev pub Called : Type 0
Called = typed_stmt.Call × List (Option Ty)

abbrev pub call_with : ℕ → Pos → (ℕ × Signature) → List typed.Expr → Called
call_with name pos callee es = (record { callee = callee.0; name = name; pos = pos; arguments = es }, callee.1.results)

abbrev pub call_in : Environment → Expr → Arguments → Option Called
call_in env (Name ident) arguments = bind (callee_of env (Name ident)) (λ callee. option_map (call_with ident.name ident.pos callee) (arguments_in env callee.1.parameters arguments))
call_in env callee arguments = None

abbrev pub result_in : Ty → Ty → Option typed_stmt.Conversion
result_in place source = only_if (fits_or_narrows source place) (Some (record { source = source; target = place }))

abbrev pub results_in : List (Option Ty) → List Ty → Option (List typed_stmt.Conversion)
results_in [] [] = Some []
results_in (result ∷ results) (place ∷ places) = both (λ one others. one ∷ others) (bind result (result_in place)) (results_in results places)
results_in results places = None

abbrev pub source_in : Environment → List Ty → Expr → Option typed_stmt.Source
source_in env places (Call callee arguments) = bind (call_in env callee arguments) (λ call. option_map (typed_stmt.Results call.0) (results_in call.1 places))
source_in env (place ∷ []) e = option_map (typed_stmt.Single place) (expr_at env place e)
source_in env places e = None

abbrev pub apart_in : Environment → List Ty → List Expr → Option (List typed_stmt.Source)
apart_in env [] [] = Some []
apart_in env (place ∷ places) (value ∷ values) = both (λ one others. one ∷ others) (source_in env (place ∷ []) value) (apart_in env places values)
apart_in env places values = None

abbrev pub sources_in : Environment → List Ty → List Expr → Option (List typed_stmt.Source)
sources_in env places (value ∷ []) = option_map (λ (one : typed_stmt.Source). one ∷ []) (source_in env places value)
sources_in env places values = apart_in env places values

abbrev pub update_in : Environment → List typed_stmt.Target → List Expr → Option (Option typed_stmt.Update)
update_in env targets [] = Some None
update_in env targets values = option_map (λ (sources : List typed_stmt.Source). Some (record { targets = targets; sources = sources })) (sources_in env (types_of_targets targets) values)

abbrev pub variables_in : Environment → ℕ → List declared_local.Local → Option (List typed_stmt.Variable)
variables_in env number [] = Some []
variables_in env number (local ∷ others) =
    both (λ ty rest. record { name = local.name.name; pos = local.name.pos; ty = ty; is_ghost = false; local = number } ∷ rest) (local_type env number) (variables_in env (suc number) others)

abbrev pub target_of : Environment → ℕ → Pos → Option Meaning → Option typed_stmt.Target
target_of env name pos (Some (TheLocal local)) = only_if (not (keeps_its_value local.role)) (option_map (λ (ty : Ty). record { local = local.number; name = name; pos = pos; ty = ty }) (local_type env local.number))
target_of env name pos meaning = None

abbrev pub target_in : Environment → Expr → Option typed_stmt.Target
target_in env (Name ident) = target_of env ident.name ident.pos (meaning_of env ident.name)
target_in env e = None

abbrev pub targets_in : Environment → List Expr → Option (List typed_stmt.Target)
targets_in env [] = Some []
targets_in env (e ∷ others) = both (λ one rest. one ∷ rest) (target_in env e) (targets_in env others)

abbrev pub returned_in : Environment → Pos → List Local → Option (List typed_stmt.Target)
returned_in env pos [] = Some []
returned_in env pos (result ∷ others) = both (λ ty rest. record { local = result.number; name = result.name; pos = pos; ty = ty } ∷ rest) (local_type env result.number) (returned_in env pos others)

-- ---- statements

abbrev pub condition_in : Environment → Expr → Option typed_stmt.Clause
condition_in env e = both (λ pos condition. record { pos = pos; condition = condition }) (beginning_of e) (truth_in env e)

abbrev pub conditions_in : Environment → List Expr → Option (List typed_stmt.Clause)
conditions_in env [] = Some []
conditions_in env (e ∷ others) = both (λ one rest. one ∷ rest) (condition_in env e) (conditions_in env others)

abbrev pub measure_of : Typed → typed_stmt.Measure
measure_of one = record { ty = one.0; value = one.1 }

abbrev pub measures_of : Environment → List Expr → Option (List typed_stmt.Measure)
measures_of env [] = Some []
measures_of env (e ∷ others) = both (λ one rest. one ∷ rest) (option_map measure_of (expr_in env None e)) (measures_of env others)

abbrev pub may_decrease : Bool → Environment → List Clause → Option (Option (List typed_stmt.Measure))
may_decrease false env clauses = Some None
may_decrease true env clauses = option_map Some (measures_of env (measures_in clauses))

abbrev pub decreases_in : Environment → List Clause → Option (Option (List typed_stmt.Measure))
decreases_in env clauses = may_decrease (list_any is_decreases clauses) env clauses

abbrev pub printed_of : Typed → typed_stmt.Operand
printed_of one = typed_stmt.Value one.0 one.1

abbrev pub printed_in : Environment → PrintOperand → Option typed_stmt.Operand
printed_in env (Text characters) = Some (typed_stmt.Text characters)
printed_in env (Value e) = option_map printed_of (expr_in env None e)

abbrev pub all_printed_in : Environment → List PrintOperand → Option (List typed_stmt.Operand)
all_printed_in env [] = Some []
all_printed_in env (operand ∷ others) = both (λ one rest. one ∷ rest) (printed_in env operand) (all_printed_in env others)

abbrev pub whole_in : Environment → Expr → Option typed_stmt.Stmt
whole_in env (Call callee arguments) = option_map (λ (call : Called). typed_stmt.CallOf call.0) (call_in env callee arguments)
whole_in env e = None

abbrev mutual
  pub stmt_in : Environment → Statement → Option typed_stmt.Stmt
  stmt_in env (Nested pos body) = option_map (typed_stmt.Block pos) (stmts_in (enter env) body)
  stmt_in env (Var pos locals values) = bind (variables_in env env.next locals) (λ variables. option_map (typed_stmt.Var pos variables) (update_in env (map as_target variables) values))
  stmt_in env (Assign targets values) =
      bind (beginning_of_first targets) (λ pos. bind (targets_in env targets) (λ places.
      option_map (λ (sources : List typed_stmt.Source). typed_stmt.Assign pos (record { targets = places; sources = sources })) (sources_in env (types_of_targets places) values)))
  stmt_in env (Expression value) = whole_in env value
  stmt_in env (If pos guard opens body others last) =
      let first = past env (locals_in_all body) in
      bind (truth_in env guard) (λ condition. bind (stmts_in (enter env) body) (λ inner. bind (branches_in first others) (λ rest.
      option_map (typed_stmt.If (typed_stmt.branch pos condition inner rest)) (otherwise_in (past first (locals_in_branches others)) last))))
  stmt_in env (While pos guard clauses opens body) =
      bind (truth_in env guard) (λ condition. bind (conditions_in env (conditions_of conditions.Invariant clauses)) (λ invariants. bind (decreases_in env clauses) (λ decreases.
      only_if (list_all (belongs OfLoop) clauses && (list_any is_decreases clauses || has_measure env guard))
      (option_map (typed_stmt.While pos condition invariants decreases) (stmts_in (inside_loop (enter env)) body)))))
  stmt_in env (Return pos values) = bind (returned_in env pos env.results) (λ targets. option_map (typed_stmt.Return pos) (update_in env targets values))
  stmt_in env (Break pos) = only_if env.in_loop (Some (typed_stmt.Break pos))
  stmt_in env (Assert pos condition) = option_map (typed_stmt.Assert pos) (truth_in env condition)
  stmt_in env (Print pos operands) = option_map (typed_stmt.Print pos) (all_printed_in env operands)

  pub stmts_in : Environment → Statements → Option typed_stmt.Stmts
  stmts_in env done = Some typed_stmt.done
  stmts_in env (next statement others) = both typed_stmt.next (stmt_in env statement) (stmts_in (behind env statement) others)

  pub branches_in : Environment → Branches → Option typed_stmt.Branches
  branches_in env file.end = Some typed_stmt.no_branch
  branches_in env (file.more pos guard opens body others) =
      bind (truth_in env guard) (λ condition. both (typed_stmt.branch pos condition) (stmts_in (enter env) body) (branches_in (past env (locals_in_all body)) others))

  pub otherwise_in : Environment → Otherwise → Option typed_stmt.Stmts
  otherwise_in env without = Some typed_stmt.done
  otherwise_in env (otherwise opens body) = stmts_in (enter env) body

-- ---- declarations

abbrev pub declared_in : List (List ℕ) → Ident → Option types_of.Declared
declared_in names ident = option_map (λ (text : List ℕ). record { name = ident.name; text = text; pos = ident.pos }) (slice_get names ident.name)

abbrev pub param_in : List (List ℕ) → Table → Parameter → Option program.Param
param_in names table tree = both (λ declared ty. record { declared = declared; ty = ty; is_ghost = false }) (declared_in names tree.name) (type_of table.newtypes tree.ty)

abbrev pub params_in : List (List ℕ) → Table → List Parameter → Option (List program.Param)
params_in names table [] = Some []
params_in names table (tree ∷ others) = both (λ one rest. one ∷ rest) (param_in names table tree) (params_in names table others)

abbrev pub method_in : List (List ℕ) → Table → MethodDeclaration → Option program.Method
method_in names table tree =
    only_if (list_all (belongs OfMethod) tree.clauses)
    (bind (declared_in names tree.name) (λ declared.
    bind (params_in names table tree.parameters) (λ parameters.
    bind (params_in names table (results_of tree)) (λ results.
    bind (conditions_in (over_parameters table tree) (conditions_of conditions.Requires tree.clauses)) (λ pre.
    bind (conditions_in (over_both table tree) (conditions_of conditions.Ensures tree.clauses)) (λ post.
    bind (decreases_in (over_parameters table tree) tree.clauses) (λ decreases.
    option_map (λ (body : typed_stmt.Stmts). record {
      declared = declared;
      parameters = parameters;
      results = results;
      preconditions = pre;
      postconditions = post;
      decreases = decreases;
      pos = tree.body.pos;
      body = body;
    }) (stmts_in (over_body table tree) tree.body.statements))))))))

abbrev pub newtype_in : List (List ℕ) → NewtypeDeclaration → Option types_of.Newtype
newtype_in names tree = both (λ declared bounds. record { declared = declared; low = bounds.low; high = bounds.high; default = bounds.default }) (declared_in names tree.name) (bounds_of tree)

abbrev pub decl_in : List (List ℕ) → Table → Declaration → Option program.Decl
decl_in names table (Newtype x) = option_map program.NewtypeDecl (newtype_in names x)
decl_in names table (Method x) = option_map program.MethodDecl (method_in names table x)

abbrev pub decls_in : List (List ℕ) → Table → List Declaration → Option (List program.Decl)
decls_in names table [] = Some []
decls_in names table (tree ∷ others) = both (λ one rest. one ∷ rest) (decl_in names table tree) (decls_in names table others)

abbrev pub program_in : List (List ℕ) → File → Option program.Program
program_in names tree = option_map (λ (decls : List program.Decl). record { decls = decls }) (decls_in names (table_of tree) tree.declarations)
