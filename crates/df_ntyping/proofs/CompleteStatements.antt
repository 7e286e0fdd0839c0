-- What a file elaborates to is computed: so it elaborates to at most one program.
use Rattle.std.proofs.Common.{◌≡◌, ℕ, suc, Bool, true, false, List, [], ◌∷◌, Option, Some, None, refl, sym, ap, ◌∙◌}
use Rattle.std.specs.Prelude.{map, unwrap_or}
use Rattle.std.specs.List.{list_any}
use Rattle.df_base.specs.declared.pos.Pos.{Pos}
use Rattle.df_lang.specs.declared.ty.Ty.{Ty}
use Rattle.df_lang.specs.declared.ty.Ty.TheVariants as types
use Rattle.df_lang.specs.Newtype as newtypes
use Rattle.df_lang.specs.Expr as typed
use Rattle.df_lang.specs.Stmt as typed_stmt
use Rattle.df_lang.specs.Program as program
use Rattle.df_ntree.specs.declared.tree.Ident.{Ident}
use Rattle.df_ntree.specs.declared.file.Local as declared_local
use Rattle.df_ntree.specs.declared.file.Parameter.{Parameter}
use Rattle.df_ntree.specs.declared.file.ConditionKind.TheVariants as conditions
use Rattle.df_ntree.specs.Expr.{Expr, Name, Call, Arguments, no_more, argument}
use Rattle.df_ntree.specs.File as file
use Rattle.df_ntree.specs.File.{Clause, PrintOperand, Text, Value, Statement, Nested, Var, Assign, Expression, If, While, Return, Break, Assert, Print, Statements, done, next, Branches, Otherwise, without, otherwise, Declaration, Newtype, Method, File, NewtypeDeclaration, MethodDeclaration}
use Rattle.df_ntyping.specs.Table.{Signature, Table, table_of, results_of}
use Rattle.df_ntyping.specs.Environment.{Environment, Local, enter, inside_loop, past, behind, locals_in_all, locals_in_branches}
use Rattle.df_ntyping.specs.ExprElaboration.{ElaboratesAt, ElaboratesTruth}
use Rattle.df_ntyping.specs.SideElaboration.{IsCall, AreArguments, AreResults, IsSource, AreApart, AreSources, IsTarget, AreTargets, AreReturned, types_of_targets}
use Rattle.df_ntyping.specs.StatementElaboration.{as_target, AreVariables, MayUpdate, AreConditions, measures_in, AreMeasures, MayDecrease, IsOperand, AreOperands, IsWhole, IsStatement, AreStatements, AreBranches, IsOtherwise, conditions_of}
use Rattle.df_ntyping.specs.FileNodes.{over_parameters, over_both, over_body}
use Rattle.df_ntyping.specs.FileElaboration.{IsDeclared, IsNewtype, AreParameters, IsMethod, IsDeclaration, AreDeclarations, ElaboratesFile}
use Rattle.df_ntyping.specs.Laws.{OneProgram}
use Rattle.df_ntyping.specs.rules.Loops.{is_decreases}
use Rattle.df_ntyping.proofs.Elaborated.{expr_at, truth_in, arguments_in, call_in, results_in, source_in, apart_in, sources_in, update_in, variables_in, target_in, targets_in, returned_in, conditions_in, measures_of, may_decrease, printed_in, all_printed_in, whole_in, stmt_in, stmts_in, branches_in, otherwise_in, declared_in, params_in, method_in, newtype_in, decl_in, decls_in, program_in}
use Rattle.df_ntyping.proofs.Complete.{converts, complete}

-- ---- values

at_complete : (env : Environment) (place : Ty) (e : Expr) (t : typed.Expr) → ElaboratesAt env place e t → expr_at env place e ≡ Some t
at_complete env place e t (source, inner, h, fits, conversion) = rw (complete env (Some place) e source inner h, fits) (converts source place e inner t conversion)

truth_complete : (env : Environment) (e : Expr) (t : typed.Expr) → ElaboratesTruth env e t → truth_in env e ≡ Some t
truth_complete env e t h = rw (complete env None e types.Bool t h) refl

-- ---- sides

arguments_complete : (env : Environment) (parameters : List (Option Ty)) (arguments : Arguments) (all : List typed.Expr) → AreArguments env parameters arguments all → arguments_in env parameters arguments ≡ Some all
arguments_complete env [] no_more all h = rw h refl
arguments_complete env [] (argument e rest) all h = absurd h
arguments_complete env (parameter ∷ parameters) no_more all h = absurd h
arguments_complete env (parameter ∷ parameters) (argument e rest) all (ty, one, others, known, h, hs, q) =
    rw (known, at_complete env ty e one h, arguments_complete env parameters rest others hs, q) refl

call_complete : (env : Environment) (callee : Expr) (arguments : Arguments) (signature : Signature) (call : typed_stmt.Call)
    → IsCall env callee arguments signature call → call_in env callee arguments ≡ Some (call, signature.results)
call_complete env (Name ident) arguments signature call (id, all, means, hs, q) = rw (means, arguments_complete env signature.parameters arguments all hs, q) refl
call_complete env callee arguments signature call h = absurd h

results_complete : (results : List (Option Ty)) (places : List Ty) (all : List typed_stmt.Conversion) → AreResults results places all → results_in results places ≡ Some all
results_complete [] [] all h = rw h refl
results_complete [] (place ∷ places) all h = absurd h
results_complete (result ∷ results) [] all h = absurd h
results_complete (result ∷ results) (place ∷ places) all (source, others, known, fits, hs, q) = rw (known, fits, results_complete results places others hs, q) refl

source_complete : (env : Environment) (places : List Ty) (e : Expr) (source : typed_stmt.Source) → IsSource env places e source → source_in env places e ≡ Some source
source_complete env places (Call callee arguments) source h =
    rw (call_complete env callee arguments h.0 h.1 h.3, results_complete h.0.results places h.2 h.4, h.5) refl
source_complete env (place ∷ []) e source h = rw (at_complete env place e h.0 h.1, h.2) refl
source_complete env [] e source h = absurd h
source_complete env (place ∷ other ∷ places) e source h = absurd h

apart_complete : (env : Environment) (places : List Ty) (values : List Expr) (sources : List typed_stmt.Source) → AreApart env places values sources → apart_in env places values ≡ Some sources
apart_complete env [] [] sources h = rw h refl
apart_complete env [] (value ∷ values) sources h = absurd h
apart_complete env (place ∷ places) [] sources h = absurd h
apart_complete env (place ∷ places) (value ∷ values) sources (one, others, h, hs, q) =
    rw (source_complete env (place ∷ []) value one h, apart_complete env places values others hs, q) refl

sources_complete : (env : Environment) (places : List Ty) (values : List Expr) (sources : List typed_stmt.Source) → AreSources env places values sources → sources_in env places values ≡ Some sources
sources_complete env places (value ∷ []) sources (one, h, q) = rw (source_complete env places value one h, q) refl
sources_complete env places [] sources h = apart_complete env places [] sources h
sources_complete env places (value ∷ other ∷ values) sources h = apart_complete env places (value ∷ other ∷ values) sources h

update_complete : (env : Environment) (targets : List typed_stmt.Target) (values : List Expr) (update : Option typed_stmt.Update) → MayUpdate env targets values update → update_in env targets values ≡ Some update
update_complete env targets [] update h = rw h refl
update_complete env targets (value ∷ values) update (sources, h, q) = rw (sources_complete env (types_of_targets targets) (value ∷ values) sources h, q) refl

target_complete : (env : Environment) (e : Expr) (target : typed_stmt.Target) → IsTarget env e target → target_in env e ≡ Some target
target_complete env (Name ident) target (local, ty, means, keeps, known, q) = rw (means, keeps, known, q) refl
target_complete env e target h = absurd h

targets_complete : (env : Environment) (es : List Expr) (targets : List typed_stmt.Target) → AreTargets env es targets → targets_in env es ≡ Some targets
targets_complete env [] targets h = rw h refl
targets_complete env (e ∷ others) targets (one, rest, h, hs, q) = rw (target_complete env e one h, targets_complete env others rest hs, q) refl

returned_complete : (env : Environment) (pos : Pos) (results : List Local) (targets : List typed_stmt.Target) → AreReturned env pos results targets → returned_in env pos results ≡ Some targets
returned_complete env pos [] targets h = rw h refl
returned_complete env pos (result ∷ others) targets (ty, rest, known, hs, q) = rw (known, returned_complete env pos others rest hs, q) refl

variables_complete : (env : Environment) (number : ℕ) (locals : List declared_local.Local) (variables : List typed_stmt.Variable) → AreVariables env number locals variables → variables_in env number locals ≡ Some variables
variables_complete env number [] variables h = rw h refl
variables_complete env number (local ∷ others) variables (ty, rest, known, hs, q) = rw (known, variables_complete env (suc number) others rest hs, q) refl

-- ---- clauses, operands

conditions_complete : (env : Environment) (es : List Expr) (clauses : List typed_stmt.Clause) → AreConditions env es clauses → conditions_in env es ≡ Some clauses
conditions_complete env [] clauses h = rw h refl
conditions_complete env (e ∷ others) clauses (pos, condition, rest, begins, h, hs, q) = rw (begins, truth_complete env e condition h, conditions_complete env others rest hs, q) refl

measures_complete : (env : Environment) (es : List Expr) (measures : List typed_stmt.Measure) → AreMeasures env es measures → measures_of env es ≡ Some measures
measures_complete env [] measures h = rw h refl
measures_complete env (e ∷ others) measures (ty, value, rest, h, hs, q) = rw (complete env None e ty value h, measures_complete env others rest hs, q) refl

decreases_complete : (b : Bool) (env : Environment) (clauses : List Clause) (decreases : Option (List typed_stmt.Measure)) → MayDecrease b env clauses decreases → may_decrease b env clauses ≡ Some decreases
decreases_complete false env clauses decreases h = rw h refl
decreases_complete true env clauses decreases (measures, h, q) = rw (measures_complete env (measures_in clauses) measures h, q) refl

printed_complete : (env : Environment) (operand : PrintOperand) (one : typed_stmt.Operand) → IsOperand env operand one → printed_in env operand ≡ Some one
printed_complete env (Text characters) one h = rw h refl
printed_complete env (Value e) one (ty, value, h, q) = rw (complete env None e ty value h, q) refl

all_printed_complete : (env : Environment) (operands : List PrintOperand) (all : List typed_stmt.Operand) → AreOperands env operands all → all_printed_in env operands ≡ Some all
all_printed_complete env [] all h = rw h refl
all_printed_complete env (operand ∷ others) all (one, rest, h, hs, q) = rw (printed_complete env operand one h, all_printed_complete env others rest hs, q) refl

whole_complete : (env : Environment) (e : Expr) (stmt : typed_stmt.Stmt) → IsWhole env e stmt → whole_in env e ≡ Some stmt
whole_complete env (Call callee arguments) stmt (signature, call, h, q) = rw (call_complete env callee arguments signature call h, q) refl
whole_complete env e stmt h = absurd h

-- ---- statements

mutual
  stmt_complete : (env : Environment) (statement : Statement) (stmt : typed_stmt.Stmt) → IsStatement env statement stmt → stmt_in env statement ≡ Some stmt
  stmt_complete env (Nested pos body) stmt (inner, hs, q) = rw (stmts_complete (enter env) body inner hs, q) refl
  stmt_complete env (Var pos locals values) stmt (variables, update, h, u, q) =
      rw (variables_complete env env.next locals variables h, update_complete env (map as_target variables) values update u, q) refl
  stmt_complete env (Assign targets values) stmt (pos, all, sources, begins, h, hs, q) =
      rw (begins, targets_complete env targets all h, sources_complete env (types_of_targets all) values sources hs, q) refl
  stmt_complete env (Expression value) stmt h = whole_complete env value stmt h
  stmt_complete env (If pos guard opens body others last) stmt (condition, inner, rest, final, h, b, bs, o, q) =
      let first = past env (locals_in_all body) in
      rw (truth_complete env guard condition h, stmts_complete (enter env) body inner b, branches_complete first others rest bs, otherwise_complete (past first (locals_in_branches others)) last final o, q) refl
  stmt_complete env (While pos guard clauses opens body) stmt (condition, invariants, decreases, inner, h, belong, i, d, measured, b, q) =
      rw (
        truth_complete env guard condition h,
        conditions_complete env (conditions_of conditions.Invariant clauses) invariants i,
        decreases_complete (list_any is_decreases clauses) env clauses decreases d,
        belong,
        measured,
        stmts_complete (inside_loop (enter env)) body inner b,
        q,
      ) refl
  stmt_complete env (Return pos values) stmt (targets, update, h, u, q) = rw (returned_complete env pos env.results targets h, update_complete env targets values update u, q) refl
  stmt_complete env (Break pos) stmt (loop, q) = rw (loop, q) refl
  stmt_complete env (Assert pos condition) stmt (e, h, q) = rw (truth_complete env condition e h, q) refl
  stmt_complete env (Print pos operands) stmt (all, h, q) = rw (all_printed_complete env operands all h, q) refl

  stmts_complete : (env : Environment) (statements : Statements) (stmts : typed_stmt.Stmts) → AreStatements env statements stmts → stmts_in env statements ≡ Some stmts
  stmts_complete env done stmts h = rw h refl
  stmts_complete env (next statement others) stmts (one, rest, h, hs, q) = rw (stmt_complete env statement one h, stmts_complete (behind env statement) others rest hs, q) refl

  branches_complete : (env : Environment) (branches : Branches) (typed_branches : typed_stmt.Branches) → AreBranches env branches typed_branches → branches_in env branches ≡ Some typed_branches
  branches_complete env file.end branches h = rw h refl
  branches_complete env (file.more pos guard opens body others) branches (condition, inner, rest, h, b, bs, q) =
      rw (truth_complete env guard condition h, stmts_complete (enter env) body inner b, branches_complete (past env (locals_in_all body)) others rest bs, q) refl

  otherwise_complete : (env : Environment) (last : Otherwise) (stmts : typed_stmt.Stmts) → IsOtherwise env last stmts → otherwise_in env last ≡ Some stmts
  otherwise_complete env without stmts h = rw h refl
  otherwise_complete env (otherwise opens body) stmts h = stmts_complete (enter env) body stmts h

-- ---- declarations

declared_complete : (names : List (List ℕ)) (ident : Ident) (declared : newtypes.Declared) → IsDeclared names ident declared → declared_in names ident ≡ Some declared
declared_complete names ident declared (text, has, q) = rw (has, q) refl

params_complete : (names : List (List ℕ)) (table : Table) (trees : List Parameter) (params : List program.Param) → AreParameters names table trees params → params_in names table trees ≡ Some params
params_complete names table [] params h = rw h refl
params_complete names table (tree ∷ others) params (declared, ty, rest, d, known, hs, q) = rw (declared_complete names tree.name declared d, known, params_complete names table others rest hs, q) refl

newtype_complete : (names : List (List ℕ)) (tree : NewtypeDeclaration) (newtype : newtypes.Newtype) → IsNewtype names tree newtype → newtype_in names tree ≡ Some newtype
newtype_complete names tree newtype h = rw (declared_complete names tree.name newtype.declared h.declared, h.bounds) refl

method_complete : (names : List (List ℕ)) (table : Table) (tree : MethodDeclaration) (method : program.Method) → IsMethod names table tree method → method_in names table tree ≡ Some method
method_complete names table tree method h =
    rw (
      h.clauses,
      declared_complete names tree.name method.declared h.declared,
      params_complete names table tree.parameters method.parameters h.parameters,
      params_complete names table (results_of tree) method.results h.results,
      conditions_complete (over_parameters table tree) (conditions_of conditions.Requires tree.clauses) method.preconditions h.preconditions,
      conditions_complete (over_both table tree) (conditions_of conditions.Ensures tree.clauses) method.postconditions h.postconditions,
      decreases_complete (list_any is_decreases tree.clauses) (over_parameters table tree) tree.clauses method.decreases h.decreases,
      stmts_complete (over_body table tree) tree.body.statements method.body h.body,
      ← h.pos,
    ) refl

decl_complete : (names : List (List ℕ)) (table : Table) (tree : Declaration) (decl : program.Decl) → IsDeclaration names table tree decl → decl_in names table tree ≡ Some decl
decl_complete names table (Newtype tree) decl (newtype, h, q) = rw (newtype_complete names tree newtype h, q) refl
decl_complete names table (Method tree) decl (method, h, q) = rw (method_complete names table tree method h, q) refl

decls_complete : (names : List (List ℕ)) (table : Table) (trees : List Declaration) (decls : List program.Decl) → AreDeclarations names table trees decls → decls_in names table trees ≡ Some decls
decls_complete names table [] decls h = rw h refl
decls_complete names table (tree ∷ others) decls (one, rest, h, hs, q) = rw (decl_complete names table tree one h, decls_complete names table others rest hs, q) refl

program_complete : (names : List (List ℕ)) (tree : File) (one : program.Program) → ElaboratesFile names tree one → program_in names tree ≡ Some one
program_complete names tree one h = rw (decls_complete names (table_of tree) tree.declarations one.decls h.declarations) refl

-- the value, or this one
program_or : program.Program → Option program.Program → program.Program
program_or one o = unwrap_or o one

pub one_program : OneProgram
unfolding program_or
one_program names tree one other h k =
    let same = sym (program_complete names tree one h) ∙ program_complete names tree other k in
    ap (program_or one) same
