-- Nothing that a method elaborates to is marked as a ghost.
use Rattle.std.proofs.Common.{◌≡◌, ℕ, suc, true, List, [], ◌∷◌, refl}
use Rattle.df_lang.specs.Stmt as typed
use Rattle.df_lang.specs.Marks.{are_unmarked_variables, are_unmarked_params, is_unmarked, are_unmarked, are_unmarked_branches, has_no_ghost}
use Rattle.df_lang.specs.Program as program
use Rattle.df_ntree.specs.declared.file.Local as declared_local
use Rattle.df_ntree.specs.declared.file.Parameter.{Parameter}
use Rattle.df_ntree.specs.Expr.{Expr, Call}
use Rattle.df_ntree.specs.File as file
use Rattle.df_ntree.specs.File.{Statement, Nested, Var, Assign, Expression, If, While, Return, Break, Assert, Print, Statements, done, next, Branches, Otherwise, without, otherwise, MethodDeclaration}
use Rattle.df_ntyping.specs.Table.{Table, results_of}
use Rattle.df_ntyping.specs.Environment.{Environment, enter, inside_loop, past, behind, locals_in_all, locals_in_branches}
use Rattle.df_ntyping.specs.StatementElaboration.{AreVariables, IsWhole, IsStatement, AreStatements, AreBranches, IsOtherwise}
use Rattle.df_ntyping.specs.FileNodes.{over_body}
use Rattle.df_ntyping.specs.FileElaboration.{AreParameters, IsMethod}

variables_unmarked : (env : Environment) (number : ℕ) (declared : List declared_local.Local) (variables : List typed.Variable) → AreVariables env number declared variables → are_unmarked_variables variables ≡ true
variables_unmarked env number [] variables h = rw h refl
variables_unmarked env number (local ∷ others) variables (ty, rest, is, hs, q) = rw q (variables_unmarked env (suc number) others rest hs)

params_unmarked : (names : List (List ℕ)) (table : Table) (trees : List Parameter) (params : List program.Param) → AreParameters names table trees params → are_unmarked_params params ≡ true
params_unmarked names table [] params h = rw h refl
params_unmarked names table (tree ∷ others) params (declared, ty, rest, d, is, hs, q) = rw q (params_unmarked names table others rest hs)

whole_unmarked : (env : Environment) (e : Expr) (stmt : typed.Stmt) → IsWhole env e stmt → is_unmarked stmt ≡ true
whole_unmarked env (Call callee arguments) stmt (signature, call, h, q) = rw q refl
whole_unmarked env e stmt h = absurd h

mutual
  stmt_unmarked : (env : Environment) (s : Statement) (stmt : typed.Stmt) → IsStatement env s stmt → is_unmarked stmt ≡ true
  stmt_unmarked env (Nested pos body) stmt (inner, h, q) = rw q (stmts_unmarked (enter env) body inner h)
  stmt_unmarked env (Var pos declared values) stmt (variables, update, h, u, q) = rw q (variables_unmarked env env.next declared variables h)
  stmt_unmarked env (Assign targets values) stmt (pos, all, sources, begins, h, hs, q) = rw q refl
  stmt_unmarked env (Expression value) stmt h = whole_unmarked env value stmt h
  stmt_unmarked env (If pos guard opens body others last) stmt (condition, inner, rest, final, h, b, bs, o, q) =
      let first = past env (locals_in_all body) in
      rw (q, stmts_unmarked (enter env) body inner b, branches_unmarked first others rest bs) (otherwise_unmarked (past first (locals_in_branches others)) last final o)
  stmt_unmarked env (While pos guard clauses opens body) stmt (condition, invariants, decreases, inner, h, belong, i, d, measured, b, q) = rw q (stmts_unmarked (inside_loop (enter env)) body inner b)
  stmt_unmarked env (Return pos values) stmt (targets, update, h, u, q) = rw q refl
  stmt_unmarked env (Break pos) stmt (loop, q) = rw q refl
  stmt_unmarked env (Assert pos condition) stmt (e, h, q) = rw q refl
  stmt_unmarked env (Print pos operands) stmt (all, h, q) = rw q refl

  stmts_unmarked : (env : Environment) (s : Statements) (stmts : typed.Stmts) → AreStatements env s stmts → are_unmarked stmts ≡ true
  stmts_unmarked env done stmts h = rw h refl
  stmts_unmarked env (next statement others) stmts (one, rest, h, hs, q) = rw (q, stmt_unmarked env statement one h) (stmts_unmarked (behind env statement) others rest hs)

  branches_unmarked : (env : Environment) (branches : Branches) (all : typed.Branches) → AreBranches env branches all → are_unmarked_branches all ≡ true
  branches_unmarked env file.end all h = rw h refl
  branches_unmarked env (file.more pos guard opens body others) all (condition, inner, rest, h, b, bs, q) =
      rw (q, stmts_unmarked (enter env) body inner b) (branches_unmarked (past env (locals_in_all body)) others rest bs)

  otherwise_unmarked : (env : Environment) (last : Otherwise) (stmts : typed.Stmts) → IsOtherwise env last stmts → are_unmarked stmts ≡ true
  otherwise_unmarked env without stmts h = rw h refl
  otherwise_unmarked env (otherwise opens body) stmts h = stmts_unmarked (enter env) body stmts h

pub method_unmarked : (names : List (List ℕ)) (table : Table) (tree : MethodDeclaration) (method : program.Method) → IsMethod names table tree method → has_no_ghost method ≡ true
method_unmarked names table tree method h =
    rw (params_unmarked names table tree.parameters method.parameters h.parameters, params_unmarked names table (results_of tree) method.results h.results)
    (stmts_unmarked (over_body table tree) tree.body.statements method.body h.body)
