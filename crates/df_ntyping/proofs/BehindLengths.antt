-- There is one that fixes a type for each local that is declared.
use Rattle.std.proofs.Common.{◌≡◌, suc, ◌+◌, List, [], ◌∷◌, ◌++◌, length, Option, refl, ap, arith, length-append}
use Rattle.std.specs.List.{flat_map}
use Rattle.df_lang.specs.declared.ty.Ty.{Ty}
use Rattle.df_ntree.specs.declared.file.Local as declared_local
use Rattle.df_ntree.specs.Expr.{Expr}
use Rattle.df_ntree.specs.File as file
use Rattle.df_ntree.specs.File.{Statement, Nested, Var, Assign, Expression, If, While, Return, Break, Assert, Print, Statements, done, next, Branches, Otherwise, without, otherwise}
use Rattle.df_ntyping.specs.Environment.{Environment, enter, past, behind, locals_in, locals_in_all, locals_in_branches, locals_in_otherwise}
use Rattle.df_ntyping.specs.LocalTypes.{names_in, used_names, used, other_types, types_of_values, used_inside, inferred_all, used_in_clause, used_in_operand, over, inferred_behind, inferred_behind_all, inferred_behind_branches, inferred_behind_otherwise}
use Rattle.df_ntyping.proofs.WholeTypes.{names_length, takens_length}

declared_length : (env : Environment) (locals : List declared_local.Local) (values : List Expr) (types : List (Option Ty)) → length (inferred_all env locals values types) ≡ length locals
declared_length env [] values types = refl
declared_length env (local ∷ others) values types = ap suc (declared_length env others values (other_types types))

pub used_length : (env : Environment) (es : List Expr) → length (used env es) ≡ length env.types
used_length env es = names_length env (flat_map names_in es) env.types

mutual
  pub behind_length : (env : Environment) (s : Statement) → length (inferred_behind env s) ≡ length env.types + locals_in s
  behind_length env (Nested pos body) = all_behind_length (enter env) body
  behind_length env (Var pos locals values) =
      omega (arith, length-append (used env values) (inferred_all env locals values (types_of_values env values)), used_length env values, declared_length env locals values (types_of_values env values))
  behind_length env (Assign targets values) =
      let names = flat_map used_inside targets ++ flat_map names_in values in
      omega (arith, takens_length env targets (types_of_values env values) (used_names env names env.types), names_length env names env.types)
  behind_length env (Expression value) = omega (arith, used_length env (value ∷ []))
  behind_length env (If pos guard opens body others last) =
      let inside = over (enter env) (used env (guard ∷ [])) in
      let first = over (past env (locals_in_all body)) (inferred_behind_all inside body) in
      omega (
        arith,
        used_length env (guard ∷ []),
        all_behind_length inside body,
        branches_behind_length first others,
        otherwise_behind_length (over (past first (locals_in_branches others)) (inferred_behind_branches first others)) last,
      )
  behind_length env (While pos guard clauses opens body) =
      let names = names_in guard ++ flat_map used_in_clause clauses in
      omega (arith, names_length env names env.types, all_behind_length (over (enter env) (used_names env names env.types)) body)
  behind_length env (Return pos values) = omega (arith, used_length env values)
  behind_length env (Break pos) = omega arith
  behind_length env (Assert pos condition) = omega (arith, used_length env (condition ∷ []))
  behind_length env (Print pos operands) = omega (arith, names_length env (flat_map used_in_operand operands) env.types)

  pub all_behind_length : (env : Environment) (s : Statements) → length (inferred_behind_all env s) ≡ length env.types + locals_in_all s
  all_behind_length env done = omega arith
  all_behind_length env (next statement others) = omega (arith, behind_length env statement, all_behind_length (over (behind env statement) (inferred_behind env statement)) others)

  pub branches_behind_length : (env : Environment) (branches : Branches) → length (inferred_behind_branches env branches) ≡ length env.types + locals_in_branches branches
  branches_behind_length env file.end = omega arith
  branches_behind_length env (file.more pos guard opens body others) =
      let inside = over (enter env) (used env (guard ∷ [])) in
      let first = over (past env (locals_in_all body)) (inferred_behind_all inside body) in
      omega (arith, used_length env (guard ∷ []), all_behind_length inside body, branches_behind_length first others)

  otherwise_behind_length : (env : Environment) (last : Otherwise) → length (inferred_behind_otherwise env last) ≡ length env.types + locals_in_otherwise last
  otherwise_behind_length env without = omega arith
  otherwise_behind_length env (otherwise opens body) = all_behind_length (enter env) body
