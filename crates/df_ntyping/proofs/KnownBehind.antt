-- What fixes the types of a method's locals fixes types of the program.
use Rattle.std.proofs.Common.{◌≡◌, ℕ, zero, suc, List, [], ◌∷◌, ◌++◌, Option, Some, None, refl}
use Rattle.std.specs.Prelude.{map}
use Rattle.std.specs.List.{flat_map}
use Rattle.df_lemmas.proofs.Alls.{all_joined}
use Rattle.df_lang.specs.declared.ty.Ty.{Ty}
use Rattle.df_lang.specs.Program.{Program}
use Rattle.df_ntree.specs.declared.expr.TreeType.{TreeType}
use Rattle.df_ntree.specs.declared.file.Local as declared_local
use Rattle.df_ntree.specs.declared.file.Parameter.{Parameter}
use Rattle.df_ntree.specs.Expr.{Expr, Name, Call}
use Rattle.df_ntree.specs.File as file
use Rattle.df_ntree.specs.File.{Statement, Nested, Var, Assign, Expression, If, While, Return, Break, Assert, Print, Statements, done, next, Branches, Otherwise, without, otherwise}
use Rattle.df_ntyping.specs.Table.{Signature}
use Rattle.df_ntyping.specs.Environment.{Inferred, Open, Used, Fixed, Environment, enter, past, behind, locals_in_all, locals_in_branches}
use Rattle.df_ntyping.specs.Meaning.{Meaning, TheLocal, TheMethod, meaning_of, called_signature}
use Rattle.df_ntyping.specs.LocalTypes.{names_in, if_open, at_number, fix_meaning, used_names, used, types_of_value, next_type, other_types, types_of_values, used_inside, taken, taken_all, inferred_of, inferred_all, used_in_clause, used_in_operand, over, inferred_behind, inferred_behind_all, inferred_behind_branches, inferred_behind_otherwise, fixed_by}
use Rattle.df_ntyping.proofs.WellTyped.{Valid, AllValid, none_valid, type_valid}
use Rattle.df_ntyping.proofs.KnownTypes.{TableHolds, IsKnown, AllKnown, called_valid, type_known}
use Rattle.df_ntyping.proofs.SameBehind.{table_behind}

-- ---- lists

nothing : {program : Program} → AllKnown program []
nothing = record { each = tt }

with : {program : Program} {one : Inferred} {others : List Inferred} → IsKnown program one → AllKnown program others → AllKnown program (one ∷ others)
with h k = record { each = (h, k.each) }

pub joined : {program : Program} {xs ys : List Inferred} → AllKnown program xs → AllKnown program ys → AllKnown program (xs ++ ys)
joined {program} {xs} {ys} h k = record { each = all_joined (IsKnown program) xs ys h.each k.each }

-- ---- one local

open_known : (program : Program) (one fixing : Inferred) → IsKnown program one → IsKnown program fixing → IsKnown program (if_open (Some one) fixing)
open_known program Open fixing h k = k
open_known program Used fixing h k = h
open_known program (Fixed ty) fixing h k = h

number_known : (program : Program) (number : ℕ) (fixing : Inferred) (all : List Inferred) → IsKnown program fixing → AllKnown program all → AllKnown program (at_number number fixing all)
number_known program number fixing [] h k = k
number_known program zero fixing (one ∷ others) h k = with (open_known program one fixing k.each.0 h) (record { each = k.each.1 })
number_known program (suc number) fixing (one ∷ others) h k = with k.each.0 (number_known program number fixing others h (record { each = k.each.1 }))

meaning_known : (program : Program) (meaning : Option Meaning) (fixing : Inferred) (all : List Inferred) → IsKnown program fixing → AllKnown program all → AllKnown program (fix_meaning meaning fixing all)
meaning_known program (Some (TheLocal local)) fixing all h k = number_known program local.number fixing all h k
meaning_known program (Some (TheMethod id signature)) fixing all h k = k
meaning_known program None fixing all h k = k

names_known : (program : Program) (env : Environment) (names : List ℕ) (all : List Inferred) → AllKnown program all → AllKnown program (used_names env names all)
names_known program env [] all k = k
names_known program env (name ∷ others) all k = names_known program env others (fix_meaning (meaning_of env name) Used all) (meaning_known program (meaning_of env name) Used all (none_valid program) k)

pub used_known : (program : Program) (env : Environment) (es : List Expr) → AllKnown program env.types → AllKnown program (used env es)
used_known program env es k = names_known program env (flat_map names_in es) env.types k

-- ---- values

results_known : (program : Program) (called : Option Signature) → ((signature : Signature) → called ≡ Some signature → AllValid program signature.results) → AllValid program (elim called [ Some signature ↦ signature.results | None ↦ [] ])
unfolding AllValid
results_known program (Some signature) h = h signature refl
results_known program None h = tt

value_known : (program : Program) (env : Environment) (e : Expr) → TableHolds program env.table → AllKnown program env.types → AllValid program (types_of_value env e)
unfolding AllValid
value_known program env (Call callee arguments) t k = results_known program (called_signature env callee) (λ signature p. called_valid program env callee signature t p)
value_known program env e t k = (type_known program env e t k, tt)

next_known : (program : Program) (all : List (Option Ty)) → AllValid program all → Valid program (next_type all)
unfolding AllValid
next_known program [] h = none_valid program
next_known program (ty ∷ others) h = h.0

others_known : (program : Program) (all : List (Option Ty)) → AllValid program all → AllValid program (other_types all)
unfolding AllValid
others_known program [] h = tt
others_known program (ty ∷ others) h = h.1

apart_known : (program : Program) (env : Environment) (values : List Expr) → TableHolds program env.table → AllKnown program env.types → AllValid program (map (λ (value : Expr). next_type (types_of_value env value)) values)
unfolding AllValid
apart_known program env [] t k = tt
apart_known program env (value ∷ others) t k = (next_known program (types_of_value env value) (value_known program env value t k), apart_known program env others t k)

values_known : (program : Program) (env : Environment) (values : List Expr) → TableHolds program env.table → AllKnown program env.types → AllValid program (types_of_values env values)
values_known program env (value ∷ []) t k = value_known program env value t k
values_known program env [] t k = apart_known program env [] t k
values_known program env (value ∷ other ∷ others) t k = apart_known program env (value ∷ other ∷ others) t k

taken_known : (program : Program) (env : Environment) (e : Expr) (ty : Option Ty) (all : List Inferred) → Valid program ty → AllKnown program all → AllKnown program (taken env e ty all)
taken_known program env (Name ident) ty all h k = meaning_known program (meaning_of env ident.name) (Fixed ty) all h k
taken_known program env e ty all h k = k

takens_known : (program : Program) (env : Environment) (targets : List Expr) (values : List (Option Ty)) (all : List Inferred) → AllValid program values → AllKnown program all → AllKnown program (taken_all env targets values all)
takens_known program env [] values all h k = k
takens_known program env (target ∷ others) values all h k =
    takens_known program env others (other_types values) (taken env target (next_type values) all) (others_known program values h) (taken_known program env target (next_type values) all (next_known program values h) k)

-- ---- declared locals

declared_known : (program : Program) (env : Environment) (ty : Option TreeType) (values : List Expr) (value : Option Ty) → TableHolds program env.table → Valid program value → IsKnown program (inferred_of env ty values value)
declared_known program env (Some ty) values value t h = type_valid program env ty t.newtypes
declared_known program env None [] value t h = none_valid program
declared_known program env None (e ∷ others) value t h = h

declareds_known : (program : Program) (env : Environment) (locals : List declared_local.Local) (values : List Expr) (all : List (Option Ty)) → TableHolds program env.table → AllValid program all
    → AllKnown program (inferred_all env locals values all)
declareds_known program env [] values all t h = nothing
declareds_known program env (local ∷ others) values all t h =
    with (declared_known program env local.ty values (next_type all) t (next_known program all h)) (declareds_known program env others values (other_types all) t (others_known program all h))

pub parameters_known : (program : Program) (env : Environment) (parameters : List Parameter) → TableHolds program env.table → AllKnown program (fixed_by env parameters)
parameters_known program env [] t = nothing
parameters_known program env (parameter ∷ others) t = with (type_valid program env parameter.ty t.newtypes) (parameters_known program env others t)

-- ---- statements

mutual
  behind_known : (program : Program) (env : Environment) (s : Statement) → TableHolds program env.table → AllKnown program env.types → AllKnown program (inferred_behind env s)
  behind_known program env (Nested pos body) t k = all_behind_known program (enter env) body t k
  behind_known program env (Var pos locals values) t k = joined (used_known program env values k) (declareds_known program env locals values (types_of_values env values) t (values_known program env values t k))
  behind_known program env (Assign targets values) t k =
      takens_known program env targets (types_of_values env values) _ (values_known program env values t k) (names_known program env (flat_map used_inside targets ++ flat_map names_in values) env.types k)
  behind_known program env (Expression value) t k = used_known program env (value ∷ []) k
  behind_known program env (If pos guard opens body others last) t k =
      let inside = all_behind_known program (over (enter env) (used env (guard ∷ []))) body t (used_known program env (guard ∷ []) k) in
      let first = over (past env (locals_in_all body)) (inferred_behind_all (over (enter env) (used env (guard ∷ []))) body) in
      otherwise_behind_known program (over (past first (locals_in_branches others)) (inferred_behind_branches first others)) last t (branches_behind_known program first others t inside)
  behind_known program env (While pos guard clauses opens body) t k =
      all_behind_known program (over (enter env) (used_names env (names_in guard ++ flat_map used_in_clause clauses) env.types)) body t (names_known program env (names_in guard ++ flat_map used_in_clause clauses) env.types k)
  behind_known program env (Return pos values) t k = used_known program env values k
  behind_known program env (Break pos) t k = k
  behind_known program env (Assert pos condition) t k = used_known program env (condition ∷ []) k
  behind_known program env (Print pos operands) t k = names_known program env (flat_map used_in_operand operands) env.types k

  pub all_behind_known : (program : Program) (env : Environment) (s : Statements) → TableHolds program env.table → AllKnown program env.types → AllKnown program (inferred_behind_all env s)
  all_behind_known program env done t k = k
  all_behind_known program env (next statement others) t k =
      all_behind_known program (over (behind env statement) (inferred_behind env statement)) others (table_behind program env statement t) (behind_known program env statement t k)

  branches_behind_known : (program : Program) (env : Environment) (branches : Branches) → TableHolds program env.table → AllKnown program env.types → AllKnown program (inferred_behind_branches env branches)
  branches_behind_known program env file.end t k = k
  branches_behind_known program env (file.more pos guard opens body others) t k =
      let inside = all_behind_known program (over (enter env) (used env (guard ∷ []))) body t (used_known program env (guard ∷ []) k) in
      branches_behind_known program (over (past env (locals_in_all body)) (inferred_behind_all (over (enter env) (used env (guard ∷ []))) body)) others t inside

  otherwise_behind_known : (program : Program) (env : Environment) (last : Otherwise) → TableHolds program env.table → AllKnown program env.types → AllKnown program (inferred_behind_otherwise env last)
  otherwise_behind_known program env without t k = k
  otherwise_behind_known program env (otherwise opens body) t k = all_behind_known program (enter env) body t k
