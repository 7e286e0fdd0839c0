-- What is fixed of the type of a local, or that it was used before, stays so.
use Rattle.std.proofs.Common.{◌≡◌, ℕ, zero, suc, List, [], ◌∷◌, ◌++◌, Option, Some, None, sym, ap}
use Rattle.std.specs.Prelude.{slice_get}
use Rattle.std.specs.List.{flat_map}
use Rattle.std.proofs.lemmas.Option.{same_Some}
use Rattle.df_lemmas.proofs.Lists.{get_grown}
use Rattle.df_lang.specs.declared.ty.Ty.{Ty}
use Rattle.df_ntree.specs.Expr.{Expr, Name}
use Rattle.df_ntree.specs.File as file
use Rattle.df_ntree.specs.File.{Statement, Nested, Var, Assign, Expression, If, While, Return, Break, Assert, Print, Statements, done, next, Branches, Otherwise, without, otherwise}
use Rattle.df_ntyping.specs.Environment.{Inferred, Open, Used, Fixed, Environment, enter, past, behind, locals_in_all, locals_in_branches}
use Rattle.df_ntyping.specs.Meaning.{Meaning, TheLocal, TheMethod, meaning_of}
use Rattle.df_ntyping.specs.LocalTypes.{names_in, if_open, at_number, fix_meaning, used_names, used, next_type, other_types, types_of_values, used_inside, taken, taken_all, inferred_all, used_in_clause, used_in_operand, over, inferred_behind, inferred_behind_all, inferred_behind_branches, inferred_behind_otherwise}

pub record Kept (before after : List Inferred) : Type 0 where
  pub keeps : (k : ℕ) (one : Inferred) → slice_get before k ≡ Some one → (one ≡ Open → ⊥) → slice_get after k ≡ Some one

pub kept_self : (all : List Inferred) → Kept all all
kept_self all = record { keeps = λ k one p n. p }

pub kept_then : {one other last : List Inferred} → Kept one other → Kept other last → Kept one last
kept_then h g = record { keeps = λ k one p n. g.keeps k one (h.keeps k one p n) n }

pub kept_grown : (before more : List Inferred) → Kept before (before ++ more)
kept_grown before more = record { keeps = λ k one p n. get_grown before more k one p }

-- ---- one local

open_kept : (one fixing same : Inferred) → one ≡ same → (same ≡ Open → ⊥) → if_open (Some one) fixing ≡ same
open_kept Open fixing same p n = absurd (n (sym p))
open_kept Used fixing same p n = p
open_kept (Fixed ty) fixing same p n = p

pub number_kept : (number : ℕ) (fixing : Inferred) (all : List Inferred) → Kept all (at_number number fixing all)
number_kept number fixing [] = kept_self []
number_kept zero fixing (one ∷ others) = record { keeps = keeps } where
  keeps : (k : ℕ) (same : Inferred) → slice_get (one ∷ others) k ≡ Some same → (same ≡ Open → ⊥) → slice_get (at_number zero fixing (one ∷ others)) k ≡ Some same
  keeps zero same p n = ap (λ (x : Inferred). Some x) (open_kept one fixing same (same_Some one same p) n)
  keeps (suc k) same p n = p
number_kept (suc number) fixing (one ∷ others) = record { keeps = keeps (number_kept number fixing others) } where
  keeps : Kept others (at_number number fixing others) → (k : ℕ) (same : Inferred) → slice_get (one ∷ others) k ≡ Some same → (same ≡ Open → ⊥) → slice_get (at_number (suc number) fixing (one ∷ others)) k ≡ Some same
  keeps h zero same p n = p
  keeps h (suc k) same p n = h.keeps k same p n

meaning_kept : (meaning : Option Meaning) (fixing : Inferred) (all : List Inferred) → Kept all (fix_meaning meaning fixing all)
meaning_kept (Some (TheLocal local)) fixing all = number_kept local.number fixing all
meaning_kept (Some (TheMethod id signature)) fixing all = kept_self all
meaning_kept None fixing all = kept_self all

pub names_kept : (env : Environment) (names : List ℕ) (all : List Inferred) → Kept all (used_names env names all)
names_kept env [] all = kept_self all
names_kept env (name ∷ others) all = kept_then (meaning_kept (meaning_of env name) Used all) (names_kept env others (fix_meaning (meaning_of env name) Used all))

pub used_kept : (env : Environment) (es : List Expr) → Kept env.types (used env es)
used_kept env es = names_kept env (flat_map names_in es) env.types

taken_kept : (env : Environment) (e : Expr) (ty : Option Ty) (all : List Inferred) → Kept all (taken env e ty all)
taken_kept env (Name ident) ty all = meaning_kept (meaning_of env ident.name) (Fixed ty) all
taken_kept env e ty all = kept_self all

pub takens_kept : (env : Environment) (targets : List Expr) (values : List (Option Ty)) (all : List Inferred) → Kept all (taken_all env targets values all)
takens_kept env [] values all = kept_self all
takens_kept env (target ∷ others) values all = kept_then (taken_kept env target (next_type values) all) (takens_kept env others (other_types values) (taken env target (next_type values) all))

-- ---- statements

mutual
  pub behind_kept : (env : Environment) (s : Statement) → Kept env.types (inferred_behind env s)
  behind_kept env (Nested pos body) = all_behind_kept (enter env) body
  behind_kept env (Var pos locals values) = kept_then (used_kept env values) (kept_grown (used env values) (inferred_all env locals values (types_of_values env values)))
  behind_kept env (Assign targets values) =
      kept_then (names_kept env (flat_map used_inside targets ++ flat_map names_in values) env.types)
      (takens_kept env targets (types_of_values env values) (used_names env (flat_map used_inside targets ++ flat_map names_in values) env.types))
  behind_kept env (Expression value) = used_kept env (value ∷ [])
  behind_kept env (If pos guard opens body others last) =
      let first = over (past env (locals_in_all body)) (inferred_behind_all (over (enter env) (used env (guard ∷ []))) body) in
      kept_then (used_kept env (guard ∷ [])) (kept_then (all_behind_kept (over (enter env) (used env (guard ∷ []))) body)
      (kept_then (branches_kept first others) (otherwise_kept (over (past first (locals_in_branches others)) (inferred_behind_branches first others)) last)))
  behind_kept env (While pos guard clauses opens body) =
      kept_then (names_kept env (names_in guard ++ flat_map used_in_clause clauses) env.types) (all_behind_kept (over (enter env) (used_names env (names_in guard ++ flat_map used_in_clause clauses) env.types)) body)
  behind_kept env (Return pos values) = used_kept env values
  behind_kept env (Break pos) = kept_self env.types
  behind_kept env (Assert pos condition) = used_kept env (condition ∷ [])
  behind_kept env (Print pos operands) = names_kept env (flat_map used_in_operand operands) env.types

  pub all_behind_kept : (env : Environment) (s : Statements) → Kept env.types (inferred_behind_all env s)
  all_behind_kept env done = kept_self env.types
  all_behind_kept env (next statement others) = kept_then (behind_kept env statement) (all_behind_kept (over (behind env statement) (inferred_behind env statement)) others)

  pub branches_kept : (env : Environment) (branches : Branches) → Kept env.types (inferred_behind_branches env branches)
  branches_kept env file.end = kept_self env.types
  branches_kept env (file.more pos guard opens body others) =
      kept_then (used_kept env (guard ∷ [])) (kept_then (all_behind_kept (over (enter env) (used env (guard ∷ []))) body)
      (branches_kept (over (past env (locals_in_all body)) (inferred_behind_all (over (enter env) (used env (guard ∷ []))) body)) others))

  pub otherwise_kept : (env : Environment) (last : Otherwise) → Kept env.types (inferred_behind_otherwise env last)
  otherwise_kept env without = kept_self env.types
  otherwise_kept env (otherwise opens body) = all_behind_kept (enter env) body
