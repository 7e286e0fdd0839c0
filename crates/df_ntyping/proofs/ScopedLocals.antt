-- Locals in scope have numbers below the next one, and those that are no parameters have them from that of the first result on.
use Rattle.std.proofs.Common.{◌≡◌, ℕ, suc, ◌+◌, ◌<◌, ◌≤◌, Bool, true, false, List, [], ◌∷◌, Option, Some, None, refl, subst, arith}
use Rattle.std.specs.Prelude.{◌==◌}
use Rattle.std.specs.List.{AllByRecursion}
use Rattle.std.proofs.lemmas.Option.{same_Some}
use Rattle.df_lemmas.proofs.Alls.{all_joined}
use Rattle.df_ntree.specs.declared.file.Local as declared_local
use Rattle.df_ntree.specs.declared.file.Parameter.{Parameter}
use Rattle.df_ntree.specs.File.{Statement, Nested, Var, Assign, Expression, If, While, Return, Break, Assert, Print}
use Rattle.df_ntyping.specs.Table.{NamedMethod, method_of}
use Rattle.df_ntyping.specs.Environment.{Role, Variable_role, Local, Environment, locals_of, enter, past, declare, declare_parameters, declare_variables, behind, locals_in}
use Rattle.df_ntyping.specs.Meaning.{TheLocal, last_local, method_meaning, meaning_of, Means}
use Rattle.df_ntyping.specs.SideElaboration.{keeps_its_value}

pub record InScope (from above : ℕ) (local : Local) : Type 0 where
  pub below : local.number < above
  pub own : keeps_its_value local.role ≡ false → from ≤ local.number

pub record IsScoped (from : ℕ) (env : Environment) : Type 0 where
  pub outer : AllByRecursion (InScope from env.next) env.outer
  pub inner : AllByRecursion (InScope from env.next) env.inner

-- ---- what is in scope

all_later : (from above higher : ℕ) (locals : List Local) → above ≤ higher → AllByRecursion (InScope from above) locals → AllByRecursion (InScope from higher) locals
all_later from above higher [] p h = tt
all_later from above higher (local ∷ others) p h =
    let one = h.0 in
    let q : local.number < above = one.below in
    (record { below = omega arith; own = one.own }, all_later from above higher others p h.1)

pub enter_scoped : (from : ℕ) (env : Environment) → IsScoped from env → IsScoped from (enter env)
enter_scoped from env h = record { outer = all_joined (InScope from env.next) env.outer env.inner h.outer h.inner; inner = tt }

pub past_scoped : (from : ℕ) (env : Environment) (count : ℕ) → IsScoped from env → IsScoped from (past env count)
past_scoped from env count h = record { outer = all_later from env.next (env.next + count) env.outer (omega arith) h.outer; inner = all_later from env.next (env.next + count) env.inner (omega arith) h.inner }

pub declare_scoped : (from : ℕ) (env : Environment) (role : Role) (name : ℕ) → (keeps_its_value role ≡ false → from ≤ env.next) → IsScoped from env → IsScoped from (declare env role name)
declare_scoped from env role name own h = record {
  outer = all_later from env.next (suc env.next) env.outer (omega arith) h.outer;
  inner = all_joined (InScope from (suc env.next)) env.inner (record { name = name; number = env.next; role = role } ∷ []) (all_later from env.next (suc env.next) env.inner (omega arith) h.inner)
      (record { below = omega arith; own = own }, tt);
}

pub parameters_scoped : (from : ℕ) (env : Environment) (role : Role) (parameters : List Parameter) → (keeps_its_value role ≡ false → from ≤ env.next) → IsScoped from env → IsScoped from (declare_parameters env role parameters)
parameters_scoped from env role [] own h = h
parameters_scoped from env role (parameter ∷ others) own h =
    parameters_scoped from (declare env role parameter.name.name) role others (λ p. let q : from ≤ env.next = own p in omega arith) (declare_scoped from env role parameter.name.name own h)

variables_scoped : (from : ℕ) (env : Environment) (locals : List declared_local.Local) → from ≤ env.next → IsScoped from env → IsScoped from (declare_variables env locals)
variables_scoped from env [] p h = h
variables_scoped from env (local ∷ others) p h =
    variables_scoped from (declare env Variable_role local.name.name) others (omega arith) (declare_scoped from env Variable_role local.name.name (λ q. p) h)

pub behind_scoped : (from : ℕ) (env : Environment) (s : Statement) → from ≤ env.next → IsScoped from env → IsScoped from (behind env s)
behind_scoped from env (Var pos locals values) p h = variables_scoped from env locals p h
behind_scoped from env (Nested pos body) p h = past_scoped from env (locals_in (Nested pos body)) h
behind_scoped from env (Assign targets values) p h = past_scoped from env 0 h
behind_scoped from env (Expression value) p h = past_scoped from env 0 h
behind_scoped from env (If pos guard opens body others last) p h = past_scoped from env (locals_in (If pos guard opens body others last)) h
behind_scoped from env (While pos guard clauses opens body) p h = past_scoped from env (locals_in (While pos guard clauses opens body)) h
behind_scoped from env (Return pos values) p h = past_scoped from env 0 h
behind_scoped from env (Break pos) p h = past_scoped from env 0 h
behind_scoped from env (Assert pos condition) p h = past_scoped from env 0 h
behind_scoped from env (Print pos operands) p h = past_scoped from env 0 h

-- ---- what a name means is in scope

-- the last of a name is one of them
last_there : (P : Local → Type 0) (locals : List Local) (name : ℕ) (local : Local) → AllByRecursion P locals → last_local locals name ≡ Some local → P local
last_there P [] name local h p = absurd cc
last_there P (one ∷ others) name local h p = by_last (last_local others name) refl (one.name == name) refl (λ q. last_there P others name local h.1 q) where
  by_last : (o : Option Local) → last_local others name ≡ o → (b : Bool) → (one.name == name) ≡ b → (last_local others name ≡ Some local → P local) → P local
  by_last (Some later) q b r rest = let found : Some later ≡ Some local = rw q at p in rest (rw q found)
  by_last None q true r rest = let found : Some one ≡ Some local = rw (q, r) at p in subst P (same_Some one local found) h.0
  by_last None q false r rest = absurd (let found : None ≡ Some local = rw (q, r) at p in cc)

local_meant : (env : Environment) (name : ℕ) (local : Local) → Means env name (TheLocal local) → last_local (locals_of env) name ≡ Some local
local_meant env name local h = by_local (last_local (locals_of env) name) refl where
  by_method : (o : Option NamedMethod) → method_meaning o ≡ Some (TheLocal local) → ⊥
  by_method (Some named) q = cc
  by_method None q = cc

  by_local : (o : Option Local) → last_local (locals_of env) name ≡ o → last_local (locals_of env) name ≡ Some local
  by_local (Some found) p = let q : Some (TheLocal found) ≡ Some (TheLocal local) = rw (p, meaning_of, Means) at h in rw p (let r : found ≡ local = cc in cc)
  by_local None p = absurd (by_method (method_of env.table.methods name) (rw (p, meaning_of, Means) at h))

pub found_in_scope : (from : ℕ) (env : Environment) (name : ℕ) (local : Local) → IsScoped from env → Means env name (TheLocal local) → InScope from env.next local
found_in_scope from env name local h means =
    last_there (InScope from env.next) (locals_of env) name local (all_joined (InScope from env.next) env.outer env.inner h.outer h.inner) (local_meant env name local means)
