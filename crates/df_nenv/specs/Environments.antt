-- The code's environments, without where they lie in memory.
use Rattle.std.specs.Prelude.{ℕ, Bool, List, [], ◌∷◌, ◌++◌, map, take, drop}
use Rattle.df_ntyping.specs.Environment as pure
use Rattle.df_ntyping.specs.Environment.{Environment}
use Rattle.df_ntyping.specs.Table.{Signature}
use Rattle.df_nnames.specs.declared.tables.Method.{Method}
use Rattle.df_nnames.specs.Table.{signature_of}
use Rattle.df_nenv.specs.declared.environment.Role.{Role}
use Rattle.df_nenv.specs.declared.environment.Role.TheVariants as roles
use Rattle.df_nenv.specs.declared.environment.Local.{Local}
use Rattle.df_nenv.specs.declared.environment.Inferred.{Inferred}
use Rattle.df_nenv.specs.declared.environment.Inferred.TheVariants as inferred

abbrev pub role_of : Role → pure.Role
role_of roles.Parameter = pure.Parameter_role
role_of roles.Result = pure.Result_role
role_of roles.Variable = pure.Variable_role

abbrev pub local_of : Local → pure.Local
local_of local = record { name = local.name; number = local.number; role = role_of local.role }

abbrev pub inferred_of : Inferred → pure.Inferred
inferred_of inferred.Open = pure.Open
inferred_of inferred.Used = pure.Used
inferred_of (inferred.Fixed ty) = pure.Fixed ty

abbrev pub names_of : List Local → List ℕ
names_of locals = map (λ (local : Local). local.name) locals

-- the method's number and its signature
abbrev pub callee_from : Method → ℕ × Signature
callee_from method = (method.id, signature_of method.signature)

-- ---- environments as they change

-- one more local, which is a result of the method
abbrev pub with_result : Environment → ℕ → Environment
with_result env name =
    record (pure.declare env pure.Result_role name) { results = env.results ++ record { name = name; number = env.next; role = pure.Result_role } ∷ [] }

-- The innermost scope ends, and so many locals stand in the scopes around the one before it.
abbrev pub left : Environment → ℕ → Environment
left env count = record env { outer = take count env.outer; inner = drop count env.outer }

-- the next local gets this number
abbrev pub renumbered : Environment → ℕ → Environment
renumbered env next = record env { next = next }

abbrev pub in_a_loop : Environment → Bool → Environment
in_a_loop env in_loop = record env { in_loop = in_loop }
