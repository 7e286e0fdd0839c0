-- What is known of the types of locals as a method is gone through once: what private contracts cite.
use Rattle.std.specs.Prelude.{ℕ, Bool, true, false, List, [], ◌∷◌, Option, Some, None}
use Rattle.df_lang.specs.declared.ty.Ty.{Ty}
use Rattle.df_ntree.specs.declared.expr.TreeType.{TreeType}
use Rattle.df_ntree.specs.declared.file.Local as declared_local
use Rattle.df_ntree.specs.Expr.{Expr}
use Rattle.df_ntree.specs.File.{Statements, Branches, Otherwise}
use Rattle.df_ntyping.specs.Environment.{Inferred, Open, Fixed, Environment, enter, past, locals_in_all, locals_in_branches, locals_in_otherwise}
use Rattle.df_ntyping.specs.Table.{type_of}
use Rattle.df_ntyping.specs.LocalTypes.{used_names, over, next_type, other_types, taken_all, inferred_behind_all, inferred_behind_branches, inferred_behind_otherwise}

-- names are used
abbrev pub marked : Environment → List ℕ → Environment
marked env names = over env (used_names env names env.types)

-- values are taken
abbrev pub took : Environment → List Expr → List (Option Ty) → Environment
took env targets values = over env (taken_all env targets values env.types)

-- behind a block, branches, and the last `else`
abbrev pub behind_block : Environment → Statements → Environment
behind_block env body = over (past env (locals_in_all body)) (inferred_behind_all (enter env) body)

abbrev pub behind_branches : Environment → Branches → Environment
behind_branches env branches = over (past env (locals_in_branches branches)) (inferred_behind_branches env branches)

abbrev pub behind_otherwise : Environment → Otherwise → Environment
behind_otherwise env last = over (past env (locals_in_otherwise last)) (inferred_behind_otherwise env last)

-- what fixes the type of a declared local, with values or without
abbrev pub inferred_by : Environment → Option TreeType → Bool → Option Ty → Inferred
inferred_by env (Some ty) has_values value = Fixed (type_of env.table.newtypes ty)
inferred_by env None false value = Open
inferred_by env None true value = Fixed value

abbrev pub inferred_all_by : Environment → List declared_local.Local → Bool → List (Option Ty) → List Inferred
inferred_all_by env [] has_values types = []
inferred_all_by env (local ∷ others) has_values types = inferred_by env local.ty has_values (next_type types) ∷ inferred_all_by env others has_values (other_types types)
