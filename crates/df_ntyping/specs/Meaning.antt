-- What a name in an expression means: the last local of that name in scope, else a method of the file.
use Rattle.std.specs.Prelude.{◌≡◌, ℕ, ◌==◌, List, [], ◌∷◌, Option, Some, None, if◌then◌else◌, option_map}
use Rattle.df_ntree.specs.Expr.{Expr, Name}
use Rattle.df_ntyping.specs.Table.{Signature, NamedMethod, method_of}
use Rattle.df_ntyping.specs.Environment.{Local, Environment, locals_of}

pub data Meaning : Type 0 where
  TheLocal : Local → Meaning
  TheMethod : (id : ℕ) → Signature → Meaning

-- the last local of a name
abbrev pub last_local : List Local → ℕ → Option Local
last_local [] name = None
last_local (local ∷ others) name = or_this (last_local others name) local name where
  or_this : Option Local → Local → ℕ → Option Local
  or_this (Some later) local name = Some later
  or_this None local name = if local.name == name then Some local else None

abbrev pub method_meaning : Option NamedMethod → Option Meaning
method_meaning None = None
method_meaning (Some method) = Some (TheMethod method.id method.signature)

abbrev pub meaning_of : Environment → ℕ → Option Meaning
meaning_of env name = elim (last_local (locals_of env) name) [
  | Some local ↦ Some (TheLocal local)
  | None ↦ method_meaning (method_of env.table.methods name)
]

-- the name has this meaning there
abbrev pub Means : Environment → ℕ → Meaning → Type 0
Means env name meaning = meaning_of env name ≡ Some meaning

-- the method that is called, if what stands before the arguments is the name of one
abbrev pub as_method : Option Meaning → Option (ℕ × Signature)
as_method (Some (TheMethod id signature)) = Some (id, signature)
as_method meaning = None

abbrev pub callee_of : Environment → Expr → Option (ℕ × Signature)
callee_of env (Name ident) = as_method (meaning_of env ident.name)
callee_of env e = None

abbrev pub called_signature : Environment → Expr → Option Signature
called_signature env e = option_map (λ (callee : ℕ × Signature). callee.1) (callee_of env e)
