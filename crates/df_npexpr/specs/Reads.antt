-- What a function of the parser answers, seen through a view, against what reading gives.
use Rattle.std.specs.Prelude.{◌≡◌, Option, Some, None, Result, Ok, Err}
use Rattle.df_base.specs.Refusing.{IfRefused}
use Rattle.df_base.specs.declared.refusal.Code.TheVariants.{Syntax}
use Rattle.df_base.specs.declared.refusal.Detail.TheVariants.{Nothing}
use Rattle.df_base.specs.declared.refusal.Refusal.{Refusal}
use Rattle.df_base.specs.declared.refusal.Stop.{Stop}

-- there is none, and the syntax is refused, with nothing more told
abbrev pub IsUnread : {Y : Type 0} → Option Y → Refusal → Type 0
IsUnread found refusal = (found ≡ None) × (refusal.code ≡ Syntax) × (refusal.detail ≡ Nothing)

abbrev pub Stops : {Y : Type 0} → Stop → Option Y → Type 0
Stops stop found = IfRefused (IsUnread found) stop

abbrev pub Reads : {X Y : Type 0} → (X → Y) → Result X Stop → Option Y → Type 0
Reads view (Ok x) found = found ≡ Some (view x)
Reads view (Err stop) found = Stops stop found
