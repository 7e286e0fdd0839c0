-- An error that a `?` passes on.
use Rattle.std.proofs.Common.{◌≡◌, Result, Err, sym, ap, ◌∙◌}
use Rattle.df_base.specs.declared.refusal.Stop.{Stop}
use Rattle.df_base.specs.declared.refusal.Stop.TheVariants.{Refused}
use Rattle.df_base.specs.declared.refusal.Refusal.{Refusal}

err_is : {T E : Type 0} (x y : E) → ◌≡◌ {A = Result T E} (Err x) (Err y) → x ≡ y
err_is x y e = cc

pub passed : {T U E : Type 0} (result : Result T E) (field y : E) → ((x : E) × (result ≡ Err x) × (x ≡ field)) → result ≡ Err y → ◌≡◌ {A = Result U E} (Err field) (Err y)
passed {T} result field y p e = ap Err (sym p.2 ∙ err_is {T = T} p.0 y (sym p.1 ∙ e))

refusal_is : (r x : Refusal) → Refused r ≡ Refused x → r ≡ x
refusal_is r x e = cc

-- the refusal that is answered
pub refused_is : {T : Type 0} (stop : Stop) (r x : Refusal) → ◌≡◌ {A = Result T Stop} (Err stop) (Err (Refused r)) → stop ≡ Refused x → r ≡ x
refused_is {T} stop r x e f = refusal_is r x (sym (err_is {T = T} stop (Refused r) e) ∙ f)
