-- Results, and lists without their last.
use Rattle.std.proofs.Common.{◌≡◌, ℕ, ◌-◌, List, length, take, Result, Ok, Err, OnOk, OnErr, ap, ◌∙◌}
use Rattle.df_classes.specs.mirror.State.{without_last}

pub on_err : {A E P : Type 0} (r : Result A E) → P → OnErr r P
on_err (Ok x) p = tt
on_err (Err e) p = p

pub on_ok_of : {A E P : Type 0} (r : Result A E) → P → OnOk r P
on_ok_of (Ok x) p = p
on_ok_of (Err e) p = tt

pub on_ok_both : {A E P Q R : Type 0} (r : Result A E) → (P → Q → R) → OnOk r P → OnOk r Q → OnOk r R
on_ok_both (Ok x) step h k = step h k
on_ok_both (Err e) step h k = tt

-- without a last one that is counted
pub without_last_of : (old new : List ℕ) (count : ℕ) → new ≡ take (count - 1) old → count ≡ length old → new ≡ without_last old
without_last_of old new count is long = is ∙ ap (λ (k : ℕ). take (k - 1) old) long
