-- What answers say, by what others say.
use Rattle.std.proofs.Common.{Result, Ok, Err, OnOk, IfOk}

pub on_ok : {A E P Q : Type 0} (r : Result A E) → (P → Q) → OnOk r P → OnOk r Q
on_ok (Ok x) step h = step h
on_ok (Err e) step h = tt

pub if_ok : {A E : Type 0} (r : Result A E) (P Q : A → Type 0) → IfOk r P → ((x : A) → P x → Q x) → IfOk r Q
if_ok (Ok x) P Q h step = step x h
if_ok (Err e) P Q h step = tt
