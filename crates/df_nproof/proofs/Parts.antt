-- The code's parts, and what the kernel answers of them.
use Rattle.std.proofs.Common.{◌≡◌, ◌<◌, ◌≤◌, ℕ, List, length, get_or, slice_get, vec_len, Option, None, Some, Err, refl, sym, ap, subst, ◌∙◌, rules}
use Rattle.std.specs.Global.{Vec}
use Rattle.std.specs.Option.{option_map}
use Rattle.std.proofs.lemmas.List.{length-map}
use Rattle.std.proofs.lemmas.Option.{slice_get-map, slice_get_read, slice_get_past}
use Rattle.df_form.specs.declared.log.Step as declared
use Rattle.df_form.specs.Log.{Step, step_of}
use Rattle.df_kern.specs.declared.fault.KernFault.{KernFault}
use Rattle.df_kern.specs.declared.fault.KernFault.TheVariants.{Refused}
use Rattle.df_kern.specs.Refusal.{Refusal, Answers}
use Rattle.df_logtext.specs.View.{log_of, logs_of}

abbrev of_part : Vec declared.Step → List Step
of_part part = log_of part.items

-- the log of a part that is there
pub log_there : (parts : List (Vec declared.Step)) (k : ℕ) (part : Vec declared.Step) → k < length parts → part ≡ get_or parts k part → slice_get (logs_of parts) k ≡ Some (log_of part.items)
log_there parts k part less is = slice_get-map of_part parts k ∙ ap (option_map of_part) (slice_get_read parts (length parts) k part refl less is)

-- none is behind the last
pub log_past : (parts : List (Vec declared.Step)) (k : ℕ) → length parts ≤ k → slice_get (logs_of parts) k ≡ None
log_past parts k past = slice_get-map of_part parts k ∙ ap (option_map of_part) (slice_get_past parts k past)

-- a log has as many steps as its part
pub step_count : (part : Vec declared.Step) → vec_len part ≡ length (log_of part.items)
step_count part =
    let counted : length part.items ≡ vec_len part = search rules in
    sym counted ∙ sym (length-map part.items step_of)

-- the kernel tells the refusal
pub is_told : (refused : Option Refusal) (at row : ℕ) (fault : KernFault) → fault ≡ Refused at row → Answers refused (Err fault) → refused ≡ Some (record { at = at; broken = row })
is_told refused at row fault is answers = subst (λ (f : KernFault). Answers refused (Err f)) is answers
