-- The kernel refuses no log that derives.
use Rattle.std.proofs.Common.{◌≡◌, ◌↔◌, ℕ, List, Option, None, Err, subst}
use Rattle.df_form.specs.Log.{Step}
use Rattle.df_form.specs.Sequent.{Sequent}
use Rattle.df_kern.specs.declared.fault.KernFault.{KernFault}
use Rattle.df_kern.specs.declared.fault.KernFault.TheVariants.{Refused}
use Rattle.df_rules.specs.Derivation.{Derives}
use Rattle.df_kern.specs.Refusal.{Refusal, refusal, Answers}

nothing_is_refused : (refused : Option Refusal) (at broken : ℕ) (fault : KernFault) → fault ≡ Refused at broken → Answers refused (Err fault) → refused ≡ None → ⊥
nothing_is_refused refused at broken fault is answers derived =
    let told : Answers refused (Err (Refused at broken)) = subst (λ (f : KernFault). Answers refused (Err f)) is answers in
    cc

pub takes_what_derives : (s : Sequent) (log : List Step) (at broken : ℕ) (fault : KernFault) → ((t : Sequent) (l : List Step) → (refusal t l ≡ None) ↔ Derives t l) → Derives s log → fault ≡ Refused at broken → Answers (refusal s log) (Err fault) → ⊥
takes_what_derives s log at broken fault law derives is answers = nothing_is_refused (refusal s log) at broken fault is answers ((law s log).1 derives)
