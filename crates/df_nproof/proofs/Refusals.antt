-- Parts that derive their obligations are refused nowhere.
use Rattle.std.proofs.Common.{◌≡◌, inl, inr, ◌↔◌, ℕ, List, length, Option, None, Some, sym, subst, arith}
use Rattle.std.proofs.Math.Logic.{∥∥₁_elim}
use Rattle.std.proofs.lemmas.Option.{slice_get_within}
use Rattle.df_lang.specs.Program.{Program}
use Rattle.df_form.specs.Log.{Step}
use Rattle.df_form.specs.Sequent.{Sequent, IsNumbered}
use Rattle.df_rules.specs.Derivation.{Derives}
use Rattle.df_kern.specs.Refusal.{Refusal, refusal}
use Rattle.df_nenc.specs.Laws.{OneNodeForATree}
use Rattle.df_npass.specs.Methods.{Obligation}
use Rattle.df_nproof.specs.Derived.{IsDerived, AreDerived}
use Rattle.df_nproof.specs.Refused.{IsBroken, IsBadPart}
use Rattle.df_nproof.specs.Laws.{DerivedIsNotRefused}
use Rattle.df_nproof.proofs.Derivations.{as_many, derived_at}
use Rattle.df_nproof.proofs.Sequents.{one_sequent_of}

no_two : (x y : ⊥) → x ≡ y
no_two x y = absurd x

refused_nowhere : (refused : Option Refusal) (at row : ℕ) → refused ≡ None → refused ≡ Some (record { at = at; broken = row }) → ⊥
refused_nowhere refused at row none some = cc

module _ (apart : OneNodeForATree) (law : (s : Sequent) (log : List Step) → (refusal s log ≡ None) ↔ Derives s log) where
  -- a log that derives an obligation is not broken
  one_answer : (program : Program) (o : Obligation) (log : List Step) (step : ℕ) → IsDerived program o log → IsBroken program o log step → ⊥
  one_answer program o log step derived broken =
      ∥∥₁_elim derived.is_of.numbered no_two (λ (walk : IsNumbered derived.sequent).
      ∥∥₁_elim broken.is_of.numbered no_two (λ (walk_too : IsNumbered broken.sequent).
      (let same = one_sequent_of apart program o derived.sequent broken.sequent derived.is_of broken.is_of walk walk_too in
      let taken : refusal broken.sequent log ≡ None = subst (λ (s : Sequent). refusal s log ≡ None) (sym same) ((law derived.sequent log).1 derived.derives) in
      refused_nowhere (refusal broken.sequent log) step broken.row taken broken.refused)))

  pub derived_is_not_refused : DerivedIsNotRefused
  derived_is_not_refused program os parts number step are (inl bad) =
      let found = derived_at program bad.before bad.after bad.o parts (subst (λ (xs : List Obligation). AreDerived program xs parts) bad.split are) in
      one_answer program bad.o found.0 step found.2 (subst (λ (p : Option (List Step)). IsBadPart program bad.o p step) found.1 bad.bad)
  derived_is_not_refused program os parts number step are (inr surplus) =
      let many = as_many program os parts are in
      let within = slice_get_within parts (length os) surplus.part surplus.there in
      omega (arith, many, within)
