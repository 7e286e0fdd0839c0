-- Logs after one another.
use Rattle.std.proofs.Common.{◌≡◌, List, [], ◌∷◌, ◌++◌, Option, None, Some, refl, ap, ◌∙◌}
use Rattle.std.specs.Option.{option_and_then}
use Rattle.df_form.specs.Log.{Step}
use Rattle.df_form.specs.Sequent.{Sequent}
use Rattle.df_rules.specs.Derivation.{State, after, after_all}

pub after_all-append : (s : Sequent) (state : State) (xs ys : List Step) → after_all s state (xs ++ ys) ≡ option_and_then (λ next. after_all s next ys) (after_all s state xs)
after_all-append s state [] ys = refl
after_all-append s state (x ∷ xs) ys =
    ap (λ (f : State → Option State). option_and_then f (after s state x)) (λ i next. after_all-append s next xs ys i) ∙ again (after s state x)
  where
    again : (r : Option State) → option_and_then (λ next. option_and_then (λ more. after_all s more ys) (after_all s next xs)) r ≡ option_and_then (λ more. after_all s more ys) (option_and_then (λ next. after_all s next xs) r)
    again None = refl
    again (Some next) = refl
