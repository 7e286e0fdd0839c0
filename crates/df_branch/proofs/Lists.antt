-- Lists of learned literals.
use Rattle.std.proofs.Common.{◌≡◌, List, [], ◌∷◌, ◌++◌, reverse, refl, sym, ap, ◌∙◌, append_assoc}
use Rattle.std.proofs.lemmas.List.{reverse-append}
use Rattle.df_form.specs.declared.log.Lit.{Lit}
use Rattle.df_closure.specs.Closure.{after}

-- what was learned stands in front, the last one first
pub after_is : (list learned : List Lit) → after list learned ≡ reverse learned ++ list
after_is list [] = refl
after_is list (l ∷ ls) = after_is (l ∷ list) ls ∙ sym (append_assoc (reverse ls) (l ∷ []) list) ∙ ap (λ r. r ++ list) (sym (reverse-append (l ∷ []) ls))
