-- What is said of each element with those behind it, where the end of the list changes.
use Rattle.std.proofs.Common.{List, [], ◌∷◌, ◌++◌}
use Rattle.df_groups2.specs.Searching.{EachWithRest}

pub rest_changed : {A : Type 0} (P Q : A → List A → Type 0) (xs ys zs : List A) → ((x : A) (rest : List A) → P x (rest ++ ys) → Q x (rest ++ zs)) → EachWithRest Q zs
    → EachWithRest P (xs ++ ys) → EachWithRest Q (xs ++ zs)
rest_changed P Q [] ys zs change end each = end
rest_changed P Q (x ∷ xs) ys zs change end each = (change x xs each.0, rest_changed P Q xs ys zs change end each.1)

pub rest_shortened : {A : Type 0} (P Q : A → List A → Type 0) (xs ys : List A) → ((x : A) (rest : List A) → P x (rest ++ ys) → Q x rest)
    → EachWithRest P (xs ++ ys) → EachWithRest Q xs
rest_shortened P Q [] ys change each = tt
rest_shortened P Q (x ∷ xs) ys change each = (change x xs each.0, rest_shortened P Q xs ys change each.1)

pub rest_last : {A : Type 0} (P : A → List A → Type 0) (xs : List A) (x : A) → EachWithRest P (xs ++ x ∷ []) → P x []
rest_last P [] x each = each.0
rest_last P (y ∷ xs) x each = rest_last P xs x each.1
