-- Conditions in order.
use Rattle.std.proofs.Common.{◌≡◌, ◌⊎◌, inl, inr, Bool, true, false, if◌then◌else◌, List, [], ◌∷◌, ◌++◌, refl, sym, ap, ◌∙◌, subst}
use Rattle.std.specs.List.{AllByRecursion}
use Rattle.df_meaning.specs.Outcome.{Outcome, Gives, Wrong, Dismissed, after}
use Rattle.df_nterm.specs.Meaning.{Interpretation, truth}
use Rattle.df_nterm.specs.Expressions.{Condition}
use Rattle.df_nterm.specs.Laws.{told}

pub told_appended : {A : Type 0} (i : Interpretation) (cs ds : List Condition) (o : Outcome A) → told i (cs ++ ds) o ≡ told i cs (told i ds o)
told_appended i [] ds o = refl
told_appended i (c ∷ cs) ds o = ap (λ x. if truth i c.formula then x else Wrong c.pos c.kind) (told_appended i cs ds o)

pub told_after : {A B : Type 0} (i : Interpretation) (cs : List Condition) (o : Outcome A) (f : A → Outcome B) → after (told i cs o) f ≡ told i cs (after o f)
told_after i [] o f = refl
told_after i (c ∷ cs) o f = by_truth (truth i c.formula) _ _ (told_after i cs o f)
  where
    by_truth : (b : Bool) (x : Outcome _) (y : Outcome _) → after x f ≡ y → after (if b then x else Wrong c.pos c.kind) f ≡ (if b then y else Wrong c.pos c.kind)
    by_truth true x y e = e
    by_truth false x y e = refl

pub all_left : {A : Type 0} (P : A → Type 0) (xs ys : List A) → AllByRecursion P (xs ++ ys) → AllByRecursion P xs
all_left P [] ys h = tt
all_left P (x ∷ xs) ys h = (h.0, all_left P xs ys h.1)

pub all_right : {A : Type 0} (P : A → Type 0) (xs ys : List A) → AllByRecursion P (xs ++ ys) → AllByRecursion P ys
all_right P [] ys h = h
all_right P (x ∷ xs) ys h = all_right P xs ys h.1

-- ---- a run is another one, or does not count

abbrev pub IsOr : {A : Type 0} → Outcome A → Outcome A → Type 0
IsOr o p = (o ≡ Dismissed) ⊎ (o ≡ p)

pub or_as : {A : Type 0} (o p q : Outcome A) → IsOr o p → p ≡ q → IsOr o q
or_as o p q (inl d) e = inl d
or_as o p q (inr h) e = inr (h ∙ e)

-- what goes on from a value
pub or_on : {A B : Type 0} (i : Interpretation) (cs : List Condition) (o : Outcome A) (a : A) (f : A → Outcome B) (r : Outcome B) → IsOr o (told i cs (Gives a)) → IsOr (f a) r → IsOr (after o f) (told i cs r)
or_on i cs o a f r (inl d) h = inl (ap (λ x. after x f) d)
or_on i cs o a f r (inr e) h = subst (λ x. IsOr (after x f) (told i cs r)) (sym e) (subst (λ x. IsOr x (told i cs r)) (sym (told_after i cs (Gives a) f)) (under_all cs h))
  where
    under_all : (cs : List Condition) → IsOr (f a) r → IsOr (told i cs (f a)) (told i cs r)
    under_all [] h = h
    under_all (c ∷ cs) h = by_truth (truth i c.formula) (under_all cs h)
      where
        by_truth : (b : Bool) → IsOr (told i cs (f a)) (told i cs r) → IsOr (if b then told i cs (f a) else Wrong c.pos c.kind) (if b then told i cs r else Wrong c.pos c.kind)
        by_truth true k = k
        by_truth false k = inr refl

pub or_step : {A B : Type 0} (i : Interpretation) (cs ds : List Condition) (o : Outcome A) (a : A) (f : A → Outcome B) (r : Outcome B) → IsOr o (told i cs (Gives a)) → IsOr (f a) (told i ds r) → IsOr (after o f) (told i (cs ++ ds) r)
or_step i cs ds o a f r h g = or_as (after o f) (told i cs (told i ds r)) (told i (cs ++ ds) r) (or_on i cs o a f (told i ds r) h g) (sym (told_appended i cs ds r))
