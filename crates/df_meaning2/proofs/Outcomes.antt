-- The order of outcomes: laws of binding and of choices.
use Rattle.std.proofs.Common.{◌≡◌, Bool, true, false, if◌then◌else◌, Option, None, Some, refl, sym, ap, subst}
use Rattle.std.specs.Option.{option_map_or}
use Rattle.df_meaning2.specs.Outcome.{Outcome, Gives, Wrong, TooDeep, NoChoice, Dismissed, after, ◌⊑◌}

pub same_grows : {A : Type 0} (o : Outcome A) → o ⊑ o
same_grows (Gives a) = refl
same_grows (Wrong pos kind) = refl
same_grows TooDeep = tt
same_grows NoChoice = refl
same_grows Dismissed = refl

pub equal_grows : {A : Type 0} (o p : Outcome A) → p ≡ o → o ⊑ p
equal_grows o p e = subst (λ x. o ⊑ x) (sym e) (same_grows o)

pub after_grows : {A B : Type 0} (o p : Outcome A) (f g : A → Outcome B) → o ⊑ p → ((a : A) → f a ⊑ g a) → after o f ⊑ after p g
after_grows (Gives a) p f g e h = rw e (h a)
after_grows (Wrong pos kind) p f g e h = ap (λ x. after x g) e
after_grows TooDeep p f g e h = tt
after_grows NoChoice p f g e h = ap (λ x. after x g) e
after_grows Dismissed p f g e h = ap (λ x. after x g) e

pub choice_grows : {A : Type 0} (b : Bool) (x y x' y' : Outcome A) → x ⊑ x' → y ⊑ y' → (if b then x else y) ⊑ (if b then x' else y')
choice_grows true x y x' y' h k = h
choice_grows false x y x' y' h k = k

pub found_grows : {A B : Type 0} (o : Option A) (f g : A → Outcome B) (none : Outcome B) → ((a : A) → f a ⊑ g a) → option_map_or f o none ⊑ option_map_or g o none
found_grows None f g none h = same_grows none
found_grows (Some a) f g none h = h a

pub either_grows : {A B : Type 0} (o : Option A) (f g : A → Outcome B) (x y : Outcome B) → ((a : A) → f a ⊑ g a) → x ⊑ y → option_map_or f o x ⊑ option_map_or g o y
either_grows None f g x y h e = e
either_grows (Some a) f g x y h e = h a
