-- Laws of outcomes: of their order, and of what holds of what is given.
use Rattle.std.proofs.Common.{◌≡◌, Bool, true, false, if◌then◌else◌, Option, None, Some, refl, ap, subst}
use Rattle.std.specs.Option.{option_map_or}
use Rattle.df_nplain.specs.Outcome.{Outcome, Gives, Wrong, TooDeep, Stuck, after}
use Rattle.df_nplain.specs.Growing.{◌⊑◌}

pub same_grows : {A : Type 0} (o : Outcome A) → o ⊑ o
same_grows (Gives a) = refl
same_grows (Wrong fault) = refl
same_grows TooDeep = tt
same_grows Stuck = refl

pub after_grows : {A B : Type 0} (o p : Outcome A) (f g : A → Outcome B) → o ⊑ p → ((a : A) → f a ⊑ g a) → after o f ⊑ after p g
after_grows (Gives a) p f g e h = rw e (h a)
after_grows (Wrong fault) p f g e h = ap (λ x. after x g) e
after_grows TooDeep p f g e h = tt
after_grows Stuck p f g e h = ap (λ x. after x g) e

pub after_same : {A B : Type 0} (o : Outcome A) (f g : A → Outcome B) → ((a : A) → f a ⊑ g a) → after o f ⊑ after o g
after_same o f g h = after_grows o o f g (same_grows o) h

pub choice_grows : {A : Type 0} (b : Bool) (x y x' y' : Outcome A) → x ⊑ x' → y ⊑ y' → (if b then x else y) ⊑ (if b then x' else y')
choice_grows true x y x' y' h k = h
choice_grows false x y x' y' h k = k

pub found_grows : {A B : Type 0} (o : Option A) (f g : A → Outcome B) (none : Outcome B) → ((a : A) → f a ⊑ g a) → option_map_or f o none ⊑ option_map_or g o none
found_grows None f g none h = same_grows none
found_grows (Some a) f g none h = h a

-- what holds of what is given, where something is
abbrev pub IfGives : {A : Type 0} → (A → Type 0) → Outcome A → Type 0
IfGives P (Gives a) = P a
IfGives P (Wrong fault) = Unit {0}
IfGives P TooDeep = Unit {0}
IfGives P Stuck = Unit {0}

pub after_gives : {A B : Type 0} (P : A → Type 0) (Q : B → Type 0) (o : Outcome A) (f : A → Outcome B) → IfGives P o → ((a : A) → P a → IfGives Q (f a)) → IfGives Q (after o f)
after_gives P Q (Gives a) f h g = g a h
after_gives P Q (Wrong fault) f h g = tt
after_gives P Q TooDeep f h g = tt
after_gives P Q Stuck f h g = tt

pub after_any : {A B : Type 0} (Q : B → Type 0) (o : Outcome A) (f : A → Outcome B) → ((a : A) → IfGives Q (f a)) → IfGives Q (after o f)
after_any Q (Gives a) f g = g a
after_any Q (Wrong fault) f g = tt
after_any Q TooDeep f g = tt
after_any Q Stuck f g = tt

pub widened : {A : Type 0} (P Q : A → Type 0) (o : Outcome A) → ((a : A) → P a → Q a) → IfGives P o → IfGives Q o
widened P Q (Gives a) f h = f a h
widened P Q (Wrong fault) f h = tt
widened P Q TooDeep f h = tt
widened P Q Stuck f h = tt

pub given : {A : Type 0} (P : A → Type 0) (o : Outcome A) (a : A) → IfGives P o → o ≡ Gives a → P a
given P o a h e = let g : IfGives P (Gives a) = subst (λ x. IfGives P x) e h in g

-- what holds of both ways holds of an `if`
pub choice : {A : Type 0} (P : A → Type 0) (test : Bool) (x y : A) → P x → P y → P (if test then x else y)
choice P true x y p q = p
choice P false x y p q = q
