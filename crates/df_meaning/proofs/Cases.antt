-- What holds of what is given, where something is.
use Rattle.std.proofs.Common.{◌≡◌, Bool, true, false, if◌then◌else◌, refl, subst}
pub use Rattle.std.proofs.lemmas.Bool.{and_parts as both, and_from as joined}
pub use Rattle.df_lemmas.proofs.Truths.{three, four}
use Rattle.df_meaning.specs.Outcome.{Outcome, Gives, Wrong, TooDeep, NoChoice, Dismissed, after}

abbrev pub IfGives : {A : Type 0} → (A → Type 0) → Outcome A → Type 0
IfGives P (Gives a) = P a
IfGives P (Wrong pos kind) = Unit {0}
IfGives P TooDeep = Unit {0}
IfGives P NoChoice = Unit {0}
IfGives P Dismissed = Unit {0}

pub after_gives : {A B : Type 0} (P : A → Type 0) (Q : B → Type 0) (o : Outcome A) (f : A → Outcome B) → IfGives P o → ((a : A) → P a → IfGives Q (f a)) → IfGives Q (after o f)
after_gives P Q (Gives a) f h g = g a h
after_gives P Q (Wrong pos kind) f h g = tt
after_gives P Q TooDeep f h g = tt
after_gives P Q NoChoice f h g = tt
after_gives P Q Dismissed f h g = tt

pub after_any : {A B : Type 0} (Q : B → Type 0) (o : Outcome A) (f : A → Outcome B) → ((a : A) → IfGives Q (f a)) → IfGives Q (after o f)
after_any Q (Gives a) f g = g a
after_any Q (Wrong pos kind) f g = tt
after_any Q TooDeep f g = tt
after_any Q NoChoice f g = tt
after_any Q Dismissed f g = tt

pub widened : {A : Type 0} (P Q : A → Type 0) (o : Outcome A) → ((a : A) → P a → Q a) → IfGives P o → IfGives Q o
widened P Q (Gives a) f h = f a h
widened P Q (Wrong pos kind) f h = tt
widened P Q TooDeep f h = tt
widened P Q NoChoice f h = tt
widened P Q Dismissed f h = tt

pub given : {A : Type 0} (P : A → Type 0) (o : Outcome A) (a : A) → IfGives P o → o ≡ Gives a → P a
given P o a h e = let g : IfGives P (Gives a) = subst (λ x. IfGives P x) e h in g

-- what holds of both ways holds of an `if`
pub choice : {A : Type 0} (P : A → Type 0) (test : Bool) (x y : A) → P x → P y → P (if test then x else y)
choice P true x y p q = p
choice P false x y p q = q

pub guarded : {A : Type 0} (P : A → Type 0) (test : Bool) (x y : A) → (test ≡ true → P x) → P y → P (if test then x else y)
guarded P true x y p q = p refl
guarded P false x y p q = q
