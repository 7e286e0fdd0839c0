-- Laws of simulation between outcomes.
use Rattle.std.proofs.Common.{◌≡◌, Bool, true, false, if◌then◌else◌, refl, sym, subst}
use Rattle.df_meaning.specs.Outcome as source
use Rattle.df_meaning.proofs.Cases.{IfGives}
use Rattle.df_nplain.specs.Outcome as plain
use Rattle.df_nerase.specs.Simulation.{Simulates}

-- what is given is seen as itself
abbrev pub as_is : {A : Type 0} → A → A
as_is a = a

pub bound : {A B C D : Type 0} (view : A → B) (seen : C → D) (o : source.Outcome A) (p : plain.Outcome B) (f : A → source.Outcome C) (g : B → plain.Outcome D)
    → Simulates view o p → ((a : A) → Simulates seen (f a) (g (view a))) → Simulates seen (source.after o f) (plain.after p g)
bound view seen (source.Gives a) p f g h k = rw h (k a)
bound view seen (source.Wrong pos kind) p f g h k = tt
bound view seen source.TooDeep p f g h k = tt
bound view seen source.NoChoice p f g h k = tt
bound view seen source.Dismissed p f g h k = tt

-- and so where something is known of what is given
pub bound_given : {A B C D : Type 0} (P : A → Type 0) (view : A → B) (seen : C → D) (o : source.Outcome A) (p : plain.Outcome B) (f : A → source.Outcome C) (g : B → plain.Outcome D)
    → IfGives P o → Simulates view o p → ((a : A) → P a → Simulates seen (f a) (g (view a))) → Simulates seen (source.after o f) (plain.after p g)
bound_given P view seen (source.Gives a) p f g i h k = rw h (k a i)
bound_given P view seen (source.Wrong pos kind) p f g i h k = tt
bound_given P view seen source.TooDeep p f g i h k = tt
bound_given P view seen source.NoChoice p f g i h k = tt
bound_given P view seen source.Dismissed p f g i h k = tt

-- what is only checked before
pub passed : {A C D : Type 0} (a : A) (seen : C → D) (o : source.Outcome A) (f : A → source.Outcome C) (p : plain.Outcome D) → IfGives (λ (b : A). b ≡ a) o → Simulates seen (f a) p → Simulates seen (source.after o f) p
passed a seen (source.Gives b) f p e h = subst (λ (x : _). Simulates seen (f x) p) (rw e refl) h
passed a seen (source.Wrong pos kind) f p e h = tt
passed a seen source.TooDeep f p e h = tt
passed a seen source.NoChoice f p e h = tt
passed a seen source.Dismissed f p e h = tt

-- what is only checked behind
pub kept_by : {A B : Type 0} (P : A → Type 0) (view : A → B) (o : source.Outcome A) (f : A → source.Outcome A) (p : plain.Outcome B)
    → IfGives P o → Simulates view o p → ((a : A) → P a → IfGives (λ (b : A). b ≡ a) (f a)) → Simulates view (source.after o f) p
kept_by P view (source.Gives a) f p i h k = by_check (f a) (k a i)
  where
    by_check : (o : source.Outcome _) → IfGives (λ (b : _). b ≡ a) o → Simulates view o p
    by_check (source.Gives b) e = rw e h
    by_check (source.Wrong pos kind) e = tt
    by_check source.TooDeep e = tt
    by_check source.NoChoice e = tt
    by_check source.Dismissed e = tt
kept_by P view (source.Wrong pos kind) f p i h k = tt
kept_by P view source.TooDeep f p i h k = tt
kept_by P view source.NoChoice f p i h k = tt
kept_by P view source.Dismissed f p i h k = tt

pub chosen : {A B : Type 0} (view : A → B) (b : Bool) (x y : source.Outcome A) (p q : plain.Outcome B) → Simulates view x p → Simulates view y q → Simulates view (if b then x else y) (if b then p else q)
chosen view true x y p q h k = h
chosen view false x y p q h k = k

-- whatever stands on the other way, where it gives nothing
pub guarded : {A B : Type 0} (view : A → B) (b : Bool) (x y : source.Outcome A) (p : plain.Outcome B) → Simulates view x p → Simulates view y p → Simulates view (if b then x else y) p
guarded view true x y p h k = h
guarded view false x y p h k = k

-- an outcome that is known to give something
pub known : {A B X : Type 0} (o : plain.Outcome X) (x : X) (view : A → B) (p : source.Outcome A) (g : X → plain.Outcome B) → o ≡ plain.Gives x → Simulates view p (g x) → Simulates view p (plain.after o g)
known o x view p g e h = subst (λ (q : plain.Outcome _). Simulates view p (plain.after q g)) (sym e) h

-- what is looked at behind, and stays
pub looked_at : {A : Type 0} (P : A → Type 0) (o : source.Outcome A) (p : plain.Outcome A) (g : A → plain.Outcome A) → IfGives P o → Simulates as_is o p → ((a : A) → P a → g a ≡ plain.Gives a) → Simulates as_is o (plain.after p g)
looked_at P (source.Gives a) p g i h k = rw h (k a i)
looked_at P (source.Wrong pos kind) p g i h k = tt
looked_at P source.TooDeep p g i h k = tt
looked_at P source.NoChoice p g i h k = tt
looked_at P source.Dismissed p g i h k = tt
