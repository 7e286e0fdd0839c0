-- What comes of a run.
use Rattle.std.specs.Prelude.{◌≡◌}
use Rattle.df_base.specs.declared.pos.Pos.{Pos}
use Rattle.df_types.specs.declared.kind.Kind.{Kind}

pub data Outcome (A : Type 0) : Type 0 where
  Gives : A → Outcome A
  Wrong : Pos → Kind → Outcome A
  -- no depth was left for it
  TooDeep : Outcome A
  -- the next choice is none that may be taken
  NoChoice : Outcome A
  -- the run does not count
  Dismissed : Outcome A

abbrev pub after : {A B : Type 0} → Outcome A → (A → Outcome B) → Outcome B
after (Gives a) go = go a
after (Wrong at kind) go = Wrong at kind
after TooDeep go = TooDeep
after NoChoice go = NoChoice
after Dismissed go = Dismissed

-- the same, unless the first was too deep
infix 20 ◌⊑◌
abbrev pub ◌⊑◌ : {A : Type 0} → Outcome A → Outcome A → Type 0
(Gives a) ⊑ o = o ≡ Gives a
(Wrong at kind) ⊑ o = o ≡ Wrong at kind
TooDeep ⊑ o = Unit {0}
NoChoice ⊑ o = o ≡ NoChoice
Dismissed ⊑ o = o ≡ Dismissed

-- what it gives, if it gives something, is so
abbrev pub Each : {A : Type 0} → (A → Type 0) → Outcome A → Type 0
Each P (Gives a) = P a
Each P (Wrong at kind) = Unit {0}
Each P TooDeep = Unit {0}
Each P NoChoice = Unit {0}
Each P Dismissed = Unit {0}
