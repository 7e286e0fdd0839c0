-- How evaluation and execution end.
use Rattle.df_base.specs.declared.pos.Pos.{Pos}
use Rattle.df_meaning.specs.declared.kind.Kind.{Kind}

-- It gives something; or it is wrong at a position by an obligation of a kind; or the depth does not reach; or no
-- choice is left that fits; or it is no run that counts.
pub data Outcome (A : Type 0) : Type 0 where
  Gives : A → Outcome A
  Wrong : Pos → Kind → Outcome A
  TooDeep : Outcome A
  NoChoice : Outcome A
  Dismissed : Outcome A

-- goes on with what is given
abbrev pub after : {A B : Type 0} → Outcome A → (A → Outcome B) → Outcome B
after (Gives a) go = go a
after (Wrong pos kind) go = Wrong pos kind
after TooDeep go = TooDeep
after NoChoice go = NoChoice
after Dismissed go = Dismissed
