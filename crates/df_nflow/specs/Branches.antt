-- Branches that end where they began.
use Rattle.std.specs.Prelude.{◌≡◌, Bool, List, ◌++◌, map}
use Rattle.std.specs.List.{AllZip}
use Rattle.df_meaning.specs.Modular.{Changed}
use Rattle.df_nterm.specs.Expressions.{Environment}
use Rattle.df_npass.specs.Rules.{Way}
use Rattle.df_npass.specs.Statements.{Parted}
use Rattle.df_nflow.specs.Ways.{Kept, back, Arrival, arrival, IsSortedWay, AreSortedWays}
use Rattle.df_nflow.specs.Standing.{Standing}

-- a way at the end of a branch: the terms of some locals, and what leads there from the terms before it
pub record Ended : Type 0 where
  pub arrival : Arrival
  pub ahead : List Kept

pub record IsEnded (changed : List Changed) (env : Environment) (ended : Ended) (way : Way) : Type 0 where
  pub is : ended.arrival ≡ arrival changed way
  pub ahead : back ended.ahead env ≡ way.env
  pub sorted : IsSortedWay changed way

abbrev pub AreEnded : List Changed → Environment → List Ended → List Way → Type 0
AreEnded changed env ended ways = AllZip (IsEnded changed env) ended ways

-- From the one standing to the other these branches were passed, and the locals have the terms again that they had; the
-- ways at their ends wait to come together.
pub record Parts (changed in_loop in_method : List Changed) (before : Standing) (parted : Parted) (after : Standing) (ended : List Ended) (lost : Bool) : Type 0 where
  pub types : after.types ≡ before.types
  pub entry : after.entry ≡ before.entry
  pub said : after.said ≡ before.said ++ parted.said
  pub fresh : after.fresh ≡ parted.fresh
  pub env : after.way.env ≡ before.way.env
  pub trail : after.trail ≡ before.trail
  pub ways : AreEnded changed before.way.env ended parted.ways
  pub loses : parted.loses ≡ lost
  pub breaks : after.breaks ≡ before.breaks ++ map (arrival in_loop) parted.breaks
  pub returns : after.returns ≡ before.returns ++ map (arrival in_method) parted.returns
  pub sorted_breaks : AreSortedWays in_loop parted.breaks
  pub sorted_returns : AreSortedWays in_method parted.returns
