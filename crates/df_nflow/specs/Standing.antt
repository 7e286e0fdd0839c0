-- Where passing over statements stands.
use Rattle.std.specs.Prelude.{◌≡◌, ℕ, Bool, true, false, List, [], ◌++◌, map, Option, None, Some}
use Rattle.df_lang.specs.declared.ty.Ty.{Ty}
use Rattle.df_nterm.specs.Term.{Term}
use Rattle.df_meaning.specs.Modular.{Changed}
use Rattle.df_nterm.specs.Expressions.{Environment}
use Rattle.df_nterm.specs.Measuring.{Measured}
use Rattle.df_npass.specs.Rules.{Said, Way, Moved, Joined, over}
use Rattle.df_npass.specs.Statements.{Flow, goes_on}
use Rattle.df_nflow.specs.Ways.{Kept, back, Arrival, arrival, AreSortedWays}

-- The types of the locals and the measure on entry; what was said, the number of the next free term, the way that came
-- here, what its locals were before, and the ways that left.
pub record Standing : Type 0 where
  pub types : List Ty
  pub entry : List Measured
  pub said : List Said
  pub fresh : ℕ
  pub way : Way
  pub trail : List Kept
  pub breaks : List Arrival
  pub returns : List Arrival

-- with this said too
abbrev pub also : List Said → Standing → Standing
also said s = record { types = s.types; entry = s.entry; said = s.said ++ said; fresh = s.fresh; way = s.way; trail = s.trail; breaks = s.breaks; returns = s.returns }

-- on another path
abbrev pub at_path : Option Term → Standing → Standing
at_path path s = record { types = s.types; entry = s.entry; said = s.said; fresh = s.fresh; way = record { env = s.way.env; path = path }; trail = s.trail; breaks = s.breaks; returns = s.returns }

-- over other terms, with another trail
abbrev pub over_terms : Environment → List Kept → Standing → Standing
over_terms env trail s = record { types = s.types; entry = s.entry; said = s.said; fresh = s.fresh; way = over env s.way; trail = trail; breaks = s.breaks; returns = s.returns }

abbrev pub way_if : Bool → Way → Option Way
way_if true way = Some way
way_if false way = None

-- From the one standing to the other this flow was passed, where breaks lead to a join of the first locals and returns
-- to one of the second: whether a run goes on, and whether some may not.
pub record Passes (in_loop in_method : List Changed) (before : Standing) (flow : Flow) (after : Standing) (on lost : Bool) : Type 0 where
  pub types : after.types ≡ before.types
  pub entry : after.entry ≡ before.entry
  pub said : after.said ≡ before.said ++ flow.said
  pub fresh : after.fresh ≡ flow.fresh
  pub way : flow.way ≡ way_if on after.way
  pub loses : flow.loses ≡ lost
  pub kept : List Kept
  pub trail : after.trail ≡ before.trail ++ kept
  pub back : back kept after.way.env ≡ before.way.env
  pub breaks : after.breaks ≡ before.breaks ++ map (arrival in_loop) flow.breaks
  pub returns : after.returns ≡ before.returns ++ map (arrival in_method) flow.returns
  pub sorted_breaks : AreSortedWays in_loop flow.breaks
  pub sorted_returns : AreSortedWays in_method flow.returns

-- all runs go on
abbrev pub Moves : Standing → Moved → Standing → Type 0
Moves before moved after = Passes [] [] before (goes_on moved) after true false

-- where ways have come together
abbrev pub joined_flow : Joined → Flow
joined_flow joined = record { said = joined.said; fresh = joined.fresh; way = joined.way; breaks = []; returns = []; loses = false }

abbrev pub Joins : Standing → Joined → Standing → Bool → Type 0
Joins before joined after on = Passes [] [] before (joined_flow joined) after on false
