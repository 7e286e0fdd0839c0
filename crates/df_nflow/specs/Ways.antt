-- Ways of which the terms of some locals are kept.
use Rattle.std.specs.Prelude.{◌≡◌, ℕ, List, [], ◌∷◌, map, Option}
use Rattle.std.specs.List.{AllByRecursion}
use Rattle.df_meaning.specs.Modular.{Changed}
use Rattle.df_nterm.specs.Term.{Term, sort_of_type}
use Rattle.df_nterm.specs.Expressions.{Environment}
use Rattle.df_nenc.specs.Tree.{sort_of_term}
use Rattle.df_npass.specs.Rules.{Way, with_term}

-- a term that a local had, or is to have
pub record Kept : Type 0 where
  pub local : ℕ
  pub term : Term

-- the locals have these terms, the first of the list at last
abbrev pub back : List Kept → Environment → Environment
back [] env = env
back (kept ∷ others) env = with_term (back others env) kept.local kept.term

-- a way, of which the terms of some locals are kept
pub record Arrival : Type 0 where
  pub path : Option Term
  pub terms : List Term

abbrev pub arrival : List Changed → Way → Arrival
arrival changed way = record { path = way.path; terms = map (λ (c : Changed). way.env c.local) changed }

-- each of these locals has a term of the sort of its type there
abbrev pub IsSortedWay : List Changed → Way → Type 0
IsSortedWay changed way = AllByRecursion (λ (c : Changed). sort_of_term (way.env c.local) ≡ sort_of_type c.ty) changed

abbrev pub AreSortedWays : List Changed → List Way → Type 0
AreSortedWays changed ways = AllByRecursion (IsSortedWay changed) ways

-- these are the ways, by the terms of the locals
pub record Arrive (changed : List Changed) (arrivals : List Arrival) (ways : List Way) : Type 0 where
  pub are : arrivals ≡ map (arrival changed) ways
  pub sorted : AreSortedWays changed ways
