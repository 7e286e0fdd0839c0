-- The code's records, as trees.
use Rattle.std.specs.Prelude.{◌≡◌, ◌<◌, ℕ, List, length, map, slice_get, Some}
use Rattle.std.specs.List.{AllByRecursion}
use Rattle.df_lang.specs.declared.ty.Ty.{Ty}
use Rattle.df_form.specs.Node.{Node}
use Rattle.df_nterm.specs.Term.{sort_of_type}
use Rattle.df_nenc.specs.Tree.{sort_of_term, tree_at, trees_at, path_in}
use Rattle.df_nmeas.specs.Measuring.{AreMembers}
use Rattle.df_nmeas.specs.declared.measured.Measured as members
use Rattle.df_nledger.specs.Said.{HasPath}
use Rattle.df_nflow.specs.Ways.{Kept, Arrival}
use Rattle.df_nflow.specs.Branches.{Ended}
use Rattle.df_nflow.specs.declared.way.Kept as declared_kept
use Rattle.df_nflow.specs.declared.way.Arrived as declared_arrived

abbrev pub kept_in : List Node → declared_kept.Kept → Kept
kept_in nodes k = record { local = k.local; term = tree_at nodes k.term }

abbrev pub all_kept_in : List Node → List declared_kept.Kept → List Kept
all_kept_in nodes all = map (kept_in nodes) all

-- the local is one of these, and the term of its sort
pub record IsKept (nodes : List Node) (types : List Ty) (local term : ℕ) : Type 0 where
  pub within : local < length types
  pub below : term < length nodes
  pub sorted : (ty : Ty) → slice_get types local ≡ Some ty → sort_of_term (tree_at nodes term) ≡ sort_of_type ty

abbrev pub AreKept : List Node → List Ty → List declared_kept.Kept → Type 0
AreKept nodes types all = AllByRecursion (λ (k : declared_kept.Kept). IsKept nodes types k.local k.term) all

abbrev pub arrival_in : List Node → declared_arrived.Arrived → Arrival
arrival_in nodes a = record { path = path_in nodes a.path; terms = trees_at nodes a.terms.items }

abbrev pub arrivals_in : List Node → List declared_arrived.Arrived → List Arrival
arrivals_in nodes all = map (arrival_in nodes) all

-- its path is a formula, and its terms are there
pub record IsArrived (nodes : List Node) (types : List Ty) (a : declared_arrived.Arrived) : Type 0 where
  pub path : HasPath nodes a.path
  pub below : AllByRecursion (λ n. n < length nodes) a.terms.items
  pub ahead : AreKept nodes types a.ahead.items

abbrev pub AreArrived : List Node → List Ty → List declared_arrived.Arrived → Type 0
AreArrived nodes types all = AllByRecursion (IsArrived nodes types) all

-- the paths are formulas
abbrev pub ArePaths : List Node → List declared_arrived.Arrived → Type 0
ArePaths nodes all = AllByRecursion (λ (a : declared_arrived.Arrived). HasPath nodes a.path) all

-- a way at the end of a branch
abbrev pub ended_in : List Node → declared_arrived.Arrived → Ended
ended_in nodes a = record { arrival = arrival_in nodes a; ahead = all_kept_in nodes a.ahead.items }

abbrev pub all_ended_in : List Node → List declared_arrived.Arrived → List Ended
all_ended_in nodes all = map (ended_in nodes) all

-- each local has a term of the sort of its type
pub record HaveTerms (nodes : List Node) (types : List Ty) (terms : List ℕ) : Type 0 where
  pub many : length terms ≡ length types
  pub below : AllByRecursion (λ n. n < length nodes) terms
  pub sorted : (local n : ℕ) (ty : Ty) → slice_get types local ≡ Some ty → slice_get terms local ≡ Some n → sort_of_term (tree_at nodes n) ≡ sort_of_type ty

-- and all that is kept is there
pub record IsPassed (nodes : List Node) (types : List Ty) (terms : List ℕ) (entry : List members.Measured) (trail : List declared_kept.Kept) (breaks returns : List declared_arrived.Arrived) : Type 0 where
  pub have_terms : HaveTerms nodes types terms
  pub are_measured : AreMembers nodes entry
  pub are_kept : AreKept nodes types trail
  pub are_breaks : AreArrived nodes types breaks
  pub are_returns : AreArrived nodes types returns
