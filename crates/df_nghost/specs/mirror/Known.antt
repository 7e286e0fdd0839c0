-- Which locals have a value at a point of a body, as the code keeps it.
use Rattle.std.specs.Prelude.{◌≡◌, ℕ, ◌==◌, Bool, true, false, ◌||◌, List, [], ◌∷◌, ◌++◌, length}
use Rattle.df_lang.specs.Assignment.{Assigned, Unreached, Reached, join}
use Rattle.df_nghost.specs.mirror.Listed.{holds}
use Rattle.df_nghost.specs.declared.assigned.Assigned as declared
use Rattle.df_nghost.specs.declared.join.Join as declared_join

abbrev pub set_of : Bool → List Bool → Assigned
set_of true values = Reached (λ local. holds values local)
set_of false values = Unreached

abbrev pub assigned_of : declared.Assigned → Assigned
assigned_of a = set_of a.reached a.values.listed.items

-- the local is one of these
abbrev pub among : List ℕ → ℕ → Bool
among [] local = false
among (taken ∷ others) local = (local == taken) || among others local

-- from the one point to the other more locals took a value
pub record Extends (before behind : declared.Assigned) : Type 0 where
  pub more : List ℕ
  pub taken : behind.taken.items ≡ before.taken.items ++ more
  pub values : (local : ℕ) → holds behind.values.listed.items local ≡ (holds before.values.listed.items local || among more local)
  pub fresh : (local : ℕ) → among more local ≡ true → holds before.values.listed.items local ≡ false

-- the same is known as before
pub record IsBack (before behind : declared.Assigned) : Type 0 where
  pub reached : behind.reached ≡ before.reached
  pub taken : behind.taken.items ≡ before.taken.items
  pub values : (local : ℕ) → holds behind.values.listed.items local ≡ holds before.values.listed.items local

-- ---- where ways join that begin at one point

abbrev pub joined_with : Bool → List Bool → List ℕ → Assigned
joined_with true values taken = Reached (λ local. holds values local || among taken local)
joined_with false values taken = Unreached

abbrev pub joined_of : declared.Assigned → declared_join.Join → Assigned
joined_of before ways = joined_with ways.reached before.values.listed.items ways.taken.items

-- one more way joins, from where so many locals had taken their value
abbrev pub Joins : declared_join.Join → declared_join.Join → declared.Assigned → ℕ → Type 0
Joins one other way count =
    (before : declared.Assigned) → Extends before way → length before.taken.items ≡ count → joined_of before other ≡ join (joined_of before one) (assigned_of way)
