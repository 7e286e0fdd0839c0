-- What the outside holds and takes, and what its counts of faults say.
use Rattle.std.specs.Prelude.{◌≡◌, ℕ, ◌-◌, ◌^◌, ◌<◌, ◌≤◌, ◌⊎◌, List, [], ◌∷◌, ◌++◌, Option, Some, None, take, cond}
use Rattle.std.specs.Io.KnownBytes as known
use Rattle.df_base.specs.Names.{same_text}

-- a map from the names of files to their bytes: the first pair of a name counts
abbrev pub Contents : Type 0
Contents = List (List ℕ × List ℕ)

-- the bytes of a file, where there is one of this name
abbrev pub bytes_of : Contents → List ℕ → Option (List ℕ)
bytes_of [] name = None
bytes_of (file ∷ files) name = cond (same_text name file.0) (Some file.1) (bytes_of files name)

-- A count of faults before and after a call: it never falls, and a failure has its cause in it. It rose
-- in the call, or it stands at its last value.
pub record HasCause (before now : ℕ) (failed : Type 0) : Type 0 where
  pub kept : before ≤ now
  pub rose : failed → (before < now) ⊎ (now ≡ 2 ^ 64 - 1)

-- what was taken, where it is told, with these bytes at its end
abbrev pub Appends : Option (List ℕ) → Option (List ℕ) → List ℕ → Type 0
Appends None new bytes = new ≡ None
Appends (Some old) new bytes = new ≡ Some (old ++ bytes)

-- the same with a prefix of the bytes
abbrev pub AppendsPrefix : Option (List ℕ) → Option (List ℕ) → List ℕ → Type 0
AppendsPrefix old new bytes = (count : ℕ) × Appends old new (take count bytes)

-- known bytes grow by a prefix of the bytes
abbrev pub AppendsKnownPrefix : Option (List ℕ) → Option (List ℕ) → List ℕ → Type 0
AppendsKnownPrefix old new bytes = (count : ℕ) × known.Appends old new (take count bytes)
