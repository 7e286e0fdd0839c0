-- Scopes of locals: which local a name means.
use Rattle.std.specs.Prelude.{◌≡◌, ◌≢◌, ℕ, ◌<◌, List, [], ◌∷◌, ◌++◌, Some, slice_get, take, drop}

-- the names of the locals of the scopes around, and of the innermost one, each in the order of their
-- declarations
pub record Scope : Type 0 where
  pub outer : List ℕ
  pub inner : List ℕ

abbrev pub no_locals : Scope
no_locals = record { outer = []; inner = [] }

-- all that are in scope; a local is known by its number here
abbrev pub all_locals : Scope → List ℕ
all_locals scope = scope.outer ++ scope.inner

-- a block begins: a scope of its own
abbrev pub enter : Scope → Scope
enter scope = record { outer = scope.outer ++ scope.inner; inner = [] }

-- one more local
abbrev pub declare : Scope → ℕ → Scope
declare scope name = record { outer = scope.outer; inner = scope.inner ++ name ∷ [] }

-- The innermost scope ends, and so many locals stand in the scopes around the one before it.
abbrev pub leave : Scope → ℕ → Scope
leave scope count = record { outer = take count scope.outer; inner = drop count scope.outer }

-- the name means the local of this number: the last one of all that has it
pub record IsLocal (names : List ℕ) (name number : ℕ) : Type 0 where
  pub there : slice_get names number ≡ Some name
  pub last : (later : ℕ) → number < later → slice_get names later ≢ Some name
