-- Members of lists.
use Rattle.std.specs.Prelude.{◌≡◌, ℕ, List, slice_get, Some}

abbrev pub Among : {A : Type 0} → List A → A → Type 0
Among xs x = (i : ℕ) × (slice_get xs i ≡ Some x)
