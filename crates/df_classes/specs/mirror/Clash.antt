-- Whether held literals clash by the labels of their nodes.
use Rattle.std.specs.Prelude.{◌≡◌, ℕ, ℤ, Bool, not, ◌&&◌, ◌||◌, List, slice_get, Some, Contains}
use Rattle.std.specs.List.{list_any}
use Rattle.df_form.specs.declared.log.Lit.{Lit}
use Rattle.df_form.specs.Node.{Node}
use Rattle.df_row.specs.Row.{literal_number}
use Rattle.df_rules.specs.Congruence.{equality}
use Rattle.df_rules.specs.CongruenceLine.{is_paired, has_opposites, has_two_numbers}

-- the literal denies an equality whose sides have one label
abbrev pub is_denied : List Node → (ℕ → ℕ) → Lit → Bool
is_denied nodes label l = not l.positive && is_paired label (equality nodes l.node)

abbrev pub has_denied : List Node → (ℕ → ℕ) → List Lit → Bool
has_denied nodes label held = list_any (is_denied nodes label) held

-- or two literals of one label have different signs, or two different numbers have one label
abbrev pub clash : List Node → (ℕ → ℕ) → List ℕ → List Lit → Bool
clash nodes label numbers held = has_denied nodes label held || has_opposites label held || has_two_numbers nodes label numbers

-- all nodes that are numbers are among these
abbrev pub AreNumbers : List Node → List ℕ → Type 0
AreNumbers nodes numbers = (n : ℕ) (k : ℤ) → literal_number (slice_get nodes n) ≡ Some k → Contains numbers n
