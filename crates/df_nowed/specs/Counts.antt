-- Formulas whose nodes are numbered in postorder of first occurrence.
use Rattle.std.specs.Prelude.{◌≡◌, ◌≤◌, ℕ, suc, true, List, length, take, get_or}
use Rattle.std.specs.List.{list_all}
use Rattle.df_form.specs.Node.{Node}
use Rattle.df_form.specs.Sequent.{Walk}
use Rattle.df_form.specs.Sorting.{IsTable, is_formula}

-- so many first nodes are those of the formulas
pub record IsFront (nodes : List Node) (formulas : List ℕ) (count : ℕ) : Type 0 where
  pub within : count ≤ length nodes
  pub are_formulas : list_all (is_formula (take count nodes)) formulas ≡ true
  pub walked : ∥ Walk (take count nodes) 0 formulas count ∥₁

-- how many nodes there are before the first formula and behind each
pub record AreCounts (nodes : List Node) (formulas : List ℕ) (counts : List ℕ) : Type 0 where
  pub table : IsTable nodes
  pub long : length counts ≡ suc (length formulas)
  pub at : (n : ℕ) → n ≤ length formulas → IsFront nodes (take n formulas) (get_or counts n 0)
