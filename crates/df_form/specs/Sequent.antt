-- Sequents: hypotheses and a goal.
use Rattle.std.specs.Prelude.{◌≡◌, ℕ, suc, ◌<◌, true, List, [], ◌∷◌, ◌++◌, length, slice_get, Some}
use Rattle.std.specs.List.{list_all, AllByRecursion}
use Rattle.df_form.specs.World.{World}
use Rattle.df_form.specs.Node.{Node}
use Rattle.df_form.specs.Sorting.{IsTable, is_formula}
use Rattle.df_form.specs.Truth.{Assignment, truth}

-- formulas, by the numbers of their nodes, and what they know of their program
pub record Sequent : Type 0 where
  pub world : World
  pub nodes : List Node
  pub hypotheses : List ℕ
  pub goal : ℕ

-- at every depth and assignment, where the hypotheses are true so is the goal
abbrev pub IsValid : Sequent → Type 0
IsValid s = (depth : ℕ) (assignment : Assignment) → AllByRecursion (λ h. truth depth s.world assignment s.nodes h ≡ true) s.hypotheses → truth depth s.world assignment s.nodes s.goal ≡ true

-- Going through nodes, the parts of each before itself, meets new ones in the order of their numbers:
-- before it those below the first number are met, after it those below the second.
pub data Walk (nodes : List Node) : ℕ → List ℕ → ℕ → Type 0 where
  ends : {met : ℕ} → Walk nodes met [] met
  again : {met after n : ℕ} {others : List ℕ} → n < met → Walk nodes met others after → Walk nodes met (n ∷ others) after
  first : {met after n : ℕ} {others : List ℕ} {node : Node} → slice_get nodes n ≡ Some node → Walk nodes met node.parts n → Walk nodes (suc n) others after → Walk nodes met (n ∷ others) after

-- the nodes are those of the hypotheses in order, then of the goal, in postorder of first occurrence
abbrev pub IsNumbered : Sequent → Type 0
IsNumbered s = Walk s.nodes 0 (s.hypotheses ++ s.goal ∷ []) (length s.nodes)

-- what makes a sequent of its parts
pub record IsSequent (s : Sequent) : Type 0 where
  pub table : IsTable s.nodes
  pub formulas : list_all (is_formula s.nodes) (s.hypotheses ++ s.goal ∷ []) ≡ true
