-- Nodes that break the congruence of a table.
use Rattle.std.specs.Prelude.{◌≡◌, ℕ, ℤ, List, map, slice_get, Option, None, Some}
use Rattle.df_form.specs.declared.log.Pair.{Pair}
use Rattle.df_form.specs.Node.{Node}
use Rattle.df_table.specs.TableModel.{number_at, Agree}

-- two nodes of one operation whose arguments have equal numbers have other numbers
pub record Disagree (nodes : List Node) (table : List ℤ) (m n : ℕ) : Type 0 where
  pub first : Node
  pub second : Node
  pub left : slice_get nodes m ≡ Some first
  pub right : slice_get nodes n ≡ Some second
  pub op : first.op ≡ second.op
  pub parts : map (number_at table) first.parts ≡ map (number_at table) second.parts
  pub unequal : number_at table m ≡ number_at table n → ⊥

-- two that disagree, or that no two do
abbrev pub TellsDisagreement : List Node → List ℤ → Option Pair → Type 0
TellsDisagreement nodes table (Some pair) = Disagree nodes table pair.left pair.right
TellsDisagreement nodes table None = (m n : ℕ) → Agree nodes table m n
