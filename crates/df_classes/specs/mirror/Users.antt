-- Nodes by their parts.
use Rattle.std.specs.Prelude.{◌≡◌, ◌<◌, ℕ, List, length, Contains, slice_get, Some}
use Rattle.df_form.specs.Node.{Node}
use Rattle.df_classes.specs.mirror.State.{list_at}

-- a user is added to the lists of these parts
pub record AddsUser (old new : List (List ℕ)) (parts : List ℕ) (user : ℕ) : Type 0 where
  pub each : length new ≡ length old
  pub keeps : (n p : ℕ) → Contains (list_at old n) p → Contains (list_at new n) p
  pub adds : (n : ℕ) → n < length old → Contains parts n → Contains (list_at new n) user

-- the users of nodes are there, as far as the nodes below a number
pub record AreUsersBelow (nodes : List Node) (users : List (List ℕ)) (count : ℕ) : Type 0 where
  pub each : length users ≡ length nodes
  pub used : (p n : ℕ) (node : Node) → p < count → slice_get nodes p ≡ Some node → Contains node.parts n → Contains (list_at users n) p
