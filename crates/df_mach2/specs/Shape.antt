-- Shapes, as lists.
use Rattle.std.specs.Prelude.{ℕ, List}

-- a constructor by its name, and the shapes of its arguments by their numbers
pub record Constructor : Type 0 where
  pub name : List ℕ
  pub parts : List ℕ

-- how a value is printed
pub data Shape : Type 0 where
  NumberShape : Shape
  TruthShape : Shape
  CharShape : Shape
  TextShape : Shape
  -- the shape of the members by its number
  ListShape : (members : ℕ) → Shape
  DataShape : List Constructor → Shape
