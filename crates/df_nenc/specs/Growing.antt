-- Tables of nodes and lists that grow at their end.
use Rattle.std.specs.Prelude.{◌≡◌, List, ◌++◌, length, take}
use Rattle.df_form.specs.Node.{Node}

-- the nodes of the one begin those of the other
pub record Grows (before now : List Node) : Type 0 where
  pub more : List Node
  pub is : now ≡ before ++ more

-- the first elements of the one are the other
unfoldable pub IsFront : {A : Type 0} → List A → List A → Type 0
IsFront front all = take (length front) all ≡ front
