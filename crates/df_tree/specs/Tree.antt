-- Concrete syntax trees.
use Rattle.std.specs.Prelude.{ℕ, List, [], ◌∷◌, ◌++◌}
use Rattle.df_tok.specs.Token.{Token}

mutual
  pub data Tree : Type 0 where
    Leaf : Token → Tree
    Node : ℕ → Trees → Tree

  pub data Trees : Type 0 where
    none : Trees
    more : Tree → Trees → Trees

abbrev pub trees_of : List Tree → Trees
trees_of [] = none
trees_of (t ∷ ts) = more t (trees_of ts)

abbrev mutual
  -- the tokens that a tree spells
  pub leaves : Tree → List Token
  leaves (Leaf x) = x ∷ []
  leaves (Node n ts) = leaves_all ts

  pub leaves_all : Trees → List Token
  leaves_all none = []
  leaves_all (more t ts) = leaves t ++ leaves_all ts
