-- Where a derivation of the same tokens first differs from the tree of the grammar, it ends and the tree goes on.
use Rattle.std.specs.Prelude.{◌≡◌, ℕ, ◌⊎◌, false, List, [], ◌++◌, drop}
use Rattle.df_tok.specs.Token.{Token}
use Rattle.df_tree.specs.declared.production.Part.TheVariants.{Nonterminal}
use Rattle.df_tree.specs.Tree.{Tree, Leaf, Node, Trees, none, more, leaves}
use Rattle.df_tree.specs.Grammar.{part_of, IsTree, IsSettled, IsTreeOf, IsPartAt}

-- Tree by tree from the left they are the same up to a production that in the second ends where in the first a tree
-- more stands.
abbrev mutual
  pub GoesFurther : Tree → Tree → Type 0
  GoesFurther (Leaf x) u = ⊥
  GoesFurther (Node n ts) (Leaf y) = ⊥
  GoesFurther (Node n ts) (Node m us) = (n ≡ m) × GoFurther ts us

  pub GoFurther : Trees → Trees → Type 0
  GoFurther none us = ⊥
  GoFurther (more t ts) none = Unit {0}
  GoFurther (more t ts) (more u us) = GoesFurther t u ⊎ ((t ≡ u) × GoFurther ts us)

-- A derivation by the productions, wherever they may end.
pub record IsDerivation (n : ℕ) (tokens : List Token) (u : Tree) (behind : List Token) : Type 0 where
  pub starts : part_of u ≡ Nonterminal n
  pub right : IsTree u
  pub spelled : leaves u ++ behind ≡ tokens
  -- A narrow production begins as its classes say.
  pub begun : IsSettled (λ r. false) u behind

-- a tree of the grammar for the whole text, against any derivation of it
abbrev pub IsFurthest : Type 0
IsFurthest = (n : ℕ) (tokens : List Token) (t u : Tree) → IsTreeOf n tokens t → IsDerivation n tokens u [] → (u ≡ t) ⊎ GoesFurther t u

-- and one for a part of it, against any derivation from there on
abbrev pub IsFurthestPart : Type 0
IsFurthestPart = (n : ℕ) (tokens : List Token) (start after : ℕ) (t u : Tree) (behind : List Token)
    → IsPartAt n tokens start after t → IsDerivation n (drop start tokens) u behind → (u ≡ t) ⊎ GoesFurther t u
