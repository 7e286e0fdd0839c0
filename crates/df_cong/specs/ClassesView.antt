-- What a caller sees of classes, and what keeps them.
use Rattle.std.specs.Prelude.{◌≡◌, ℕ, true, List}
use Rattle.df_form.specs.declared.log.Lit.{Lit}
use Rattle.df_form.specs.Node.{Node}
use Rattle.df_form.specs.Clause.{are_literals}
use Rattle.df_classes.specs.declared.holding.Holding.{Holding}
use Rattle.df_classes.specs.declared.signs.Signs.{Signs}
use Rattle.df_classes.specs.HoldingView.{IsHolding}
use Rattle.df_classes.specs.SignsView.{IsCovered}
use Rattle.df_classes.specs.mirror.Closure.{AreUsers}
use Rattle.df_classes.specs.mirror.Clash.{AreNumbers}

-- the nodes, and the literals that are held
pub record Held : Type 0 where
  pub table : List Node
  pub literals : List Lit

pub record IsClasses (nodes : List Node) (users : List (List ℕ)) (numbers : List ℕ) (holding : Holding) (signs : Signs) : Type 0 where
  pub users_are : AreUsers nodes users
  pub numbers_are : AreNumbers nodes numbers
  pub literals_are : are_literals nodes holding.held.items ≡ true
  pub holds : IsHolding nodes holding.held.items holding.levels.items holding.partition
  pub covered : IsCovered nodes holding signs
