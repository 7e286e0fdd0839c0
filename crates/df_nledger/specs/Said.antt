-- What the code says, as trees.
use Rattle.std.specs.Prelude.{ℕ, List, map, Option, IfSome}
use Rattle.std.specs.List.{AllByRecursion}
use Rattle.df_form.specs.Node.{Node}
use Rattle.df_nterm.specs.Term.{Truths}
use Rattle.df_nenc.specs.Tree.{tree_at}
use Rattle.df_nenc.specs.Standing.{IsTerm}
use Rattle.df_npass.specs.Rules.{Said, Known, Owed}
use Rattle.df_nledger.specs.declared.said.Said as declared
use Rattle.df_nledger.specs.declared.said.Said.TheVariants as said

-- the number of its formula
abbrev pub formula_in : declared.Said → ℕ
formula_in (said.Known formula) = formula
formula_in (said.Owed at kind formula) = formula

abbrev pub one_said : List Node → declared.Said → Said
one_said nodes (said.Known formula) = Known (tree_at nodes formula)
one_said nodes (said.Owed at kind formula) = Owed at kind (tree_at nodes formula)

abbrev pub said_in : List Node → List declared.Said → List Said
said_in nodes all = map (one_said nodes) all

-- all is said of formulas
abbrev pub AreSaid : List Node → List declared.Said → Type 0
AreSaid nodes all = AllByRecursion (λ (one : declared.Said). IsTerm Truths nodes (formula_in one)) all

-- the formula of a place is one, if not all runs come there
abbrev pub HasPath : List Node → Option ℕ → Type 0
HasPath nodes path = IfSome path (IsTerm Truths nodes)

-- all is said of formulas, at a place of one
pub record IsLedger (nodes : List Node) (path : Option ℕ) (all : List declared.Said) : Type 0 where
  pub path_is : HasPath nodes path
  pub are_said : AreSaid nodes all
