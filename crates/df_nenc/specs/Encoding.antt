-- What is made of expressions in a table of nodes.
use Rattle.std.specs.Prelude.{◌≡◌, ℕ, true, List, ◌++◌, map, Option}
use Rattle.std.specs.List.{AllByRecursion}
use Rattle.df_lang.specs.declared.ty.Ty.{Ty}
use Rattle.df_lang.specs.Expr.{Expr}
use Rattle.df_lang.specs.Program.{Program}
use Rattle.df_lang.specs.Typing.{is_expr}
use Rattle.df_form.specs.Node.{Node}
use Rattle.df_nterm.specs.Term.{Term, Truths}
use Rattle.df_nterm.specs.Expressions.{Condition, term_of, conditions_under}
use Rattle.df_nenc.specs.declared.condition.Condition as declared
use Rattle.df_nenc.specs.Tree.{tree_at, trees_in, path_in}
use Rattle.df_nenc.specs.Growing.{Grows, IsFront}
use Rattle.df_nenc.specs.Standing.{IsTerm, Stands, AreLocals}

-- ---- conditions

abbrev pub condition_in : List Node → declared.Condition → Condition
condition_in nodes c = record { pos = c.pos; kind = c.kind; formula = tree_at nodes c.formula }

abbrev pub conditions_in : List Node → List declared.Condition → List Condition
conditions_in nodes conditions = map (condition_in nodes) conditions

abbrev pub AreConditions : List Node → List declared.Condition → Type 0
AreConditions nodes conditions = AllByRecursion (λ (c : declared.Condition). IsTerm Truths nodes c.formula) conditions

-- the table has grown, and so has the list of conditions
pub record Extends (old new : List Node) (before after : List declared.Condition) : Type 0 where
  pub grows : Grows old new
  pub begins : IsFront before after

-- these conditions were added
pub record Adds (nodes : List Node) (conditions : List Condition) (before after : List declared.Condition) : Type 0 where
  pub more : List declared.Condition
  pub is : after ≡ before ++ more
  pub are : AreConditions nodes more
  pub conditions_are : conditions_in nodes more ≡ conditions

-- ---- expressions

-- the expression is well typed over locals that have terms
pub record IsOver (nodes : List Node) (terms : List ℕ) (e : Expr) : Type 0 where
  pub program : Program
  pub types : List Ty
  pub ty : Ty
  pub typed : is_expr program types ty e ≡ true
  pub locals : AreLocals nodes types terms

-- From one table to another the number of this term was made, and these conditions were added.
pub record Gives (tree : Term) (conditions : List Condition) (old new : List Node) (n : ℕ) (before after : List declared.Condition) : Type 0 where
  pub grows : Grows old new
  pub stands : Stands new tree n
  pub adds : Adds new conditions before after

-- the term of the expression over those of the locals, and its conditions at a place
abbrev pub Encodes : List Node → List Node → List ℕ → Option ℕ → Expr → ℕ → List declared.Condition → List declared.Condition → Type 0
Encodes old new terms path e n before after =
    Gives (term_of (trees_in old terms) e) (conditions_under (trees_in old terms) (path_in old path) e) old new n before after
