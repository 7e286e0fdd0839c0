-- The lines of logs as contracts see them.
use Rattle.std.specs.Prelude.{ℕ, ℤ, List, map}
use Rattle.df_form.specs.declared.log.Lit.{Lit}
use Rattle.df_form.specs.declared.log.Multiple.{Multiple}
use Rattle.df_form.specs.declared.log.Pair.{Pair}
use Rattle.df_form.specs.declared.log.Combination as declared_combination
use Rattle.df_form.specs.declared.log.Step as declared
use Rattle.df_form.specs.declared.log.Step.TheVariants as lines
use Rattle.df_form.specs.Node.{Node, node_of}

-- a sum of rows by factors, divided
pub record Combination : Type 0 where
  pub divisor : ℤ
  pub members : List Multiple

pub data Step : Type 0 where
  Hypothesis : ℕ → Step
  Goal : Step
  Connective : (node clause : ℕ) → Step
  Schema : (schema clause : ℕ) (terms : List ℕ) → Step
  Propagation : (clauses : List ℕ) (conclusion : List Lit) → Step
  Congruence : (conclusion : List Lit) (pairs : List Pair) → Step
  Linear : (conclusion : List Lit) (combinations : List Combination) → Step
  Split : (node : ℕ) (bound : ℤ) → Step
  Make : Node → Step

-- the code's lines, without where they lie in memory
abbrev pub combination_of : declared_combination.Combination → Combination
combination_of c = record { divisor = c.divisor; members = c.members.items }

abbrev pub step_of : declared.Step → Step
step_of (lines.Hypothesis i) = Hypothesis i
step_of lines.Goal = Goal
step_of (lines.Connective node clause) = Connective node clause
step_of (lines.Schema schema clause terms) = Schema schema clause terms.items
step_of (lines.Propagation clauses conclusion) = Propagation clauses.items conclusion.items
step_of (lines.Congruence conclusion pairs) = Congruence conclusion.items pairs.items
step_of (lines.Linear conclusion combinations) = Linear conclusion.items (map combination_of combinations.items)
step_of (lines.Split node bound) = Split node bound
step_of (lines.Make node) = Make (node_of node)
