-- What congruence comes to.
use Rattle.std.specs.Prelude.{◌≡◌, ◌↔◌, true, List, length, map, take, Contains}
use Rattle.df_form.specs.declared.log.Lit.{Lit}
use Rattle.df_form.specs.declared.log.Pair.{Pair}
use Rattle.df_form.specs.Node.{Node}
use Rattle.df_form.specs.Clause.{Clause, negation, are_literals}
use Rattle.df_form.specs.Sorting.{IsTable}
use Rattle.df_rules.specs.Congruence.{IsCongruence}
use Rattle.df_classes.specs.Equal.{IsContradicted}

-- some pairs make a line of congruence of the clause
pub record HasLine (nodes : List Node) (clause : Clause) : Type 0 where
  pub pairs : List Pair
  pub line : IsCongruence nodes clause pairs

-- A clause of literals has a line of congruence exactly where the least congruence contradicts its negation.
abbrev pub LinesAreContradictions : Type 0
LinesAreContradictions = (nodes : List Node) (clause : Clause) → are_literals nodes clause ≡ true → HasLine nodes clause ↔ IsContradicted nodes clause

-- More literals and more nodes keep a contradiction.
abbrev pub ContradictionsStay : Type 0
ContradictionsStay = (nodes more : List Node) (few many : List Lit) → take (length nodes) more ≡ nodes → ((l : Lit) → Contains few l → Contains many l) → IsContradicted nodes (map negation few) → IsContradicted more (map negation many)

-- Nodes that come later contradict no literals of those before them.
abbrev pub LaterNodesAddNone : Type 0
LaterNodesAddNone = (nodes more : List Node) (literals : List Lit) → IsTable more → take (length nodes) more ≡ nodes → are_literals nodes literals ≡ true → IsContradicted more (map negation literals) → IsContradicted nodes (map negation literals)
