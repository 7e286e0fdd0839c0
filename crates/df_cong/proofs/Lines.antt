-- Lines of congruence and contradictions.
use Rattle.std.proofs.Common.{◌≡◌, ℕ, true, List, ◌++◌}
use Rattle.df_form.specs.declared.log.Pair.{Pair}
use Rattle.df_form.specs.Node.{Node}
use Rattle.df_form.specs.Clause.{Clause, are_literals}
use Rattle.df_rules.specs.Classes.{InOneClass}
use Rattle.df_rules.specs.Congruence.{negative_equalities, Closes, IsCongruence}
use Rattle.df_rules.specs.Congruence as kern
use Rattle.df_classes.specs.Equal.{IsContradicted, equals, opposites, numbers}
use Rattle.df_cong.specs.Laws.{HasLine, LinesAreContradictions}
use Rattle.df_classes.proofs.Pairs.{HasPairs, pairs_of, AllEqual, class_equal, pairs_equal}

module _ (nodes : List Node) (clause : Clause) (literals : are_literals nodes clause ≡ true) where
  line_by : (a b : ℕ) → HasPairs nodes (negative_equalities nodes clause) a b
      → ((pairs : List Pair) → InOneClass (negative_equalities nodes clause ++ pairs) a b → Closes nodes clause (negative_equalities nodes clause ++ pairs)) → HasLine nodes clause
  line_by a b h closes = record { pairs = h.pairs; line = record { literals = literals; congruent = h.congruent; closes = closes h.pairs h.together } }

  line_of : IsContradicted nodes clause → HasLine nodes clause
  line_of (equals {n} {pair} there sides h) = line_by pair.left pair.right (pairs_of nodes (negative_equalities nodes clause) pair.left pair.right h) (λ pairs together. kern.equals there sides together)
  line_of (opposites {m} {n} negative positive h) = line_by m n (pairs_of nodes (negative_equalities nodes clause) m n h) (λ pairs together. kern.opposites negative positive together)
  line_of (numbers {m} {n} {j} {k} first second differ h) = line_by m n (pairs_of nodes (negative_equalities nodes clause) m n h) (λ pairs together. kern.numbers first second differ together)

closed_is : (nodes : List Node) (clause : Clause) (pairs : List Pair) → AllEqual nodes (negative_equalities nodes clause) pairs → Closes nodes clause pairs → IsContradicted nodes clause
closed_is nodes clause pairs all (kern.equals {n} {pair} there sides together) = equals there sides (class_equal nodes (negative_equalities nodes clause) pairs all pair.left pair.right together)
closed_is nodes clause pairs all (kern.opposites {m} {n} negative positive together) = opposites negative positive (class_equal nodes (negative_equalities nodes clause) pairs all m n together)
closed_is nodes clause pairs all (kern.numbers {m} {n} {j} {k} first second differ together) = numbers first second differ (class_equal nodes (negative_equalities nodes clause) pairs all m n together)

line_is : (nodes : List Node) (clause : Clause) → HasLine nodes clause → IsContradicted nodes clause
line_is nodes clause h =
    closed_is nodes clause (negative_equalities nodes clause ++ h.pairs) (pairs_equal nodes (negative_equalities nodes clause) h.pairs h.line.congruent) h.line.closes

pub lines_are_contradictions : LinesAreContradictions
lines_are_contradictions nodes clause literals = (line_is nodes clause, line_of nodes clause literals)
