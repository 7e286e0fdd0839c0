-- A literal and its negation.
use Rattle.std.proofs.Common.{◌≡◌, Bool, true, false, ◌&&◌, ◌==◌, List, [], ◌∷◌, map, refl, arith}
use Rattle.std.proofs.Math.Bool.{not-not}
use Rattle.df_meaning.specs.Value.{same_truth}
use Rattle.df_form.specs.declared.log.Lit.{Lit}
use Rattle.df_form.specs.Clause.{negation, same_literal}

pub negated_twice : (l : Lit) → negation (negation l) ≡ l
negated_twice l = λ i. record { positive = not-not l.positive i; node = l.node }

pub all_negated_twice : (literals : List Lit) → map negation (map negation literals) ≡ literals
all_negated_twice [] = refl
all_negated_twice (l ∷ others) = λ i. negated_twice l i ∷ all_negated_twice others i

pub same_self : (l : Lit) → same_literal l l ≡ true
same_self l = by l.positive
  where
    by : (b : Bool) → (same_truth b b && l.node == l.node) ≡ true
    by true = grind arith
    by false = grind arith
