-- Lines of congruences, by computation.
use Rattle.std.proofs.Common.{◌≡◌, ℕ, pos, List, [], ◌∷◌, Option, None, Some, refl}
use Rattle.df_lang.specs.declared.ty.Ty.TheVariants as types
use Rattle.df_form.specs.declared.log.Pair.{Pair}
use Rattle.df_form.specs.declared.node.Sort.{Sort}
use Rattle.df_form.specs.declared.node.Sort.TheVariants as sorts
use Rattle.df_form.specs.declared.node.Op.{Op}
use Rattle.df_form.specs.declared.node.Op.TheVariants as ops
use Rattle.df_form.specs.Symbol.{symbols as table, same_symbol}
use Rattle.df_form.specs.Node.{Node, test_of}
use Rattle.df_form.specs.Clause.{Clause, yes, no}
use Rattle.df_rules.specs.CongruenceLine.{congruence_line}

abbrev node : Op → List ℕ → Node
node op parts = record { op = op; parts = parts }

abbrev free : ℕ → Sort → Node
free number sort = node (ops.Free (record { number = number; sort = sort })) []

-- x 0, y 1, x = y 2, 1 3, 2 4, 1 = 2 5, x = x 6, x = 1 7
abbrev numbers : List Node
numbers =
    free 0 sorts.Number ∷ free 1 sorts.Number ∷ node ops.Equal (0 ∷ 1 ∷ []) ∷ node (ops.Number (pos 1)) [] ∷ node (ops.Number (pos 2)) [] ∷ node ops.Equal (3 ∷ 4 ∷ []) ∷ node ops.Equal (0 ∷ 0 ∷ []) ∷ node ops.Equal (0 ∷ 3 ∷ []) ∷ []

-- x 0, y 1, x = y 2, x and y of one type 3 and 4, y of another 5, x <= y 6, y <= y 7, y <= x 8
abbrev tests : List Node
tests =
    free 0 sorts.Number ∷ free 1 sorts.Number ∷ node ops.Equal (0 ∷ 1 ∷ []) ∷ node (test_of (types.Newtype 0)) (0 ∷ []) ∷ node (test_of (types.Newtype 0)) (1 ∷ []) ∷ node (test_of (types.Newtype 1)) (1 ∷ []) ∷ node ops.AtMost (0 ∷ 1 ∷ [])
    ∷ node ops.AtMost (1 ∷ 1 ∷ []) ∷ node ops.AtMost (1 ∷ 0 ∷ []) ∷ []

-- p 0, q 1, p = q 2, the `and` of p and p 3, of p and q 4, and of p alone 5, the `or` of these 6, 7 and 8,
-- and the `not` of 3 and of 4 9 and 10
abbrev truths : List Node
truths =
    free 0 sorts.Truth ∷ free 1 sorts.Truth ∷ node ops.Equal (0 ∷ 1 ∷ []) ∷ node ops.And (0 ∷ 0 ∷ []) ∷ node ops.And (0 ∷ 1 ∷ []) ∷ node ops.And (0 ∷ []) ∷ node ops.Or (0 ∷ 0 ∷ []) ∷ node ops.Or (0 ∷ 1 ∷ []) ∷ node ops.Or (0 ∷ []) ∷ node ops.Not (3 ∷ []) ∷ node ops.Not (4 ∷ []) ∷ []

abbrev pair : ℕ → ℕ → Pair
pair left right = record { left = left; right = right }

abbrev adds : List Node → Clause → List Pair → Option Clause
adds nodes clause pairs = congruence_line nodes clause pairs

-- ---- numbers

two_literals : adds numbers (no 2 ∷ yes 2 ∷ []) (pair 3 4 ∷ []) ≡ None
two_literals = refl

one_literal : adds numbers (no 2 ∷ yes 2 ∷ []) (pair 3 3 ∷ []) ≡ Some (no 2 ∷ yes 2 ∷ [])
one_literal = refl

different_numbers_equal : adds numbers (no 5 ∷ []) [] ≡ Some (no 5 ∷ [])
different_numbers_equal = refl

different_numbers_apart : adds numbers (yes 5 ∷ []) [] ≡ None
different_numbers_apart = refl

one_number : adds numbers (no 7 ∷ []) [] ≡ None
one_number = refl

equal_to_itself : adds numbers (yes 6 ∷ []) [] ≡ Some (yes 6 ∷ [])
equal_to_itself = refl

not_equal_to_itself : adds numbers (no 6 ∷ []) [] ≡ None
not_equal_to_itself = refl

no_literal : adds numbers [] (pair 0 0 ∷ []) ≡ None
no_literal = refl

-- ---- tests of types, and comparisons

one_type : adds tests (no 2 ∷ no 3 ∷ yes 4 ∷ []) (pair 3 4 ∷ []) ≡ Some (no 2 ∷ no 3 ∷ yes 4 ∷ [])
unfolding table same_symbol
one_type = refl

another_type : adds tests (no 2 ∷ no 3 ∷ yes 5 ∷ []) (pair 3 5 ∷ []) ≡ None
unfolding table same_symbol
another_type = refl

opposites_by_a_pair : adds tests (no 2 ∷ no 6 ∷ yes 8 ∷ []) (pair 6 8 ∷ []) ≡ Some (no 2 ∷ no 6 ∷ yes 8 ∷ [])
unfolding table same_symbol
opposites_by_a_pair = refl

opposites_by_two_pairs : adds tests (no 2 ∷ yes 6 ∷ no 8 ∷ []) (pair 6 7 ∷ pair 7 8 ∷ []) ≡ Some (no 2 ∷ yes 6 ∷ no 8 ∷ [])
unfolding table same_symbol
opposites_by_two_pairs = refl

opposites_without_a_pair : adds tests (no 2 ∷ no 6 ∷ yes 8 ∷ []) [] ≡ None
unfolding table same_symbol
opposites_without_a_pair = refl

opposites_without_the_equality : adds tests (no 6 ∷ yes 8 ∷ []) (pair 6 8 ∷ []) ≡ None
unfolding table same_symbol
opposites_without_the_equality = refl

two_of_one_sign : adds tests (no 2 ∷ no 6 ∷ no 8 ∷ []) (pair 6 8 ∷ []) ≡ None
unfolding table same_symbol
two_of_one_sign = refl

-- ---- any number of parts

both_ands : adds truths (no 2 ∷ no 3 ∷ yes 4 ∷ []) (pair 3 4 ∷ []) ≡ Some (no 2 ∷ no 3 ∷ yes 4 ∷ [])
both_ands = refl

and_of_fewer : adds truths (no 2 ∷ no 3 ∷ yes 5 ∷ []) (pair 3 5 ∷ []) ≡ None
and_of_fewer = refl

and_of_more : adds truths (no 2 ∷ no 5 ∷ yes 3 ∷ []) (pair 5 3 ∷ []) ≡ None
and_of_more = refl

both_ors : adds truths (no 2 ∷ no 6 ∷ yes 7 ∷ []) (pair 6 7 ∷ []) ≡ Some (no 2 ∷ no 6 ∷ yes 7 ∷ [])
both_ors = refl

or_of_fewer : adds truths (no 2 ∷ no 7 ∷ yes 8 ∷ []) (pair 7 8 ∷ []) ≡ None
or_of_fewer = refl

and_beside_or : adds truths (no 2 ∷ no 3 ∷ yes 6 ∷ []) (pair 3 6 ∷ []) ≡ None
and_beside_or = refl

-- ---- pairs in their order

in_order : adds truths (no 2 ∷ no 9 ∷ yes 10 ∷ []) (pair 3 4 ∷ pair 9 10 ∷ []) ≡ Some (no 2 ∷ no 9 ∷ yes 10 ∷ [])
in_order = refl

too_early : adds truths (no 2 ∷ no 9 ∷ yes 10 ∷ []) (pair 9 10 ∷ pair 3 4 ∷ []) ≡ None
too_early = refl
