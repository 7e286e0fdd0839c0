-- Definite assignment by computation, of methods with a parameter, local 0, and a result, local 1.
use Rattle.std.proofs.Common.{◌≡◌, ℕ, pos, true, false, List, [], ◌∷◌, None, Some, refl}
use Rattle.df_lang.specs.declared.expr.Comparison.TheVariants as comparisons
use Rattle.df_lang.specs.declared.expr.Junction.TheVariants as junctions
use Rattle.df_lang.specs.Expr.{Expr, Junction, no_member, member}
use Rattle.df_lang.specs.Stmt.{Text, Value, Single, Variable, Stmt, Block, Var, Assign, CallOf, If, While, Break, Return, Assert, Print, Stmts, done, next, no_branch, branch}
use Rattle.df_lang.specs.Assignment.{Use, unassigned_in}
use Rattle.df_lang.proofs.Samples.{at, N, param_of, num, loc, truth_expr, compared, clause_of, target_at, give, called, method_with, parity, below, counting, when, giving, telling, tallying, owing}

abbrev missing : Stmts → List Use
missing body = unassigned_in (method_with (param_of N ∷ []) (param_of N ∷ []) [] [] None body)

-- a local, used where the position tells
abbrev used : ℕ → ℕ → Use
used local col = record { local = local; name = 0; pos = at col }

-- the result is given, or read where it may have no value
abbrev gives : Stmt
gives = give 1 N (num (pos 0))

abbrev is_zero : ℕ → Expr
is_zero k = compared (loc k) comparisons.Equal (num (pos 0))

abbrev looks : Stmt
looks = Assert (at 15) (is_zero 1)

abbrev variable : Variable
variable = record { name = 0; pos = at 8; ty = N; is_ghost = false; local = 2 }

-- ---- reads and returns

nothing_missing : missing (next gives (next looks done)) ≡ []
nothing_missing = refl

left_at_the_end : missing done ≡ used 1 12 ∷ []
left_at_the_end = refl

read_too_early : missing (next looks (next gives done)) ≡ used 1 3 ∷ []
read_too_early = refl

left_at_a_return : missing (next (Return (at 16) None) done) ≡ used 1 16 ∷ []
left_at_a_return = refl

a_return_gives_it : missing (next giving done) ≡ []
a_return_gives_it = refl

both_sides_before_places : missing (next (Assign (at 9) (record { targets = target_at 1 N ∷ []; sources = Single N (loc 1) ∷ [] })) done) ≡ used 1 3 ∷ []
both_sides_before_places = refl

a_parameter_has_a_value : missing (next (give 1 N (loc 0)) done) ≡ []
a_parameter_has_a_value = refl

read_by_a_call : missing (next (CallOf (called 1 (loc 1 ∷ []))) (next gives done)) ≡ used 1 3 ∷ []
read_by_a_call = refl

read_by_a_print : missing (next (Print (at 9) (Text [] ∷ Value N (loc 1) ∷ [])) (next gives done)) ≡ used 1 3 ∷ []
read_by_a_print = refl

-- an operand that may be passed by counts too
read_behind_and : missing (next (Assert (at 15) (Junction junctions.And (truth_expr false) (member (at 8) (is_zero 1) no_member))) (next gives done)) ≡ used 1 3 ∷ []
read_behind_and = refl

never_read : missing (next (Var (at 9) (variable ∷ []) None) (next gives done)) ≡ []
never_read = refl

declared_without : missing (next (Var (at 9) (variable ∷ []) None) (next (give 1 N (loc 2)) done)) ≡ used 2 3 ∷ []
declared_without = refl

declared_with : missing (next (Var (at 9) (variable ∷ []) (Some (record { targets = target_at 2 N ∷ []; sources = Single N (num (pos 1)) ∷ [] }))) (next (give 1 N (loc 2)) done)) ≡ []
declared_with = refl

-- ---- branches

abbrev choosing : Stmts → Stmts → Stmts
choosing body otherwise = next (If (branch (at 13) (is_zero 0) body no_branch) otherwise) done

on_both_ways : missing (choosing (next gives done) (next (Block (at 9) (next gives done)) done)) ≡ []
on_both_ways = refl

on_one_way : missing (choosing (next gives done) done) ≡ used 1 12 ∷ []
on_one_way = refl

-- a way that doesn't come behind the `if` is not asked
other_way_returns : missing (choosing (next giving done) (next gives done)) ≡ []
other_way_returns = refl

both_ways_return : missing (choosing (next giving done) (next giving (next looks done))) ≡ []
both_ways_return = refl

read_by_a_guard : missing (next (when (is_zero 1) gives) done) ≡ used 1 3 ∷ used 1 12 ∷ []
read_by_a_guard = refl

-- ---- loops

abbrev looping : Expr → Stmts → Stmt
looping guard body = While (at 14) guard [] (Some []) body

in_a_loop_alone : missing (next (looping (is_zero 0) (next gives done)) done) ≡ used 1 12 ∷ []
in_a_loop_alone = refl

-- that the guard is always true isn't looked at
behind_a_break : missing (next (looping (truth_expr true) (next gives (next (Break (at 16)) done))) done) ≡ used 1 12 ∷ []
behind_a_break = refl

unreached_is_assigned : missing (next (looping (is_zero 0) (next (Break (at 16)) (next looks done))) (next gives done)) ≡ []
unreached_is_assigned = refl

-- a variable of the body has no value in the next turn
in_the_next_turn : missing (next gives (next (looping (is_zero 0) (next (Var (at 9) (variable ∷ []) None) (next (Assert (at 15) (is_zero 2)) (next (give 2 N (num (pos 1))) done)))) done)) ≡ used 2 3 ∷ []
in_the_next_turn = refl

read_by_an_invariant : missing (next (While (at 14) (is_zero 0) (clause_of (is_zero 1) ∷ []) (Some (record { ty = N; value = loc 1 } ∷ [])) done) (next gives done)) ≡ used 1 3 ∷ used 1 3 ∷ []
read_by_an_invariant = refl

-- of a measure alone, which whole runs don't evaluate
read_by_a_measure : missing (next gives (next (Var (at 9) (variable ∷ []) None) (next (While (at 14) (truth_expr true) [] (Some (record { ty = N; value = loc 2 } ∷ [])) done) done))) ≡ used 2 3 ∷ []
read_by_a_measure = refl

parity_is_definite : unassigned_in (parity true 2 below) ≡ []
parity_is_definite = refl

telling_is_definite : unassigned_in telling ≡ []
telling_is_definite = refl

tallying_is_definite : unassigned_in (tallying (num (pos 3))) ≡ []
tallying_is_definite = refl

owing_is_definite : unassigned_in (owing (num (pos 1))) ≡ []
owing_is_definite = refl

counting_is_definite : unassigned_in counting ≡ []
counting_is_definite = refl
