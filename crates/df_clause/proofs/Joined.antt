-- How many instances joined lists have.
use Rattle.std.proofs.Common.{◌≡◌, ℕ, ◌+◌, ◌≤◌, cond, List, [], ◌∷◌, ◌++◌, Option, None, Some, refl, ◌∙◌, arith}
use Rattle.std.specs.List.{fold}
use Rattle.df_clause.specs.GroundClause.{GroundClause}
use Rattle.df_clause.specs.Counting.{is_instance, instance_count}

abbrev add_instance : ℕ → GroundClause → ℕ
add_instance n clause = n + cond (is_instance clause) 1 0

count_from : (xs : List GroundClause) (n : ℕ) → fold add_instance n xs ≡ n + instance_count xs
count_from [] n = omega arith
count_from (x ∷ xs) n =
    let here = count_from xs (n + cond (is_instance x) 1 0) in
    let alone = count_from xs (0 + cond (is_instance x) 1 0) in
    omega (arith, here, alone)

fold_joined : (xs ys : List GroundClause) (n : ℕ) → fold add_instance n (xs ++ ys) ≡ fold add_instance (fold add_instance n xs) ys
fold_joined [] ys n = refl
fold_joined (x ∷ xs) ys n = fold_joined xs ys (n + cond (is_instance x) 1 0)

pub count_joined : (xs ys : List GroundClause) → instance_count (xs ++ ys) ≡ instance_count xs + instance_count ys
count_joined xs ys = fold_joined xs ys 0 ∙ count_from ys (instance_count xs)

pub count_one : (clause : GroundClause) → instance_count (clause ∷ []) ≤ 1
count_one clause = by clause.bound
  where
    by : (bound : Option ℕ) → instance_count (record { literals = clause.literals; bound = bound } ∷ []) ≤ 1
    by None = omega arith
    by (Some n) = omega arith
