-- Clauses of a ground set.
use Rattle.std.specs.Prelude.{ℕ, Bool, true, false, ◌==◌, ◌&&◌, Option, None, Some}
use Rattle.std.specs.Cmp.Lexicographic.{pointwise}
use Rattle.df_form.specs.Clause.{Clause, same_literal}
use Rattle.df_clause.specs.declared.clause.GroundClause as declared

-- a clause, and the equality that it is bound to
pub record GroundClause : Type 0 where
  pub literals : Clause
  pub bound : Option ℕ

-- the code's clause, without where it lies in memory
abbrev pub ground_of : declared.GroundClause → GroundClause
ground_of c = record { literals = c.literals.items; bound = c.bound }

abbrev pub same_bound : Option ℕ → Option ℕ → Bool
same_bound None None = true
same_bound None (Some n) = false
same_bound (Some m) None = false
same_bound (Some m) (Some n) = m == n

-- the same literals in the same order, bound to the same
abbrev pub same_clause : GroundClause → GroundClause → Bool
same_clause a b = pointwise same_literal a.literals b.literals && same_bound a.bound b.bound
