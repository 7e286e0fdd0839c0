-- Clauses that are there once each, and how many of them count.
use Rattle.std.specs.Prelude.{ℕ, Bool, List, [], ◌∷◌, ◌++◌, if◌then◌else◌}
use Rattle.std.specs.Option.{is_none}
use Rattle.std.specs.List.{list_any, count_by}
use Rattle.df_clause.specs.GroundClause.{GroundClause, same_clause}

-- the same clause is among them
abbrev pub stands : List GroundClause → GroundClause → Bool
stands clauses clause = list_any (same_clause clause) clauses

-- with a further clause, unless the same one is there
abbrev pub with_clause : List GroundClause → GroundClause → List GroundClause
with_clause clauses clause = if stands clauses clause then clauses else clauses ++ clause ∷ []

-- Instances are the clauses that are bound to no equality.
abbrev pub is_instance : GroundClause → Bool
is_instance clause = is_none clause.bound

abbrev pub instance_count : List GroundClause → ℕ
instance_count clauses = count_by is_instance clauses
