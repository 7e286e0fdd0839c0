-- Where clauses stand in a log.
use Rattle.std.specs.Prelude.{◌≡◌, ℕ, nat_lt, true, List, length, get_or, slice_get, Some}
use Rattle.std.specs.List.{list_all}
use Rattle.df_form.specs.Clause.{Clause}
use Rattle.df_closure.specs.Closure.{GroundClause}

-- the number in the log of the clause of this number
abbrev pub place_in : List ℕ → ℕ → ℕ
place_in places n = get_or places n 0

-- each number is below the count
abbrev pub AreWithin : ℕ → List ℕ → Type 0
AreWithin count numbers = list_all (λ n. nat_lt n count) numbers ≡ true

-- each clause stands in the log at its place
pub record AreIn (clauses : List GroundClause) (places : List ℕ) (log : List Clause) : Type 0 where
  pub long : length places ≡ length clauses
  pub at : (n : ℕ) (clause : GroundClause) → slice_get clauses n ≡ Some clause → slice_get log (place_in places n) ≡ Some clause.literals
