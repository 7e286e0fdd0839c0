-- The text of reports.
use Rattle.std.specs.Prelude.{ℕ, ℤ, Bool, true, false, not, List, [], ◌∷◌, ◌++◌, codes}
use Rattle.std.specs.List.{flat_map, count_by}
use Rattle.std.specs.Fmt.{decimal, signed_decimal}
use Rattle.df_report.specs.declared.outcome.Evidence.{Evidence}
use Rattle.df_report.specs.declared.outcome.Evidence.TheVariants as evidences

abbrev pub word_of : Evidence → List ℕ
word_of evidences.Model = codes "model"
word_of evidences.Spent = codes "spent"
word_of evidences.Wide = codes "wide"
word_of evidences.Many = codes "many"

-- a parameter and its number in a table
pub record Parameter : Type 0 where
  pub name : List ℕ
  pub value : ℤ

-- an obligation without a proof: its line and column, and the word of its kind
pub record Failure : Type 0 where
  pub line : ℕ
  pub col : ℕ
  pub kind : List ℕ
  pub evidence : Evidence
  pub parameters : List Parameter

-- a declaration
pub record Outcome : Type 0 where
  pub name : List ℕ
  pub failures : List Failure

abbrev pub parameter_text : Parameter → List ℕ
parameter_text p = codes "    " ++ p.name ++ codes " = " ++ signed_decimal p.value ++ codes "\n"

-- LINE:COL KIND: EVIDENCE
abbrev pub failure_line : Failure → List ℕ
failure_line f = codes "  " ++ decimal f.line ++ codes ":" ++ decimal f.col ++ codes " " ++ f.kind ++ codes ": " ++ word_of f.evidence ++ codes "\n"

-- and the parameters
abbrev pub failure_text : Failure → List ℕ
failure_text f = failure_line f ++ flat_map parameter_text f.parameters

abbrev pub is_none_left : List Failure → Bool
is_none_left [] = true
is_none_left (f ∷ others) = false

abbrev pub verdict : List Failure → List ℕ
verdict [] = codes "verified"
verdict (f ∷ others) = codes "unproved"

-- NAME: verified, or NAME: unproved
abbrev pub outcome_line : Outcome → List ℕ
outcome_line o = o.name ++ codes ": " ++ verdict o.failures ++ codes "\n"

-- and the failures
abbrev pub outcome_text : Outcome → List ℕ
outcome_text o = outcome_line o ++ flat_map failure_text o.failures

abbrev pub is_verified : Outcome → Bool
is_verified o = is_none_left o.failures

-- how many declarations have no failure
abbrev pub count_verified : List Outcome → ℕ
count_verified outcomes = count_by is_verified outcomes

-- how many have one
abbrev pub count_unproved : List Outcome → ℕ
count_unproved outcomes = count_by (λ o. not (is_verified o)) outcomes

-- a count, and what is counted
abbrev pub counted : ℕ → List ℕ → List ℕ
counted count what = decimal count ++ what

-- K verified, J unproved
abbrev pub summary : List Outcome → List ℕ
summary outcomes = counted (count_verified outcomes) (codes " verified, ") ++ counted (count_unproved outcomes) (codes " unproved\n")

-- the whole report
abbrev pub report_text : List Outcome → List ℕ
report_text outcomes = flat_map outcome_text outcomes ++ summary outcomes
