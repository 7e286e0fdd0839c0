-- Commands, and what they name.
use Rattle.std.specs.Prelude.{◌≡◌, ◌⊎◌, ℕ, Bool, true, false, List, [], Option, None, Some, codes, unwrap_or}
use Rattle.df_ncmd.specs.Limits.{fuel_limit}
use Rattle.df_ncmd.specs.Line.{Budget, Command, Verify, Prove, Check, Build, Run, Bulk}
use Rattle.df_ntop.specs.Call.{IsLine}

-- the words are no line of any command
abbrev pub IsNoLine : List (List ℕ) → Type 0
IsNoLine words = (command : Command) → IsLine words command → ⊥

-- the file that the command names, as messages tell it
abbrev pub file_of : Command → List ℕ
file_of (Verify file budget) = file
file_of (Prove file budget) = file
file_of (Check file log) = file
file_of (Build file proof budget) = file
file_of (Run file proof budget fuel) = file
file_of (Bulk seed count) = codes "bulk"

-- the log that it names
abbrev pub log_of : Command → Option (List ℕ)
log_of (Verify file budget) = None
log_of (Prove file budget) = None
log_of (Check file log) = Some log
log_of (Build file proof budget) = proof
log_of (Run file proof budget fuel) = proof
log_of (Bulk seed count) = None

-- as messages tell it
abbrev pub log_name_of : Command → List ℕ
log_name_of command = unwrap_or (log_of command) []

-- the files that it loads
abbrev pub IsFileOf : Command → List ℕ → Type 0
IsFileOf (Bulk seed count) name = ⊥
IsFileOf command name = (name ≡ file_of command) ⊎ (log_of command ≡ Some name)

-- where the words may not say it
abbrev pub usual : Budget
usual = record { steps = 20000; rounds = 4 }

-- how far a search may go
abbrev pub budget_of : Command → Budget
budget_of (Verify file budget) = budget
budget_of (Prove file budget) = budget
budget_of (Check file log) = usual
budget_of (Build file proof budget) = budget
budget_of (Run file proof budget fuel) = budget
budget_of (Bulk seed count) = usual

-- how many steps the machine may take
abbrev pub fuel_of : Command → ℕ
fuel_of (Run file proof budget fuel) = fuel
fuel_of command = fuel_limit

-- the program has to compile
abbrev pub compiles : Command → Bool
compiles (Verify file budget) = false
compiles (Prove file budget) = false
compiles (Check file log) = false
compiles (Build file proof budget) = true
compiles (Run file proof budget fuel) = true
compiles (Bulk seed count) = true

-- and to have an entry
abbrev pub runs : Command → Bool
runs (Verify file budget) = false
runs (Prove file budget) = false
runs (Check file log) = false
runs (Build file proof budget) = false
runs (Run file proof budget fuel) = true
runs (Bulk seed count) = true

abbrev pub is_bulk : Command → Bool
is_bulk (Bulk seed count) = true
is_bulk command = false

-- where the report tells of a failure it is put on err
abbrev pub puts_report : Command → Bool
puts_report (Verify file budget) = false
puts_report (Prove file budget) = true
puts_report (Check file log) = false
puts_report (Build file proof budget) = true
puts_report (Run file proof budget fuel) = true
puts_report (Bulk seed count) = false
