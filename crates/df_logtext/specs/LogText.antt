-- The text of logs: its lines, each of which ends with a line feed (10).
use Rattle.std.specs.Prelude.{ℕ, suc, List, [], ◌∷◌, ◌++◌, map, codes}
use Rattle.std.specs.List.{flat_map}
use Rattle.std.specs.Fmt.{decimal}
use Rattle.df_form.specs.Log.{Step}
use Rattle.df_logtext.specs.StepText.{step_line}

abbrev pub first_line : List ℕ
first_line = codes "dfylog 1"

-- what begins the log of the obligation of a number, which counts from 1
abbrev pub part_line : ℕ → List ℕ
part_line number = codes "o " ++ decimal number

-- what ends it
abbrev pub dot_line : List ℕ
dot_line = codes "."

abbrev pub last_line : List ℕ
last_line = codes "end"

-- the lines of the log of an obligation
abbrev pub part_lines : List (List ℕ) → ℕ → List Step → List (List ℕ)
part_lines names number log = part_line number ∷ (map (step_line names) log ++ dot_line ∷ [])

-- the lines of logs one after another, of which the first is that of this obligation
abbrev pub parts_lines : List (List ℕ) → ℕ → List (List Step) → List (List ℕ)
parts_lines names number [] = []
parts_lines names number (log ∷ logs) = part_lines names number log ++ parts_lines names (suc number) logs

abbrev pub log_lines : List (List ℕ) → List (List Step) → List (List ℕ)
log_lines names logs = first_line ∷ (parts_lines names 1 logs ++ last_line ∷ [])

abbrev pub ended : List ℕ → List ℕ
ended line = line ++ 10 ∷ []

-- lines, each of them ended
abbrev pub text_of_lines : List (List ℕ) → List ℕ
text_of_lines lines = flat_map ended lines

-- the text of logs, where newtypes have these names
abbrev pub log_text : List (List ℕ) → List (List Step) → List ℕ
log_text names logs = text_of_lines (log_lines names logs)
