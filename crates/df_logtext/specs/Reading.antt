-- A text that is read line by line.
use Rattle.std.specs.Prelude.{◌≡◌, ℕ, ◌+◌, Bool, true, false, ◌==◌, ◌&&◌, nat_eq, List, [], ◌∷◌, ◌++◌, length, drop, Option, None, Some, codes, if◌then◌else◌}
use Rattle.std.specs.Option.{option_map}
use Rattle.std.specs.List.{starts_with}
use Rattle.std.specs.Fmt.{decimal}
use Rattle.df_base.specs.Names.{same_text}
use Rattle.df_form.specs.Log.{Step}
use Rattle.df_logtext.specs.LogText.{first_line, dot_line, last_line}
use Rattle.df_logtext.specs.Arguments.{read_step}
use Rattle.df_logtext.specs.Words.{found_or}
use Rattle.df_logtext.specs.declared.reader.Stage.{Stage}
use Rattle.df_logtext.specs.declared.reader.Stage.TheVariants as stages

-- what the lines so far hold: the logs that have ended, and the steps of the one that has not
pub record State : Type 0 where
  pub stage : Stage
  pub logs : List (List Step)
  pub steps : List Step

abbrev pub begin : State
begin = record { stage = stages.Before; logs = []; steps = [] }

-- the line of a log's number
abbrev pub is_part_line : ℕ → List ℕ → Bool
is_part_line number line = starts_with nat_eq line (codes "o ") && same_text (drop 2 line) (decimal number)

abbrev pub after_first : State → List ℕ → Option State
after_first s line = if same_text line first_line then Some (record { stage = stages.Between; logs = s.logs; steps = s.steps }) else None

abbrev pub after_between : State → List ℕ → Option State
after_between s line =
    if same_text line last_line then Some (record { stage = stages.After; logs = s.logs; steps = s.steps })
    else (if is_part_line (length s.logs + 1) line then Some (record { stage = stages.Within; logs = s.logs; steps = [] }) else None)

abbrev pub with_step : State → Step → State
with_step s step = record { stage = s.stage; logs = s.logs; steps = s.steps ++ step ∷ [] }

abbrev pub after_within : List (List ℕ) → State → List ℕ → Option State
after_within names s line =
    if same_text line dot_line then Some (record { stage = stages.Between; logs = s.logs ++ s.steps ∷ []; steps = [] })
    else option_map (with_step s) (read_step names line)

abbrev pub after_at : Stage → List (List ℕ) → State → List ℕ → Option State
after_at stages.Before names s line = after_first s line
after_at stages.Between names s line = after_between s line
after_at stages.Within names s line = after_within names s line
after_at stages.After names s line = None

-- what a line more makes of it, if it may stand there
abbrev pub after_line : List (List ℕ) → State → List ℕ → Option State
after_line names s line = after_at s.stage names s line

-- the line is taken exactly where it may stand there
abbrev pub Takes : Option State → State → Bool → Type 0
Takes next state true = next ≡ Some state
Takes next state false = next ≡ None

-- the logs of a whole text, or the number of the first bad line
pub data Outcome : Type 0 where
  Read : List (List Step) → Outcome
  Bad : ℕ → Outcome

-- where no bytes are left, behind those of a line that has not ended
abbrev pub outcome_at_end : Stage → List (List Step) → ℕ → List ℕ → Outcome
outcome_at_end stages.After logs number [] = Read logs
outcome_at_end stage logs number line = Bad number

-- the rest of a text is read, where these bytes of the line of a number stand before it
abbrev pub read_from : List (List ℕ) → State → ℕ → List ℕ → List ℕ → Outcome
read_from names s number line [] = outcome_at_end s.stage s.logs number line
read_from names s number line (b ∷ bs) =
    if b == 10 then found_or (after_line names s line) (λ next. read_from names next (number + 1) [] bs) (Bad number)
    else read_from names s number (line ++ b ∷ []) bs

abbrev pub read_text : List (List ℕ) → List ℕ → Outcome
read_text names bytes = read_from names begin 1 [] bytes
