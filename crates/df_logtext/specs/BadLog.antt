-- Bytes that are the text of logs, bytes that begin one, and the first line with which bytes begin none.
use Rattle.std.specs.Prelude.{◌≡◌, ◌≢◌, ℕ, ◌+◌, List, ◌++◌, length, Result, Ok, Err, Vec}
use Rattle.std.specs.List.{AllByRecursion}
use Rattle.std.specs.declared.alloc.Global.{Global}
use Rattle.df_form.specs.declared.log.Step as declared
use Rattle.df_form.specs.Log.{Step}
use Rattle.df_logtext.specs.LogText.{ended, text_of_lines, log_text}
use Rattle.df_logtext.specs.HasText.{HaveText}
use Rattle.df_logtext.specs.View.{logs_of}
use Rattle.df_logtext.specs.declared.fault.LogFault.{LogFault}
use Rattle.df_logtext.specs.declared.fault.LogFault.TheVariants.{BadLog, Memory}

-- the bytes are the text of these logs
pub record IsText (names : List (List ℕ)) (logs : List (List Step)) (bytes : List ℕ) : Type 0 where
  pub have : HaveText names logs
  pub text : bytes ≡ log_text names logs

-- they begin a text
pub record Begins (names : List (List ℕ)) (bytes : List ℕ) : Type 0 where
  pub logs : List (List Step)
  pub others : List ℕ
  pub whole : IsText names logs (bytes ++ others)

-- the bytes are within a line
abbrev pub AreWithin : List ℕ → Type 0
AreWithin bytes = AllByRecursion (λ b. b ≢ 10) bytes

-- What stands behind lines goes on with a line with which they begin no text. A line that does not end
-- begins none, and so does the end of the bytes where they are no text.
pub data GoesWrong (names : List (List ℕ)) (lines rest : List ℕ) : Type 0 where
  line : (next others : List ℕ) → rest ≡ ended next ++ others → AreWithin next → (Begins names (lines ++ ended next) → ⊥) → GoesWrong names lines rest
  end : AreWithin rest → ((logs : List (List Step)) → IsText names logs (lines ++ rest) → ⊥) → GoesWrong names lines rest

-- The line of this number, from 1, is the first with which the bytes begin no text; or it is one past the
-- last.
pub record IsBad (names : List (List ℕ)) (bytes : List ℕ) (number : ℕ) : Type 0 where
  pub lines : List (List ℕ)
  pub rest : List ℕ
  pub whole : bytes ≡ text_of_lines lines ++ rest
  pub within : AllByRecursion AreWithin lines
  pub count : number ≡ length lines + 1
  pub begins : Begins names (text_of_lines lines)
  pub wrong : GoesWrong names (text_of_lines lines) rest

-- The bytes are the text of the logs; or they are that of none, and the line is the first bad one; or memory
-- was refused.
abbrev pub Reads : List (List ℕ) → List ℕ → Result (Vec (Vec declared.Step Global) Global) LogFault → Type 0
Reads names bytes (Ok logs) = IsText names (logs_of logs.items) bytes
Reads names bytes (Err (BadLog number)) = IsBad names bytes number
Reads names bytes (Err Memory) = Unit {0}
