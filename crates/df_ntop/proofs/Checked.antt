-- What a log that is checked says of its program.
use Rattle.std.proofs.Common.{◌≡◌, ℕ, true, List}
use Rattle.df_lang.specs.Program.{Program}
use Rattle.df_meaning.specs.Correct.{AreCorrect}
use Rattle.df_ncmd.specs.Line.{Budget}
use Rattle.df_report.specs.Report.{Outcome, report_text}
use Rattle.df_nverdict.specs.Verdict.{are_verified}
use Rattle.df_nproof.specs.Proofs.{IsCheckedBy}
use Rattle.df_ntop.specs.Answer.{search_budget, IsVerdict, IsProved, IsReport}

pub is_verdict : (program : Program) (bytes : List ℕ) (outcomes : List Outcome) (budget : Budget) → IsCheckedBy program bytes outcomes → AreCorrect program → IsVerdict program budget outcomes
is_verdict program bytes outcomes budget checked correct = record {
  groups = checked.proves.groups;
  are_groups = checked.proves.are_groups;
  judged = checked.judged (search_budget budget);
  correct = λ verified. correct;
}

-- any search that proves all has such outcomes
pub is_proved : (program : Program) (budget : Budget) (outcomes : List Outcome) → IsVerdict program budget outcomes → are_verified outcomes ≡ true → IsProved program budget
is_proved program budget outcomes verdict verified = record { outcomes = outcomes; verdict = verdict; verified = verified }

pub is_told : (program : Program) (budget : Budget) (outcomes : List Outcome) (text : List ℕ) → IsVerdict program budget outcomes → are_verified outcomes ≡ true → text ≡ report_text outcomes → IsReport program budget true text
is_told program budget outcomes text verdict verified told = record { outcomes = outcomes; verdict = verdict; verified_is = verified; text_is = told }
