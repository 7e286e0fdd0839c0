-- What is due by a log.
use Rattle.std.proofs.Common.{◌≡◌, inr, ℕ, ◌≤◌, ◌<◌, List, length, Option, None, Some, IfSome, refl, sym, ap, subst, arith}
use Rattle.df_base.specs.Outside.{Contents, bytes_of}
use Rattle.df_base.specs.declared.status.Status.{Status}
use Rattle.df_base.specs.declared.status.Status.TheVariants as statuses
use Rattle.df_form.specs.Log.{Step}
use Rattle.df_lang.specs.Program.{Program}
use Rattle.df_logtext.specs.BadLog.{IsText, IsBad}
use Rattle.df_npass.specs.Laws.{OneListOfObligations}
use Rattle.df_npass.specs.Methods.{Obligation, obligations}
use Rattle.df_nproof.specs.Names.{names_in}
use Rattle.df_nproof.specs.Derived.{AreDerived, AreProofs}
use Rattle.df_nproof.specs.Checking.{HasBadPart}
use Rattle.df_nproof.specs.Laws.{DerivedIsNotRefused}
use Rattle.df_ntop.specs.Call.{Store}
use Rattle.df_ntop.specs.Loaded.{IsLonger, log_limit, LogFile, NoLog, TooLong, Log, IsLogFile}
use Rattle.df_ntop.specs.Answer.{ProvesBy}
use Rattle.df_ntop.specs.Complete.{Holds, HoldsLog, LogIsDue, ProofIsDue}

-- ---- the files tell of one source and of one log

pub same_bytes : (held : Option Contents) (name bytes other : List ℕ) → IfSome held (λ files. bytes_of files name ≡ Some bytes) → Holds held name other → bytes ≡ other
same_bytes None name bytes other is (files, e, there) = absurd cc
same_bytes (Some f) name bytes other is (files, e, there) = cc

pub longer_bytes : (limit : ℕ) (held : Option Contents) (name bytes : List ℕ) → IsLonger limit held name → Holds held name bytes → limit < length bytes
longer_bytes limit None name bytes is (files, e, there) = absurd cc
longer_bytes limit (Some f) name bytes (other, is, long) (files, e, there) =
    let same : other ≡ bytes = cc in subst (λ (x : List ℕ). limit < length x) same long

not_both : (a b : ℕ) → a ≤ b → b < a → ⊥
not_both a b le less = omega arith

pub same_log : (files : Store) (name : Option (List ℕ)) (log other : LogFile) → IsLogFile files name other → HoldsLog files.held name log → other ≡ log
same_log files None NoLog NoLog is holds = refl
same_log files None NoLog TooLong is holds = absurd is
same_log files None NoLog (Log bytes) is holds = absurd is
same_log files None TooLong other is holds = absurd holds
same_log files None (Log bytes) other is holds = absurd holds
same_log files (Some name) NoLog other is holds = absurd holds
same_log files (Some name) TooLong NoLog is holds = absurd is
same_log files (Some name) TooLong TooLong is holds = refl
same_log files (Some name) TooLong (Log bytes) is (whole, there, long) =
    let same = same_bytes files.held name bytes whole is.held there in
    absurd (not_both (length bytes) log_limit is.short (subst (λ (x : List ℕ). log_limit < length x) (sym same) long))
same_log files (Some name) (Log bytes) NoLog is holds = absurd is
same_log files (Some name) (Log bytes) TooLong is (there, short) = absurd (not_both (length bytes) log_limit short (longer_bytes log_limit files.held name bytes is.longer there))
same_log files (Some name) (Log bytes) (Log other) is (there, short) = ap Log (same_bytes files.held name other bytes is.held there)

-- where none is named there is none
pub unlogged : (files : Store) (log : LogFile) → IsLogFile files None log → (log ≡ NoLog → ⊥) → ⊥
unlogged files NoLog is some = some refl
unlogged files TooLong is some = is
unlogged files (Log bytes) is some = is

module _
    (one_text : (names : List (List ℕ)) (one other : List (List Step)) (bytes : List ℕ) → IsText names one bytes → IsText names other bytes → one ≡ other)
    (no_text : (names : List (List ℕ)) (logs : List (List Step)) (bytes : List ℕ) (number : ℕ) → IsBad names bytes number → IsText names logs bytes → ⊥)
    (not_refused : DerivedIsNotRefused) (one_list : OneListOfObligations) (program : Program) where
  -- ---- a log that derives all

  log_proves_due : (log : LogFile) (status : Status) (goes_on : Type 0) → ProvesBy program log → goes_on → LogIsDue program log status goes_on
  log_proves_due NoLog status goes_on proves go = record {
    too_large = λ e. absurd cc;
    not_a_log = λ bytes e none. absurd cc;
    not_derived = λ bytes logs e text none. absurd cc;
    derived = λ bytes logs e text all. go;
  }
  log_proves_due TooLong status goes_on proves go = absurd proves
  log_proves_due (Log b) status goes_on proves go = record {
    too_large = λ e. absurd cc;
    not_a_log = λ bytes e none.
        let same : b ≡ bytes = cc in
        absurd (none proves.logs (subst (IsText (names_in program) proves.logs) same proves.is_text));
    not_derived = λ bytes logs e text none.
        let same : b ≡ bytes = cc in
        let whole = one_text (names_in program) proves.logs logs bytes (subst (IsText (names_in program) proves.logs) same proves.is_text) text in
        absurd (none (subst (AreProofs program) whole (record { groups = proves.groups; are_groups = proves.are_groups; derived = proves.derived })));
    derived = λ bytes logs e text all. go;
  }

  pub proves_due : (proof : Option (List ℕ)) (log : LogFile) (status : Status) (goes_on : Type 0) → ProvesBy program log → goes_on → ProofIsDue program proof log status goes_on
  proves_due None log status goes_on proves go = inr go
  proves_due (Some name) log status goes_on proves go = log_proves_due log status goes_on proves go

  -- ---- a log that is refused

  -- why it can't derive all
  abbrev pub IsWrong : LogFile → Type 0
  IsWrong log = (bytes : List ℕ) (logs : List (List Step)) → log ≡ Log bytes → IsText (names_in program) logs bytes → AreProofs program logs → ⊥

  pub wrong_due : (log : LogFile) (goes_on : Type 0) → IsWrong log → LogIsDue program log statuses.BadLog goes_on
  wrong_due log goes_on wrong = record {
    too_large = λ e. refl;
    not_a_log = λ bytes e none. refl;
    not_derived = λ bytes logs e text none. refl;
    derived = λ bytes logs e text all. absurd (wrong bytes logs e text all);
  }

  pub long_is_wrong : (log : LogFile) → log ≡ TooLong → IsWrong log
  long_is_wrong log is = λ bytes logs e text all. absurd cc

  pub no_text_is_wrong : (log : LogFile) (bytes : List ℕ) (number : ℕ) → log ≡ Log bytes → IsBad (names_in program) bytes number → IsWrong log
  no_text_is_wrong log bytes number is bad = λ other logs e text all.
      let same : other ≡ bytes = cc in
      no_text (names_in program) logs bytes number bad (subst (IsText (names_in program) logs) same text)

  pub part_is_wrong : (log : LogFile) (bytes : List ℕ) (obligation step : ℕ) → log ≡ Log bytes → HasBadPart program bytes obligation step → IsWrong log
  part_is_wrong log bytes obligation step is bad = λ other logs e text all.
      let same : other ≡ bytes = cc in
      let refused = bad.refused in
      let whole = one_text (names_in program) logs bad.parts bytes (subst (IsText (names_in program) logs) same text) bad.is_text in
      let derived = subst (λ (os : List Obligation). AreDerived program os logs) (one_list program all.groups refused.groups all.are_groups refused.are_groups) all.derived in
      not_refused program (obligations program refused.groups) bad.parts obligation step
      (subst (AreDerived program (obligations program refused.groups)) whole derived) refused.refused
