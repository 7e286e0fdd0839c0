-- What is known of a program is known of its source, and of the files.
use Rattle.std.proofs.Common.{◌≡◌, ◌≢◌, inl, inr, ℕ, ◌<◌, true, List, length, Option, Some, None, IfSome, Result, Ok, Err, IfOk, refl, sym, subst}
use Rattle.std.specs.Global.{Vec}
use Rattle.std.specs.declared.alloc.AllocError.{AllocError}
use Rattle.df_base.specs.Outside.{Contents, bytes_of}
use Rattle.df_base.specs.declared.pos.Pos.{Pos}
use Rattle.df_base.specs.Refusing.{IfRefused}
use Rattle.df_base.specs.declared.refusal.Refusal.{Refusal}
use Rattle.df_base.specs.declared.refusal.Stop.{Stop}
use Rattle.df_base.specs.declared.refusal.Stop.TheVariants as stops
use Rattle.df_base.specs.declared.status.Status.{Status}
use Rattle.df_base.specs.declared.status.Status.TheVariants as statuses
use Rattle.df_lang.specs.Native.{IsNative}
use Rattle.df_lang.specs.Program.{Program}
use Rattle.df_logtext.specs.BadLog.{IsBad}
use Rattle.df_ncmd.specs.Line.{Command}
use Rattle.df_nerase.specs.First.{IsFirst}
use Rattle.df_nfront.specs.Source.{IsLawful}
use Rattle.df_tok.specs.Limits.{byte_limit}
use Rattle.df_nfront.specs.Refused.{IsRefused}
use Rattle.df_nfront.specs.Line.{refusal_line}
use Rattle.df_nproof.specs.Names.{names_in}
use Rattle.df_nproof.specs.Checking.{HasBadPart}
use Rattle.df_ntop.specs.declared.ending.End.{End}
use Rattle.df_ntop.specs.declared.ending.End.TheVariants as ends
use Rattle.df_ntop.specs.Call.{Store, Streams, IsSourceOf}
use Rattle.df_ntop.specs.Command.{IsFileOf, file_of, log_of, log_name_of, compiles, runs}
use Rattle.df_ntop.specs.Entry.{HasNoEntry}
use Rattle.df_ntop.specs.Loaded.{IsLonger, LogFile, TooLong, Log, IsLogFile}
use Rattle.df_ntop.specs.Lines.{native_line, no_main_line, large_line, too_large_line, not_a_log_line, bad_part_line}
use Rattle.df_ntop.specs.Answer.{IsReady, IsWithoutSource, ProgramTells, not_native, no_main, too_large, not_a_log, bad_part, SourceTells, refused, lawful, FilesTell, large, loaded}
use Rattle.df_ntop.specs.Ending.{Known, IsToldBy, IsQuiet, Ends, of_program, of_source, of_files}

-- a line is told, if there is memory for it
pub told_ends : (known : Known) (s : Streams) (status : Status) (text : List ℕ) (line : Result (Vec ℕ) AllocError) (end : End) → IsQuiet s → known.tells status text → IfOk line (λ l. l.items ≡ text) → IsToldBy status line end → Ends known s end
told_ends known s status text (Ok line) end quiet tells same is = subst (Ends known s) (sym is) (subst (known.tells status) (sym same) tells, quiet)
told_ends known s status text (Err e) end quiet tells same is = subst (Ends known s) (sym is) (inl quiet)

-- ---- the lines that are told

module _ (program : Program) (command : Command) (log : LogFile) where
  pub not_native_tells : (name : List ℕ) (rule : ℕ) (pos : Pos) → name ≡ file_of command → compiles command ≡ true → IsFirst program pos rule → ProgramTells program command log statuses.NotCompilable (native_line name pos rule)
  not_native_tells name rule pos same compiled first =
      subst (λ (n : List ℕ). ProgramTells program command log statuses.NotCompilable (native_line n pos rule)) (sym same) (not_native pos rule compiled first)

  pub no_main_tells : (name : List ℕ) → name ≡ file_of command → runs command ≡ true → IsNative program → HasNoEntry program → ProgramTells program command log statuses.NoMain (no_main_line name)
  no_main_tells name same run native none =
      subst (λ (n : List ℕ). ProgramTells program command log statuses.NoMain (no_main_line n)) (sym same) (no_main run native none)

  pub too_large_tells : (name : List ℕ) → name ≡ log_name_of command → IsReady command program → log ≡ TooLong → ProgramTells program command log statuses.BadLog (too_large_line name)
  too_large_tells name same ready is = subst (λ (n : List ℕ). ProgramTells program command log statuses.BadLog (too_large_line n)) (sym same) (too_large ready is)

  pub not_a_log_tells : (name bytes : List ℕ) (number : ℕ) → name ≡ log_name_of command → IsReady command program → log ≡ Log bytes → IsBad (names_in program) bytes number → ProgramTells program command log statuses.BadLog (not_a_log_line name number)
  not_a_log_tells name bytes number same ready is bad =
      subst (λ (n : List ℕ). ProgramTells program command log statuses.BadLog (not_a_log_line n number)) (sym same) (not_a_log bytes number ready is bad)

  pub bad_part_tells : (name bytes : List ℕ) (obligation step : ℕ) → name ≡ log_name_of command → IsReady command program → log ≡ Log bytes → HasBadPart program bytes obligation step → ProgramTells program command log statuses.BadLog (bad_part_line name obligation step)
  bad_part_tells name bytes obligation step same ready is bad =
      subst (λ (n : List ℕ). ProgramTells program command log statuses.BadLog (bad_part_line n obligation step)) (sym same) (bad_part bytes obligation step ready is bad)

pub refusal_is : (told : Refusal → Type 0) (stop : Stop) (r : Refusal) → stop ≡ stops.Refused r → IfRefused told stop → told r
refusal_is told stop r is h = subst (IfRefused told) is h

pub refused_tells : (source : List ℕ) (command : Command) (log : LogFile) (name : List ℕ) (names : List (List ℕ)) (r : Refusal) → name ≡ file_of command → IsRefused source names r → SourceTells source command log statuses.Refused (refusal_line name names r)
refused_tells source command log name names r same why =
    subst (λ (n : List ℕ). SourceTells source command log statuses.Refused (refusal_line n names r)) (sym same) (refused names r why)

pub large_tells : (files : Store) (command : Command) (name : List ℕ) → name ≡ file_of command → IsFileOf command (file_of command) → IsWithoutSource files command → IsLonger byte_limit files.held (file_of command) → FilesTell files command statuses.Refused (large_line name)
large_tells files command name same loads none long = subst (λ (n : List ℕ). FilesTell files command statuses.Refused (large_line n)) (sym same) (large loads none long)

-- ---- files that are too long

longer : (limit : ℕ) (found : Option (List ℕ)) → IfSome found (λ bytes. limit < length bytes) → found ≢ None → (bytes : List ℕ) × (found ≡ Some bytes) × (limit < length bytes)
longer limit None long there = absurd (there refl)
longer limit (Some bytes) long there = (bytes, refl, long)

pub is_longer : (limit : ℕ) (held : Option Contents) (name : List ℕ) → IfSome held (λ files. IfSome (bytes_of files name) (λ bytes. limit < length bytes)) → IfSome held (λ files. bytes_of files name ≢ None) → IsLonger limit held name
is_longer limit None name long there = tt
is_longer limit (Some files) name long there = longer limit (bytes_of files name) long there

-- ---- with more known

module _ (k l : Known) (s : Streams) (texts : (is_of : Command → LogFile → Program → List ℕ → Type 0) (put : List ℕ → Type 0) → k.puts is_of put → l.puts is_of put) (lines : (status : Status) (line : List ℕ) → k.tells status line → l.tells status line) where
  ends_with : (end : End) → Ends k s end → Ends l s end
  ends_with ends.Done h = (texts _ _ h.0, h.1)
  ends_with ends.Unproved (inl h) = inl (texts _ _ h.0, h.1)
  ends_with ends.Unproved (inr h) = inr (texts _ _ h.0, h.1)
  ends_with ends.FuelSpent h = (texts _ _ h.0, h.1)
  ends_with (ends.Told status line) h = (lines status line.items h.0, h.1)
  ends_with ends.Unwritten (inl h) = inl (h.0, (texts _ _ h.1.0, h.1.1))
  ends_with ends.Unwritten (inr h) = inr (h.0, (texts _ _ h.1.0, h.1.1))
  ends_with ends.Memory (inl h) = inl h
  ends_with ends.Memory (inr (inl h)) = inr (inl (texts _ _ h.0, h.1))
  ends_with ends.Memory (inr (inr h)) = inr (inr (texts _ _ h.0, h.1))

pub source_ends : (command : Command) (log : LogFile) (source : List ℕ) (program : Program) (s : Streams) (end : End) → IsLawful source program → Ends (of_program command log program) s end → Ends (of_source command log source) s end
source_ends command log source program s end is h =
    ends_with (of_program command log program) (of_source command log source) s (λ is_of put t. (program, is, t)) (λ status line t. lawful program is t) end h

pub files_ends : (command : Command) (files : Store) (log : LogFile) (source bytes : List ℕ) (s : Streams) (end : End) → bytes ≡ source → IsSourceOf files command source → IsLogFile files (log_of command) log → Ends (of_source command log bytes) s end → Ends (of_files command files) s end
files_ends command files log source bytes s end same is is_log h =
    let whole = subst (λ (b : List ℕ). Ends (of_source command log b) s end) same h in
    ends_with (of_source command log source) (of_files command files) s (λ is_of put t. (source, log, is, is_log, t)) (λ status line t. loaded source log is is_log t) end whole
