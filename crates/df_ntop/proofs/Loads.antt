-- What loads gave is the source and the log of a command.
use Rattle.std.proofs.Common.{◌≡◌, inl, inr, ◌≤◌, ℕ, true, false, List, [], ◌∷◌, Option, None, Some, IfSome, Result, Ok, Err, IfOk, refl, sym, ap, subst, ◌∙◌, true≢false}
use Rattle.std.specs.Global.{Vec}
use Rattle.std.specs.declared.alloc.AllocError.{AllocError}
use Rattle.df_base.specs.Outside.{Contents, bytes_of}
use Rattle.df_base.specs.declared.status.Status.{Status}
use Rattle.df_base.specs.declared.status.Status.TheVariants as statuses
use Rattle.df_gen.specs.GeneratedSource.{generated_source}
use Rattle.df_ncmd.specs.Line.{Command, Verify, Prove, Check, Build, Run, Bulk}
use Rattle.df_ntop.specs.declared.ending.End.{End}
use Rattle.df_ntop.specs.declared.ending.End.TheVariants as ends
use Rattle.df_ntop.specs.Call.{Store, Streams, Rose, IsLoaded, IsSourceOf}
use Rattle.df_ntop.specs.Command.{IsFileOf, file_of, log_of}
use Rattle.df_ntop.specs.Lines.{unread_line}
use Rattle.df_ntop.specs.Loaded.{IsLonger, log_limit, LogFile, NoLog, TooLong, Log, is_absent, IsLogFile, IsNamed}
use Rattle.df_tok.specs.Limits.{byte_limit}
use Rattle.df_ntop.specs.Answer.{IsBehindSource, IsWithoutSource, IsUnread, unread_source, unread_log, unread}
use Rattle.df_ntop.specs.Ending.{IsToldBy, IsQuiet, Ends, of_files, LoadsSource, LoadsLog, IsSourceFault, IsLogFault, FailsToLoad}
use Rattle.df_ntop.proofs.Bulk.{later}

-- ---- loads that fail

pub unread_fails : (is_file : List ℕ → Type 0) (name : List ℕ) (before after : ℕ) (line : Result (Vec ℕ) AllocError) (end : End) → is_file name → Rose before after → IfOk line (λ l. l.items ≡ unread_line name) → IsToldBy statuses.Unread line end → FailsToLoad is_file before after end
unread_fails is_file name before after (Ok line) end is rose same told = subst (FailsToLoad is_file before after) (sym told) (name, is, refl, same, rose)
unread_fails is_file name before after (Err e) end is rose same told = subst (FailsToLoad is_file before after) (sym told) tt

-- a load that fails ends the command; the count rose in a part of the time
pub load_ends : (command : Command) (files : Store) (is_file : List ℕ → Type 0) (s : Streams) (middle : ℕ) (end : End) → files.before ≤ middle → ((name : List ℕ) → is_file name → IsUnread files command name) → FailsToLoad is_file middle files.after end → IsQuiet s → Ends (of_files command files) s end
load_ends command files is_file s middle ends.Done kept why fails quiet = absurd fails
load_ends command files is_file s middle ends.Unproved kept why fails quiet = absurd fails
load_ends command files is_file s middle ends.FuelSpent kept why fails quiet = absurd fails
load_ends command files is_file s middle (ends.Told status line) kept why fails quiet =
    (subst (λ (x : Status). (of_files command files).tells x line.items) (sym fails.2) (subst ((of_files command files).tells statuses.Unread) (sym fails.3) (unread fails.0 (why fails.0 fails.1) (later files.before middle files.after kept fails.4))), quiet)
load_ends command files is_file s middle ends.Unwritten kept why fails quiet = absurd fails
load_ends command files is_file s middle ends.Memory kept why fails quiet = inl quiet

-- why the source is not read
pub source_unread : (files : Store) (command : Command) (name : List ℕ) → IsFileOf command (file_of command) → IsSourceFault files command name → IsUnread files command name
source_unread files command name loads (is, kept) = subst (IsUnread files command) (sym is) (unread_source loads kept)

behind_source : (files first : Store) (command : Command) (source : Option (List ℕ)) → first.had ≡ files.had → first.held ≡ files.held → files.given ≡ first.given → LoadsSource first (file_of command) source → IsBehindSource files command
behind_source files first command None has holds gives loads = inr (gives ∙ loads.0 ∙ has, subst (λ (h : Option Contents). IsLonger byte_limit h (file_of command)) holds loads.2)
behind_source files first command (Some source) has holds gives loads = inl (source, gives ∙ loads.0 ∙ ap (λ (rest : List (List ℕ × List ℕ)). (file_of command, source) ∷ rest) has)

-- why the log is not, behind the load of the source
pub log_unread : (files first second : Store) (command : Command) (source : Option (List ℕ)) (name : List ℕ) → first.had ≡ files.had → first.held ≡ files.held → second.had ≡ first.given → files.given ≡ second.given → LoadsSource first (file_of command) source → IsLogFault second command name → IsUnread files command name
log_unread files first second command source name has holds goes_on gives loads (is, kept) =
    unread_log name is (behind_source files first command source has holds (gives ∙ kept ∙ goes_on) loads)

-- ---- what is there of the log

-- behind the load of a source, whose files had nothing more
pub named_log : (files : Store) (name : Option (List ℕ)) (log : LogFile) → LoadsLog files name log → IsNamed name log
named_log files None NoLog h = tt
named_log files None TooLong h = h
named_log files None (Log bytes) h = h
named_log files (Some name) NoLog h = absurd h
named_log files (Some name) TooLong h = tt
named_log files (Some name) (Log bytes) h = tt

-- a command names a log where one is there
pub no_log : (name : Option (List ℕ)) (log : LogFile) → IsNamed name log → is_absent log ≡ true → name ≡ None
no_log None log named e = refl
no_log (Some name) NoLog named e = absurd named
no_log (Some name) TooLong named e = absurd (true≢false (sym e))
no_log (Some name) (Log bytes) named e = absurd (true≢false (sym e))

pub some_log : (name : Option (List ℕ)) (log : LogFile) → IsNamed name log → is_absent log ≡ false → name ≡ None → ⊥
some_log None NoLog named e none = true≢false e
some_log None TooLong named e none = named
some_log None (Log bytes) named e none = named
some_log (Some name) log named e none = cc

-- one that is named is not absent
pub not_named_absent : (name : Option (List ℕ)) (log : LogFile) → IsNamed name log → (name ≡ None → ⊥) → log ≡ NoLog → ⊥
not_named_absent None log named some is = some refl
not_named_absent (Some name) NoLog named some is = named
not_named_absent (Some name) TooLong named some is = cc
not_named_absent (Some name) (Log bytes) named some is = cc

pub absent_log : (log : LogFile) → is_absent log ≡ true → log ≡ NoLog
absent_log NoLog e = refl
absent_log TooLong e = absurd (true≢false (sym e))
absent_log (Log bytes) e = absurd (true≢false (sym e))

-- the log is loaded behind the source
pub log_is_loaded : (files second : Store) (file source : List ℕ) (name : Option (List ℕ)) (log : LogFile) → second.had ≡ (file, source) ∷ files.had → second.given ≡ files.given → second.held ≡ files.held → LoadsLog second name log → IsLogFile files name log
log_is_loaded files second file source None NoLog has gives holds loads = tt
log_is_loaded files second file source None TooLong has gives holds loads = loads
log_is_loaded files second file source None (Log bytes) has gives holds loads = loads
log_is_loaded files second file source (Some name) NoLog has gives holds loads = loads
log_is_loaded files second file source (Some name) TooLong has gives holds loads = record {
  first = (file, source);
  given = sym gives ∙ loads.0 ∙ has;
  longer = subst (λ (h : Option Contents). IsLonger log_limit h name) holds loads.2;
}
log_is_loaded files second file source (Some name) (Log bytes) has gives holds loads = record {
  first = (file, source);
  given = sym gives ∙ loads.0 ∙ ap (λ (rest : List (List ℕ × List ℕ)). (name, bytes) ∷ rest) has;
  held = subst (λ (h : Option Contents). IfSome h (λ held. bytes_of held name ≡ Some bytes)) holds loads.1;
  short = loads.2;
}

-- and the source stays the first
pub source_is_loaded : (files second : Store) (file source : List ℕ) (name : Option (List ℕ)) (log : LogFile) → second.had ≡ (file, source) ∷ files.had → second.given ≡ files.given → LoadsLog second name log → IfSome files.held (λ held. bytes_of held file ≡ Some source) → IsLoaded files file source
source_is_loaded files second file source None NoLog has gives loads holds = record { others = []; given = sym gives ∙ loads.0 ∙ has; held = holds }
source_is_loaded files second file source None TooLong has gives loads holds = absurd loads
source_is_loaded files second file source None (Log bytes) has gives loads holds = absurd loads
source_is_loaded files second file source (Some name) NoLog has gives loads holds = absurd loads
source_is_loaded files second file source (Some name) TooLong has gives loads holds = record { others = []; given = sym gives ∙ loads.0 ∙ has; held = holds }
source_is_loaded files second file source (Some name) (Log bytes) has gives loads holds = record {
  others = (name, bytes) ∷ [];
  given = sym gives ∙ loads.0 ∙ ap (λ (rest : List (List ℕ × List ℕ)). (name, bytes) ∷ rest) has;
  held = holds;
}

-- where the load of the source gave nothing, no more is given than the log
pub without_source : (files second : Store) (command : Command) (name : Option (List ℕ)) (log : LogFile) → log_of command ≡ name → second.had ≡ files.had → second.given ≡ files.given → second.before ≡ files.before → second.after ≡ files.after → LoadsLog second name log → IsWithoutSource files command
without_source files second command None NoLog is has gives clean counts loads = inl (sym gives ∙ loads.0 ∙ has, sym counts ∙ loads.1 ∙ clean)
without_source files second command None TooLong is has gives clean counts loads = absurd loads
without_source files second command None (Log bytes) is has gives clean counts loads = absurd loads
without_source files second command (Some name) NoLog is has gives clean counts loads = absurd loads
without_source files second command (Some name) TooLong is has gives clean counts loads = inl (sym gives ∙ loads.0 ∙ has, sym counts ∙ loads.1 ∙ clean)
without_source files second command (Some name) (Log bytes) is has gives clean counts loads =
    inr (name, bytes, is, sym gives ∙ loads.0 ∙ ap (λ (rest : List (List ℕ × List ℕ)). (name, bytes) ∷ rest) has)

-- the source of a command that loads its file
pub source_of : (files : Store) (command : Command) (source : List ℕ) → IsFileOf command (file_of command) → IsLoaded files (file_of command) source → IsSourceOf files command source
source_of files (Verify file budget) source is loaded = loaded
source_of files (Prove file budget) source is loaded = loaded
source_of files (Check file log) source is loaded = loaded
source_of files (Build file proof budget) source is loaded = loaded
source_of files (Run file proof budget fuel) source is loaded = loaded
source_of files (Bulk seed count) source is loaded = absurd is

-- ---- the name of a log, as the code has it

pub loads_named : (files : Store) (name : Option (List ℕ)) (found : List ℕ) (log : LogFile) → name ≡ Some found → LoadsLog files (Some found) log → LoadsLog files name log
loads_named files name found log is loads = subst (λ (n : Option (List ℕ)). LoadsLog files n log) (sym is) loads

pub loads_none : (files : Store) (name : Option (List ℕ)) → name ≡ None → files.given ≡ files.had → files.after ≡ files.before → LoadsLog files name NoLog
loads_none files name is same clean = subst (λ (n : Option (List ℕ)). LoadsLog files n NoLog) (sym is) (same, clean)

-- ---- bulk loads nothing

pub bulk_named : (command : Command) (seed count : ℕ) → command ≡ Bulk seed count → IsNamed (log_of command) NoLog
bulk_named command seed count is = subst (λ (c : Command). IsNamed (log_of c) NoLog) (sym is) tt

pub bulk_log : (command : Command) (files : Store) (seed count : ℕ) → command ≡ Bulk seed count → IsLogFile files (log_of command) NoLog
bulk_log command files seed count is = subst (λ (c : Command). IsLogFile files (log_of c) NoLog) (sym is) tt

pub bulk_source : (command : Command) (files : Store) (seed count : ℕ) (source : List ℕ) → command ≡ Bulk seed count → source ≡ generated_source seed count → IsSourceOf files command source
bulk_source command files seed count source is made = subst (λ (c : Command). IsSourceOf files c source) (sym is) made
