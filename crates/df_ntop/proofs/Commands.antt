-- How a call ends by its words.
use Rattle.std.proofs.Common.{◌≡◌, ⊎_elim, inl, inr, ℕ, ◌≤◌, List, Option, sym, subst}
use Rattle.df_base.specs.Outside.{Appends, AppendsPrefix}
use Rattle.df_base.specs.declared.status.Status.{Status}
use Rattle.df_base.specs.declared.status.Status.TheVariants as statuses
use Rattle.df_lang.specs.Program.{Program}
use Rattle.df_ncmd.specs.Line.{Command}
use Rattle.df_ntop.specs.declared.ending.End.{End}
use Rattle.df_ntop.specs.declared.ending.End.TheVariants as ends
use Rattle.df_ntop.specs.Call.{Store, Stream, Streams, Call, IsLine}
use Rattle.df_ntop.specs.Command.{IsNoLine}
use Rattle.df_ntop.specs.Lines.{usage_line, memory_line, fuel_line}
use Rattle.df_ntop.specs.Loaded.{LogFile}
use Rattle.df_ntop.specs.Answer.{IsSpent, IsPartOnOut, ProgramTells, not_native, no_main, too_large, not_a_log, bad_part, SourceTells, refused, lawful, FilesTell, unread, large, loaded, PutSoFar, nothing, on_out, on_err, IsCutOnErr, Answers}
use Rattle.df_ntop.specs.Answer as answers
use Rattle.df_ntop.specs.Ending.{Ends, of_files}
use Rattle.df_ntop.specs.Telling.{Tells}
use Rattle.df_ntop.proofs.Bulk.{later}
use Rattle.df_ntop.proofs.Rows.{done_row, spent_row, part_row, spent_part_row, out_report_row, err_report_row, report_part_row}

module _ (words : List (List ℕ)) (files : Store) where
  abbrev call : Streams → Stream → Call
  call s err = record { words = words; files = files; out = s.out; err = err }

  -- ---- a line is told after what was put before

  module _ (s : Streams) (new : Option (List ℕ)) (faults : ℕ) (kept : s.err.before ≤ s.err.after) where
    abbrev whole_err : Stream
    whole_err = record { old = s.err.old; new = new; before = s.err.before; after = faults }

    -- the line
    abbrev line_err : Stream
    line_err = record { old = s.err.new; new = new; before = s.err.after; after = faults }

    abbrev AnswersSo : Status → Type 0
    AnswersSo status = Answers (call s whole_err) status

    abbrev CutSo : Type 0
    CutSo = IsCutOnErr (call s whole_err)

    abbrev SoFar : Type 0
    SoFar = PutSoFar (call s whole_err) s.err.new

    tells_end : (line : List ℕ) (status result : Status)
        → SoFar
        → (AppendsPrefix s.err.new new line → CutSo)
        → Tells status line line_err result
        → (Appends s.err.new new line → AnswersSo status)
        → AnswersSo result
    tells_end line status result put cut told whole = by_cases told
      where
        by_cases : Tells status line line_err result → AnswersSo result
        by_cases (inl h) = subst AnswersSo (sym h.0) (whole h.1)
        by_cases (inr (inl h)) =
            let why : CutSo = ⊎_elim (λ (p : AppendsPrefix s.err.new new line). cut p) (λ (p : AppendsPrefix s.err.new new memory_line). answers.memory s.err.new put p) h.2 in
            subst AnswersSo (sym h.0) (inr (later s.err.before s.err.after faults kept h.1, why))
        by_cases (inr (inr h)) = subst AnswersSo (sym h.0) (record { middle = s.err.new; so_far = put; told = h.1 })

    -- the line on memory
    memory_told : (result : Status) → SoFar → Tells statuses.Memory memory_line line_err result → AnswersSo result
    memory_told result put told =
        tells_end memory_line statuses.Memory result put (λ p. answers.memory s.err.new put p) told
        (λ whole. record { middle = s.err.new; so_far = put; told = inl whole })

    -- before there is a command
    pub nothing_read : (result : Status) → s.out.new ≡ s.out.old → s.err.new ≡ s.err.old → Tells statuses.Memory memory_line line_err result → AnswersSo result
    nothing_read result quiet silent told = memory_told result (nothing quiet silent) told

    -- the line on words that are no command
    pub usage_end : (result : Status) → IsNoLine words → s.out.new ≡ s.out.old → s.err.new ≡ s.err.old → Tells statuses.Usage usage_line line_err result → AnswersSo result
    usage_end result none quiet silent told =
        tells_end usage_line statuses.Usage result (nothing quiet silent) (λ p. answers.usage none quiet (subst (λ (m : Option (List ℕ)). AppendsPrefix m new usage_line) silent p)) told
        (λ put. (none, (quiet, subst (λ (m : Option (List ℕ)). Appends m new usage_line) silent put)))

    module _ (command : Command) (words_are : IsLine words command) where
      -- a line of the command
      by_status : (line : List ℕ) (status : Status) → FilesTell files command status line → s.out.new ≡ s.out.old → Appends s.err.old new line → AnswersSo status
      by_status line status tells quiet put = by_files command status line tells words_are put
        where
          by_program : (command : Command) (log : LogFile) (program : Program) (status : Status) (line : List ℕ) → FilesTell files command status line → ProgramTells program command log status line → IsLine words command → Appends s.err.old new line → AnswersSo status
          by_program command log program status line tells (not_native pos rule compiled first) is put = (line, record { command = command; line = is; holds = tells }, (quiet, put))
          by_program command log program status line tells (no_main run native none) is put = (line, record { command = command; line = is; holds = tells }, (quiet, put))
          by_program command log program status line tells (too_large ready long) is put = (line, record { command = command; line = is; holds = tells }, (quiet, put))
          by_program command log program status line tells (not_a_log bytes number ready there bad) is put = (line, record { command = command; line = is; holds = tells }, (quiet, put))
          by_program command log program status line tells (bad_part bytes obligation step ready there bad) is put = (line, record { command = command; line = is; holds = tells }, (quiet, put))

          by_source : (command : Command) (log : LogFile) (source : List ℕ) (status : Status) (line : List ℕ) → FilesTell files command status line → SourceTells source command log status line → IsLine words command → Appends s.err.old new line → AnswersSo status
          by_source command log source status line tells (refused names r why) is put = (line, record { command = command; line = is; holds = tells }, (quiet, put))
          by_source command log source status line tells (lawful program there told) is put = by_program command log program status line tells told is put

          by_files : (command : Command) (status : Status) (line : List ℕ) → FilesTell files command status line → IsLine words command → Appends s.err.old new line → AnswersSo status
          by_files command status line (unread name named rose) is put = (rose, record { command = command; line = is; holds = (name, named, (quiet, put)) })
          by_files command status line (large loads none long) is put = (line, record { command = command; line = is; holds = large loads none long }, (quiet, put))
          by_files command status line (loaded source log there is_log told) is put = by_source command log source status line (loaded source log there is_log told) told is put

      pub told_end : (line : List ℕ) (status result : Status) → FilesTell files command status line → s.out.new ≡ s.out.old → s.err.new ≡ s.err.old → Tells status line line_err result → AnswersSo result
      told_end line status result tells quiet silent told =
          tells_end line status result (nothing quiet silent)
          (λ p. answers.cause status line (record { command = command; line = words_are; holds = tells }) quiet (subst (λ (m : Option (List ℕ)). AppendsPrefix m new line) silent p)) told
          (λ put. by_status line status tells quiet (subst (λ (m : Option (List ℕ)). Appends m new line) silent put))

  -- ---- before err is told

  module _ (command : Command) (words_are : IsLine words command) (s : Streams) where
    abbrev Given : End → Type 0
    Given end = Ends (of_files command files) s end

    abbrev Gives : Status → Type 0
    Gives status = Answers (call s s.err) status

    pub done : Given ends.Done → Gives statuses.Done
    done h = (record { command = command; line = words_are; holds = done_row words files s s.err command h.0 }, h.1)

    pub unproved : Given ends.Unproved → Gives statuses.Unproved
    unproved (inl h) = record { command = command; line = words_are; holds = out_report_row words files s s.err command h.0 h.1 }
    unproved (inr h) = record { command = command; line = words_are; holds = err_report_row words files s s.err command h.0 h.1 }

    pub unwritten : Given ends.Unwritten → Gives statuses.Unwritten
    unwritten (inl h) = inl (h.0, record { command = command; line = words_are; holds = part_row words files s s.err command h.1.0 }, h.1.1)
    unwritten (inr h) = inr (h.0, answers.report (record { command = command; line = words_are; holds = report_part_row words files s s.err s.err.new command h.1.0 h.1.1 }))

  -- ---- and a line after it

  module _ (s : Streams) (new : Option (List ℕ)) (faults : ℕ) (kept : s.err.before ≤ s.err.after) (command : Command) (words_are : IsLine words command) where
    abbrev grown : Stream
    grown = whole_err s new faults kept

    abbrev AnswersThen : Status → Type 0
    AnswersThen status = Answers (call s grown) status

    abbrev TellsThen : Status → List ℕ → Status → Type 0
    TellsThen status line result = Tells status line (line_err s new faults kept) result

    -- what is put before memory is refused
    so_far : Ends (of_files command files) s ends.Memory → PutSoFar (call s grown) s.err.new
    so_far (inl h) = nothing h.0 h.1
    so_far (inr (inl h)) = on_out (record { command = command; line = words_are; holds = part_row words files s grown command h.0 }) h.1
    so_far (inr (inr h)) = on_err (record { command = command; line = words_are; holds = report_part_row words files s grown s.err.new command h.0 h.1 })

    pub memory_end : (result : Status) → Ends (of_files command files) s ends.Memory → TellsThen statuses.Memory memory_line result → AnswersThen result
    memory_end result h told = memory_told s new faults kept result (so_far h) told

    -- the line on fuel
    pub fuel_end : (result : Status) → Ends (of_files command files) s ends.FuelSpent → TellsThen statuses.FuelSpent fuel_line result → AnswersThen result
    fuel_end result h told =
        let spent : answers.OfLine words (IsSpent (call s grown)) = record { command = command; line = words_are; holds = spent_row words files s grown command h.0 } in
        let part : answers.OfLine words (IsPartOnOut (call s grown)) = record { command = command; line = words_are; holds = spent_part_row words files s grown command h.0 } in
        tells_end s new faults kept fuel_line statuses.FuelSpent result (on_out part h.1)
        (λ p. answers.spent spent (subst (λ (m : Option (List ℕ)). AppendsPrefix m new fuel_line) h.1 p)) told
        (λ put. (spent, subst (λ (m : Option (List ℕ)). Appends m new fuel_line) h.1 put))
