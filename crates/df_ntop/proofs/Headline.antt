-- The headline, and what the other commands promise: of the table's rows.
use Rattle.std.proofs.Common.{◌≡◌, ◌≢◌, inl, inr, ℕ, true, List, [], ◌++◌, Option, None, Some, sym, subst, true≢false}
use Rattle.df_base.specs.declared.status.Status.{Status}
use Rattle.df_base.specs.declared.status.Status.TheVariants as statuses
use Rattle.df_lang.specs.Program.{Program}
use Rattle.df_ncmd.specs.Limits.{fuel_limit}
use Rattle.df_ncmd.specs.Line.{Command, Verify, Prove, Check, Build, Run, Bulk}
use Rattle.df_nmach.specs.State.{Code}
use Rattle.df_report.specs.Report.{summary}
use Rattle.df_nproof.specs.Verified.{verified_outcomes}
use Rattle.df_ntop.specs.Call.{Call, Takes, TakesPrefix, IsSilent, IsLine}
use Rattle.df_ntop.specs.Headline.{Share, Whole, Spent, Part, HasPassedLine, EntryRun, IsPut, share_at, Accepts, Accepted, CorrectSource, judges}
use Rattle.df_ntop.specs.Answer.{OfLine, Proved, IsDone, IsSpent, IsUnproved, IsPartOnOut, IsPartOnErr, PutSoFar, nothing, on_out, on_err, IsCutOnErr, Answers}
use Rattle.df_ntop.specs.Answer as answers
use Rattle.df_ntop.proofs.Limits.{same_command}
use Rattle.df_ntop.proofs.Texts.{part_of_whole, nothing_of, all_of_text, behind_line}

module _ (call : Call) where
  -- ---- a spent run has put a part

  as_part : (program : Program) (code : Code) (fuel : ℕ) (line : List ℕ) → EntryRun program code fuel Spent line call.out → EntryRun program code fuel Part line call.out
  as_part program code fuel line run =
      let whole = run.runs.returned.store.text in
      record {
        number = run.number;
        main = run.main;
        entry = run.entry;
        runs = run.runs;
        put = part_of_whole call.out.old call.out.new (line ++ whole) (line ++ run.put.0) run.put.1.more (behind_line line whole run.put.0 run.put.1.more run.put.1.is_part) run.put.2;
      }

  with_put : (command : Command) (share other : Share) (is : Proved call command share) → IsPut command other is.accepted.program is.accepted.code call.out → Proved call command other
  with_put command share other is put = record {
    accepted = record {
      source = is.accepted.source;
      loaded = is.accepted.loaded;
      program = is.accepted.program;
      lawful = is.accepted.lawful;
      correct = is.accepted.correct;
      code = is.accepted.code;
      emitted = is.accepted.emitted;
      runs = is.accepted.runs;
      put = put;
    };
    built = is.built;
    by_log = is.by_log;
  }

  part_of_spent : (command : Command) → IsSpent call command → IsPartOnOut call command
  part_of_spent (Verify file budget) is = absurd is
  part_of_spent (Prove file budget) is = absurd is
  part_of_spent (Check file log) is = absurd is
  part_of_spent (Build file proof budget) is = absurd is
  part_of_spent (Run file proof budget fuel) is = with_put (Run file proof budget fuel) Spent Part is (as_part is.accepted.program is.accepted.code fuel [] is.accepted.put)
  part_of_spent (Bulk seed count) is =
      let program = is.accepted.program in
      inr (with_put (Bulk seed count) Spent Part is (as_part program is.accepted.code fuel_limit (summary (verified_outcomes program.decls)) is.accepted.put))

  -- ---- what is put where a command accepts

  -- it accepts by what out has taken
  abbrev HasPutMore : Command → Type 0
  HasPutMore (Run file proof budget fuel) = call.out.new ≢ call.out.old
  HasPutMore (Bulk seed count) = HasPassedLine call.out
  HasPutMore command = ⊥

  -- and then out has taken something
  not_silent : (command : Command) → HasPutMore command → IsSilent call.out → ⊥
  not_silent (Verify file budget) more quiet = more
  not_silent (Prove file budget) more quiet = more
  not_silent (Check file log) more quiet = more
  not_silent (Build file proof budget) more quiet = more
  not_silent (Run file proof budget fuel) more quiet = more quiet
  not_silent (Bulk seed count) more quiet = more [] (nothing_of call.out.old call.out.new (summary []) quiet)

  -- at other statuses than 0 and 7
  more_put : (command : Command) (status : Status) → (status ≡ statuses.Done → ⊥) → (status ≡ statuses.FuelSpent → ⊥) → Accepts command call status → HasPutMore command
  more_put (Verify file budget) status done spent h = absurd h
  more_put (Prove file budget) status done spent h = absurd h
  more_put (Check file log) status done spent h = absurd h
  more_put (Build file proof budget) status done spent h = absurd (done h)
  more_put (Run file proof budget fuel) status done spent (inl e) = absurd (done e)
  more_put (Run file proof budget fuel) status done spent (inr (inl e)) = absurd (spent e)
  more_put (Run file proof budget fuel) status done spent (inr (inr h)) = h
  more_put (Bulk seed count) status done spent (inl e) = absurd (done e)
  more_put (Bulk seed count) status done spent (inr (inl e)) = absurd (spent e)
  more_put (Bulk seed count) status done spent (inr (inr h)) = h

  -- ---- by commands

  of_done : (command : Command) → IsDone call command → Accepts command call statuses.Done → Accepted call command Whole
  of_done (Verify file budget) is h = absurd h
  of_done (Prove file budget) is h = absurd h
  of_done (Check file log) is h = absurd h
  of_done (Build file proof budget) is h = is.accepted
  of_done (Run file proof budget fuel) is h = is.accepted
  of_done (Bulk seed count) is h = is.accepted

  of_spent : (command : Command) → IsSpent call command → Accepted call command Spent
  of_spent (Verify file budget) is = absurd is
  of_spent (Prove file budget) is = absurd is
  of_spent (Check file log) is = absurd is
  of_spent (Build file proof budget) is = absurd is
  of_spent (Run file proof budget fuel) is = is.accepted
  of_spent (Bulk seed count) is = is.accepted

  -- bulk has put more than a part of the last line
  passed_line : (seed count : ℕ) → HasPassedLine call.out → IsPartOnOut call (Bulk seed count) → Accepted call (Bulk seed count) Part
  passed_line seed count more (inl line) =
      let last = line.is.1 in
      absurd (more last.outcomes (subst (TakesPrefix call.out) last.text_is line.was_put))
  passed_line seed count more (inr is) = is.accepted

  of_part : (command : Command) → IsPartOnOut call command → HasPutMore command → Accepted call command Part
  of_part (Verify file budget) is more = absurd more
  of_part (Prove file budget) is more = absurd more
  of_part (Check file log) is more = absurd more
  of_part (Build file proof budget) is more = absurd more
  of_part (Run file proof budget fuel) is more = is.accepted
  of_part (Bulk seed count) is more = passed_line seed count more is

  -- a report on err leaves out alone, and one on out is no more than the last line
  no_more_unproved : (command : Command) → IsUnproved call command → HasPutMore command → ⊥
  no_more_unproved (Verify file budget) is more = more
  no_more_unproved (Prove file budget) is more = more
  no_more_unproved (Check file log) is more = more
  no_more_unproved (Build file proof budget) is more = more
  no_more_unproved (Run file None budget fuel) is more = more is.1
  no_more_unproved (Run file (Some log) budget fuel) is more = is
  no_more_unproved (Bulk seed count) is more =
      let last = is.0.is.last in
      more last.outcomes (all_of_text call.out.old call.out.new (summary last.outcomes) (subst (Takes call.out) last.text_is is.0.was_put))

  silent_report : (middle : Option (List ℕ)) (command : Command) → IsPartOnErr call middle command → IsSilent call.out
  silent_report middle (Verify file budget) is = absurd is
  silent_report middle (Prove file budget) is = is.1
  silent_report middle (Check file log) is = absurd is
  silent_report middle (Build file None budget) is = is.1
  silent_report middle (Build file (Some log) budget) is = absurd is
  silent_report middle (Run file None budget fuel) is = is.1
  silent_report middle (Run file (Some log) budget fuel) is = absurd is
  silent_report middle (Bulk seed count) is = absurd is

  module _ (command : Command) (line : IsLine call.words command) where
    of_line : (is : Command → Type 0) → OfLine call.words is → is command
    of_line is h = subst is (same_command call.words h.command command h.line line) h.holds

    of_so_far : (middle : Option (List ℕ)) → PutSoFar call middle → HasPutMore command → IsPartOnOut call command
    of_so_far middle (nothing quiet silent) h = absurd (not_silent command h quiet)
    of_so_far middle (on_out put silent) h = of_line (IsPartOnOut call) put
    of_so_far middle (on_err put) h = absurd (not_silent command h (silent_report middle command (of_line (IsPartOnErr call middle) put)))

    of_cut : IsCutOnErr call → HasPutMore command → IsPartOnOut call command
    of_cut (answers.report put) h = absurd (not_silent command h (silent_report call.err.new command (of_line (IsPartOnErr call call.err.new) put)))
    of_cut (answers.usage none quiet put) h = absurd (not_silent command h quiet)
    of_cut (answers.cause status text tells quiet put) h = absurd (not_silent command h quiet)
    of_cut (answers.spent put told) h = part_of_spent command (of_line (IsSpent call) put)
    of_cut (answers.memory middle put told) h = of_so_far middle put h

    told_silently : (status : Status) → (status ≡ statuses.Done → ⊥) → (status ≡ statuses.FuelSpent → ⊥) → Accepts command call status → IsSilent call.out → ⊥
    told_silently status done spent h quiet = not_silent command (more_put command status done spent h) quiet

    pub accepts_right : (status : Status) → Answers call status → Accepts command call status → Accepted call command (share_at status)
    accepts_right statuses.Done a h = of_done command (of_line (IsDone call) a.0) h
    accepts_right statuses.Unproved a h = absurd (no_more_unproved command (of_line (IsUnproved call) a) (more_put command statuses.Unproved (λ e. absurd cc) (λ e. absurd cc) h))
    accepts_right statuses.Usage a h = absurd (a.0 command line)
    accepts_right statuses.Refused a h = absurd (told_silently statuses.Refused (λ e. absurd cc) (λ e. absurd cc) h a.2.0)
    accepts_right statuses.Unread a h = absurd (told_silently statuses.Unread (λ e. absurd cc) (λ e. absurd cc) h a.1.holds.2.0)
    accepts_right statuses.Unwritten (inl a) h = of_part command (of_line (IsPartOnOut call) a.1) (more_put command statuses.Unwritten (λ e. absurd cc) (λ e. absurd cc) h)
    accepts_right statuses.Unwritten (inr a) h = let more = more_put command statuses.Unwritten (λ e. absurd cc) (λ e. absurd cc) h in of_part command (of_cut a.1 more) more
    accepts_right statuses.Memory a h = let more = more_put command statuses.Memory (λ e. absurd cc) (λ e. absurd cc) h in of_part command (of_so_far a.middle a.so_far more) more
    accepts_right statuses.FuelSpent a h = of_spent command (of_line (IsSpent call) a.0)
    accepts_right statuses.NotCompilable a h = absurd (told_silently statuses.NotCompilable (λ e. absurd cc) (λ e. absurd cc) h a.2.0)
    accepts_right statuses.NoMain a h = absurd (told_silently statuses.NoMain (λ e. absurd cc) (λ e. absurd cc) h a.2.0)
    accepts_right statuses.BadLog a h = absurd (told_silently statuses.BadLog (λ e. absurd cc) (λ e. absurd cc) h a.2.0)

  -- ---- the other commands

  correct_done : (command : Command) → judges command ≡ true → IsDone call command → CorrectSource call command
  correct_done (Verify file budget) e is = is.right
  correct_done (Prove file budget) e is = is.right
  correct_done (Check file log) e is = is.right
  correct_done (Build file proof budget) e is = absurd (true≢false (sym e))
  correct_done (Run file proof budget fuel) e is = absurd (true≢false (sym e))
  correct_done (Bulk seed count) e is = absurd (true≢false (sym e))

  pub judges_right : (command : Command) → IsLine call.words command → judges command ≡ true → Answers call statuses.Done → CorrectSource call command
  judges_right command line e a = correct_done command e (of_line command line (IsDone call) a.0)
