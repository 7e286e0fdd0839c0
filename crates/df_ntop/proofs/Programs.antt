-- How a command ends with its program.
use Rattle.std.proofs.Common.{◌≡◌, inl, inr, ℕ, Bool, true, false, List, Option, None, Some, refl, sym, ap, subst, true≢false}
use Rattle.df_lang.specs.Native.{IsNative}
use Rattle.df_lang.specs.Program.{Program}
use Rattle.df_meaning.specs.Correct.{AreCorrect}
use Rattle.df_search.specs.declared.found.Budget as search
use Rattle.df_ncmd.specs.Line.{Budget, Command, Verify, Prove, Check, Build, Run, Bulk}
use Rattle.df_nmach.specs.State.{Code}
use Rattle.df_listing.specs.Listing.{listing_text}
use Rattle.df_listing.specs.Ordinary.{IsOrdinary}
use Rattle.df_ntop.specs.declared.machine.Ran.{Ran}
use Rattle.df_ntop.specs.declared.machine.Ran.TheVariants as rans
use Rattle.df_ntop.specs.declared.ending.End.{End}
use Rattle.df_ntop.specs.declared.ending.End.TheVariants as ends
use Rattle.df_ntop.specs.Call.{Streams, IsSilent, Rose}
use Rattle.df_ntop.specs.Command.{file_of, log_of, budget_of, usual, puts_report, runs}
use Rattle.df_ntop.specs.Entry.{IsEntryAt}
use Rattle.df_ntop.specs.Loaded.{LogFile}
use Rattle.df_ntop.specs.Run.{IsRunOf, RunsMain}
use Rattle.df_ntop.specs.Running.{end_of}
use Rattle.df_ntop.specs.Answer.{search_budget, IsProved, IsReport, IsProofText, ProvesBy, IsReady, IsFailing, IsBuilt, IsAccepted}
use Rattle.df_ntop.specs.Ending.{PutsText, PutsListing, IsErrReport, IsListing, IsWholeListing, Ends, of_program}
use Rattle.df_ntop.proofs.Texts.{part_of_whole}

abbrev as_budget : search.Budget → Budget
as_budget b = record { steps = b.steps; rounds = b.rounds }

module _ (program : Program) where
  -- the budget of a search is the command's
  as_far : (budget : search.Budget) (other : Budget) (verified : Bool) (text : List ℕ) → budget ≡ search_budget other → IsReport program (as_budget budget) verified text → IsReport program other verified text
  as_far budget other verified text same report = subst (λ (b : Budget). IsReport program b verified text) (ap as_budget same) report

  as_verified : (budget : Budget) (verified other : Bool) (text : List ℕ) → verified ≡ other → IsReport program budget verified text → IsReport program budget other text
  as_verified budget verified other text same report = subst (λ (b : Bool). IsReport program budget b text) same report

  -- ---- what a report without a failure says

  pub all_proved : (budget : search.Budget) (other : Budget) (verified : Bool) (text : List ℕ) → budget ≡ search_budget other → verified ≡ true → IsReport program (as_budget budget) verified text → IsProved program other
  all_proved budget other verified text same all report =
      let here = as_verified other verified true text all (as_far budget other verified text same report) in
      record { outcomes = here.outcomes; verdict = here.verdict; verified = here.verified_is }

  pub all_correct : (budget : Budget) → IsProved program budget → AreCorrect program
  all_correct budget proved = proved.verdict.correct proved.verified

  whole_listing : (budget : Budget) (code : Code) → IsBuilt program budget code → IsOrdinary code → ((other : Code) → IsOrdinary other → listing_text other ≡ listing_text code → other ≡ code) → IsWholeListing program budget (listing_text code)
  whole_listing budget code built ordinary only = record { listing = record { code = code; built = built; text_is = refl }; ordinary = ordinary; only = only }

  module _ (log : LogFile) (s : Streams) where
    -- ---- by commands

    of_verify : (file : List ℕ) (budget : Budget) (verified : Bool) (text : List ℕ) (end : End) → IsReport program budget verified text → PutsText verified text s.out end → IsSilent s.err → Ends (of_program (Verify file budget) log program) s end
    of_verify file budget verified text ends.Done report puts same = ((text, as_verified budget verified true text puts.0 report, puts.1), same)
    of_verify file budget verified text ends.Unproved report puts same = inl ((text, as_verified budget verified false text puts.0 report, puts.1), same)
    of_verify file budget verified text ends.FuelSpent report puts same = absurd puts
    of_verify file budget verified text (ends.Told status line) report puts same = absurd puts
    of_verify file budget verified text ends.Unwritten report puts same = inl (puts.0, ((text, (verified, report), puts.1), same))
    of_verify file budget verified text ends.Memory report puts same = inr (inl ((text, (verified, report), puts), same))

    of_prove : (file : List ℕ) (budget : Budget) (text : List ℕ) (end : End) → IsProofText program text → PutsText true text s.out end → IsSilent s.err → Ends (of_program (Prove file budget) log program) s end
    of_prove file budget text ends.Done logs puts same = ((text, logs, puts.1), same)
    of_prove file budget text ends.Unproved logs puts same = absurd (true≢false puts.0)
    of_prove file budget text ends.FuelSpent logs puts same = absurd puts
    of_prove file budget text (ends.Told status line) logs puts same = absurd puts
    of_prove file budget text ends.Unwritten logs puts same = inl (puts.0, ((text, logs, puts.1), same))
    of_prove file budget text ends.Memory logs puts same = inr (inl ((text, logs, puts), same))

    of_check : (file name text : List ℕ) (end : End) → IsReport program usual true text → ProvesBy program log → PutsText true text s.out end → IsSilent s.err → Ends (of_program (Check file name) log program) s end
    of_check file name text ends.Done report proves puts same = ((text, (report, proves), puts.1), same)
    of_check file name text ends.Unproved report proves puts same = absurd (true≢false puts.0)
    of_check file name text ends.FuelSpent report proves puts same = absurd puts
    of_check file name text (ends.Told status line) report proves puts same = absurd puts
    of_check file name text ends.Unwritten report proves puts same = inl (puts.0, ((text, (report, proves), puts.1), same))
    of_check file name text ends.Memory report proves puts same = inr (inl ((text, (report, proves), puts), same))

    of_failing : (command : Command) (text : List ℕ) (end : End) → IsErrReport command log program text → PutsText false text s.err end → IsSilent s.out → Ends (of_program command log program) s end
    of_failing command text ends.Done report puts same = absurd (true≢false (sym puts.0))
    of_failing command text ends.Unproved report puts same = inr ((text, report, puts.1), same)
    of_failing command text ends.FuelSpent report puts same = absurd puts
    of_failing command text (ends.Told status line) report puts same = absurd puts
    of_failing command text ends.Unwritten report puts same = inr (puts.0, ((text, report, puts.1), same))
    of_failing command text ends.Memory report puts same = inr (inr ((text, report, puts), same))

    err_report : (command : Command) (text : List ℕ) → puts_report command ≡ true → log_of command ≡ None → IsFailing command program text → IsErrReport command log program text
    err_report (Verify file budget) text puts unlogged failing = absurd (true≢false (sym puts))
    err_report (Prove file budget) text puts unlogged failing = failing
    err_report (Check file name) text puts unlogged failing = absurd (true≢false (sym puts))
    err_report (Build file None budget) text puts unlogged failing = failing
    err_report (Build file (Some name) budget) text puts unlogged failing = absurd cc
    err_report (Run file None budget fuel) text puts unlogged failing = failing
    err_report (Run file (Some name) budget fuel) text puts unlogged failing = absurd cc
    err_report (Bulk seed count) text puts unlogged failing = absurd (true≢false (sym puts))

    of_listing : (file : List ℕ) (proof : Option (List ℕ)) (budget : Budget) (code : Code) (end : End) → IsBuilt program budget code → ProvesBy program log → PutsListing code s.out end → IsSilent s.err → Ends (of_program (Build file proof budget) log program) s end
    of_listing file proof budget code end built proves puts same = by_end end puts
      where
        listing : IsListing program budget (listing_text code)
        listing = record { code = code; built = built; text_is = refl }

        by_end : (end : End) → PutsListing code s.out end → Ends (of_program (Build file proof budget) log program) s end
        by_end ends.Done puts = ((listing_text code, (whole_listing budget code built puts.ordinary puts.only, proves), puts.put), same)
        by_end ends.Unproved puts = absurd puts
        by_end ends.FuelSpent puts = absurd puts
        by_end (ends.Told status line) puts = absurd puts
        by_end ends.Unwritten puts = inl (puts.0, ((listing_text code, (listing, proves), puts.1), same))
        by_end ends.Memory puts = inr (inl ((listing_text code, (listing, proves), puts), same))

    accepted : (budget : Budget) (number : ℕ) (code : Code) (whole : List ℕ) → IsBuilt program budget code → IsRunOf program number code whole → IsAccepted program budget number code whole
    accepted budget number code whole built run = record { built = built; run = run }

    of_main : (file : List ℕ) (proof : Option (List ℕ)) (budget : Budget) (number fuel : ℕ) (code : Code) (ran : Ran) → IsBuilt program budget code → ProvesBy program log → RunsMain ran program code number fuel s.out.old s.out.new → (ran ≡ rans.Write → Rose s.out.before s.out.after) → IsSilent s.err → Ends (of_program (Run file proof budget fuel) log program) s (end_of ran)
    of_main file proof budget number fuel code rans.Ended built proves (text, run, ended, put) rose same =
        ((text, (record { number = number; code = code; accepted = accepted budget number code text built run; ended = ended }, proves), put), same)
    of_main file proof budget number fuel code rans.FuelSpent built proves (whole, text, run, unended, put) rose same =
        ((text, (record { number = number; code = code; whole = whole; accepted = accepted budget number code whole built run; unended = unended }, proves), put), same)
    of_main file proof budget number fuel code rans.Write built proves cut rose same =
        inl (rose refl, ((cut.whole, ((number, code, accepted budget number code cut.whole built cut.run), proves), cut.puts), same))
    of_main file proof budget number fuel code rans.Memory built proves (inl quiet) rose same = inl (quiet, same)
    of_main file proof budget number fuel code rans.Memory built proves (inr cut) rose same =
        let put = part_of_whole s.out.old s.out.new cut.whole cut.text cut.unended.more cut.unended.is_part cut.puts in
        inr (inl ((cut.whole, ((number, code, accepted budget number code cut.whole built cut.run), proves), put), same))

    -- ---- the command that is carried out

    module _ (command : Command) where
      abbrev EndsSo : End → Type 0
      EndsSo end = Ends (of_program command log program) s end

      at_command : (other : Command) (end : End) → command ≡ other → Ends (of_program other log program) s end → EndsSo end
      at_command other end is h = subst (λ (c : Command). Ends (of_program c log program) s end) (sym is) h

      pub verify_ends : (budget : search.Budget) (verified : Bool) (text : List ℕ) (end : End) → command ≡ Verify (file_of command) (budget_of command) → budget ≡ search_budget (budget_of command) → IsReport program (as_budget budget) verified text → PutsText verified text s.out end → IsSilent s.err → EndsSo end
      verify_ends budget verified text end is same report puts quiet =
          at_command (Verify (file_of command) (budget_of command)) end is
          (of_verify (file_of command) (budget_of command) verified text end (as_far budget (budget_of command) verified text same report) puts quiet)

      pub logs_end : (text : List ℕ) (end : End) → command ≡ Prove (file_of command) (budget_of command) → IsProofText program text → PutsText true text s.out end → IsSilent s.err → EndsSo end
      logs_end text end is logs puts quiet = at_command (Prove (file_of command) (budget_of command)) end is (of_prove (file_of command) (budget_of command) text end logs puts quiet)

      pub check_ends : (name text : List ℕ) (end : End) → command ≡ Check (file_of command) name → IsReport program usual true text → ProvesBy program log → PutsText true text s.out end → IsSilent s.err → EndsSo end
      check_ends name text end is report proves puts quiet = at_command (Check (file_of command) name) end is (of_check (file_of command) name text end report proves puts quiet)

      pub failing_ends : (budget : search.Budget) (verified : Bool) (text : List ℕ) (end : End) → puts_report command ≡ true → log_of command ≡ None → budget ≡ search_budget (budget_of command) → IsReport program (as_budget budget) verified text → verified ≡ false → IsReady command program → PutsText verified text s.err end → IsSilent s.out → EndsSo end
      failing_ends budget verified text end puts_it unlogged same report failing ready puts quiet =
          let told = as_verified (budget_of command) verified false text failing (as_far budget (budget_of command) verified text same report) in
          of_failing command text end (err_report command text puts_it unlogged (record { report = told; ready = ready }))
          (subst (λ (b : Bool). PutsText b text s.err end) failing puts) quiet

      pub listing_ends : (code : Code) (end : End) → command ≡ Build (file_of command) (log_of command) (budget_of command) → IsBuilt program (budget_of command) code → ProvesBy program log → PutsListing code s.out end → IsSilent s.err → EndsSo end
      listing_ends code end is built proves puts quiet =
          at_command (Build (file_of command) (log_of command) (budget_of command)) end is (of_listing (file_of command) (log_of command) (budget_of command) code end built proves puts quiet)

      pub main_ends : (fuel number : ℕ) (code : Code) (ran : Ran) (end : End) → command ≡ Run (file_of command) (log_of command) (budget_of command) fuel → end ≡ end_of ran → IsBuilt program (budget_of command) code → ProvesBy program log → RunsMain ran program code number fuel s.out.old s.out.new → (ran ≡ rans.Write → Rose s.out.before s.out.after) → IsSilent s.err → EndsSo end
      main_ends fuel number code ran end is same built proves runs rose quiet =
          at_command (Run (file_of command) (log_of command) (budget_of command) fuel) end is
          (subst (Ends (of_program (Run (file_of command) (log_of command) (budget_of command) fuel) log program) s) (sym same)
          (of_main (file_of command) (log_of command) (budget_of command) number fuel code ran built proves runs rose quiet))

-- what a command that proves, builds or runs asks of its program
pub ready_to_prove : (program : Program) (command : Command) → command ≡ Prove (file_of command) (budget_of command) → IsReady command program
ready_to_prove program command is = subst (λ (c : Command). IsReady c program) (sym is) (record { native = λ e. absurd cc; entry = λ e. absurd cc })

pub ready_to_check : (program : Program) (command : Command) (name : List ℕ) → command ≡ Check (file_of command) name → IsReady command program
ready_to_check program command name is = subst (λ (c : Command). IsReady c program) (sym is) (record { native = λ e. absurd cc; entry = λ e. absurd cc })

pub ready_to_build : (program : Program) (command : Command) → command ≡ Build (file_of command) (log_of command) (budget_of command) → IsNative program → IsReady command program
ready_to_build program command is native = subst (λ (c : Command). IsReady c program) (sym is) (record { native = λ e. native; entry = λ e. absurd cc })

pub ready_to_run : (program : Program) (command : Command) (number : ℕ) → IsNative program → IsEntryAt program number → IsReady command program
ready_to_run program command number native entry = record { native = λ e. native; entry = λ e. (number, entry) }
