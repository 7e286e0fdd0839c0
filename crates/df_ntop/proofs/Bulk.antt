-- How bulk ends with its program: the last line of the report, and the text of Main behind it.
use Rattle.std.proofs.Common.{◌≡◌, inl, inr, ℕ, ◌≤◌, Bool, true, false, List, ◌++◌, Option, refl, sym, ap, subst, ◌∙◌, arith}
use Rattle.df_base.specs.Outside.{Appends}
use Rattle.df_lang.specs.Program.{Program}
use Rattle.df_nproof.specs.Laws.{OutcomesAre}
use Rattle.df_report.specs.Report.{summary}
use Rattle.df_nproof.specs.Verified.{verified_outcomes}
use Rattle.df_search.specs.declared.found.Budget as search
use Rattle.df_ncmd.specs.Limits.{fuel_limit}
use Rattle.df_ncmd.specs.Line.{Budget, Command, Verify, Prove, Check, Build, Run, Bulk}
use Rattle.df_nmach.specs.State.{Code}
use Rattle.df_ntop.specs.declared.machine.Ran.{Ran}
use Rattle.df_ntop.specs.declared.machine.Ran.TheVariants as rans
use Rattle.df_ntop.specs.declared.ending.End.{End}
use Rattle.df_ntop.specs.declared.ending.End.TheVariants as ends
use Rattle.df_ntop.specs.Call.{Streams, IsSilent, Rose}
use Rattle.df_ntop.specs.Command.{usual, compiles, runs, is_bulk}
use Rattle.df_ntop.specs.Loaded.{LogFile}
use Rattle.df_ntop.specs.Run.{IsRunOf, RunsMain}
use Rattle.df_ntop.specs.Running.{end_of, IsCutLine}
use Rattle.df_ntop.specs.Answer.{search_budget, IsProved, IsLastLine, IsReady, IsBuilt, IsAccepted}
use Rattle.df_ntop.specs.Ending.{IsBehindLine, IsMainText, Ends, of_program}
use Rattle.df_ntop.proofs.Texts.{part_of_whole, all_of_text, behind, part_behind}

-- a fault in a part of a time rose in all of it
pub later : (before middle now : ℕ) → before ≤ middle → Rose middle now → Rose before now
later before middle now kept (inl less) = inl (omega arith)
later before middle now kept (inr last) = inr last

-- bulk by its seed and its count
pub bulk_is : (command : Command) → is_bulk command ≡ true → (seed : ℕ) × (count : ℕ) × (command ≡ Bulk seed count)
bulk_is (Verify file budget) e = absurd cc
bulk_is (Prove file budget) e = absurd cc
bulk_is (Check file log) e = absurd cc
bulk_is (Build file proof budget) e = absurd cc
bulk_is (Run file proof budget fuel) e = absurd cc
bulk_is (Bulk seed count) e = (seed, count, refl)

pub bulk_compiles : (command : Command) → is_bulk command ≡ true → compiles command ≡ true
bulk_compiles command e = let b = bulk_is command e in subst (λ (c : Command). compiles c ≡ true) (sym b.2) refl

pub bulk_runs : (command : Command) → is_bulk command ≡ true → runs command ≡ true
bulk_runs command e = let b = bulk_is command e in subst (λ (c : Command). runs c ≡ true) (sym b.2) refl

abbrev as_budget : search.Budget → Budget
as_budget b = record { steps = b.steps; rounds = b.rounds }

module _ (program : Program) where
  -- the budget of a search is the command's
  pub last_far : (budget : search.Budget) (other : Budget) (verified : Bool) (line : List ℕ) → budget ≡ search_budget other → IsLastLine program (as_budget budget) verified line → IsLastLine program other verified line
  last_far budget other verified line same last = subst (λ (b : Budget). IsLastLine program b verified line) (ap as_budget same) last

  pub last_verified : (budget : Budget) (verified other : Bool) (line : List ℕ) → verified ≡ other → IsLastLine program budget verified line → IsLastLine program budget other line
  last_verified budget verified other line same last = subst (λ (b : Bool). IsLastLine program budget b line) same last

  pub line_proves : (budget : Budget) (line : List ℕ) → IsLastLine program budget true line → IsProved program budget
  line_proves budget line last = record { outcomes = last.outcomes; verdict = last.verdict; verified = last.verified_is }

  -- it is that of a method without failures for each
  pub verified_line : OutcomesAre → (budget : Budget) (line : List ℕ) → IsLastLine program budget true line → line ≡ summary (verified_outcomes program.decls)
  verified_line are budget line last = last.text_is ∙ ap summary (are program last.verdict.groups (search_budget budget) last.outcomes last.verdict.judged last.verified_is)

  module _ (log : LogFile) (s : Streams) (seed count : ℕ) where
    abbrev EndsSo : End → Type 0
    EndsSo end = Ends (of_program (Bulk seed count) log program) s end

    -- the line is cut off
    pub cut_line_ends : (verified : Bool) (line : List ℕ) (end : End) → IsLastLine program usual verified line → IsCutLine line s.out end → IsSilent s.err → EndsSo end
    cut_line_ends verified line ends.Done last cut same = absurd cut
    cut_line_ends verified line ends.Unproved last cut same = absurd cut
    cut_line_ends verified line ends.FuelSpent last cut same = absurd cut
    cut_line_ends verified line (ends.Told status text) last cut same = absurd cut
    cut_line_ends verified line ends.Unwritten last cut same = inl (cut.0, ((line, inl (verified, last), cut.1), same))
    cut_line_ends verified line ends.Memory last cut same = inr (inl ((line, inl (verified, last), cut), same))

    -- it tells of a failure
    pub brief_ends : (line : List ℕ) → IsLastLine program usual false line → IsReady (Bulk seed count) program → Appends s.out.old s.out.new line → IsSilent s.err → EndsSo ends.Unproved
    brief_ends line last ready put same = inl ((line, record { last = last; ready = ready }, put), same)

    module _ (number : ℕ) (code : Code) (line : List ℕ) (mid : Option (List ℕ)) (built : IsBuilt program usual code) (last : IsLastLine program usual true line) (line_is : line ≡ summary (verified_outcomes program.decls)) (first : Appends s.out.old mid line) (same : IsSilent s.err) where
      accepted : (whole : List ℕ) → IsRunOf program number code whole → IsAccepted program usual number code whole
      accepted whole run = record { built = built; run = run }

      with_line : (rest : List ℕ) → line ++ rest ≡ summary (verified_outcomes program.decls) ++ rest
      with_line rest = ap (λ (l : List ℕ). l ++ rest) line_is

      main_behind : (whole : List ℕ) → IsRunOf program number code whole → IsBehindLine program (IsMainText program usual) (line ++ whole)
      main_behind whole run = record { rest = whole; is_rest = (number, code, accepted whole run); text_is = with_line whole }

      -- Main is run behind it
      of_run : (ran : Ran) → RunsMain ran program code number fuel_limit mid s.out.new → (ran ≡ rans.Write → Rose s.out.before s.out.after) → EndsSo (end_of ran)
      of_run rans.Ended (text, run, ended, put) rose =
          ((line ++ text, record { rest = text; is_rest = record { number = number; code = code; accepted = accepted text run; ended = ended }; text_is = with_line text }, behind s.out.old mid s.out.new line text first put), same)
      of_run rans.FuelSpent (whole, text, run, unended, put) rose =
          ((line ++ text, record { rest = text; is_rest = record { number = number; code = code; whole = whole; accepted = accepted whole run; unended = unended }; text_is = with_line text }, behind s.out.old mid s.out.new line text first put), same)
      of_run rans.Write cut rose =
          inl (rose refl, ((line ++ cut.whole, inr (main_behind cut.whole cut.run), part_behind s.out.old mid s.out.new line cut.whole first cut.puts), same))
      of_run rans.Memory (inl quiet) rose =
          let put : Appends s.out.old s.out.new line = subst (λ (x : Option (List ℕ)). Appends s.out.old x line) (sym quiet) first in
          inr (inl ((line, inl (true, last), all_of_text s.out.old s.out.new line put), same))
      of_run rans.Memory (inr cut) rose =
          let put = part_of_whole mid s.out.new cut.whole cut.text cut.unended.more cut.unended.is_part cut.puts in
          inr (inl ((line ++ cut.whole, inr (main_behind cut.whole cut.run), part_behind s.out.old mid s.out.new line cut.whole first put), same))

      pub run_ends : (ran : Ran) (end : End) → end ≡ end_of ran → RunsMain ran program code number fuel_limit mid s.out.new → (ran ≡ rans.Write → Rose s.out.before s.out.after) → EndsSo end
      run_ends ran end is runs rose = subst EndsSo (sym is) (of_run ran runs rose)
