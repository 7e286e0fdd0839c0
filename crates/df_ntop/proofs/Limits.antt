-- The words of a command, and how far its search may go.
use Rattle.std.proofs.Common.{◌≡◌, inl, inr, ℕ, ◌≤◌, true, false, List, Some, None, Result, Err, refl, sym, ap, subst, ◌∙◌, true≢false, arith}
use Rattle.std.proofs.lemmas.Option.{same_Some}
use Rattle.df_search.specs.declared.found.Budget as search
use Rattle.df_ncmd.specs.declared.command.Command as declared
use Rattle.df_ncmd.specs.declared.command.LineFault.{LineFault}
use Rattle.df_ncmd.specs.declared.command.LineFault.TheVariants as faults
use Rattle.df_ncmd.specs.View.{ReadsLine}
use Rattle.df_ncmd.specs.Line.{Budget, Command, Verify, Prove, Check, Build, Run, Bulk, IsBudget, IsInLimits, line_of}
use Rattle.df_ntop.specs.Call.{IsLine}
use Rattle.df_ntop.specs.Command.{IsNoLine, IsFileOf, usual, file_of, log_of, log_name_of, budget_of, fuel_of, is_bulk}
use Rattle.df_ntop.specs.Answer.{search_budget}

-- the words ask for one command
pub same_command : (words : List (List ℕ)) (command other : Command) → IsLine words command → IsLine words other → command ≡ other
same_command words command other is that = same_Some command other (sym is.asks ∙ that.asks)

-- words that ask for none are no line
pub no_line : (words : List (List ℕ)) → line_of words ≡ None → IsNoLine words
no_line words none command is = let same : None ≡ Some command = sym none ∙ is.asks in absurd cc

-- nor are words of which reading them tells so
pub no_line_read : (words : List (List ℕ)) (read : Result declared.Command LineFault) → ReadsLine words read → read ≡ Err faults.Usage → IsNoLine words
no_line_read words read reads usage = no_line words (subst (ReadsLine words) usage reads)

usual_is_budget : IsBudget usual
usual_is_budget = (omega arith, omega arith, omega arith)

-- the numbers lie within their limits
pub limits_of : (command : Command) → IsInLimits command → IsBudget (budget_of command)
limits_of (Verify file budget) h = h
limits_of (Prove file budget) h = h
limits_of (Check file log) h = usual_is_budget
limits_of (Build file proof budget) h = h
limits_of (Run file proof budget fuel) h = h.0
limits_of (Bulk seed count) h = usual_is_budget

-- a search may close at least one branch
pub steps_are_some : (budget : search.Budget) (b : Budget) → budget ≡ search_budget b → IsBudget b → 1 ≤ budget.steps
steps_are_some budget b same limits = subst (λ (n : ℕ). 1 ≤ n) (sym (ap (λ (x : search.Budget). x.steps) same)) limits.0

-- ---- which command it is

-- the place of a command in the table
abbrev pub place_of : Command → ℕ
place_of (Verify file budget) = 0
place_of (Prove file budget) = 1
place_of (Check file log) = 2
place_of (Build file proof budget) = 3
place_of (Run file proof budget fuel) = 4
place_of (Bulk seed count) = 5

pub is_verify : (command : Command) → place_of command ≡ 0 → command ≡ Verify (file_of command) (budget_of command)
is_verify (Verify file budget) e = refl
is_verify (Prove file budget) e = absurd (omega arith)
is_verify (Check file log) e = absurd (omega arith)
is_verify (Build file proof budget) e = absurd (omega arith)
is_verify (Run file proof budget fuel) e = absurd (omega arith)
is_verify (Bulk seed count) e = absurd (omega arith)

pub is_prove : (command : Command) → place_of command ≡ 1 → command ≡ Prove (file_of command) (budget_of command)
is_prove (Verify file budget) e = absurd (omega arith)
is_prove (Prove file budget) e = refl
is_prove (Check file log) e = absurd (omega arith)
is_prove (Build file proof budget) e = absurd (omega arith)
is_prove (Run file proof budget fuel) e = absurd (omega arith)
is_prove (Bulk seed count) e = absurd (omega arith)

pub is_check : (command : Command) → place_of command ≡ 2 → command ≡ Check (file_of command) (log_name_of command)
is_check (Verify file budget) e = absurd (omega arith)
is_check (Prove file budget) e = absurd (omega arith)
is_check (Check file log) e = refl
is_check (Build file proof budget) e = absurd (omega arith)
is_check (Run file proof budget fuel) e = absurd (omega arith)
is_check (Bulk seed count) e = absurd (omega arith)

pub is_build : (command : Command) → place_of command ≡ 3 → command ≡ Build (file_of command) (log_of command) (budget_of command)
is_build (Verify file budget) e = absurd (omega arith)
is_build (Prove file budget) e = absurd (omega arith)
is_build (Check file log) e = absurd (omega arith)
is_build (Build file proof budget) e = refl
is_build (Run file proof budget fuel) e = absurd (omega arith)
is_build (Bulk seed count) e = absurd (omega arith)

pub is_run : (command : Command) (fuel : ℕ) → place_of command ≡ 4 → fuel_of command ≡ fuel → command ≡ Run (file_of command) (log_of command) (budget_of command) fuel
is_run (Verify file budget) fuel e same = absurd (omega arith)
is_run (Prove file budget) fuel e same = absurd (omega arith)
is_run (Check file log) fuel e same = absurd (omega arith)
is_run (Build file proof budget) fuel e same = absurd (omega arith)
is_run (Run file proof budget most) fuel e same = ap (Run file proof budget) same
is_run (Bulk seed count) fuel e same = absurd (omega arith)

-- a command but bulk loads its file
pub loads_file : (command : Command) → is_bulk command ≡ false → IsFileOf command (file_of command)
loads_file (Verify file budget) e = inl refl
loads_file (Prove file budget) e = inl refl
loads_file (Check file log) e = inl refl
loads_file (Build file proof budget) e = inl refl
loads_file (Run file proof budget fuel) e = inl refl
loads_file (Bulk seed count) e = absurd (true≢false e)

-- and its log, if it names one
pub loads_log : (command : Command) (name : List ℕ) → log_of command ≡ Some name → IsFileOf command name
loads_log (Verify file budget) name e = absurd cc
loads_log (Prove file budget) name e = absurd cc
loads_log (Check file log) name e = inr e
loads_log (Build file proof budget) name e = inr e
loads_log (Run file proof budget fuel) name e = inr e
loads_log (Bulk seed count) name e = absurd cc

-- ---- the numbers of bulk

count_in : (command : Command) (seed count : ℕ) → command ≡ Bulk seed count → IsInLimits command → count ≤ 200
count_in command seed count is limits =
    let told = subst IsInLimits is limits in told.2

-- the count fits 32 bits
pub count_fits : (command : Command) (seed count : ℕ) → command ≡ Bulk seed count → IsInLimits command → count ≤ 4294967295
count_fits command seed count is limits =
    let few = count_in command seed count is limits in
    omega (arith, few)
