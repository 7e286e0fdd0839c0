-- The code's commands, without where they lie in memory, and what reading a line answers.
use Rattle.std.specs.Prelude.{◌≡◌, List, Option, Some, None, Result, Ok, Err, string_bytes}
use Rattle.std.specs.Option.{option_map}
use Rattle.clap.specs.Words.{Row, Text, found_of, rows_of}
use Rattle.clap.specs.declared.parser.matches.ArgMatches.{ArgMatches}
use Rattle.df_ncmd.specs.declared.command.Budget.{Budget}
use Rattle.df_ncmd.specs.declared.command.Command.{Command}
use Rattle.df_ncmd.specs.declared.command.Command.TheVariants as commands
use Rattle.df_ncmd.specs.declared.command.LineFault.{LineFault}
use Rattle.df_ncmd.specs.declared.command.LineFault.TheVariants as faults
use Rattle.df_ncmd.specs.Line as pure

abbrev pub budget_of : Budget → pure.Budget
budget_of b = record { steps = b.steps; rounds = b.rounds }

abbrev pub command_of : Command → pure.Command
command_of (commands.Verify file budget) = pure.Verify (string_bytes file) (budget_of budget)
command_of (commands.Prove file budget) = pure.Prove (string_bytes file) (budget_of budget)
command_of (commands.Check file log) = pure.Check (string_bytes file) (string_bytes log)
command_of (commands.Build file proof budget) =
    pure.Build (string_bytes file) (option_map string_bytes proof) (budget_of budget)
command_of (commands.Run file proof budget fuel) =
    pure.Run (string_bytes file) (option_map string_bytes proof) (budget_of budget) fuel
command_of (commands.Bulk seed count) = pure.Bulk seed count

-- what was found for arguments
abbrev pub rows_in : ArgMatches → List Row
rows_in matches = rows_of (found_of matches)

-- what is found, as the code has it, or there is nothing
abbrev pub Gives : {A B : Type 0} → (A → B) → Result A LineFault → Option B → Type 0
Gives view (Ok x) found = found ≡ Some (view x)
Gives view (Err faults.Usage) found = found ≡ None
Gives view (Err faults.Memory) found = Unit {0}

-- the command that the words ask for, or they ask for none
abbrev pub ReadsLine : List Text → Result Command LineFault → Type 0
ReadsLine words result = Gives command_of result (pure.line_of words)
