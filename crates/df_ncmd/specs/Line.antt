-- Command lines: which command words ask for.
use Rattle.std.specs.Prelude.{◌≤◌, ℕ, nat_le, Bool, ◌&&◌, List, [], ◌∷◌, codes, Option, Some, None, if◌then◌else◌, ⊤}
use Rattle.std.specs.Option.{option_and_then, option_map}
use Rattle.std.specs.Fmt.{decimal}
use Rattle.std.specs.Str.Parse.{digits_value, without_leading_plus}
use Rattle.df_base.specs.Names.{same_text}
use Rattle.clap.specs.Words.{Kinds, Row, Text, fault_of, first_of, subcommand_of}
use Rattle.clap.specs.ValueTests.{is_unsigned_in}
use Rattle.df_ncmd.specs.Table.{table}
use Rattle.df_ncmd.specs.Limits.{round_limit, step_limit, fuel_limit, method_limit, seed_limit}

-- how much a search may do
pub record Budget : Type 0 where
  pub steps : ℕ
  pub rounds : ℕ

pub data Command : Type 0 where
  Verify : (file : Text) (budget : Budget) → Command
  Prove : (file : Text) (budget : Budget) → Command
  Check : (file : Text) (log : Text) → Command
  Build : (file : Text) (proof : Option Text) (budget : Budget) → Command
  -- for at most so many steps of the machine
  Run : (file : Text) (proof : Option Text) (budget : Budget) (fuel : ℕ) → Command
  Bulk : (seed count : ℕ) → Command

-- ---- what was given

-- the number that `clap` reads from a text, behind a plus or zeros
abbrev pub value_of : Text → ℕ
value_of text = digits_value 10 (without_leading_plus text)

-- the text is the decimal of its number, so it has no sign and no zero in front
abbrev pub is_decimal : Text → Bool
is_decimal text = same_text (decimal (value_of text)) text

-- the number that a text is the decimal of, where it lies within the limits
abbrev pub number_in : ℕ → ℕ → Text → Option ℕ
number_in least greatest text =
    if is_unsigned_in least greatest text && is_decimal text then Some (value_of text) else None

abbrev pub number_of : Text → ℕ → ℕ → List Row → Option ℕ
number_of id least greatest rows = option_and_then (number_in least greatest) (first_of id rows)

-- the same of a number
abbrev pub within : ℕ → ℕ → ℕ → Option ℕ
within least greatest n = if nat_le least n && nat_le n greatest then Some n else None

abbrev pub of_numbers : ℕ → ℕ → Budget
of_numbers steps rounds = record { steps = steps; rounds = rounds }

abbrev pub budget_in : List Row → Option Budget
budget_in rows = option_and_then (λ steps. option_map (of_numbers steps) (number_of (codes "rounds") 0 round_limit rows))
    (number_of (codes "steps") 1 step_limit rows)

-- ---- the command of a name, with what was given for its arguments

abbrev pub of_verify : List Row → Option Command
of_verify rows = option_and_then (λ file. option_map (Verify file) (budget_in rows)) (first_of (codes "file") rows)

abbrev pub of_prove : List Row → Option Command
of_prove rows = option_and_then (λ file. option_map (Prove file) (budget_in rows)) (first_of (codes "file") rows)

abbrev pub of_check : List Row → Option Command
of_check rows =
    option_and_then (λ file. option_map (Check file) (first_of (codes "log") rows)) (first_of (codes "file") rows)

abbrev pub of_build : List Row → Option Command
of_build rows =
    option_and_then (λ file. option_map (Build file (first_of (codes "proof") rows)) (budget_in rows))
    (first_of (codes "file") rows)

abbrev pub of_run : List Row → Option Command
of_run rows = option_and_then (λ file. option_and_then (λ budget.
    option_map (Run file (first_of (codes "proof") rows) budget) (number_of (codes "fuel") 0 fuel_limit rows))
    (budget_in rows))
    (first_of (codes "file") rows)

abbrev pub of_bulk : List Row → Option Command
of_bulk rows = option_and_then (λ seed. option_map (Bulk seed) (number_of (codes "count") 1 method_limit rows))
    (number_of (codes "seed") 0 seed_limit rows)

abbrev pub named : Text → List Row → Option Command
named name rows =
    if same_text (codes "verify") name then of_verify rows
    else if same_text (codes "prove") name then of_prove rows
    else if same_text (codes "check") name then of_check rows
    else if same_text (codes "build") name then of_build rows
    else if same_text (codes "run") name then of_run rows
    else if same_text (codes "bulk") name then of_bulk rows
    else None

abbrev pub of_named : Text × List Row → Option Command
of_named p = named p.0 p.1

-- ---- lines

-- what is read, where no step fails
abbrev pub unless_faulty : Kinds → Option Command → Option Command
unless_faulty [] found = found
unless_faulty (kind ∷ kinds) found = None

-- The command that the words ask for: the table, as a command of `clap`, fails at no step of reading
-- them, a call for help counting as one, and these are its subcommand and the values it has.
abbrev pub line_of : List Text → Option Command
line_of words = unless_faulty (fault_of table words) (option_and_then of_named (subcommand_of table words))

-- ---- limits

abbrev pub IsBudget : Budget → Type 0
IsBudget b = (1 ≤ b.steps) × (b.steps ≤ step_limit) × (b.rounds ≤ round_limit)

-- the numbers of a command lie within their limits
abbrev pub IsInLimits : Command → Type 0
IsInLimits (Verify file budget) = IsBudget budget
IsInLimits (Prove file budget) = IsBudget budget
IsInLimits (Check file log) = ⊤
IsInLimits (Build file proof budget) = IsBudget budget
IsInLimits (Run file proof budget fuel) = IsBudget budget × (fuel ≤ fuel_limit)
IsInLimits (Bulk seed count) = (seed ≤ seed_limit) × (1 ≤ count) × (count ≤ method_limit)
