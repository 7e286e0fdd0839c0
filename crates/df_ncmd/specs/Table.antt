-- The table of commands, as a command of `clap` with one level of subcommands.
use Rattle.std.specs.Prelude.{ℕ, true, false, List, [], ◌∷◌, ◌++◌, Some, codes}
use Rattle.clap.specs.Words.{App, Rule, Shape, Text, new_rule}
use Rattle.clap.specs.Simple.{new_shape}
use Rattle.clap.specs.declared.builder.value_parser.ValueParser.TheVariants as parsers
use Rattle.df_ncmd.specs.Limits.{step_limit, round_limit, fuel_limit, seed_limit, method_limit}

-- a word in its place, which has to be there
abbrev pub place : Text → Rule
place id = record (new_rule id) { required = true }

-- an option `--ID VALUE` or `--ID=VALUE`, which may be left out
abbrev pub option : Text → Rule
option id = record (new_rule id) { long = Some id }

-- the same with a number, and with the value that it has where it is left out
abbrev pub numbered : Rule → ℕ → ℕ → Rule
numbered rule least greatest = record rule { parser = Some (parsers.Unsigned least greatest) }

abbrev pub with_default : Rule → Text → Rule
with_default rule value = record rule { defaults = value ∷ [] }

-- a command and its arguments
abbrev pub command : Text → List Rule → Shape
command name rules = record (new_shape name) { rules = rules }

abbrev pub with_arg : Shape → Rule → Shape
with_arg s rule = record s { rules = s.rules ++ rule ∷ [] }

abbrev pub proving : Text → Shape
proving name = command name (
    place (codes "file")
    ∷ with_default (numbered (option (codes "steps")) 1 step_limit) (codes "20000")
    ∷ with_default (numbered (option (codes "rounds")) 0 round_limit) (codes "4")
    ∷ [])

abbrev pub compiling : Text → Shape
compiling name = with_arg (proving name) (option (codes "proof"))

abbrev pub running : Text → Shape
running name = with_arg (compiling name) (with_default (numbered (option (codes "fuel")) 0 fuel_limit) (codes "9223372036854775807"))

abbrev pub checking : Text → Shape
checking name = command name (place (codes "file") ∷ place (codes "log") ∷ [])

abbrev pub making : Text → Shape
making name = command name (
    numbered (place (codes "seed")) 0 seed_limit
    ∷ numbered (place (codes "count")) 1 method_limit
    ∷ [])

-- a command has to be named, and the words begin with its name
abbrev pub table : App
table = record {
  top = record (new_shape (codes "dfy")) {
    is_leaf = false;
    no_binary_name = true;
    subcommand_required = true;
  };
  subs = proving (codes "verify") ∷ proving (codes "prove") ∷ checking (codes "check")
      ∷ compiling (codes "build") ∷ running (codes "run") ∷ making (codes "bulk") ∷ [];
}
