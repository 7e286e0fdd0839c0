-- What is built for `clap`: arguments and commands that are those of the table, and the table step by step. What private
-- contracts cite.
use Rattle.std.specs.Prelude.{◌≡◌, true, false, [], codes}
use Rattle.clap.specs.Words.{App, Rule, Shape, app_of, rule_of, with_subcommand}
use Rattle.clap.specs.Simple.{new_shape}
use Rattle.clap.specs.declared.builder.command.Command.TheViews.{out-Command}
use Rattle.clap.specs.declared.builder.arg.Arg.{Arg}
use Rattle.clap.specs.declared.builder.command.Command.{Command}
use Rattle.df_ncmd.specs.Table.{proving, compiling, running}

-- the argument has this rule, and is none of the commands below its own
abbrev pub IsArg : Arg → Rule → Type 0
IsArg arg rule = (rule_of arg ≡ rule) × (arg.global ≡ false)

-- the command has this shape, and no subcommands
abbrev pub IsCommand : Command → Shape → Type 0
IsCommand command s =
    (app_of command ≡ record { top = s; subs = [] }) × ((out-Command command).has_globals ≡ false)

-- the program before its commands
abbrev pub program : App
program = record {
  top = record (new_shape (codes "dfy")) {
    no_binary_name = true;
    subcommand_required = true;
  };
  subs = [];
}

-- with the commands that prove a file
abbrev pub with_provers : App → App
with_provers a = with_subcommand (with_subcommand a (proving (codes "verify"))) (proving (codes "prove"))

-- with those that compile one
abbrev pub with_compilers : App → App
with_compilers a = with_subcommand (with_subcommand a (compiling (codes "build"))) (running (codes "run"))
