-- The table of commands, built step by step.
use Rattle.std.proofs.Common.{◌≡◌, ◌∙◌, ◌||◌, ap, ap₂, refl, true, Bool}
use Rattle.clap.specs.Words.{AddsArg, AddsSubcommand, App, Rule, Shape, app_of, with_rule, with_subcommand}
use Rattle.clap.specs.declared.builder.arg.Arg.{Arg}
use Rattle.clap.specs.Simple.{app_of_fields, on_top}
use Rattle.clap.specs.declared.builder.command.Command.{Command}
use Rattle.clap.specs.declared.builder.command.Command.TheViews.{out-Command}
use Rattle.df_ncmd.specs.Built.{IsArg, IsCommand}
use Rattle.df_ncmd.specs.Table.{with_arg}

-- words that begin with no program's name
pub nameless : (old new : Command) (a : App) → app_of old ≡ a → out-Command new ≡ record (out-Command old) { no_binary_name = true }
    → app_of new ≡ on_top (λ s. record s { no_binary_name = true }) a
nameless old new a is set = ap app_of_fields set ∙ ap (on_top (λ s. record s { no_binary_name = true })) is

-- a command has to be named
pub wants_command : (old new : Command) (a : App) → app_of old ≡ a → out-Command new ≡ record (out-Command old) { subcommand_required = true }
    → app_of new ≡ on_top (λ s. record s { subcommand_required = true }) a
wants_command old new a is set = ap app_of_fields set ∙ ap (on_top (λ s. record s { subcommand_required = true })) is

pub adds_command : (old sub new : Command) (a : App) (s : Shape) → app_of old ≡ a → IsCommand sub s → AddsSubcommand old sub new
    → app_of new ≡ with_subcommand a s
adds_command old sub new a s is has adds =
    adds.shape has.1 ∙ ap₂ with_subcommand is (ap (λ (b : App). b.top) has.0)

pub adds_rule : (old : Command) (arg : Arg) (new : Command) (s : Shape) (r : Rule) → IsCommand old s → IsArg arg r → AddsArg old arg new → IsCommand new (with_arg s r)
adds_rule old arg new s r is has adds =
    (adds.shape has.1 ∙ ap₂ with_rule is.0 has.0, adds.globals ∙ ap₂ (λ (p q : Bool). p || q) is.1 has.1)

pub adds_to : (old sub new : Command) (s : Shape) → IsCommand sub s → AddsSubcommand old sub new → app_of new ≡ with_subcommand (app_of old) s
adds_to old sub new s has adds = adds_command old sub new (app_of old) s refl has adds
