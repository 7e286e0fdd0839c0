use Rattle.std.proofs.Common.{ap, refl, sym, ◌∙◌}
use Rattle.std.specs.Option.{option_map}
use Rattle.std.proofs.lemmas.Result.{IfOk-weaker}
use Rattle.df_ncmd.specs.View.{command_of}
use Rattle.df_ntop.specs.Call.{store}
use Rattle.df_ntop.specs.Command.{log_of}
use Rattle.df_ntop.specs.View.{log_file_of}
use Rattle.df_ntop.proofs.Loads.{loads_named, loads_none}
use Rattle.df_ntop.proofs.loading.load_log.Goals as goal

-- the name is the log's
pub load_named-requires-clause-named : goal.load_named-requires-clause-named
load_named-requires-clause-named g c = sym c.log.ensures ∙ ap (option_map (λ name. name.now)) c.in-Some.is

pub load_named-requires-clause-allowed : goal.load_named-requires-clause-allowed
load_named-requires-clause-allowed g c = c.requires c.in-Some.name.now (sym c.log.ensures ∙ ap (option_map (λ name. name.now)) c.in-Some.is)

pub returns-in-Some-clause-loads : goal.returns-in-Some-clause-loads
returns-in-Some-clause-loads g c = IfOk-weaker c.load_named.result _ _ (λ log h.
    loads_named (store g.F.Files c.args.files.now c.load_named.new.files) (log_of (command_of c.args.command.now)) c.in-Some.name.now (log_file_of log) (sym c.log.ensures ∙ ap (option_map (λ name. name.now)) c.in-Some.is) h) c.load_named.ensures.loads

pub returns-in-None-clause-loads : goal.returns-in-None-clause-loads
returns-in-None-clause-loads g c =
    loads_none (store g.F.Files c.args.files.now c.args.files.now) (log_of (command_of c.args.command.now)) (sym c.log.ensures ∙ ap (option_map (λ name. name.now)) c.in-None.is) refl refl
