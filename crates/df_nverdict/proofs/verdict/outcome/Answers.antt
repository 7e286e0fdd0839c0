use Rattle.std.proofs.Common.{rules}
use Rattle.df_lang.specs.View.{program_of}
use Rattle.df_nowed.specs.Obligation.{obligations_in}
use Rattle.df_report.specs.declared.outcome.Outcome.{Outcome}
use Rattle.df_nverdict.proofs.Methods.{is_judged}
use Rattle.df_nverdict.proofs.verdict.outcome.Goals as goal

pub returns : goal.returns
returns c =
    let outcome : Outcome = record { name = c.in_ok-name.name; failures = c.in_ok-failures.failures } in
    is_judged (program_of c.args.program.now) c.args.groups.now c.args.budget c.args.number c.args.method.now c.as_slice.result.now (obligations_in c.in_ok-owed.owed) outcome c.failures.new.proofs.items
    c.as_slice.ensures.value c.in_ok-owed.ensures.owed c.in_ok-failures.ensures (search rules)
