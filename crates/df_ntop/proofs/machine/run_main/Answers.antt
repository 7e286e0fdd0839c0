use Rattle.std.proofs.Common.{inr, ap, sym, subst}
use Rattle.df_lang.specs.View.{program_of}
use Rattle.df_nmach.specs.View.{code_of, values_of}
use Rattle.df_ntop.specs.Run.{RunsMain}
use Rattle.df_ntop.specs.declared.machine.Ran.{Ran}
use Rattle.df_ntop.proofs.Runs.{never_faults, stands_at, tells_end, tells_fuel_spent, tells_write, tells_memory}
use Rattle.df_ntop.proofs.machine.run_main.Goals as goal
use Rattle.df_ntop.proofs.machine.run_main.Goals.{in-Ended, in-FuelSpent, in-Write, in-Memory}

pub new-requires-2 : goal.new-requires-2
new-requires-2 g c =
    never_faults c.the_entry_runs.ensures _ _ c.args.number _ _ _ c.requires.correct c.requires.compiled c.requires.entry c.number_on_machine-method.ensures c.new-heap.ensures (ap values_of c.new.ensures.items)

pub returns-clause-runs : goal.returns-clause-runs
returns-clause-runs g c =
    let at = stands_at c.the_entry_runs.ensures _ _ _ c.args.number _ _ _ _ c.requires.correct c.requires.compiled c.requires.entry c.number_on_machine-method.ensures c.new-heap.ensures (ap values_of c.new.ensures.items) c.in-Ok.ensures.start c.in-Ok.ensures.code in
    let so : Ran → Type 0 = λ r. RunsMain r (program_of c.args.program.now) (code_of c.args.code.now) c.args.number c.args.fuel (g.S.Sink.taken c.args.sink.now) (g.S.Sink.taken c.run.new.sink) in
    elim c.match-run.branch [
      | in-Ended w ↦ subst so (sym w.result-is) (tells_end c.the_entry_runs.ensures _ c.args.number _ _ _ at c.args.fuel _ _ _ _ w.in-Ended.ensures.runs)
      | in-FuelSpent w ↦ subst so (sym w.result-is) (tells_fuel_spent c.the_entry_runs.ensures _ c.args.number _ _ _ at c.args.fuel _ _ w.in-FuelSpent.ensures.runs)
      | in-Write w ↦ subst so (sym w.result-is) (tells_write c.the_entry_runs.ensures _ c.args.number _ _ _ at c.args.fuel _ _ w.in-Write.ensures.runs)
      | in-Memory w ↦ subst so (sym w.result-is) (inr (tells_memory c.the_entry_runs.ensures _ c.args.number _ _ _ at c.args.fuel _ _ w.in-Memory.ensures.runs))
    ]
