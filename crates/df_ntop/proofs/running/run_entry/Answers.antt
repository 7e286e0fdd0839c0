use Rattle.std.proofs.Common.{refl}
use Rattle.df_ntop.specs.declared.machine.Ran.TheVariants as rans
use Rattle.df_ntop.proofs.running.run_entry.Goals as goal

pub returns-in-Ended-clause-runs : goal.returns-in-Ended-clause-runs
returns-in-Ended-clause-runs g c = record { ran = rans.Ended; end_is = refl; runs = c.in-Ended.ensures.runs; rose = λ e. absurd cc }

pub returns-in-FuelSpent-clause-runs : goal.returns-in-FuelSpent-clause-runs
returns-in-FuelSpent-clause-runs g c = record { ran = rans.FuelSpent; end_is = refl; runs = c.in-FuelSpent.ensures.runs; rose = λ e. absurd cc }

pub returns-in-Write-clause-runs : goal.returns-in-Write-clause-runs
returns-in-Write-clause-runs g c = record { ran = rans.Write; end_is = refl; runs = c.in-Write.ensures.runs; rose = c.in-Write.ensures.cause.rose }

pub returns-in-Memory-clause-runs : goal.returns-in-Memory-clause-runs
returns-in-Memory-clause-runs g c = record { ran = rans.Memory; end_is = refl; runs = c.in-Memory.ensures.runs; rose = λ e. absurd cc }
