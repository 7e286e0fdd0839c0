use Rattle.std.proofs.Common.{◌≡◌, drop}
use Rattle.df_nnames.specs.Faults.{local_faults, with_locals}
use Rattle.df_nnames.specs.Meanings.{meanings_of}
use Rattle.df_nnames.proofs.statements.locals.Given as goal

abbrev pub invariant-loop-each : goal.invariant-loop-each
invariant-loop-each l =
    (local_faults (meanings_of l.globals) l.scope (drop l.each-index l.all) ≡ local_faults (meanings_of l.globals) l.fn.scope l.all)
    × (with_locals l.scope (drop l.each-index l.all) ≡ with_locals l.fn.scope l.all)
