use Rattle.df_bench.proofs.Stepping.{program_bounded, program_counted}
use Rattle.df_bench.proofs.emitting.program.Goals as goal

pub new-requires-3-clause-bounded : goal.new-requires-3-clause-bounded
new-requires-3-clause-bounded c =
    program_bounded c.in_ok-bits.bits c.in_ok-methods.methods.items _ c.in_ok-methods.ensures.items c.in_ok-parameters.ensures.items c.new-2.ensures.items c.in_ok-body.ensures

pub new-requires-3-clause-counted : goal.new-requires-3-clause-counted
new-requires-3-clause-counted c =
    program_counted c.in_ok-bits.bits c.in_ok-methods.methods.items _ c.in_ok-methods.ensures.items c.in_ok-body.ensures
