use Rattle.std.proofs.Common.{refl}
use Rattle.df_ntop.proofs.Texts.{nothing_of}
use Rattle.df_ntop.proofs.putting.put_line.Goals as goal

pub returns-in-Err-Failed-clause-cut : goal.returns-in-Err-Failed-clause-cut
returns-in-Err-Failed-clause-cut g c = (c.in-Err-Failed.ensures.cause.rose (rw c.in-Err-Failed.field-0-is refl), c.in-Err-Failed.ensures.failed (rw c.in-Err-Failed.field-0-is refl))

pub returns-in-Err-Memory-clause-cut : goal.returns-in-Err-Memory-clause-cut
returns-in-Err-Memory-clause-cut g c = nothing_of (g.S.Sink.taken c.args.sink.now) (g.S.Sink.taken c.put.new.self) c.args.line.now (c.in-Err-Memory.ensures.memory (rw c.in-Err-Memory.field-0-is refl))
