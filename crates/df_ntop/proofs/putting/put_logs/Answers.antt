use Rattle.std.proofs.Common.{refl}
use Rattle.df_ntop.proofs.Texts.{nothing_of}
use Rattle.df_ntop.proofs.putting.put_logs.Goals as goal

pub returns-in-Ok-clause-puts : goal.returns-in-Ok-clause-puts
returns-in-Ok-clause-puts g c = (refl, c.in-Ok.ensures.took)

pub returns-in-Err-Failed-clause-puts : goal.returns-in-Err-Failed-clause-puts
returns-in-Err-Failed-clause-puts g c = (c.in-Err-Failed.ensures.cause.rose (rw c.in-Err-Failed.field-0-is refl), c.in-Err-Failed.ensures.failed (rw c.in-Err-Failed.field-0-is refl))

pub returns-in-Err-Memory-clause-puts : goal.returns-in-Err-Memory-clause-puts
returns-in-Err-Memory-clause-puts g c = nothing_of (g.S.Sink.taken c.args.sink.now) (g.S.Sink.taken c.put.new.self) c.args.text.now (c.in-Err-Memory.ensures.memory (rw c.in-Err-Memory.field-0-is refl))
