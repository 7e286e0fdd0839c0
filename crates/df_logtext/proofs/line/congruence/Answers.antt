use Rattle.std.proofs.lemmas.List.{take_rest}
use Rattle.df_logtext.proofs.Mapped.{taken, dropped}
use Rattle.df_logtext.proofs.line.congruence.Goals as goal

pub returns-in-Some : goal.returns-in-Some
returns-in-Some c = rw (← c.in-Some.ensures.at, taken, dropped) (rw take_rest at c.joined.ensures)
