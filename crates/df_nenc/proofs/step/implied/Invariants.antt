use Rattle.df_nenc.proofs.Words.{length}
use Rattle.df_nenc.proofs.Adding.{Implied}
use Rattle.df_nenc.proofs.step.implied.Given as goal

abbrev pub invariant-loop-premise : goal.invariant-loop-premise
invariant-loop-premise l = Implied l.fn.nodes l.nodes l.initial.premises.items l.premises.items l.last l.formula

abbrev pub decreases-loop-premise : goal.decreases-loop-premise
decreases-loop-premise l = length l.premises.items
