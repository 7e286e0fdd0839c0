use Rattle.df_nlocals.proofs.Words.{ℕ, List, ap, ◌∙◌}
use Rattle.std.proofs.lemmas.List.{take_all}
use Rattle.df_nlocals.proofs.Once.{is_out}
use Rattle.df_nlocals.proofs.changed.marked.Goals as goal

pub returns : goal.returns
returns c q = let l = c.loop-local in l.invariant q ∙ ap (λ (ns : List ℕ). is_out ns q) (take_all l.local-index c.args.out.now c.loop-local-test.false)
