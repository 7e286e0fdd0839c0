use Rattle.df_search.proofs.confirming.taken.Goals as goal

pub returns-in-Ok : goal.returns-in-Ok
returns-in-Ok c = λ steps rounds. rw c.as_slice.ensures.value at c.in-Ok.ensures.taken
