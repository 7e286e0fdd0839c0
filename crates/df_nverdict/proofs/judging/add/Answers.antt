use Rattle.df_nverdict.proofs.judging.add.Goals as goal

pub returns : goal.returns
returns c = c.settle.ensures
