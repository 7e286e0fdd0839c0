use Rattle.df_search.proofs.proposed.look.Goals as goal

pub returns-in-Proved : goal.returns-in-Proved
returns-in-Proved c = λ steps. c.taken.ensures steps c.args.budget.rounds
