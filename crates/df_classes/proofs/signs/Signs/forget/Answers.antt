use Rattle.df_classes.proofs.signs.Signs.forget.Goals as goal

pub returns-clause-keeps : goal.returns-clause-keeps
returns-clause-keeps c = record { positives = c.forget.ensures; negatives = c.forget-2.ensures; slots = c.forget-3.ensures }
