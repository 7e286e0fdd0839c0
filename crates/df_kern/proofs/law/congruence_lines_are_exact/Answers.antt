use Rattle.df_rules.proofs.Congruences.{line_is, is_line}
use Rattle.df_kern.proofs.law.congruence_lines_are_exact.Goals as goal

pub returns : goal.returns
returns c = record { there = λ nodes clause pairs. is_line nodes clause pairs; only = λ nodes clause other pairs. line_is nodes clause pairs other }
