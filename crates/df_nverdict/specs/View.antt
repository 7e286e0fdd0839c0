-- The code's verdicts, without where they lie in memory.
use Rattle.std.specs.Prelude.{List, map}
use Rattle.df_report.specs.Report.{Outcome}
use Rattle.df_report.specs.View.{outcome_of}
use Rattle.df_nverdict.specs.declared.judging.Proof.{Proof}
use Rattle.df_nverdict.specs.declared.verdict.Judged.{Judged}

abbrev pub outcomes_in : Judged → List Outcome
outcomes_in judged = map outcome_of judged.outcomes.items

-- the proofs, method by method
abbrev pub proofs_in : Judged → List (List Proof)
proofs_in judged = map (λ proofs. proofs.items) judged.proofs.items
