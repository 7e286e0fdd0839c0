use Rattle.df_ntop.proofs.TakenProof.{proof_is_taken}
use Rattle.df_ntop.proofs.law.proof_is_taken.Goals as goal

pub returns : goal.returns
returns c = proof_is_taken
