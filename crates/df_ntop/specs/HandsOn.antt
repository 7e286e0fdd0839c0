-- A proof that one call puts and another checks.
use Rattle.std.specs.Prelude.{◌≡◌, ◌⊎◌, ◌≤◌, ℕ, List, [], Some, length}
use Rattle.df_base.specs.declared.status.Status.{Status}
use Rattle.df_base.specs.declared.status.Status.TheVariants as statuses
use Rattle.df_ncmd.specs.Line.{Budget, Prove, Check}
use Rattle.df_ntop.specs.Call.{Call, IsLine}
use Rattle.df_ntop.specs.Loaded.{log_limit}
use Rattle.df_ntop.specs.Answer.{Answers}
use Rattle.df_ntop.specs.Complete.{Holds, IsCutShort, IsComplete}

-- One call is to prove a source, and its out, which was empty, then has the text. The other is to check that source with this
-- text as its log.
pub record HandsOn (one other : Call) : Type 0 where
  pub file : List ℕ
  pub budget : Budget
  pub proves : IsLine one.words (Prove file budget)
  pub source : List ℕ
  pub held : Holds one.files.held file source
  pub empty : one.out.old ≡ Some []
  pub text : List ℕ
  pub put : one.out.new ≡ Some text
  pub copy : List ℕ
  pub name : List ℕ
  pub checks : IsLine other.words (Check copy name)
  pub copy_held : Holds other.files.held copy source
  pub text_held : Holds other.files.held name text
  pub short : length text ≤ log_limit

-- Where the first ends with status 0, so does the other, but for counted faults and want of memory.
abbrev pub ProofIsTaken : Type 0
ProofIsTaken = (one other : Call) (status : Status) → HandsOn one other → Answers one statuses.Done → IsComplete other status → IsCutShort status ⊎ (status ≡ statuses.Done)
