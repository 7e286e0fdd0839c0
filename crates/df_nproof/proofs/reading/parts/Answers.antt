use Rattle.std.proofs.Common.{List, ℕ, ap, subst, ◌∙◌}
use Rattle.df_logtext.specs.BadLog.{IsText, IsBad}
use Rattle.df_logtext.specs.View.{logs_of, names_of}
use Rattle.df_nproof.proofs.reading.parts.Goals as goal

pub returns-in-Ok-read-clause-text : goal.returns-in-Ok-read-clause-text
returns-in-Ok-read-clause-text c =
    subst (λ (names : List (List ℕ)). IsText names (logs_of c.in-Ok-read.parts.items) c.args.bytes.now) (ap names_of c.as_slice.ensures.value ∙ c.in-Ok.ensures) c.in-Ok-read.ensures

pub returns-in-Err-BadLog-clause-unread : goal.returns-in-Err-BadLog-clause-unread
returns-in-Err-BadLog-clause-unread c =
    subst (λ (names : List (List ℕ)). IsBad names c.args.bytes.now c.in-Err-BadLog.line) (ap names_of c.as_slice.ensures.value ∙ c.in-Ok.ensures) (rw c.in-Err-BadLog.field-0-is at c.in-Err-BadLog.ensures)
