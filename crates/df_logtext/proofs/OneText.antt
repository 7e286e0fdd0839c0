-- Bytes are the text of one list of logs at most, or have a first bad line.
use Rattle.std.proofs.Common.{◌≡◌, ℕ, List, ◌++◌, sym, ap, subst, ◌∙◌, append_assoc}
use Rattle.df_form.specs.Log.{Step}
use Rattle.df_logtext.specs.LogText.{ended, text_of_lines}
use Rattle.df_logtext.specs.BadLog.{IsText, GoesWrong, line, end, IsBad}
use Rattle.df_logtext.specs.Reading.{Read}
use Rattle.df_logtext.proofs.TextWritten.{text_written}

same_read : (one other : List (List Step)) → Read one ≡ Read other → one ≡ other
same_read one other e = cc

pub one_text : (names : List (List ℕ)) (one other : List (List Step)) (bytes : List ℕ) → IsText names one bytes → IsText names other bytes → one ≡ other
one_text names one other bytes s t = same_read one other (sym (text_written names one bytes s) ∙ text_written names other bytes t)

wrong_is_no_text : (names : List (List ℕ)) (logs : List (List Step)) (lines rest : List ℕ) → GoesWrong names lines rest → IsText names logs (lines ++ rest) → ⊥
wrong_is_no_text names logs lines rest (line next others e inside excluded) t =
    let P : List ℕ → Type 0 = λ x. IsText names logs x in
    excluded (record { logs = logs; others = others; whole = subst P (ap (λ x. lines ++ x) e ∙ sym (append_assoc lines (ended next) others)) t })
wrong_is_no_text names logs lines rest (end inside excluded) t = excluded logs t

pub bad_is_no_text : (names : List (List ℕ)) (logs : List (List Step)) (bytes : List ℕ) (number : ℕ) → IsBad names bytes number → IsText names logs bytes → ⊥
bad_is_no_text names logs bytes number b t = let P : List ℕ → Type 0 = λ x. IsText names logs x in wrong_is_no_text names logs (text_of_lines b.lines) b.rest b.wrong (subst P b.whole t)
