use Rattle.std.proofs.Common.{List, OnOk, ap, subst, ◌∙◌}
use Rattle.std.proofs.lemmas.Result.{IfOk-weaker}
use Rattle.df_form.specs.Log.{Step}
use Rattle.df_logtext.specs.HasText.{HaveNumbers}
use Rattle.df_logtext.specs.LogText.{log_text}
use Rattle.df_logtext.specs.View.{logs_of, names_of}
use Rattle.df_nproof.proofs.writing.text.Goals as goal

pub returns-clause-written : goal.returns-clause-written
returns-clause-written c = IfOk-weaker c.write.result _ _ (λ text h.
    h ∙ (λ i. log_text ((ap names_of c.as_slice.ensures.value ∙ c.in_ok-names.ensures) i) ((ap logs_of c.as_slice-2.ensures.value ∙ c.in_ok-logs.ensures) i))) c.write.ensures.written

pub returns-clause-numbers : goal.returns-clause-numbers
returns-clause-numbers c = subst (λ (logs : List (List Step)). OnOk c.write.result (HaveNumbers logs)) (ap logs_of c.as_slice-2.ensures.value ∙ c.in_ok-logs.ensures) c.write.ensures.numbers
