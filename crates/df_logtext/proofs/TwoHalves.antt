-- Logs whose numbers fit, and whose types have names, have a text.
use Rattle.std.proofs.Common.{ℕ, List, [], ◌∷◌}
use Rattle.std.specs.List.{AllByRecursion}
use Rattle.df_form.specs.declared.node.Op.{Op}
use Rattle.df_form.specs.declared.node.Op.TheVariants as ops
use Rattle.df_form.specs.Log.{Step, Hypothesis, Goal, Connective, Schema, Propagation, Congruence, Linear, Split, Make}
use Rattle.df_logtext.specs.HasText.{HasWord, HasLine, HaveText, HasNumber, HasNumbers, HaveNumbers, HasNamedOp, HasNames, HaveNames}

module _ (names : List (List ℕ)) where
  has_word : (op : Op) → HasNumber op → HasNamedOp names op → HasWord names op
  has_word (ops.Number n) number named = number
  has_word (ops.Free free) number named = absurd named
  has_word ops.Plus number named = tt
  has_word ops.Times number named = tt
  has_word (ops.Of symbol payload) number named = named
  has_word ops.Equal number named = tt
  has_word ops.AtMost number named = tt
  has_word ops.Not number named = tt
  has_word ops.And number named = tt
  has_word ops.Or number named = tt
  has_word ops.Implies number named = tt
  has_word ops.Iff number named = tt

  has_line : (step : Step) → HasNumbers step → HasNames names step → HasLine names step
  has_line (Hypothesis n) numbers named = numbers
  has_line Goal numbers named = numbers
  has_line (Connective n k) numbers named = numbers
  has_line (Schema schema k terms) numbers named = numbers
  has_line (Propagation clauses conclusion) numbers named = numbers
  has_line (Congruence conclusion pairs) numbers named = numbers
  has_line (Linear conclusion combinations) numbers named = numbers
  has_line (Split n k) numbers named = numbers
  has_line (Make node) numbers named = (has_word node.op numbers.0 named, numbers.1)

  have_lines : (log : List Step) → AllByRecursion HasNumbers log → AllByRecursion (HasNames names) log → AllByRecursion (HasLine names) log
  have_lines [] numbers named = tt
  have_lines (step ∷ log) numbers named = (has_line step numbers.0 named.0, have_lines log numbers.1 named.1)

  pub have_text : (logs : List (List Step)) → HaveNumbers logs → HaveNames names logs → HaveText names logs
  have_text [] numbers named = tt
  have_text (log ∷ logs) numbers named = (have_lines log numbers.0 named.0, have_text logs numbers.1 named.1)
