use Rattle.std.proofs.Common.{◌≡◌, ◌∙◌}
use Rattle.std.proofs.lemmas.Result.{IfOk-weaker}
use Rattle.df_form.proofs.front.Front.copy_of.Goals as goal

pub returns : goal.returns
returns c = IfOk-weaker c.new.result (λ front. front ≡ c.in_ok-nodes.nodes) (λ front. front ≡ c.args.nodes.now) (λ front e. e ∙ c.in_ok-nodes.ensures) c.new.ensures
