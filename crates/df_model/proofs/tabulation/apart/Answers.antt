use Rattle.std.proofs.Common.{◌∙◌, sym}
use Rattle.df_form.specs.Node.{node_of}
use Rattle.df_cong.specs.Congruence.{label_at}
use Rattle.df_model.specs.Tabulation.{unlike}
use Rattle.df_model.proofs.UnlikeParts.{apart_of}
use Rattle.df_model.proofs.tabulation.apart.Goals as goal

pub returns-in-Some-Some : goal.returns-in-Some-Some
returns-in-Some-Some c = λ table d.
    apart_of (label_at c.args.labels.now) c.args.nodes.now table c.args.pair d (node_of c.in-Some-Some.first.now) (node_of c.in-Some-Some.second.now) c.unlike.result c.unwrap_or.result
    (sym c.in-Some-Some.ensures.node) (sym c.in-Some-Some.ensures'.node)
    (c.unlike.ensures ∙ (λ i. unlike (label_at c.args.labels.now) (c.as_slice.ensures.value i) (c.as_slice-in-Some-Some.ensures.value i))) c.unwrap_or.ensures
