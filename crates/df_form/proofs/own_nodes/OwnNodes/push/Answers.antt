use Rattle.std.proofs.Common.{◌≡◌, ◌++◌, ◌∷◌, [], None, sym, ap, subst, ◌∙◌}
use Rattle.std.proofs.lemmas.Result.{on_ok_weaker, on_err_weaker}
use Rattle.df_form.specs.Node.{Node, number_of}
use Rattle.df_form.specs.Keyed.{nodes_in}
use Rattle.df_form.proofs.own_nodes.OwnNodes.push.Goals as goal

pub push_keyed-requires-clause-new : goal.push_keyed-requires-clause-new
push_keyed-requires-clause-new c =
    let node : Node = record { op = c.args.op; parts = c.args.parts.now } in
    subst (λ nodes. number_of nodes node ≡ None) (sym c.self.view_is) c.requires

pub returns-clause-pushed : goal.returns-clause-pushed
returns-clause-pushed c =
    let node : Node = record { op = c.args.op; parts = c.args.parts.now } in
    on_ok_weaker c.push_keyed.result (λ e. e ∙ ap (λ nodes. nodes ++ node ∷ []) c.self.view_is) c.push_keyed.ensures.pushed

pub returns-clause-err : goal.returns-clause-err
returns-clause-err c = on_err_weaker c.push_keyed.result (λ e. ap nodes_in e ∙ c.self.view_is) c.push_keyed.ensures.err
