use Rattle.df_nlocals.proofs.Words.{List, ◌++◌, length, map, ap, ◌∙◌, param_of, locals_from, changed_in}
use Rattle.df_lang.specs.declared.decl.Param.{Param as DeclaredParam}
use Rattle.df_nlocals.proofs.Leaving.{exits_are}
use Rattle.df_nlocals.proofs.method.exits.Goals as goal

pub returns : goal.returns
returns c =
    exits_are (map param_of c.args.method.now.parameters.items) (map param_of c.args.method.now.results.items) c.new-exits.result.items c.add_params.new.exits.items c.add_params-2.new.exits.items c.new-exits.ensures.items
    (c.in_ok-add_params.ensures ∙ ap (λ (ps : List DeclaredParam). changed_in c.new-exits.result.items ++ locals_from (length c.new-exits.result.items) (map param_of ps)) c.deref.ensures.value)
    (c.in_ok-add_params-2.ensures ∙ ap (λ (ps : List DeclaredParam). changed_in c.add_params.new.exits.items ++ locals_from (length c.add_params.new.exits.items) (map param_of ps)) c.deref-2.ensures.value)
