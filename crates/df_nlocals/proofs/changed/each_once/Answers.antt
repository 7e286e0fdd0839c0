use Rattle.df_nlocals.proofs.Words.{◌++◌, List, sym, ap, ◌∙◌, each_once, changed_in, DeclaredChanged}
use Rattle.df_nlocals.proofs.Once.{once_same, met_out}
use Rattle.df_nlocals.proofs.changed.each_once.Goals as goal

pub returns : goal.returns
returns c =
    let keys = c.in_ok-met.met.keys in
    let all = changed_in c.args.changed.now in
    c.in_ok-add_new.ensures ∙ ap (λ (cs : List DeclaredChanged). changed_in cs ++ each_once keys all) c.new-all.ensures.items
    ∙ once_same keys c.args.out.now all (λ q. sym (met_out keys q) ∙ c.in_ok-met.ensures q)
