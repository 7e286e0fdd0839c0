use Rattle.std.proofs.Common.{[], ◌∷◌, map, refl, ap, ◌∙◌}
use Rattle.std.proofs.lemmas.List.{map-append}
use Rattle.df_closure.specs.Closure.{ground_of}
use Rattle.df_search.proofs.Binding.{bound_one}
use Rattle.df_search.proofs.searching.State.bind.Goals as goal

pub returns-clause-binds : goal.returns-clause-binds
returns-clause-binds c =
    let old = c.args.self.now in
    let clauses = ap (map ground_of) c.in_ok-push-2.ensures.items ∙ map-append ground_of old.clauses.items (_ ∷ []) in
    bound_one old _ c.args.equality c.args.clause c.in_ok-number.number c.args.literals.items refl refl refl refl c.define.ensures.nodes clauses c.in_ok-push.ensures.items c.in_ok-number.ensures.number (λ s all clause runs line. c.in_ok-number.ensures.added s all clause runs line)
