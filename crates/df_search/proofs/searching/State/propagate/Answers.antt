use Rattle.std.proofs.Common.{◌++◌, ◌∷◌, [], Some, refl, subst, sym, ap, map, ◌∙◌}
use Rattle.df_form.specs.Clause.{Clause, negation}
use Rattle.df_rules.specs.Propagation.{propagation_line}
use Rattle.df_logbuild.specs.Runs.{Runs}
use Rattle.df_search.proofs.Refuting.{list_refuted}
use Rattle.df_search.proofs.searching.State.propagate.Goals as goal

pub returns-clause-propagates : goal.returns-clause-propagates
returns-clause-propagates c = λ s rounds all is shut held line.
    let old = c.args.self.now in
    let conclusion = c.in_ok-conclusion.ensures ∙ ap (map negation) c.deref.ensures.value in
    list_refuted s rounds all old is c.propagate.new.self c.propagate.ensures.nodes c.args.list.items (record { number = c.in_ok-number.number; needed = c.args.list }) held shut
    (subst (λ (ls : Clause). Runs s c.propagate.new.self (all ++ ls ∷ [])) conclusion
    (c.in_ok-number.ensures.added s all is.runs (ap (propagation_line old.derivation.nodes all c.args.numbers.items) conclusion ∙ line ∙ ap (λ (ls : Clause). Some ls) (sym conclusion))))
    c.in_ok-number.ensures.number refl
