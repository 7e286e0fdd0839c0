use Rattle.std.proofs.Common.{◌≡◌, ◌∙◌, ◌∷◌, ◌++◌, [], List, map, Some, sym, ap, subst}
use Rattle.df_form.specs.declared.log.Lit.{Lit}
use Rattle.df_form.specs.Clause.{Clause, negation}
use Rattle.df_rules.specs.Propagation.{propagation_line}
use Rattle.df_logbuild.specs.Runs.{Runs}
use Rattle.df_trail.specs.Trail.{HasAll, others_of}
use Rattle.df_trail.proofs.Joined.{needed_held, join_is_line}
use Rattle.df_trail.proofs.join.join.Goals as goal

pub returns-clause-joins : goal.returns-clause-joins
returns-clause-joins c = λ s all branch runs formulas sides.
    let l = c.args.literal in
    let other = c.args.other.now in
    let conflict = c.args.conflict.now in
    let first = sides.first.held in
    let second = sides.second.held in
    let nodes = c.args.derivation.now.nodes in
    let log = c.propagate.new.self in
    let one : c.add_others.new.kept.items ≡ others_of (negation l) other.needed.items = c.in_ok-add_others.ensures ∙ ap (λ (ls : List Lit). ls ++ others_of c.negation.result c.deref.result.now) c.new-needed.ensures.items ∙ (λ i. others_of (c.negation.ensures i) (c.deref.ensures.value i)) in
    let both : c.add_others-2.new.kept.items ≡ others_of (negation l) other.needed.items ++ others_of l conflict.needed.items =
    c.in_ok-add_others-2.ensures ∙ ap (λ (ls : List Lit). ls ++ others_of l c.deref-2.result.now) one ∙ ap (λ (ls : List Lit). others_of (negation l) other.needed.items ++ others_of l ls) c.deref-2.ensures.value in
    let clause : c.in_ok-conclusion.conclusion.items ≡ map negation c.add_others-2.new.kept.items = c.in_ok-conclusion.ensures ∙ ap (map negation) c.deref-3.ensures.value in
    let line = (λ i. propagation_line nodes all (c.in_ok-vec.ensures.items i) ((clause ∙ ap (map negation) both) i))
    ∙ join_is_line branch l other.needed.items conflict.needed.items sides.undecided first sides.needs second nodes all other.number conflict.number formulas sides.first.there sides.second.there
    ∙ ap (λ (ls : Clause). Some ls) (sym (clause ∙ ap (map negation) both)) in (
      subst (λ (ls : Clause). Runs s log (all ++ ls ∷ [])) clause (c.in_ok-number.ensures.added s all runs line),
      subst (HasAll branch) (sym both) (needed_held branch l other.needed.items conflict.needed.items sides.undecided first sides.needs second),
    )
