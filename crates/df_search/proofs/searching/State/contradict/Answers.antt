use Rattle.std.proofs.Common.{◌≡◌, ◌++◌, ◌∷◌, [], Some, length, map, subst, slice_get, sym, ap, ◌∙◌}
use Rattle.df_lemmas.proofs.Lists.{get_last}
use Rattle.df_form.specs.Clause.{Clause, negation}
use Rattle.df_rules.specs.CongruenceLine.{congruence_line}
use Rattle.df_rules.specs.Propagation.{left, is_empty}
use Rattle.df_rules.proofs.Congruences.{is_line}
use Rattle.df_rules.proofs.Results.{if_ok}
use Rattle.df_closure.specs.Closure.{after}
use Rattle.df_logbuild.specs.Runs.{Runs}
use Rattle.df_trail.specs.Trail.{branch_of}
use Rattle.df_branch.specs.Evidence.{IsShut}
use Rattle.df_search.specs.Searching.{clauses_of}
use Rattle.df_search.proofs.Refuting.{one_more_clause, incongruent_shut, incongruent_left}
use Rattle.df_search.proofs.searching.State.contradict.Goals as goal

pub returns-clause-contradicts : goal.returns-clause-contradicts
returns-clause-contradicts c =
    let old = c.args.self.now in
    let nodes = old.derivation.nodes in
    let branch = branch_of old.trail in
    let reason = c.args.reason in
    let pairs = reason.pairs.items in
    let clause = map negation reason.literals.items in
    let lent : c.deref-3.result.now ≡ clause = c.deref-3.ensures.value ∙ c.in_ok-clause.ensures ∙ ap (map negation) c.deref.ensures.value in
    let conclusion : c.in_ok-conclusion.conclusion.items ≡ clause = c.in_ok-conclusion.ensures ∙ ap (map negation) c.deref-2.ensures.value in
    let log = c.congruence.new.self in
    if_ok c.refute_by.result _ _ c.refute_by.ensures.refutes
    (λ conflict refutes s rounds facts searches is.
    let all = searches.all in
    let line : congruence_line nodes c.in_ok-conclusion.conclusion.items pairs ≡ Some c.in_ok-conclusion.conclusion.items =
    ap (λ (ls : Clause). congruence_line nodes ls pairs) conclusion ∙ is_line nodes clause pairs is.is_reason.line ∙ ap (λ (ls : Clause). Some ls) (sym conclusion) in
    let runs : Runs s log (all ++ clause ∷ []) = subst (λ (ls : Clause). Runs s log (all ++ ls ∷ [])) conclusion (c.in_ok-number.ensures.added s all searches.is.runs line) in
    let number_is : c.in_ok-number.number ≡ length all = c.in_ok-number.ensures.number ∙ sym searches.is.runs.count in
    let there = ap (slice_get (all ++ clause ∷ [])) number_is ∙ get_last all clause ∙ ap (λ (ls : Clause). Some ls) (sym lent) in
    record {
      front = all ++ clause ∷ [];
      is = refutes s rounds (all ++ clause ∷ []) is.learned (one_more_clause s rounds all old searches.is log c.congruence.ensures.nodes clause runs)
          (subst (λ ns. IsShut ns (clauses_of old) branch) (sym c.congruence.ensures.nodes) (incongruent_shut (clauses_of old) nodes branch facts c.args.reasons.now reason is))
          is.closed there (ap (λ (ls : Clause). is_empty (left (after branch is.learned) ls)) lent ∙ incongruent_left (clauses_of old) nodes branch facts c.args.reasons.now reason is);
    })
