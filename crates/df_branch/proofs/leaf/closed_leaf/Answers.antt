use Rattle.std.proofs.Common.{◌≡◌, true, List, map, sym, subst}
use Rattle.df_form.specs.declared.log.Lit.{Lit}
use Rattle.df_form.specs.Clause.{are_literals}
use Rattle.df_cong.specs.declared.answer.Congruence.TheVariants as told
use Rattle.df_closure.specs.Closure.{ground_of}
use Rattle.df_branch.proofs.Leaves.{ok_weaker, congruent, incongruent, open_leaf, full_place, lent_full}
use Rattle.df_branch.proofs.leaf.closed_leaf.Goals as goal

pub congruence-requires : goal.congruence-requires
congruence-requires c = subst (λ (l : List Lit). are_literals c.args.nodes.now l ≡ true) (sym c.deref.ensures.value) c.requires.formulas

pub returns-in-Contradicted : goal.returns-in-Contradicted
returns-in-Contradicted c = λ branch p.
    incongruent c.args.set.now (map ground_of c.args.clauses.now) c.args.nodes.now branch c.args.reasons.items c.args.facts.items p c.requires.formulas c.in-Contradicted.reason
    (congruent c.args.nodes.now c.deref.result.now c.args.facts.items c.in_ok-reason.field-0 (told.Contradicted c.in-Contradicted.reason) c.in_ok-reason.ensures c.deref.ensures.value c.in-Contradicted.is)

pub returns-in-Some : goal.returns-in-Some
returns-in-Some c = λ branch p.
    let labels = congruent c.args.nodes.now c.deref.result.now c.args.facts.items c.in_ok-reason.field-0 (told.Labels c.in-Labels.labels) c.in_ok-reason.ensures c.deref.ensures.value c.in-Labels.is in
    open_leaf c.args.set.now (map ground_of c.args.clauses.now) c.args.nodes.now branch c.args.reasons.items c.args.facts.items p c.requires.formulas c.in-Labels.labels.items labels c.in-Some.literal (c.in-Some.ensures c.args.facts.items c.requires.known)

pub returns-in-None : goal.returns-in-None
returns-in-None c =
    let labels = congruent c.args.nodes.now c.deref.result.now c.args.facts.items c.in_ok-reason.field-0 (told.Labels c.in-Labels.labels) c.in_ok-reason.ensures c.deref.ensures.value c.in-Labels.is in
    ok_weaker c.full_leaf.result _ _
    (λ leaf says. λ branch p. says (map ground_of c.args.clauses.now) branch
    (lent_full c.args.set.now (map ground_of c.args.clauses.now) c.args.nodes.now branch c.in-Labels.labels.items c.deref-in-None.result.now c.args.reasons.items c.args.facts.items c.deref-in-None.ensures.value
    (full_place c.args.set.now (map ground_of c.args.clauses.now) c.args.nodes.now branch c.args.reasons.items c.args.facts.items p c.requires.formulas c.in-Labels.labels.items labels (c.in-None.ensures c.args.facts.items c.requires.known))))
    c.full_leaf.ensures
