use Rattle.std.proofs.Common.{◌∙◌, sym, subst, map, Bool}
use Rattle.df_form.specs.Clause.{negation}
use Rattle.df_rules.specs.Learning.{Learns}
use Rattle.df_rules.proofs.Learning.{propagation_is, propagation_is_not}
use Rattle.df_kern.proofs.propagation.is_propagation.Goals as goal

pub returns-then-not-branch : goal.returns-then-not-branch
returns-then-not-branch c =
    let clauses = map (λ clause. clause.items) c.args.clauses.now in
    let conclusion = c.args.conclusion.now in
    let others = c.in-Some.others.now in
    let formulas = sym c.are_literals.ensures ∙ c.if-not-are_literals.false in
    let learned = subst (λ (b : Bool). Learns (map negation conclusion) clauses others c.learn.new.known b) c.if-not-branch.true (c.in_ok-learn.ensures (map negation conclusion) c.in_ok-known.ensures) in
    propagation_is_not c.args.nodes.now clauses c.args.numbers.now conclusion others c.in-Some.last.now c.learn.new.known formulas c.in-Some.ensures.cases.0 learned

pub returns : goal.returns
returns c =
    let clauses = map (λ clause. clause.items) c.args.clauses.now in
    let conclusion = c.args.conclusion.now in
    let others = c.in-Some.others.now in
    let formulas = sym c.are_literals.ensures ∙ c.if-not-are_literals.false in
    let learned = subst (λ (b : Bool). Learns (map negation conclusion) clauses others c.learn.new.known b) c.if-not-branch.false (c.in_ok-learn.ensures (map negation conclusion) c.in_ok-known.ensures) in
    propagation_is c.args.nodes.now clauses c.args.numbers.now conclusion others c.in-Some.last.now c.learn.new.known c.is_refuted.result formulas c.in-Some.ensures.cases.0 learned c.is_refuted.ensures
