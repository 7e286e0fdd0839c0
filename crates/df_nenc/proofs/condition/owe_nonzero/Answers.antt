use Rattle.df_nenc.proofs.Words.{sym, refl, ap, ◌∙◌, Numbers, Truths, equal, negation, condition, under}
use Rattle.df_nenc.proofs.Lemmas.{grows_then, term_stays, path_stays, is_term, tree_stays, path_same, owed_as, no_numbers, extends_then, extends_nodes}
use Rattle.df_meaning.specs.declared.kind.Kind.TheVariants as kinds
use Rattle.df_nenc.proofs.condition.owe_nonzero.Goals as goal

pub equal-requires : goal.equal-requires
equal-requires c = record { left = (term_stays Numbers c.args.nodes.now c.literal.new.nodes c.args.number c.literal.ensures.grows c.requires.number).below; right = c.in_ok-zero.ensures.stands.below; alike = (term_stays Numbers c.args.nodes.now c.literal.new.nodes c.args.number c.literal.ensures.grows c.requires.number).sort_is ∙ sym (is_term _ Numbers _ _ c.in_ok-zero.ensures.stands refl).sort_is; values = λ e. no_numbers (sym (term_stays Numbers c.args.nodes.now c.literal.new.nodes c.args.number c.literal.ensures.grows c.requires.number).sort_is ∙ e) }

pub negation-requires : goal.negation-requires
negation-requires c = is_term _ Truths _ _ c.in_ok-is_zero.ensures.stands refl

pub owe-requires : goal.owe-requires
owe-requires c = record { path = path_stays _ _ c.args.path (grows_then _ _ _ (grows_then _ _ _ c.literal.ensures.grows c.equal.ensures.grows) c.negation.ensures.grows) c.requires.path; formula = is_term _ Truths _ _ c.in_ok-formula.ensures.stands refl }

pub returns : goal.returns
returns c =
    let on = path_same c.args.nodes.now c.negation.new.nodes c.args.path (grows_then c.args.nodes.now c.equal.new.nodes c.negation.new.nodes (grows_then c.args.nodes.now c.literal.new.nodes c.equal.new.nodes c.literal.ensures.grows c.equal.ensures.grows) c.negation.ensures.grows) c.requires.path in
    let same = tree_stays Numbers c.args.nodes.now c.literal.new.nodes c.args.number c.literal.ensures.grows c.requires.number in
    let zero = c.in_ok-zero.ensures.stands.tree_is in
    let equals = c.in_ok-is_zero.ensures.stands.tree_is in
    let tree = c.in_ok-formula.ensures.stands.tree_is ∙ ap negation (equals ∙ (λ i. equal (same i) (zero i))) in
    record { adds = owed_as c.owe.result c.owe.new.nodes _ _ c.args.out.now.items c.owe.new.out.items (λ i. under (on i) (condition c.args.pos kinds.Divisor (tree i))) c.owe.ensures.adds; extends = extends_then (extends_nodes c.args.nodes.now c.negation.new.nodes c.args.out.now.items (grows_then _ _ _ (grows_then _ _ _ c.literal.ensures.grows c.equal.ensures.grows) c.negation.ensures.grows)) c.owe.ensures.extends }

pub returns-in_err-is_zero-clause-extends : goal.returns-in_err-is_zero-clause-extends
returns-in_err-is_zero-clause-extends c = extends_nodes c.args.nodes.now c.equal.new.nodes c.args.out.now.items (grows_then _ _ _ c.literal.ensures.grows c.equal.ensures.grows)

pub returns-in_err-formula-clause-extends : goal.returns-in_err-formula-clause-extends
returns-in_err-formula-clause-extends c = extends_nodes c.args.nodes.now c.negation.new.nodes c.args.out.now.items (grows_then _ _ _ (grows_then _ _ _ c.literal.ensures.grows c.equal.ensures.grows) c.negation.ensures.grows)
