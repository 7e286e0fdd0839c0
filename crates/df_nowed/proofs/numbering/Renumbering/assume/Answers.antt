use Rattle.df_nowed.proofs.Words.{ℕ, List, ◌++◌, ap, ◌∙◌, tree_at}
use Rattle.df_nowed.proofs.Parameters.{one_on, formula_on, assumed_on, assumed_one}
use Rattle.df_nowed.proofs.numbering.Renumbering.assume.Goals as goal

pub assume-requires-clause-one : goal.assume-requires-clause-one
assume-requires-clause-one c = one_on c.term.new.self.draft.nodes c.term.new.self.draft.stack.items (tree_at c.args.table.now c.args.formula) c.in_ok-term.ensures.stack

pub assume-requires-clause-formula : goal.assume-requires-clause-formula
assume-requires-clause-formula c =
    formula_on c.term.new.self.draft.nodes c.term.new.self.draft.stack.items (tree_at c.args.table.now c.args.formula) c.term.new.self.draft.known c.in_ok-term.ensures.stack c.requires.formula.sort_is

pub returns-clause-hypotheses : goal.returns-clause-hypotheses
returns-clause-hypotheses c =
    assumed_on c.args.self.now.draft.nodes c.term.new.self.draft.nodes c.assume.new.self.nodes c.args.self.now.draft.hypotheses.items c.term.new.self.draft.stack.items c.assume.new.self.hypotheses.items (tree_at c.args.table.now c.args.formula)
    c.in_ok-term.ensures.grows c.args.self.now.draft.formulas c.in_ok-term.ensures.stack c.in_ok-assume.ensures.nodes (c.in_ok-assume.ensures.hypotheses ∙ ap (λ (hs : List ℕ). hs ++ c.term.new.self.draft.stack.items) c.in_ok-term.ensures.hypotheses)

pub returns-clause-one : goal.returns-clause-one
returns-clause-one c =
    assumed_one c.args.self.now.draft.hypotheses.items c.term.new.self.draft.stack.items c.assume.new.self.hypotheses.items
    (one_on c.term.new.self.draft.nodes c.term.new.self.draft.stack.items (tree_at c.args.table.now c.args.formula) c.in_ok-term.ensures.stack)
    (c.in_ok-assume.ensures.hypotheses ∙ ap (λ (hs : List ℕ). hs ++ c.term.new.self.draft.stack.items) c.in_ok-term.ensures.hypotheses)
