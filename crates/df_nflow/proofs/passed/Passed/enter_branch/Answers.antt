use Rattle.df_nflow.proofs.Words.{Some, ◌∙◌, tree_stays, stays, narrowed_path, Truths, negation, at_path, term_stays, grows_then}
use Rattle.df_nflow.proofs.passed.Passed.enter_branch.Goals as goal

pub enter-requires : goal.enter-requires
enter-requires c = term_stays Truths c.guard.new.self.ledger.nodes c.past.new.self.ledger.nodes c.in_ok-formula.formula c.past.ensures.grows c.in_ok-formula.ensures.formula

pub returns-clause-formula : goal.returns-clause-formula
returns-clause-formula c = term_stays Truths c.past.new.self.ledger.nodes c.enter.new.self.ledger.nodes c.in_ok-past.past c.enter.ensures.grows c.in_ok-past.ensures.formula

pub returns-clause-standing : goal.returns-clause-standing
returns-clause-standing c =
    let asked = c.in_ok-past.ensures.standing ∙ c.in_ok-formula.ensures.said in
    let tree = tree_stays Truths c.guard.new.self.ledger.nodes c.past.new.self.ledger.nodes c.in_ok-formula.formula c.past.ensures.grows c.in_ok-formula.ensures.formula ∙ c.in_ok-formula.ensures.stands.tree_is in
    c.in_ok-enter.ensures.standing ∙ (λ i. at_path (Some (narrowed_path (asked i).way.path (tree i))) (asked i))

pub returns-clause-stands : goal.returns-clause-stands
returns-clause-stands c =
    let is = c.in_ok-past.ensures.stands in
    let said = c.in_ok-formula.ensures.said in
    let tree = c.in_ok-formula.ensures.stands.tree_is in
    stays c.past.new.self.ledger.nodes c.enter.new.self.ledger.nodes _ c.in_ok-past.past c.enter.ensures.grows (record { below = is.below; tree_is = is.tree_is ∙ (λ i. narrowed_path (said i).way.path (negation (tree i))) })

-- ---- on every way out

pub returns-in_err-past-clause-grows : goal.returns-in_err-past-clause-grows
returns-in_err-past-clause-grows c = grows_then _ _ _ c.guard.ensures.grows c.past.ensures.grows

pub returns-in_err-enter-clause-grows : goal.returns-in_err-enter-clause-grows
returns-in_err-enter-clause-grows c = grows_then _ _ _ (grows_then _ _ _ c.guard.ensures.grows c.past.ensures.grows) c.enter.ensures.grows

pub returns-clause-grows : goal.returns-clause-grows
returns-clause-grows c = grows_then _ _ _ (grows_then _ _ _ c.guard.ensures.grows c.past.ensures.grows) c.enter.ensures.grows
