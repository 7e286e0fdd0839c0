use Rattle.df_nowed.proofs.Words.{◌≡◌, ◌∷◌, List, reverse, sym, ap, ◌∙◌, arith, subst, trees_at, Visit, Leads, all_steps_left, Term}
use Rattle.df_nowed.proofs.Visits.{next_first, to_begin, steps_begin}
use Rattle.df_nowed.proofs.Stacks.{again_on}
use Rattle.df_nowed.proofs.numbering.Renumbering.meet.Goals as goal

pub again-requires : goal.again-requires
again-requires c = (c.requires.terms.stand c.args.term c.in-Some.met c.in-Some.ensures).below

pub returns-in_ok-again-in-Some-clause-leads : goal.returns-in_ok-again-in-Some-clause-leads
returns-in_ok-again-in-Some-clause-leads c = λ after h.
    let tree = (c.requires.terms.stand c.args.term c.in-Some.met c.in-Some.ensures).tree_is in
    subst (λ (stack : List Term). Leads c.args.table.now (reverse c.args.visits.now.items) stack after) (sym (again_on c.args.table.now c.args.self.now.draft.nodes c.again.new.self.nodes c.args.self.now.draft.stack.items c.again.new.self.stack.items c.args.term c.in-Some.met tree c.again.ensures.nodes c.in_ok-again-in-Some.ensures.stack)) h

pub returns-in_ok-push-in-None-clause-leads : goal.returns-in_ok-push-in-None-clause-leads
returns-in_ok-push-in-None-clause-leads c = λ after h.
    let next : reverse c.push.new.self.items ≡ record { node = c.args.term; parts = 0 } ∷ reverse c.args.visits.now.items = ap (λ (vs : List Visit). reverse vs) c.in_ok-push-in-None.ensures.items ∙ next_first c.args.visits.now.items (record { node = c.args.term; parts = 0 }) in
    subst (λ (vs : List Visit). Leads c.args.table.now vs (trees_at c.args.self.now.draft.nodes c.args.self.now.draft.stack.items) after) (sym next)
    (to_begin c.args.table.now c.args.term c.requires.below (reverse c.args.visits.now.items) (trees_at c.args.self.now.draft.nodes c.args.self.now.draft.stack.items) after h)

pub returns-in_ok-push-in-None-clause-steps : goal.returns-in_ok-push-in-None-clause-steps
returns-in_ok-push-in-None-clause-steps c =
    let next : reverse c.push.new.self.items ≡ record { node = c.args.term; parts = 0 } ∷ reverse c.args.visits.now.items = ap (λ (vs : List Visit). reverse vs) c.in_ok-push-in-None.ensures.items ∙ next_first c.args.visits.now.items (record { node = c.args.term; parts = 0 }) in
    let more = ap (all_steps_left c.args.table.now) next in
    let begins = steps_begin c.args.table.now c.requires.terms.is_table c.args.term c.requires.below in
    omega (arith, more, begins)
