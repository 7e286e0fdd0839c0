use Rattle.df_form.proofs.Drafts.{nothing_walked}
use Rattle.df_form.proofs.draft.Draft.new.Goals as goal

pub invariant_of-result-clause-walked : goal.invariant_of-result-clause-walked
invariant_of-result-clause-walked c = ∣ nothing_walked _ _ _ c.new.ensures c.new-2.ensures.items c.new-3.ensures.items ∣₁
