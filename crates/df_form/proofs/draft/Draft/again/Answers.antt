use Rattle.std.proofs.Math.Logic.{∥∥₁_map}
use Rattle.df_form.proofs.Drafts.{known_either, walked_either}
use Rattle.df_form.proofs.draft.Draft.again.Goals as goal

pub invariant_of-self-clause-known : goal.invariant_of-self-clause-known
invariant_of-self-clause-known c = known_either _ _ _ _ _ c.push.ensures.items c.requires c.args.self.now.known

pub invariant_of-self-clause-walked : goal.invariant_of-self-clause-walked
invariant_of-self-clause-walked c = ∥∥₁_map c.args.self.now.walked (λ walk. walked_either _ _ _ _ _ _ c.push.ensures.items c.requires walk)
