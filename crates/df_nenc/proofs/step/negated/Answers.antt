use Rattle.df_nenc.proofs.Words.{refl, Numbers, in_range, under}
use Rattle.df_nenc.proofs.Lemmas.{is_term, owing, path_stays, extends_then, extends_nodes}
use Rattle.df_nenc.proofs.step.negated.Goals as goal

pub owe_range-requires : goal.owe_range-requires
owe_range-requires c = record { path = path_stays _ _ c.args.path c.negative.ensures.grows c.requires.path; number = is_term _ Numbers _ _ c.in_ok-number.ensures.stands refl }

pub returns : goal.returns
returns c = record { gives = owing c.args.nodes.now c.negative.new.nodes c.owe_range.new.nodes c.args.path _ (λ on a. under on (in_range c.args.ty c.args.pos a)) c.in_ok-number.number c.args.out.now.items c.owe_range.new.out.items c.negative.ensures.grows c.requires.path c.in_ok-number.ensures.stands c.owe_range.ensures.extends.grows c.in_ok-owe_range.ensures.adds; extends = extends_then (extends_nodes c.args.nodes.now c.negative.new.nodes c.args.out.now.items c.negative.ensures.grows) c.owe_range.ensures.extends }
