use Rattle.df_nenc.proofs.Words.{Numbers, in_range, under}
use Rattle.df_nenc.proofs.Lemmas.{is_term, owing, summed_is, path_stays, extends_then, extends_nodes}
use Rattle.df_nenc.proofs.step.with_addend.Goals as goal

pub owe_range-requires : goal.owe_range-requires
owe_range-requires c = record { path = path_stays _ _ c.args.path c.summed.ensures.grows c.requires.path; number = is_term _ Numbers _ _ c.in_ok-total.ensures.stands (summed_is c.args.operator _ _) }

pub returns : goal.returns
returns c = record { gives = owing c.args.nodes.now c.summed.new.nodes c.owe_range.new.nodes c.args.path _ (λ on a. under on (in_range c.args.ty c.args.pos a)) c.in_ok-total.total c.args.out.now.items c.owe_range.new.out.items c.summed.ensures.grows c.requires.path c.in_ok-total.ensures.stands c.owe_range.ensures.extends.grows c.in_ok-owe_range.ensures.adds; extends = extends_then (extends_nodes c.args.nodes.now c.summed.new.nodes c.args.out.now.items c.summed.ensures.grows) c.owe_range.ensures.extends }
