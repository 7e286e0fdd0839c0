use Rattle.df_nenc.proofs.Words.{Numbers, in_range, under, value_in}
use Rattle.df_nenc.proofs.Lemmas.{is_term, term_stays, owing, counted_number, owed_over, path_stays, extends_then, extends_nodes}
use Rattle.df_nenc.proofs.step.cast.Goals as goal

pub value_in-requires : goal.value_in-requires
value_in-requires c = term_stays Numbers c.number_in.new.nodes c.owe_range.new.nodes c.in_ok-number.number c.owe_range.ensures.extends.grows (is_term _ Numbers _ _ c.in_ok-number.ensures.stands (counted_number c.args.source _ c.requires.source c.requires.value.sort_is))

pub owe_range-requires : goal.owe_range-requires
owe_range-requires c = record { path = path_stays _ _ c.args.path c.number_in.ensures.grows c.requires.path; number = is_term _ Numbers _ _ c.in_ok-number.ensures.stands (counted_number c.args.source _ c.requires.source c.requires.value.sort_is) }

pub returns : goal.returns
returns c = record { gives = owed_over (value_in c.args.target) c.value_in.result _ _ c.args.nodes.now c.owe_range.new.nodes c.value_in.new.nodes c.in_ok-number.number c.args.out.now.items c.owe_range.new.out.items (owing c.args.nodes.now c.number_in.new.nodes c.owe_range.new.nodes c.args.path _ (λ on a. under on (in_range c.args.target c.args.pos a)) c.in_ok-number.number c.args.out.now.items c.owe_range.new.out.items c.number_in.ensures.grows c.requires.path c.in_ok-number.ensures.stands c.owe_range.ensures.extends.grows c.in_ok-owe_range.ensures.adds) c.value_in.ensures.grows c.value_in.ensures.stands; extends = extends_then (extends_then (extends_nodes c.args.nodes.now c.number_in.new.nodes c.args.out.now.items c.number_in.ensures.grows) c.owe_range.ensures.extends) (extends_nodes c.owe_range.new.nodes c.value_in.new.nodes c.owe_range.new.out.items c.value_in.ensures.grows) }

pub returns-in_err-owe_range-clause-extends : goal.returns-in_err-owe_range-clause-extends
returns-in_err-owe_range-clause-extends c = extends_then (extends_nodes c.args.nodes.now c.number_in.new.nodes c.args.out.now.items c.number_in.ensures.grows) c.owe_range.ensures.extends
