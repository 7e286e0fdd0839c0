use Rattle.df_nenc.proofs.Words.{◌≡◌, ℤ, to_z, of_z, refl, rules, subst, w128, to_z-of_z, Numbers, literal, in_range, under, path_in, Gives}
use Rattle.df_nenc.proofs.Lemmas.{is_term, owing, path_stays, extends_then, extends_nodes}
use Rattle.df_nenc.proofs.step.number.Goals as goal

pub owe_range-requires : goal.owe_range-requires
owe_range-requires c = record { path = path_stays _ _ c.args.path c.literal.ensures.grows c.requires; number = is_term _ Numbers _ _ c.in_ok-number.ensures.stands refl }

pub returns : goal.returns
returns c =
    let same : to_z w128 (of_z w128 c.args.value) ≡ c.args.value = search (rules, to_z-of_z) in
    record { gives = subst (λ (v : ℤ). Gives (literal v) (under (path_in c.args.nodes.now c.args.path) (in_range c.args.ty c.args.pos (literal v))) c.args.nodes.now c.owe_range.new.nodes c.in_ok-number.number c.args.out.now.items c.owe_range.new.out.items) same (owing c.args.nodes.now c.literal.new.nodes c.owe_range.new.nodes c.args.path _ (λ on a. under on (in_range c.args.ty c.args.pos a)) c.in_ok-number.number c.args.out.now.items c.owe_range.new.out.items c.literal.ensures.grows c.requires c.in_ok-number.ensures.stands c.owe_range.ensures.extends.grows c.in_ok-owe_range.ensures.adds); extends = extends_then (extends_nodes c.args.nodes.now c.literal.new.nodes c.args.out.now.items c.literal.ensures.grows) c.owe_range.ensures.extends }
