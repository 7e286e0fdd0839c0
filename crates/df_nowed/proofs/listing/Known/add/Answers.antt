use Rattle.df_nowed.proofs.Words.{rules, ◌≡◌, ◌++◌, ◌∷◌, [], List, ℕ, Some, length, slice_get, slice_set, refl, sym, ap, ◌∙◌, arith, subst, slice_get_within, ArePlaces}
use Rattle.std.proofs.lemmas.Option.{slice_get_read}
use Rattle.df_lemmas.proofs.Lists.{get_last}
use Rattle.df_nowed.proofs.Places.{place_added}
use Rattle.df_nowed.proofs.listing.Known.add.Goals as goal

pub returns-in-Some-clause-within : goal.returns-in-Some-clause-within
returns-in-Some-clause-within c =
    let places = c.args.self.now.places.items in
    let at = slice_get_read places (length places) c.args.formula c.index.result.now refl c.requires c.index.ensures ∙ ap Some c.in-Some.is in
    let there = c.args.self.now.are_places.place c.args.formula c.in-Some.place at in
    omega (arith, slice_get_within c.args.self.now.formulas.items c.in-Some.place c.args.formula there)

pub invariant_of-self-2 : goal.invariant_of-self-2
invariant_of-self-2 c =
    let old = c.args.self.now in
    let size : c.len-place.result ≡ length c.args.self.now.formulas.items = search rules in
    let added = place_added old.places.items old.formulas.items c.args.formula old.are_places c.requires in
    let at = subst (λ (place : ℕ). ArePlaces (slice_set old.places.items c.args.formula (Some place)) (old.formulas.items ++ c.args.formula ∷ [])) (sym size) added in
    record { are_places = subst (λ (known : List ℕ). ArePlaces (slice_set old.places.items c.args.formula (Some c.len-place.result)) known) (sym c.in_ok-push.ensures.items) at }

pub returns-clause-place : goal.returns-clause-place
returns-clause-place c =
    let old = c.args.self.now.formulas.items in
    let size : c.len-place.result ≡ length c.args.self.now.formulas.items = search rules in
    ap (λ (known : List ℕ). slice_get known c.len-place.result) c.in_ok-push.ensures.items
    ∙ ap (slice_get (old ++ c.args.formula ∷ [])) size ∙ get_last old c.args.formula
