use Rattle.std.proofs.Common.{◌≡◌, ◌+◌, length, map, ap, ◌∙◌, arith, [], ◌∷◌}
use Rattle.std.proofs.lemmas.List.{length-map, map-append}
use Rattle.df_form.specs.Log.{combination_of}
use Rattle.df_refutation.proofs.Keeping.{kept_one, renumbered_by}
use Rattle.df_refutation.proofs.kept.Kept.keep.Goals as goal

pub returns : goal.returns
returns c =
    let old = c.args.self.now.combinations.items in
    let numbers = c.args.self.now.numbers.items in
    let way = combination_of c.args.combination.now in
    let new = c.in-Some.new in
    let number = c.args.given + c.len.result in
    let renumbered = renumbered_by c.as_slice.result.now numbers way c.in_ok-new.field-0 new c.in_ok-new.ensures c.in-Some.is c.as_slice.ensures.value in
    let is : number ≡ c.args.given + length (map combination_of old) = (let e = length-map old combination_of in omega (arith)) in
    λ all. kept_one c.args.given way (combination_of new) (map combination_of old) (map combination_of c.push.new.self.items) numbers c.push-2.new.self.items number renumbered is (ap (map combination_of) c.in_ok-push.ensures.items ∙ map-append combination_of old (new ∷ [])) c.in_ok-push-2.ensures.items
