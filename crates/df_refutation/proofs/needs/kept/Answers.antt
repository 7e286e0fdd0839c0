use Rattle.std.proofs.Common.{map, ap, ◌∙◌, [], ◌∷◌}
use Rattle.std.proofs.lemmas.List.{map-append}
use Rattle.df_form.specs.Log.{combination_of}
use Rattle.df_refutation.proofs.Keeping.{some_refute, renumbered_by, keeping_is}
use Rattle.df_refutation.proofs.needs.kept.Goals as goal

pub returns : goal.returns
returns c =
    let given = c.args.given in
    let others = c.in-Some.others.now in
    let last = c.in-Some.last.now in
    let kept = c.in-Some-2.kept in
    let new = c.in-Some-3.last in
    let keeps = keeping_is given (map combination_of others) c.in_ok-kept.field-0 kept c.in_ok-kept.ensures c.in-Some-2.is in
    let renumbered = renumbered_by c.as_slice.result.now kept.numbers.items (combination_of last) c.in_ok-last.field-0 new c.in_ok-last.ensures c.in-Some-3.is c.as_slice.ensures.value in
    some_refute given (map combination_of others) (combination_of last) (map combination_of kept.combinations.items) kept.numbers.items (combination_of new) (map combination_of c.args.combinations.now) (map combination_of c.push.new.self.items) keeps renumbered (ap (map combination_of) c.in-Some.ensures.cases.0 ∙ map-append combination_of others (last ∷ [])) (ap (map combination_of) c.in_ok-push.ensures.items ∙ map-append combination_of kept.combinations.items (new ∷ []))
