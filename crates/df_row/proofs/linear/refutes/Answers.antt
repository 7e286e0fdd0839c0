use Rattle.std.proofs.Common.{◌≡◌, sym, ◌∙◌, ap, subst, ℕ, suc, ◌+◌, ◌<◌, List, ◌∷◌, map, length, drop, get_or, Some, add-one}
use Rattle.std.proofs.Math.Seq.{drop-cons}
use Rattle.std.proofs.lemmas.List.{map_push}
use Rattle.df_form.specs.declared.log.Combination as declared
use Rattle.df_form.specs.Log.{Combination, combination_of}
use Rattle.df_row.specs.Row.{Row}
use Rattle.df_row.specs.RowView.{row_of}
use Rattle.df_row.specs.LinearView.{AreWithin}
use Rattle.df_row.specs.Linear.{combined}
use Rattle.df_row.proofs.LinearRefutes.{IsRefuting, refuting_goes}
use Rattle.df_row.proofs.linear.refutes.Goals as goal

opened : (all : List declared.Combination) (i : ℕ) (item : declared.Combination) → i < length all → item ≡ get_or all i item → map combination_of (drop i all) ≡ combination_of item ∷ map combination_of (drop (i + 1) all)
opened all i item less is = ap (map combination_of) (drop-cons all i item less) ∙ ap (λ x. combination_of x ∷ map combination_of (drop (suc i) all)) (sym is) ∙ ap (λ k. combination_of item ∷ map combination_of (drop k all)) (sym (add-one i))

pub loop-combination-preserved : goal.loop-combination-preserved
loop-combination-preserved c = λ count inside.
    let start = map row_of c.args.rows.items in
    let all = map combination_of c.args.combinations.now in
    let i = c.loop-combination.combination-index in
    let item = c.combination-item.result in
    let rows = map row_of c.loop-combination.rows.items in
    let last = c.loop-combination.is_false in
    let left = map combination_of (drop (i + 1) c.args.combinations.now) in
    let row = row_of c.in_ok-row.row in
    let P : List Combination → Type 0 = λ x. IsRefuting count start all x last rows in
    let so_far = subst P (opened c.args.combinations.now i item c.loop-combination-test.true c.combination-item.is) (c.loop-combination.invariant count inside) in
    let lent : map row_of c.deref.result.now ≡ rows = ap (map row_of) c.deref.ensures.value in
    let W : List Row → Type 0 = AreWithin count in
    let e : combined count rows (combination_of item) ≡ Some row = ap (λ x. combined count x (combination_of item)) (sym lent) ∙ c.in_ok-row.ensures count (subst W (sym lent) so_far.within) in
    refuting_goes count start all left (combination_of item) last c.is_false-is_false.result rows (map row_of c.push.new.self.items) row so_far e (λ within. c.is_false-is_false.ensures count within) (ap (map row_of) c.in_ok-push.ensures.items ∙ map_push row_of c.loop-combination.rows.items c.in_ok-row.row)
