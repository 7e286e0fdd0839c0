use Rattle.std.proofs.Common.{◌≡◌, suc, ◌-◌, ℤ, List, length, map, get_or, sym, ap, subst, refl, ◌∙◌, to_z, of_z, rules, arith}
use Rattle.std.specs.Int.{w128}
use Rattle.std.proofs.lemmas.Int.{to_z-of_z}
use Rattle.std.proofs.lemmas.List.{length-map, get_or_default}
use Rattle.df_row.specs.Row.{Row}
use Rattle.df_level.specs.Levels.{level_rows, rows_of}
use Rattle.df_back.specs.BackSubstitution.{with_number}
use Rattle.df_back.specs.Ranges.{level_at}
use Rattle.df_back.specs.declared.range.Choice.TheVariants as choices
use Rattle.df_back.proofs.Chains.{same_lengths}
use Rattle.df_lin.specs.Point.{numbers_of}
use Rattle.df_lin.specs.Verdict.{IsGap}
use Rattle.df_lin.proofs.Whole.{have_levels}
use Rattle.df_lin.proofs.Backwards.{begins, ends, chosen, goes, gap, wide}
use Rattle.df_lin.proofs.substitution.substitute.Goals as goal

pub loop-place-init : goal.loop-place-init
loop-place-init c =
    let levels = c.args.levels.now in
    begins (level_rows levels.first) levels.variables.items (map level_rows levels.others.items) c.requires.chain c.requires.stands (numbers_of c.zero-point.result) c.len-place.result c.zero-point.ensures (omega (arith, c.len-place.ensures, levels.variables.ok.0, levels.variables.ok.1))

pub level_before-level-requires : goal.level_before-level-requires
level_before-level-requires c =
    let levels = c.args.levels.now in
    let same : length levels.variables.items ≡ length (map level_rows levels.others.items) = same_lengths c.requires.chain in
    let le = c.loop-place.invariant.at_most in
    omega (arith, same, le, length-map levels.others.items level_rows)

pub loop-place-preserved : goal.loop-place-preserved
loop-place-preserved c =
    let levels = c.args.levels.now in
    let first = level_rows levels.first in
    let variables = levels.variables.items in
    let others : List (List Row) = map level_rows levels.others.items in
    let i = c.loop-place.place - 1 in
    let node = c.index-node.result.now in
    let numbers = numbers_of c.loop-place.point in
    let next : c.loop-place.place ≡ suc i = omega arith in
    let le = c.loop-place.invariant.at_most in
    let is : node ≡ get_or variables i 0 = c.index-node.ensures ∙ get_or_default variables i node 0 (omega (arith, le, next)) in
    let level : rows_of c.rows.result.now ≡ level_at first others i = c.rows.ensures ∙ c.level_before-level.ensures ∙ ap (λ lent. level_at first (map level_rows lent) i) c.deref.ensures.value in
    let v = c.in-Value.number in
    let passed : to_z w128 (of_z w128 v) ≡ v = search (rules, to_z-of_z) in
    let chosen_there = chosen first variables others c.requires.chain c.requires.stands c.loop-place.place i node numbers c.loop-place.invariant next is (rows_of c.rows.result.now) (choices.Value v) level c.in-Value.ensures in
    goes first variables others c.requires.chain c.requires.stands c.loop-place.place i node numbers c.loop-place.invariant next is v (numbers_of c.set.new.self) (c.in_ok-set-in-Value.ensures ∙ ap (with_number numbers node) passed) chosen_there

pub returns-in-Between : goal.returns-in-Between
returns-in-Between c = λ rows whole.
    let levels = c.args.levels.now in
    let first = level_rows levels.first in
    let variables = levels.variables.items in
    let others : List (List Row) = map level_rows levels.others.items in
    let i = c.loop-place.place - 1 in
    let node = c.index-node.result.now in
    let numbers = numbers_of c.loop-place.point in
    let next : c.loop-place.place ≡ suc i = omega arith in
    let le = c.loop-place.invariant.at_most in
    let is : node ≡ get_or variables i 0 = c.index-node.ensures ∙ get_or_default variables i node 0 (omega (arith, le, next)) in
    let level : rows_of c.rows.result.now ≡ level_at first others i = c.rows.ensures ∙ c.level_before-level.ensures ∙ ap (λ lent. level_at first (map level_rows lent) i) c.deref.ensures.value in
    let k = c.in-Between.bound in
    let passed : to_z w128 (of_z w128 k) ≡ k = search (rules, to_z-of_z) in
    let chosen_there = chosen first variables others c.requires.chain c.requires.stands c.loop-place.place i node numbers c.loop-place.invariant next is (rows_of c.rows.result.now) (choices.Between k) level c.in-Between.ensures in
    let P : ℤ → Type 0 = λ z. IsGap rows node z numbers in
    subst P (sym passed) (gap first variables others c.requires.chain c.requires.stands c.loop-place.place i node numbers c.loop-place.invariant next is rows (have_levels rows levels whole) levels.first.rows.keys k refl chosen_there)

pub returns-in-Wide : goal.returns-in-Wide
returns-in-Wide c = λ rows whole.
    let levels = c.args.levels.now in
    let first = level_rows levels.first in
    let variables = levels.variables.items in
    let others : List (List Row) = map level_rows levels.others.items in
    let i = c.loop-place.place - 1 in
    let node = c.index-node.result.now in
    let numbers = numbers_of c.loop-place.point in
    let next : c.loop-place.place ≡ suc i = omega arith in
    let le = c.loop-place.invariant.at_most in
    let is : node ≡ get_or variables i 0 = c.index-node.ensures ∙ get_or_default variables i node 0 (omega (arith, le, next)) in
    let level : rows_of c.rows.result.now ≡ level_at first others i = c.rows.ensures ∙ c.level_before-level.ensures ∙ ap (λ lent. level_at first (map level_rows lent) i) c.deref.ensures.value in
    let chosen_there = chosen first variables others c.requires.chain c.requires.stands c.loop-place.place i node numbers c.loop-place.invariant next is (rows_of c.rows.result.now) choices.Wide level c.in-Wide.ensures in
    wide first variables others c.requires.chain c.requires.stands c.loop-place.place i node numbers c.loop-place.invariant next is rows (have_levels rows levels whole) chosen_there

pub returns : goal.returns
returns c = λ rows whole.
    let levels = c.args.levels.now in
    ends (level_rows levels.first) levels.variables.items (map level_rows levels.others.items) c.requires.chain c.requires.stands rows c.loop-place.place (numbers_of c.loop-place.point) (have_levels rows levels whole) (omega arith) c.loop-place.invariant
