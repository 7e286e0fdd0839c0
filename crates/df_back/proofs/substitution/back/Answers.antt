use Rattle.std.proofs.Common.{◌≡◌, ℤ, suc, ◌-◌, ◌<◌, List, length, map, to_z, of_z, get_or, set, sym, ap, subst, refl, ◌∙◌, rules, arith}
use Rattle.std.specs.Int.{w128}
use Rattle.std.proofs.lemmas.Int.{to_z-of_z}
use Rattle.std.proofs.lemmas.List.{length-map}
use Rattle.df_row.specs.Row.{Row}
use Rattle.df_level.specs.Levels.{level_rows, rows_of}
use Rattle.df_back.specs.BackView.{numbers_of, IsGap}
use Rattle.df_back.specs.BackSubstitution.{IsNearest}
use Rattle.df_back.specs.Ranges.{level_at}
use Rattle.df_back.specs.declared.range.Choice.TheVariants as choices
use Rattle.df_back.proofs.Chains.{same_lengths}
use Rattle.df_back.proofs.Steps.{zeros, zeros_length, the_chain, back_begins, back_ends, variable_inside, choice_there, back_goes, gap_found, wide_found}
use Rattle.df_back.proofs.substitution.back.Goals as goal

pub loop-number-init : goal.loop-number-init
loop-number-init c =
    let items = c.in_ok-numbers.ensures.items_if_clones_equal (λ y e. e) in
    let numbers = c.in_ok-numbers.numbers.items in
    let levels : List (List Row) = map level_rows c.args.others.now in
    back_begins c.args.count (level_rows c.args.first.now) c.args.variables.now levels (the_chain c.args.count (level_rows c.args.first.now) c.args.variables.now levels c.requires.chain c.requires.stands c.requires.within) numbers (zeros_length c.args.count numbers items) (zeros c.args.count numbers items)

pub level_before-level-requires : goal.level_before-level-requires
level_before-level-requires c =
    let same : length c.args.variables.now ≡ length (map level_rows c.args.others.now) = same_lengths c.requires.chain in
    let le = c.loop-number.invariant.at_most in
    omega (arith, same, le, length-map c.args.others.now level_rows)

pub index_mut-requires : goal.index_mut-requires
index_mut-requires c =
    let first = level_rows c.args.first.now in
    let levels : List (List Row) = map level_rows c.args.others.now in
    let variables = c.args.variables.now in
    let chain = the_chain c.args.count first variables levels c.requires.chain c.requires.stands c.requires.within in
    let numbers = c.loop-number.numbers.items in
    let i = c.loop-number.number - 1 in
    let next : c.loop-number.number ≡ suc i = omega arith in
    let inside : get_or variables i 0 < c.args.count = variable_inside c.args.count first variables levels chain c.loop-number.number i (get_or variables i 0) numbers c.loop-number.invariant next refl in
    let size : length numbers ≡ c.args.count = c.loop-number.invariant.size in
    omega (arith, inside, size)

pub loop-number-preserved : goal.loop-number-preserved
loop-number-preserved c =
    let first = level_rows c.args.first.now in
    let levels : List (List Row) = map level_rows c.args.others.now in
    let variables = c.args.variables.now in
    let chain = the_chain c.args.count first variables levels c.requires.chain c.requires.stands c.requires.within in
    let numbers = c.loop-number.numbers.items in
    let i = c.loop-number.number - 1 in
    let node = get_or variables i 0 in
    let next : c.loop-number.number ≡ suc i = omega arith in
    let level : rows_of c.rows.result.now ≡ level_at first levels i = c.rows.ensures ∙ c.level_before-level.ensures in
    let passed : to_z w128 (of_z w128 c.in-Value.value) ≡ c.in-Value.value = search (rules, to_z-of_z) in
    let nearest : IsNearest c.args.count (level_at first levels i) (numbers_of numbers) node c.in-Value.value = choice_there c.args.count first variables levels chain c.loop-number.number i node numbers c.loop-number.invariant next refl c.as_slice.result.now (rows_of c.rows.result.now) (choices.Value c.in-Value.value) c.as_slice.ensures.value level c.in-Value.ensures in
    back_goes c.args.count first variables levels chain c.loop-number.number i node numbers c.loop-number.invariant next refl c.in-Value.value _ (ap (set numbers node) passed) nearest

pub returns-in-Between : goal.returns-in-Between
returns-in-Between c =
    let first = level_rows c.args.first.now in
    let levels : List (List Row) = map level_rows c.args.others.now in
    let variables = c.args.variables.now in
    let chain = the_chain c.args.count first variables levels c.requires.chain c.requires.stands c.requires.within in
    let numbers = c.loop-number.numbers.items in
    let i = c.loop-number.number - 1 in
    let node = get_or variables i 0 in
    let next : c.loop-number.number ≡ suc i = omega arith in
    let level : rows_of c.rows.result.now ≡ level_at first levels i = c.rows.ensures ∙ c.level_before-level.ensures in
    let passed : to_z w128 (of_z w128 c.in-Between.bound) ≡ c.in-Between.bound = search (rules, to_z-of_z) in
    let P : ℤ → Type 0 = λ k. IsGap c.args.count first variables levels node k in
    subst P (sym passed) (gap_found c.args.count first variables levels chain c.loop-number.number i node numbers c.loop-number.invariant next refl c.in-Between.bound
    (choice_there c.args.count first variables levels chain c.loop-number.number i node numbers c.loop-number.invariant next refl c.as_slice.result.now (rows_of c.rows.result.now) (choices.Between c.in-Between.bound) c.as_slice.ensures.value level c.in-Between.ensures))

pub returns-in-Wide : goal.returns-in-Wide
returns-in-Wide c =
    let first = level_rows c.args.first.now in
    let levels : List (List Row) = map level_rows c.args.others.now in
    let variables = c.args.variables.now in
    let chain = the_chain c.args.count first variables levels c.requires.chain c.requires.stands c.requires.within in
    let numbers = c.loop-number.numbers.items in
    let i = c.loop-number.number - 1 in
    let node = get_or variables i 0 in
    let next : c.loop-number.number ≡ suc i = omega arith in
    let level : rows_of c.rows.result.now ≡ level_at first levels i = c.rows.ensures ∙ c.level_before-level.ensures in
    wide_found c.args.count first variables levels chain c.loop-number.number i node numbers c.loop-number.invariant next refl
    (choice_there c.args.count first variables levels chain c.loop-number.number i node numbers c.loop-number.invariant next refl c.as_slice.result.now (rows_of c.rows.result.now) choices.Wide c.as_slice.ensures.value level c.in-Wide.ensures)

pub returns : goal.returns
returns c =
    let first = level_rows c.args.first.now in
    let levels : List (List Row) = map level_rows c.args.others.now in
    let variables = c.args.variables.now in
    let chain = the_chain c.args.count first variables levels c.requires.chain c.requires.stands c.requires.within in
    back_ends c.args.count first variables levels chain c.loop-number.number c.loop-number.numbers.items (omega arith) c.loop-number.invariant
