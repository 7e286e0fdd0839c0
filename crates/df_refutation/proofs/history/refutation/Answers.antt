use Rattle.std.proofs.Common.{◌≡◌, ◌+◌, ◌<◌, ◌^◌, length, map, drop, ap, sym, subst, ◌∙◌, arith, [], ◌∷◌, List}
use Rattle.std.proofs.lemmas.List.{length-map, map-append}
use Rattle.df_form.specs.Log.{Combination, combination_of}
use Rattle.df_level.specs.Row.{function_row}
use Rattle.df_level.specs.Levels.{rows_of, level_ways}
use Rattle.df_level.proofs.Falsehood.{row_of_code}
use Rattle.df_refutation.proofs.Histories.{IsHistory, history_begins, history_goes, history_ends, false_within, at_level, ways_extend, next_is}
use Rattle.df_refutation.proofs.history.refutation.Goals as goal

pub loop-level-init : goal.loop-level-init
loop-level-init c =
    let given = rows_of c.args.given.now in
    let levels = c.args.levels.now in
    let P : List Combination → Type 0 = λ cs. IsHistory given levels levels cs 0 in
    subst P (ap (map combination_of) (sym c.new-combinations.ensures.items)) (history_begins given levels c.requires)

pub overflow_add-next-in-Some : goal.overflow_add-next-in-Some
overflow_add-next-in-Some c =
    let given = rows_of c.args.given.now in
    let levels = c.args.levels.now in
    let i = c.loop-level.level-index in
    let level = c.level-item.result in
    let old = map combination_of c.loop-level.combinations.items in
    let new = map combination_of c.extend.new.combinations.items in
    let next = length c.args.given.now + c.len.result in
    let h = at_level given levels i level old c.loop-level.start c.loop-level.invariant c.loop-level-test.true c.level-item.is in
    let grown = ways_extend c.loop-level.start (map combination_of c.ways.result.now) (level_ways level) old new c.in_ok-extend.ensures c.ways.ensures in
    let counted : c.len.result ≡ length c.loop-level.combinations.items = omega (arith) in
    let short : next < 2 ^ 64 = omega (arith) in
    let k = false_within given levels (drop (i + 1) levels) level old new c.loop-level.start next h (next_is c.args.given.now c.loop-level.combinations.items c.len.result counted) short grown c.in-Some.row c.in-Some.ensures.0 c.in-Some.ensures.1 in
    let a = length-map c.args.given.now function_row in
    let b = length-map c.extend.new.combinations.items combination_of in
    omega (arith)

pub returns-in-Some : goal.returns-in-Some
returns-in-Some c =
    let given = rows_of c.args.given.now in
    let levels = c.args.levels.now in
    let i = c.loop-level.level-index in
    let level = c.level-item.result in
    let old = map combination_of c.loop-level.combinations.items in
    let new = map combination_of c.extend.new.combinations.items in
    let next = length c.args.given.now + c.len.result in
    let h = at_level given levels i level old c.loop-level.start c.loop-level.invariant c.loop-level-test.true c.level-item.is in
    let grown = ways_extend c.loop-level.start (map combination_of c.ways.result.now) (level_ways level) old new c.in_ok-extend.ensures c.ways.ensures in
    let counted : c.len.result ≡ length c.loop-level.combinations.items = omega (arith) in
    let short : next < 2 ^ 64 = omega (arith) in
    let way = c.in_ok-way_of_one.field-0 in
    history_ends given levels (drop (i + 1) levels) level old new c.loop-level.start next h (next_is c.args.given.now c.loop-level.combinations.items c.len.result counted) short grown c.in-Some.row c.in-Some.ensures.0 (combination_of way) (map combination_of c.push.new.self.items) c.in-Some.ensures.1 (row_of_code level.rows.keys c.in-Some.row c.in-Some.ensures.0 c.in-Some.ensures.1) c.in-Some.ensures.2 c.in_ok-way_of_one.ensures (ap (map combination_of) c.in_ok-push.ensures.items ∙ map-append combination_of c.extend.new.combinations.items (way ∷ []))

pub loop-level-preserved : goal.loop-level-preserved
loop-level-preserved c =
    let given = rows_of c.args.given.now in
    let levels = c.args.levels.now in
    let i = c.loop-level.level-index in
    let level = c.level-item.result in
    let old = map combination_of c.loop-level.combinations.items in
    let new = map combination_of c.extend.new.combinations.items in
    let next = length c.args.given.now + c.len.result in
    let h = at_level given levels i level old c.loop-level.start c.loop-level.invariant c.loop-level-test.true c.level-item.is in
    let grown = ways_extend c.loop-level.start (map combination_of c.ways.result.now) (level_ways level) old new c.in_ok-extend.ensures c.ways.ensures in
    let counted : c.len.result ≡ length c.loop-level.combinations.items = omega (arith) in
    let short : next < 2 ^ 64 = omega (arith) in
    history_goes given levels (drop (i + 1) levels) level old new c.loop-level.start next h (next_is c.args.given.now c.loop-level.combinations.items c.len.result counted) short grown c.in_default.ensures
