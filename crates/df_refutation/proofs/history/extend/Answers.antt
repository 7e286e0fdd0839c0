use Rattle.std.proofs.Common.{◌∙◌, ap, map, [], ◌∷◌}
use Rattle.std.proofs.lemmas.List.{map-append}
use Rattle.df_form.specs.Log.{combination_of}
use Rattle.df_refutation.proofs.Histories.{part_begins, part_goes, part_ends, way_at, ways_past}
use Rattle.df_refutation.proofs.history.extend.Goals as goal

pub loop-way-init : goal.loop-way-init
loop-way-init c = part_begins c.args.start (map combination_of c.args.ways.now) (map combination_of c.args.combinations.now.items)

pub loop-way-preserved : goal.loop-way-preserved
loop-way-preserved c =
    let ways = c.args.ways.now in
    let i = c.loop-way.way-index in
    let x = c.way-item.result in
    let d = c.in_ok-shifted.field-0 in
    let so_far = c.loop-way.combinations.items in
    part_goes c.args.start i (map combination_of ways) (map combination_of c.args.combinations.now.items) (map combination_of so_far) (map combination_of c.push.new.self.items) (combination_of x) (combination_of d) c.loop-way.invariant (way_at ways i x c.loop-way-test.true c.way-item.is) c.in_ok-shifted.ensures (ap (map combination_of) c.in_ok-push.ensures.items ∙ map-append combination_of so_far (d ∷ []))

pub returns : goal.returns
returns c = part_ends c.args.start c.loop-way.way-index (map combination_of c.args.ways.now) (map combination_of c.args.combinations.now.items) (map combination_of c.loop-way.combinations.items) c.loop-way.invariant (ways_past c.args.ways.now c.loop-way.way-index c.loop-way-test.false)
