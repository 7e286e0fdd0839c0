use Rattle.std.proofs.Common.{◌≡◌, ◌+◌, ◌-◌, map, drop, ap, ◌∙◌, arith}
use Rattle.df_tok.specs.Token.{view}
use Rattle.df_tree.specs.Row.{Row, entry_of}
use Rattle.df_tree.specs.Grammar.{row}
use Rattle.df_pexpr.specs.mirror.Reading.{turn_limit}
use Rattle.df_pexpr.specs.mirror.Construction.{Success, Sofar, Builder, grow, builder, finished, height_before, height_behind, room_inside, frame_of, construction_of}
use Rattle.df_pexpr.proofs.Walk.{is_step, is_low, is_high, it_is_high, it_fails, it_ends, it_lacks, it_goes_on, it_is_full}
use Rattle.df_pexpr.proofs.reader.+reader.Goals as goal

pub read_children-returns-then-counted-room : goal.read_children-returns-then-counted-room
read_children-returns-then-counted-room t c =
    let so_far : Sofar = record { frame = frame_of c.trees.frame; at = c.trees.at; height = c.trees.height; filled = c.trees.filled } in
    let build : Builder = builder (map view c.args.tokens.now) c.args.left (room_inside (row c.args.n).counting c.args.room) in
    it_is_high (map view c.args.tokens.now) build c.args.room turn_limit c.args.n (frame_of c.enter-entered.result.outer) c.args.before c.trees.k so_far _ c.trees-test.true
    (is_high (entry_of c.row-row.result) c.args.n c.args.before c.args.room so_far c.counted.result c.row-row.ensures c.counted.ensures c.if-counted-room.true) c.trees.invariant

pub read_children-returns-in-Fail : goal.read_children-returns-in-Fail
read_children-returns-in-Fail t c =
    let so_far : Sofar = record { frame = frame_of c.trees.frame; at = c.trees.at; height = c.trees.height; filled = c.trees.filled } in
    let build : Builder = builder (map view c.args.tokens.now) c.args.left (room_inside (row c.args.n).counting c.args.room) in
    it_fails (map view c.args.tokens.now) build c.args.room turn_limit c.args.n (frame_of c.enter-entered.result.outer) c.args.before c.trees.k so_far _ c.trees-test.true (is_low (entry_of c.row-row.result) c.args.n c.args.before c.args.room so_far c.counted.result c.row-row.ensures c.counted.ensures c.if-counted-room.false)
    (is_step (entry_of c.row-row.result) c.args.n c.trees.k (drop c.trees.at (map view c.args.tokens.now)) _ c.row-row.ensures c.in-Fail.ensures) c.trees.invariant

pub read_children-returns-in-Done : goal.read_children-returns-in-Done
read_children-returns-in-Done t c =
    let so_far : Sofar = record { frame = frame_of c.trees.frame; at = c.trees.at; height = c.trees.height; filled = c.trees.filled } in
    let build : Builder = builder (map view c.args.tokens.now) c.args.left (room_inside (row c.args.n).counting c.args.room) in
    ap Success (c.in_ok-found-in-Done.ensures ∙ ap (λ (r : Row). finished r (frame_of c.enter-entered.result.outer) c.args.before c.trees.k so_far) c.row-row.ensures)
    ∙ it_ends (map view c.args.tokens.now) build c.args.room turn_limit c.args.n (frame_of c.enter-entered.result.outer) c.args.before c.trees.k so_far _ c.trees-test.true (is_low (entry_of c.row-row.result) c.args.n c.args.before c.args.room so_far c.counted.result c.row-row.ensures c.counted.ensures c.if-counted-room.false)
    (is_step (entry_of c.row-row.result) c.args.n c.trees.k (drop c.trees.at (map view c.args.tokens.now)) _ c.row-row.ensures c.in-Done.ensures) c.trees.invariant

pub read_children-returns-in-Stopped : goal.read_children-returns-in-Stopped
read_children-returns-in-Stopped t c =
    let so_far : Sofar = record { frame = frame_of c.trees.frame; at = c.trees.at; height = c.trees.height; filled = c.trees.filled } in
    let build : Builder = builder (map view c.args.tokens.now) c.args.left (room_inside (row c.args.n).counting c.args.room) in
    let inside : c.room_inside-inside.result ≡ room_inside (row c.args.n).counting c.args.room = c.room_inside-inside.ensures ∙ ap (λ (r : Row). room_inside r.counting c.args.room) c.row-row.ensures in
    let below : c.height_before-below.result ≡ height_before (row c.args.n).counting c.trees.height = c.height_before-below.ensures ∙ ap (λ (r : Row). height_before r.counting c.trees.height) c.row-row.ensures in
    it_lacks (map view c.args.tokens.now) build c.args.room turn_limit c.args.n (frame_of c.enter-entered.result.outer) c.args.before c.trees.k so_far _ c.in-Read.next c.in-Stopped.stop c.trees-test.true (is_low (entry_of c.row-row.result) c.args.n c.args.before c.args.room so_far c.counted.result c.row-row.ensures c.counted.ensures c.if-counted-room.false)
    (is_step (entry_of c.row-row.result) c.args.n c.trees.k (drop c.trees.at (map view c.args.tokens.now)) _ c.row-row.ensures c.in-Read.ensures)
    ((rw c.in-Stopped.is at c.in_ok-stop-in-Read.ensures) ∙ ap (λ room. builder (map view c.args.tokens.now) c.args.left room c.height_before-below.result (frame_of c.trees.frame) c.trees.at c.in-Read.next) inside ∙ ap (λ h. build h (frame_of c.trees.frame) c.trees.at c.in-Read.next) below) c.trees.invariant

pub read_children-trees-preserved : goal.read_children-trees-preserved
read_children-trees-preserved t c =
    let so_far : Sofar = record { frame = frame_of c.trees.frame; at = c.trees.at; height = c.trees.height; filled = c.trees.filled } in
    let build : Builder = builder (map view c.args.tokens.now) c.args.left (room_inside (row c.args.n).counting c.args.room) in
    let inside : c.room_inside-inside.result ≡ room_inside (row c.args.n).counting c.args.room = c.room_inside-inside.ensures ∙ ap (λ (r : Row). room_inside r.counting c.args.room) c.row-row.ensures in
    let below : c.height_before-below.result ≡ height_before (row c.args.n).counting c.trees.height = c.height_before-below.ensures ∙ ap (λ (r : Row). height_before r.counting c.trees.height) c.row-row.ensures in
    let above : c.height_behind-height.result ≡ height_behind (row c.args.n).counting c.trees.height c.in-Built.found.height =
    c.height_behind-height.ensures ∙ ap (λ (r : Row). height_behind r.counting c.trees.height c.in-Built.found.height) c.row-row.ensures in
    ap (λ (so_far : Sofar). grow (map view c.args.tokens.now) build c.args.room (turn_limit - (c.trees.k + 1)) c.args.n (frame_of c.enter-entered.result.outer) c.args.before (c.trees.k + 1) so_far)
    (λ i. record { frame = frame_of c.in-Built.found.frame; at = c.in-Built.found.behind; height = above i; filled = c.is_filled-filled.ensures i })
    ∙ it_goes_on (map view c.args.tokens.now) build c.args.room turn_limit c.args.n (frame_of c.enter-entered.result.outer) c.args.before c.trees.k so_far _ c.in-Read.next (construction_of c.in-Built.found) c.trees-test.true (is_low (entry_of c.row-row.result) c.args.n c.args.before c.args.room so_far c.counted.result c.row-row.ensures c.counted.ensures c.if-counted-room.false)
    (is_step (entry_of c.row-row.result) c.args.n c.trees.k (drop c.trees.at (map view c.args.tokens.now)) _ c.row-row.ensures c.in-Read.ensures)
    ((rw c.in-Built.is at c.in_ok-stop-in-Read.ensures) ∙ ap (λ room. builder (map view c.args.tokens.now) c.args.left room c.height_before-below.result (frame_of c.trees.frame) c.trees.at c.in-Read.next) inside ∙ ap (λ h. build h (frame_of c.trees.frame) c.trees.at c.in-Read.next) below) c.trees.invariant

pub read_children-returns : goal.read_children-returns
read_children-returns t c =
    let so_far : Sofar = record { frame = frame_of c.trees.frame; at = c.trees.at; height = c.trees.height; filled = c.trees.filled } in
    let build : Builder = builder (map view c.args.tokens.now) c.args.left (room_inside (row c.args.n).counting c.args.room) in
    it_is_full (map view c.args.tokens.now) build c.args.room turn_limit c.args.n (frame_of c.enter-entered.result.outer) c.args.before c.trees.k so_far _ (λ lt. omega (arith, lt, c.trees-test.false)) c.trees.invariant
