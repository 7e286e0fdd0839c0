use Rattle.std.proofs.Common.{◌&&◌, length, ap, ◌∙◌, arith}
use Rattle.df_vm_store.specs.Meaning.{meanings, value_in}
use Rattle.df_vm_store.specs.Equal.{is_same_pair, are_same_pairs}
use Rattle.df_vm_store.proofs.Same.{first_front, differ, equal_front, deeper_front, deferred_pair}
use Rattle.df_vm_store.proofs.Falling.{stands_last, within_size, within_end, rest_falls, with_rest, inner_falls, with_inner, work_front, less_equal, less_deeper, work_some}
use Rattle.df_vm_store.proofs.equal.compare.Goals as goal

pub word-left-requires-clause-place : goal.word-left-requires-clause-place
word-left-requires-clause-place c =
    let s = stands_last (length c.args.cells.now) c.args.pending.now.items c.args.pair c.requires.falls in
    omega (arith, s.left, s.ends.some)

pub word-right-requires-clause-place : goal.word-right-requires-clause-place
word-right-requires-clause-place c =
    let s = stands_last (length c.args.cells.now) c.args.pending.now.items c.args.pair c.requires.falls in
    omega (arith, s.ends.right, s.ends.some)

pub compare_words-requires-clause-left : goal.compare_words-requires-clause-left
compare_words-requires-clause-left c =
    let s = stands_last (length c.args.cells.now) c.args.pending.now.items c.args.pair c.requires.falls in
    within_size (length c.args.cells.now) c.args.pair.left c.word-left.result (omega (arith, s.left, s.ends.some)) c.word-left.ensures.within

pub compare_words-requires-clause-right : goal.compare_words-requires-clause-right
compare_words-requires-clause-right c =
    let s = stands_last (length c.args.cells.now) c.args.pending.now.items c.args.pair c.requires.falls in
    within_size (length c.args.cells.now) c.args.pair.right c.word-right.result (omega (arith, s.ends.right, s.ends.some)) c.word-right.ensures.within

pub rest-requires-clause-some : goal.rest-requires-clause-some
rest-requires-clause-some c =
    let s = stands_last (length c.args.cells.now) c.args.pending.now.items c.args.pair c.requires.falls in
    s.ends.some

pub rest-requires-clause-left : goal.rest-requires-clause-left
rest-requires-clause-left c =
    let s = stands_last (length c.args.cells.now) c.args.pending.now.items c.args.pair c.requires.falls in
    s.left

pub rest-requires-clause-right : goal.rest-requires-clause-right
rest-requires-clause-right c =
    let s = stands_last (length c.args.cells.now) c.args.pending.now.items c.args.pair c.requires.falls in
    s.ends.right

pub defer-requires-clause-falls : goal.defer-requires-clause-falls
defer-requires-clause-falls c =
    let s = stands_last (length c.args.cells.now) c.args.pending.now.items c.args.pair c.requires.falls in
    rest_falls (length c.args.cells.now) c.args.pending.now.items c.args.pair c.rest.result s c.rest.ensures

pub rest-requires-in-Deeper-clause-some : goal.rest-requires-in-Deeper-clause-some
rest-requires-in-Deeper-clause-some c =
    let s = stands_last (length c.args.cells.now) c.args.pending.now.items c.args.pair c.requires.falls in
    s.ends.some

pub rest-requires-in-Deeper-clause-left : goal.rest-requires-in-Deeper-clause-left
rest-requires-in-Deeper-clause-left c =
    let s = stands_last (length c.args.cells.now) c.args.pending.now.items c.args.pair c.requires.falls in
    s.left

pub rest-requires-in-Deeper-clause-right : goal.rest-requires-in-Deeper-clause-right
rest-requires-in-Deeper-clause-right c =
    let s = stands_last (length c.args.cells.now) c.args.pending.now.items c.args.pair c.requires.falls in
    s.ends.right

pub defer-requires-in-Deeper-clause-falls : goal.defer-requires-in-Deeper-clause-falls
defer-requires-in-Deeper-clause-falls c =
    let s = stands_last (length c.args.cells.now) c.args.pending.now.items c.args.pair c.requires.falls in
    rest_falls (length c.args.cells.now) c.args.pending.now.items c.args.pair c.rest-in-Deeper.result s c.rest-in-Deeper.ensures

pub defer-requires-in-Deeper-2-clause-falls : goal.defer-requires-in-Deeper-2-clause-falls
defer-requires-in-Deeper-2-clause-falls c =
    let s = stands_last (length c.args.cells.now) c.args.pending.now.items c.args.pair c.requires.falls in
    inner_falls (length c.args.cells.now) c.args.pending.now.items c.defer-in-Deeper.new.pending.items c.args.pair c.rest-in-Deeper.result c.in-Deeper.inner s c.rest-in-Deeper.ensures c.defer-in-Deeper.ensures.items
    (omega (arith, c.in-Deeper.ensures.deeper.0, within_end c.args.pair.left c.word-left.result c.word-left.ensures.within)) (c.in-Deeper.ensures.deeper.1)

pub returns-in-Differ-clause-compares : goal.returns-in-Differ-clause-compares
returns-in-Differ-clause-compares c =
    let s = stands_last (length c.args.cells.now) c.args.pending.now.items c.args.pair c.requires.falls in
    differ _ _ _ (first_front c.args.cells.now c.args.pair c.word-left.result c.word-right.result c.requires.founded c.word-left.ensures.word c.word-right.ensures.word s.ends.some) c.in-Differ.ensures.tells

pub returns-in-Differ-clause-falls : goal.returns-in-Differ-clause-falls
returns-in-Differ-clause-falls c =
    let s = stands_last (length c.args.cells.now) c.args.pending.now.items c.args.pair c.requires.falls in
    s.before

pub returns-in-Differ-clause-less : goal.returns-in-Differ-clause-less
returns-in-Differ-clause-less c =
    let s = stands_last (length c.args.cells.now) c.args.pending.now.items c.args.pair c.requires.falls in
    work_some (meanings c.args.cells.now) c.args.pending.now.items c.args.pair (value_in (meanings c.args.cells.now) c.word-left.result) (work_front c.args.cells.now c.args.pair c.word-left.result c.requires.founded c.word-left.ensures.word s.ends.some)

pub returns-in-Equal-clause-compares : goal.returns-in-Equal-clause-compares
returns-in-Equal-clause-compares c =
    let s = stands_last (length c.args.cells.now) c.args.pending.now.items c.args.pair c.requires.falls in
    equal_front _ _ _ _ _ (first_front c.args.cells.now c.args.pair c.word-left.result c.word-right.result c.requires.founded c.word-left.ensures.word c.word-right.ensures.word s.ends.some) c.in-Equal.ensures.tells
    (ap (are_same_pairs (meanings c.args.cells.now)) c.defer.ensures.items ∙ deferred_pair (meanings c.args.cells.now) c.args.pending.now.items c.rest.result ∙ ap (λ q. are_same_pairs (meanings c.args.cells.now) c.args.pending.now.items && is_same_pair (meanings c.args.cells.now) q) c.rest.ensures)

pub returns-in-Equal-clause-falls : goal.returns-in-Equal-clause-falls
returns-in-Equal-clause-falls c =
    let s = stands_last (length c.args.cells.now) c.args.pending.now.items c.args.pair c.requires.falls in
    with_rest (length c.args.cells.now) c.args.pending.now.items c.defer.new.pending.items c.args.pair c.rest.result s c.rest.ensures c.defer.ensures.items

pub returns-in-Equal-clause-less : goal.returns-in-Equal-clause-less
returns-in-Equal-clause-less c =
    let s = stands_last (length c.args.cells.now) c.args.pending.now.items c.args.pair c.requires.falls in
    less_equal (meanings c.args.cells.now) c.args.pending.now.items c.defer.new.pending.items c.args.pair c.rest.result (value_in (meanings c.args.cells.now) c.word-left.result) c.rest.ensures c.defer.ensures.items (work_front c.args.cells.now c.args.pair c.word-left.result c.requires.founded c.word-left.ensures.word s.ends.some)

pub returns-in-Deeper-clause-compares : goal.returns-in-Deeper-clause-compares
returns-in-Deeper-clause-compares c =
    let s = stands_last (length c.args.cells.now) c.args.pending.now.items c.args.pair c.requires.falls in
    deeper_front _ _ _ _ _ (are_same_pairs (meanings c.args.cells.now) c.defer-in-Deeper.new.pending.items) _ (first_front c.args.cells.now c.args.pair c.word-left.result c.word-right.result c.requires.founded c.word-left.ensures.word c.word-right.ensures.word s.ends.some) c.in-Deeper.ensures.tells
    (ap (are_same_pairs (meanings c.args.cells.now)) c.defer-in-Deeper.ensures.items ∙ deferred_pair (meanings c.args.cells.now) c.args.pending.now.items c.rest-in-Deeper.result ∙ ap (λ q. are_same_pairs (meanings c.args.cells.now) c.args.pending.now.items && is_same_pair (meanings c.args.cells.now) q) c.rest-in-Deeper.ensures)
    (ap (are_same_pairs (meanings c.args.cells.now)) c.defer-in-Deeper-2.ensures.items ∙ deferred_pair (meanings c.args.cells.now) c.defer-in-Deeper.new.pending.items c.in-Deeper.inner)

pub returns-in-Deeper-clause-falls : goal.returns-in-Deeper-clause-falls
returns-in-Deeper-clause-falls c =
    let s = stands_last (length c.args.cells.now) c.args.pending.now.items c.args.pair c.requires.falls in
    with_inner (length c.args.cells.now) c.args.pending.now.items c.defer-in-Deeper.new.pending.items c.defer-in-Deeper-2.new.pending.items c.args.pair c.rest-in-Deeper.result c.in-Deeper.inner s c.rest-in-Deeper.ensures c.defer-in-Deeper.ensures.items
    (omega (arith, c.in-Deeper.ensures.deeper.0, within_end c.args.pair.left c.word-left.result c.word-left.ensures.within)) (c.in-Deeper.ensures.deeper.1) c.defer-in-Deeper-2.ensures.items

pub returns-in-Deeper-clause-less : goal.returns-in-Deeper-clause-less
returns-in-Deeper-clause-less c =
    let s = stands_last (length c.args.cells.now) c.args.pending.now.items c.args.pair c.requires.falls in
    less_deeper (meanings c.args.cells.now) c.args.pending.now.items c.defer-in-Deeper.new.pending.items c.defer-in-Deeper-2.new.pending.items c.args.pair c.rest-in-Deeper.result c.in-Deeper.inner (value_in (meanings c.args.cells.now) c.word-left.result) c.rest-in-Deeper.ensures c.defer-in-Deeper.ensures.items c.defer-in-Deeper-2.ensures.items (work_front c.args.cells.now c.args.pair c.word-left.result c.requires.founded c.word-left.ensures.word s.ends.some) (c.in-Deeper.ensures.deeper.2)
