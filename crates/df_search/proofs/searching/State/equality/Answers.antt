use Rattle.std.proofs.Common.{◌<◌, ◌≤◌, length, arith}
use Rattle.df_search.proofs.Compared.{up_sorted, down_sorted, equal_sorted, new_equality, old_equality}
use Rattle.df_search.proofs.searching.State.equality.Goals as goal

pub operation-requires-clause-sorted : goal.operation-requires-clause-sorted
operation-requires-clause-sorted c = up_sorted c.args.self.now.derivation.nodes c.args.left c.args.right c.requires.left c.requires.right

pub operation-requires-2-clause-sorted : goal.operation-requires-2-clause-sorted
operation-requires-2-clause-sorted c = down_sorted c.args.self.now.derivation.nodes c.args.left c.args.right c.requires.left c.requires.right c.operation.new.derivation.nodes c.in_ok-up.up c.in_ok-up.ensures.made

pub operation-requires-3-clause-sorted : goal.operation-requires-3-clause-sorted
operation-requires-3-clause-sorted c = equal_sorted c.args.self.now.derivation.nodes c.args.left c.args.right c.requires.left c.requires.right c.operation.new.derivation.nodes c.in_ok-up.up c.in_ok-up.ensures.made c.operation-2.new.derivation.nodes c.in_ok-down.down c.in_ok-down.ensures.made

pub returns-in_ok-define-clause-makes : goal.returns-in_ok-define-clause-makes
returns-in_ok-define-clause-makes c = λ s rounds searches leaf.
    let longer : length c.operation-2.new.derivation.nodes < length c.operation-3.new.derivation.nodes = omega (arith, c.if-len-before.true, c.len-before.ensures.len, c.len.ensures.len) in
    new_equality s rounds c.args.self.now searches c.args.left c.args.right c.in_ok-up.up c.in_ok-down.down c.in_ok-equality.equality c.operation.new.derivation c.operation-2.new.derivation c.operation-3.new.derivation c.requires.left c.requires.right
    c.in_ok-up.ensures.made c.in_ok-up.ensures.runs c.in_ok-down.ensures.made c.in_ok-down.ensures.runs c.in_ok-equality.ensures.made c.in_ok-equality.ensures.runs leaf c.define.new.self longer c.in_ok-define.ensures.defines

pub returns-else-len-before-clause-makes : goal.returns-else-len-before-clause-makes
returns-else-len-before-clause-makes c = λ s rounds searches leaf.
    let no_longer : length c.operation-3.new.derivation.nodes ≤ length c.operation-2.new.derivation.nodes = omega (arith, c.if-len-before.false, c.len-before.ensures.len, c.len.ensures.len) in
    old_equality s rounds c.args.self.now searches c.args.left c.args.right c.in_ok-up.up c.in_ok-down.down c.in_ok-equality.equality c.operation.new.derivation c.operation-2.new.derivation c.operation-3.new.derivation c.requires.left c.requires.right
    c.in_ok-up.ensures.made c.in_ok-up.ensures.runs c.in_ok-down.ensures.made c.in_ok-down.ensures.runs c.in_ok-equality.ensures.made c.in_ok-equality.ensures.runs leaf no_longer
