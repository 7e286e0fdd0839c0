use Rattle.std.proofs.Common.{arith}
use Rattle.df_vm_store.specs.Meaning.{meanings}
use Rattle.df_vm_store.proofs.Same.{pieces_differ, piece_self}
use Rattle.df_vm_store.proofs.equal.pieces.Goals as goal

pub returns-then-count-other-clause-tells : goal.returns-then-count-other-clause-tells
returns-then-count-other-clause-tells c = pieces_differ c.args.cells.now c.args.left c.args.count c.args.right c.args.other c.requires.left c.requires.right (λ e. omega (arith, e))

pub returns-then-left-right-clause-tells : goal.returns-then-left-right-clause-tells
returns-then-left-right-clause-tells c = piece_self (meanings c.args.cells.now) c.args.left c.args.right c.args.count c.args.other (omega arith) (omega arith)
