use Rattle.std.proofs.Common.{◌≡◌, ℕ, length, subst, arith}
use Rattle.df_trig.specs.Endings.{AreEndings}
use Rattle.df_trig.proofs.Ending.{endings_begin}
use Rattle.df_trig.proofs.endings.endings.Goals as goal

pub loop-number-init : goal.loop-number-init
loop-number-init c = endings_begin c.args.nodes.now c.len.result c.in_ok-lists.lists c.in_ok-lists.ensures c.len.ensures.len

pub returns : goal.returns
returns c =
    let all : c.loop-number.number ≡ length c.args.nodes.now = omega arith in
    subst (λ (n : ℕ). AreEndings c.args.nodes.now n c.loop-number.lists) all c.loop-number.invariant
