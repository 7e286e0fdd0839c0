use Rattle.std.proofs.Common.{◌≤◌, length, sym, ◌∙◌, arith}
use Rattle.df_types.specs.TyView.{ty_of}
use Rattle.df_types.proofs.Lists.{unequal, both_done}
use Rattle.df_types.proofs.ty.+same.Goals as goal

pub are_same-returns-then-len : goal.are_same-returns-then-len
are_same-returns-then-len t c = unequal ty_of c.args.types.now.items c.args.others.now.items (λ e. c.if-len.true (omega (arith, e, c.len.ensures, c.len-2.ensures, c.args.types.now.ok.0, c.args.others.now.ok.0)))

pub are_same-returns : goal.are_same-returns
are_same-returns t c =
    let h : length c.args.types.now.items ≤ c.loop-i.i = omega (arith, c.loop-i-test.false, c.deref-first-items.ensures.len, c.args.types.now.ok.0) in
    let k : length c.args.others.now.items ≤ c.loop-i.i = omega (arith, h, c.if-len.false, c.len.ensures, c.len-2.ensures, c.args.types.now.ok.0, c.args.others.now.ok.0) in
    sym (both_done ty_of c.args.types.now.items c.args.others.now.items c.loop-i.i h k) ∙ c.loop-i.invariant
