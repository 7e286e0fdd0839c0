use Rattle.std.proofs.Common.{◌++◌, ap, ◌∙◌, append-nil, arith}
use Rattle.df_form.proofs.Offsets.{none_behind}
use Rattle.df_form.proofs.Pushing.{no_own_table, no_own_length}
use Rattle.df_form.proofs.over.Over.with_front.Goals as goal

pub invariant_of-result : goal.invariant_of-result
invariant_of-result c =
    let front = c.args.front in
    (no_own_table front c.new.result c.new.ensures c.len-len.ensures.table, omega (arith, no_own_length front c.new.result c.new.ensures, c.len-len.ensures.len, c.len-len.ensures.small), none_behind front c.new.result c.new-2.result.items c.new.ensures c.new-2.ensures.items)

pub returns : goal.returns
returns c = ap (λ own. c.args.front ++ own) c.new.ensures ∙ append-nil c.args.front
