use Rattle.std.proofs.Common.{◌≤◌, ◌^◌, ◌+◌, drop, sym, ◌∙◌, subst}
use Rattle.std.proofs.lemmas.List.{at_drop_more}
use Rattle.df_tok.proofs.Values.{value_from, value_past}
use Rattle.df_tok.proofs.literal.digits_value.Goals as goal

pub returns-in_default : goal.returns-in_default
returns-in_default c =
    let e = at_drop_more (value_from c.args.base c.loop-d.value) c.args.digits.now c.loop-d.d-index 0 c.loop-d-test.true in
    let p = value_past c.args.base c.loop-d.value (2 ^ 127) _ (drop (c.loop-d.d-index + 1) c.args.digits.now) c.requires c.if-d-ne95.true c.in_default.ensures in
    let whole = sym e ∙ c.loop-d.invariant.0 in
    subst (λ n. 2 ^ 127 ≤ n) whole p
