use Rattle.std.proofs.Common.{◌≡◌, ◌<◌, ◌+◌, ◌-◌, List, length, slice_get, ap, arith, ◌∙◌}
use Rattle.df_nmach.specs.declared.value.Value.{Value}
use Rattle.df_nvm.proofs.Values.{top_is}
use Rattle.df_nvm.proofs.stack.Stack.top.Goals as goal

pub returns-clause-some : goal.returns-clause-some
returns-clause-some c =
    let s = c.args.self.now in
    top_is (s.base + s.locals) s.values.items c.last.result (omega (arith, s.stands)) (c.last.ensures.value ∙ ap (λ (l : List Value). slice_get l (length l - 1)) c.deref.ensures.value)
