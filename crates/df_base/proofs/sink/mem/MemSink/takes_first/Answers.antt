use Rattle.std.proofs.Common.{◌≡◌, sym, ap, ◌∙◌}
use Rattle.df_base.proofs.FakesLemmas.{takes_first-here, takes_first-later}
use Rattle.df_base.proofs.sink.mem.MemSink.takes_first.Goals as goal

pub returns-then-planned-self : goal.returns-then-planned-self
returns-then-planned-self c =
    let e : c.self.inside.calls ≡ c.args.self.now.calls = ap (λ s. s.calls) c.self.view_is in
    let here = takes_first-here c.deref-planned-items.result.now c.loop-planned.planned-index c.args.self.now.calls (record { call = 0; takes = 0 }) c.loop-planned-test.true (c.if-planned-self.true ∙ e) in
    sym here ∙ c.loop-planned.invariant

pub loop-planned-preserved : goal.loop-planned-preserved
loop-planned-preserved c =
    let e : c.self.inside.calls ≡ c.args.self.now.calls = ap (λ s. s.calls) c.self.view_is in
    let later = takes_first-later c.deref-planned-items.result.now c.loop-planned.planned-index c.args.self.now.calls (record { call = 0; takes = 0 }) c.loop-planned-test.true (λ h. c.if-planned-self.false (h ∙ sym e)) in
    later ∙ c.loop-planned.invariant
