use Rattle.std.proofs.Common.{◌≡◌, inl, sym, ap, ◌∙◌, true≢false}
use Rattle.df_base.specs.Fakes.{is_failing}
use Rattle.df_base.proofs.files.mem.MemFiles.look_up.Goals as goal

pub returns-then-contains-clause-failed : goal.returns-then-contains-clause-failed
returns-then-contains-clause-failed c = λ _.
    let e : is_failing c.self.inside.failing.items c.self.inside.calls ≡ is_failing c.args.self.now.failing c.args.self.now.calls = ap (λ s. is_failing s.failing s.calls) c.self.view_is in
    inl (sym e ∙ rw c.deref.ensures.value at (sym c.if-contains.ensures.value))

pub returns-in-Some-clause-planned : goal.returns-in-Some-clause-planned
returns-in-Some-clause-planned c = λ h.
    let e : is_failing c.self.inside.failing.items c.self.inside.calls ≡ is_failing c.args.self.now.failing c.args.self.now.calls = ap (λ s. is_failing s.failing s.calls) c.self.view_is in
    absurd (true≢false (sym h ∙ sym e ∙ rw c.deref.ensures.value at (sym c.if-contains.ensures.value)))
