use Rattle.std.proofs.Common.{List, ℕ, ◌-◌, take, length, ap, ◌∙◌}
use Rattle.df_trail.specs.declared.decision.Decision.{Decision}
use Rattle.df_trail.proofs.Lasts.{front_where}
use Rattle.df_trail.proofs.trail.Trail.take_back.Goals as goal

pub returns-clause-kept : goal.returns-clause-kept
returns-clause-kept c = λ kept last is.
    let all = c.args.self.now.decisions in
    front_where all.items c.pop-last.new.self.items kept last (c.pop-last.ensures.rest ∙ ap (λ (n : ℕ). take (n - 1) all.items) all.ok.0) is

pub returns-clause-none : goal.returns-clause-none
returns-clause-none c = λ empty.
    let all = c.args.self.now.decisions in
    c.pop-last.ensures.rest ∙ ap (λ (n : ℕ). take (n - 1) all.items) all.ok.0 ∙ ap (λ (l : List Decision). take (length l - 1) l) empty
