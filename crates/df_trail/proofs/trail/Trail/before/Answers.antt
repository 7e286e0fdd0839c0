use Rattle.std.proofs.Common.{ℕ, ◌-◌, take, ap, ◌∙◌}
use Rattle.df_trail.proofs.Lasts.{told_before}
use Rattle.df_trail.proofs.trail.Trail.before.Goals as goal

pub returns-then-not-is_fresh : goal.returns-then-not-is_fresh
returns-then-not-is_fresh c = c.if-not-is_fresh.ensures

pub returns : goal.returns
returns c =
    let all = c.in_ok-before.before in
    told_before c.args.self.now c.if-not-is_fresh.ensures all c.pop-last.new.self c.in_ok-before.ensures (c.pop-last.ensures.rest ∙ ap (λ (n : ℕ). take (n - 1) all.items) all.ok.0)
