use Rattle.std.proofs.Common.{ℕ, ◌+◌, ◌≡◌, ap, ◌∙◌, arith}
use Rattle.df_clause.specs.GroundSet.{with_meaning}
use Rattle.df_clause.specs.GroundView.{set_of}
use Rattle.df_clause.proofs.Growing.{meaning_more}
use Rattle.df_clause.proofs.ground.Ground.add_meanings.Goals as goal

pub loop-number-preserved : goal.loop-number-preserved
loop-number-preserved c = λ s.
    let n = c.loop-number.number in
    let e : n ≡ 0 + n = omega arith in
    meaning_more s (set_of c.args.self.now) (set_of c.loop-number.self) (set_of c.add_meaning.new.self) 0 n (c.loop-number.invariant s) (c.in_ok-add_meaning.ensures s ∙ ap (λ (k : ℕ). with_meaning s (set_of c.loop-number.self) k) e)
