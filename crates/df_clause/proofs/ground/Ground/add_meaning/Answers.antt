use Rattle.std.proofs.Common.{◌≡◌, ℕ, map, length, sym, ap, ◌∙◌, arith}
use Rattle.std.specs.List.{range_with_len}
use Rattle.df_form.specs.Log.{Connective}
use Rattle.df_clause.specs.GroundSet.{with_lines}
use Rattle.df_clause.specs.GroundView.{set_of}
use Rattle.df_clause.specs.Lines.{lines_at}
use Rattle.df_clause.proofs.Growing.{line_more, meanings_row}
use Rattle.df_clause.proofs.ground.Ground.add_meaning.Goals as goal

pub loop-clause-preserved : goal.loop-clause-preserved
loop-clause-preserved c = λ s.
    line_more s (λ k. Connective c.args.number k) (set_of c.args.self.now) (set_of c.loop-clause.self) (set_of c.add_connective.new.self) c.loop-clause.clause (c.loop-clause.invariant s) (c.in_ok-add_connective.ensures s)

-- all of them were gone through
pub returns : goal.returns
returns c = λ s.
    let nodes = c.args.self.now.nodes in
    let n = c.args.number in
    let count : c.loop-clause.clause ≡ length (lines_at nodes n) = omega (arith, c.meaning_count-clause-end.ensures) in
    let lines = ap (λ (m : ℕ). map (λ k. Connective n k) (range_with_len 0 m)) count ∙ sym (meanings_row nodes n) in
    c.loop-clause.invariant s ∙ ap (with_lines s (set_of c.args.self.now)) lines
