use Rattle.std.proofs.Common.{ℕ, List, length, get_or, Some, ap, ◌∙◌, sym, arith}
use Rattle.std.proofs.lemmas.Option.{slice_get-get_or}
use Rattle.df_form.specs.Log.{Hypothesis}
use Rattle.df_form.specs.SequentView.{sequent_of}
use Rattle.df_clause.specs.GroundSet.{hypothesis_lines}
use Rattle.df_clause.specs.GroundView.{set_of}
use Rattle.df_clause.proofs.Growing.{goes_on, is_all, hypothesis_line, hypotheses_long}
use Rattle.df_clause.proofs.ground.Ground.add_hypotheses.Goals as goal

-- the hypothesis of this number is the one that the loop reads
pub loop-number-preserved : goal.loop-number-preserved
loop-number-preserved c =
    let s = sequent_of c.args.sequent.now in
    let n = c.loop-number.number in
    let read = c.as_slice-hypothesis-items.ensures in
    let count = ap (λ (items : List ℕ). length items) read in
    let there = slice_get-get_or s.hypotheses n 0 (omega (arith, count)) ∙ ap (λ (items : List ℕ). Some (get_or items n 0)) (sym read) in
    goes_on s (set_of c.args.self.now) (hypothesis_lines s) n (Hypothesis n) (set_of c.loop-number.self) (set_of c.add_hypothesis.new.self) (hypothesis_line s n (omega (arith, count))) c.loop-number.invariant (c.in_ok-add_hypothesis.ensures s there)

-- all of them were gone through
pub returns : goal.returns
returns c =
    let s = sequent_of c.args.sequent.now in
    let long = hypotheses_long s in
    let count = ap (λ (items : List ℕ). length items) c.as_slice-hypothesis-items.ensures in
    is_all s (set_of c.args.self.now) (hypothesis_lines s) c.loop-number.number (set_of c.loop-number.self) (omega (arith, long, count)) c.loop-number.invariant
