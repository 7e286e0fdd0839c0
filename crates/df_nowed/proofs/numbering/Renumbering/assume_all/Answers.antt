use Rattle.df_nowed.proofs.Words.{◌++◌, ◌∷◌, [], ℕ, sym, ap, ◌∙◌, subst, trees_at}
use Rattle.df_nowed.specs.Counts.{AreCounts}
use Rattle.df_nowed.proofs.Fronts.{no_counts, assumed_front, counts_grow, one_taken, one_dropped}
use Rattle.df_nowed.proofs.numbering.Renumbering.assume_all.Goals as goal

pub loop-formula-init : goal.loop-formula-init
loop-formula-init c = record {
  terms = c.requires.terms;
  stack = c.requires.stack;
  hypotheses = ap (trees_at c.args.self.now.draft.nodes) c.requires.hypotheses;
  counts = no_counts c.args.self.now.draft.nodes c.args.self.now.draft.hypotheses.items c.in_ok-counts.counts.items c.args.self.now.draft.table c.requires.hypotheses c.in_ok-counts.ensures.items;
  left = c.requires.formulas;
}

pub loop-formula-preserved : goal.loop-formula-preserved
loop-formula-preserved c =
    let now = c.assume.new.self.draft in
    let so_far = c.loop-formula.invariant in
    record {
      terms = c.in_ok-assume.ensures.terms;
      stack = c.in_ok-assume.ensures.stack;
      hypotheses = one_taken c.args.table.now c.args.formulas.now c.loop-formula.formula-index _ _ c.loop-formula-test.true so_far.hypotheses c.in_ok-assume.ensures.hypotheses;
      counts =
          let front = assumed_front now.nodes now.hypotheses.items now.stack.items c.in_ok-assume.ensures.stack now.formulas now.walked in
          let grown = counts_grow c.loop-formula.self.draft.nodes now.nodes c.loop-formula.self.draft.hypotheses.items now.hypotheses.items c.loop-formula.counts.items c.in_ok-assume.ensures.one.0 c.in_ok-assume.ensures.grows now.table c.in_ok-assume.ensures.one.1 so_far.counts front in
          subst (AreCounts now.nodes now.hypotheses.items) (ap (λ (n : ℕ). c.loop-formula.counts.items ++ n ∷ []) (sym c.len.ensures.len) ∙ sym c.in_ok-push.ensures.items) grown;
      left = one_dropped c.args.table.now c.args.formulas.now c.loop-formula.formula-index c.loop-formula-test.true so_far.left;
    }
