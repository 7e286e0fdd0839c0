use Rattle.std.proofs.Common.{◌≡◌, ◌++◌, take}
use Rattle.df_form.proofs.draft.Draft.stack_all.Given as goal

abbrev pub invariant-loop-term : goal.invariant-loop-term
invariant-loop-term l = record {
  stack : l.self.stack.items ≡ l.initial.self.stack.items ++ take l.term-index l.more;
  nodes : l.self.nodes ≡ l.initial.self.nodes;
  hypotheses : l.self.hypotheses.items ≡ l.initial.self.hypotheses.items;
  world : l.self.world ≡ l.initial.self.world;
}
