use Rattle.std.proofs.Common.{◌≡◌, ◌≤◌, length, drop, map}
use Rattle.df_nplain.specs.ExprView.{expr_of}
use Rattle.df_nemit.specs.mirror.Emitting as mirror
use Rattle.df_nemit.proofs.updates.exprs.Given as goal

abbrev pub invariant-loop-value : goal.invariant-loop-value
invariant-loop-value l = record {
  longer : length l.fn.code.items ≤ length l.code.items;
  rest : mirror.emit_exprs l.scratch l.code.items (map expr_of (drop l.value-index l.all.items)) ≡ mirror.emit_exprs l.scratch l.fn.code.items (map expr_of l.all.items);
}
