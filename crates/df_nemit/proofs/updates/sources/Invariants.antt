use Rattle.std.proofs.Common.{◌≡◌, ◌≤◌, length, drop, map}
use Rattle.df_nplain.specs.StmtView.{source_of}
use Rattle.df_nemit.specs.mirror.Emitting as mirror
use Rattle.df_nemit.proofs.updates.sources.Given as goal

abbrev pub invariant-loop-one : goal.invariant-loop-one
invariant-loop-one l = record {
  longer : length l.fn.code.items ≤ length l.code.items;
  rest : mirror.emit_sources l.scratch l.code.items (map source_of (drop l.one-index l.all.items)) ≡ mirror.emit_sources l.scratch l.fn.code.items (map source_of l.all.items);
}
