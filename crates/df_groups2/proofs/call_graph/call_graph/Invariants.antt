use Rattle.std.proofs.Common.{◌≡◌, map, take}
use Rattle.df_types.specs.DeclView.{decl_of}
use Rattle.df_types.specs.Calls.{callees}
use Rattle.df_groups2.proofs.call_graph.call_graph.Given as goal

abbrev pub invariant-loop-decl : goal.invariant-loop-decl
invariant-loop-decl l = map (λ targets. targets.items) l.targets.items ≡ map callees (map decl_of (take l.decl-index l.decl-items))
