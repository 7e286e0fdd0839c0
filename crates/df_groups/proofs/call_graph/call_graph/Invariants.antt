use Rattle.std.proofs.Common.{◌≡◌, map, take}
use Rattle.df_lang.specs.DeclView.{decl_of}
use Rattle.df_groups.specs.Calls.{callees_in}
use Rattle.df_groups.proofs.call_graph.call_graph.Given as goal

abbrev pub invariant-loop-decl : goal.invariant-loop-decl
invariant-loop-decl l = map (λ targets. targets.items) l.targets.items ≡ map callees_in (map decl_of (take l.decl-index l.decl-items))
