use Rattle.std.proofs.Common.{◌≡◌, ◌≤◌, ◌+◌, drop, map, length}
use Rattle.df_lang.specs.DeclView.{decl_of}
use Rattle.df_nerase.specs.Erasing.{methods_among}
use Rattle.df_nback.proofs.numbering.count.Given as goal

-- the methods so far, and those that are left, are all
abbrev pub invariant-loop-decl : goal.invariant-loop-decl
invariant-loop-decl l = record {
  all : l.all + length (methods_among (map decl_of (drop l.decl-index l.decls))) ≡ length (methods_among (map decl_of l.decls));
  few : l.all ≤ l.decl-index;
}
