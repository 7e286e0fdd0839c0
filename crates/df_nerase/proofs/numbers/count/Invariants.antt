use Rattle.std.proofs.Common.{◌≡◌, ◌≤◌, ◌+◌, ◌++◌, drop, map, length}
use Rattle.df_lang.specs.DeclView.{decl_of}
use Rattle.df_nerase.specs.Erasing.{methods_among}
use Rattle.df_nerase.specs.mirror.Numbers.{numbers_from}
use Rattle.df_nerase.proofs.numbers.count.Given as goal

abbrev pub invariant-loop-decl : goal.invariant-loop-decl
invariant-loop-decl l = record {
  before : l.before.items ++ numbers_from l.all (map decl_of (drop l.decl-index l.program.decls.items)) ≡ numbers_from 0 (map decl_of l.program.decls.items);
  all : l.all + length (methods_among (map decl_of (drop l.decl-index l.program.decls.items))) ≡ length (methods_among (map decl_of l.program.decls.items));
  few : l.all ≤ l.decl-index;
}
