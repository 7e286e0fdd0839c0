use Rattle.std.proofs.Common.{◌≡◌, drop, map, None, fold}
use Rattle.df_lang.specs.DeclView.{decl_of}
use Rattle.df_nerase.specs.mirror.Finding.{found_of, find_in_decl}
use Rattle.df_nerase.proofs.native.first_broken.Given as goal

abbrev pub invariant-loop-declared : goal.invariant-loop-declared
invariant-loop-declared l = fold find_in_decl (found_of l.found) (map decl_of (drop l.declared-index l.program.decls.items)) ≡ fold find_in_decl None (map decl_of l.program.decls.items)
