use Rattle.std.proofs.Common.{◌≡◌, map, take}
use Rattle.df_lang.specs.DeclView.{decl_of}
use Rattle.df_logtext.specs.View.{names_of}
use Rattle.df_nproof.specs.Names.{name_in}
use Rattle.df_nproof.proofs.naming.names.Given as goal

abbrev pub invariant-loop-decl : goal.invariant-loop-decl
invariant-loop-decl l = names_of l.names.items ≡ map name_in (map decl_of (take l.decl-index l.decl-items))
