use Rattle.std.proofs.Common.{◌≡◌, take, map}
use Rattle.std.specs.List.{filter_map}
use Rattle.df_lang.specs.DeclView.{decl_of}
use Rattle.df_nplain.specs.MethodView.{method_of}
use Rattle.df_nerase.specs.Eraser.{program_in}
use Rattle.df_nerase.proofs.Erased.{erase_decl}
use Rattle.df_nerase.proofs.eraser.Eraser.methods.Given as goal

abbrev pub invariant-loop-decl : goal.invariant-loop-decl
invariant-loop-decl l = map method_of l.erased.items ≡ filter_map (erase_decl (program_in l.self)) (map decl_of (take l.decl-index l.self.program.now.decls.items))
