use Rattle.std.proofs.Common.{◌≡◌, map, drop}
use Rattle.std.specs.List.{AllByRecursion}
use Rattle.df_lang.specs.DeclView.{decl_of}
use Rattle.df_ntree.specs.File.{declaration_of}
use Rattle.df_ntyping.specs.Laws.{IsDeclaredByText}
use Rattle.df_ntstmt.specs.mirror.Steps.{in_front}
use Rattle.df_ntdecl.specs.mirror.Declarations.{declarations_in}
use Rattle.df_ntdecl.proofs.files.declarations.Given as goal

-- the declarations so far, in front of those that are left, are all
abbrev pub invariant-loop-each : goal.invariant-loop-each
invariant-loop-each l =
    (AllByRecursion (IsDeclaredByText l.names) (map declaration_of (drop l.each-index l.all)))
    × (in_front (map decl_of l.decls.items) (declarations_in l.names l.table (map declaration_of (drop l.each-index l.all))) ≡ declarations_in l.names l.table (map declaration_of l.all))
