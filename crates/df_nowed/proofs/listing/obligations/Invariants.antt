use Rattle.df_nowed.proofs.Words.{◌≡◌, ◌++◌, map, drop, flat_map, obligations_from, groups_from, obligations_in, grouped_in}
use Rattle.df_lang.specs.DeclView.{decl_of}
use Rattle.df_lang.specs.View.{program_of}
use Rattle.df_nowed.proofs.listing.obligations.Given as goal

-- the obligations so far, in front of those of what is left, are those of all
abbrev pub invariant-loop-number : goal.invariant-loop-number
invariant-loop-number l = record {
  owed : flat_map obligations_in l.methods.items ++ obligations_from (program_of l.program) l.groups l.number (map decl_of (drop l.number l.program.decls.items)) ≡ obligations_from (program_of l.program) l.groups 0 (map decl_of l.program.decls.items);
  methods : map grouped_in l.methods.items ++ groups_from (program_of l.program) l.groups l.number (map decl_of (drop l.number l.program.decls.items)) ≡ groups_from (program_of l.program) l.groups 0 (map decl_of l.program.decls.items);
}
