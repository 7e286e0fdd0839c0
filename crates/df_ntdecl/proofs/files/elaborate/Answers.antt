use Rattle.std.proofs.Common.{map}
use Rattle.std.proofs.lemmas.Result.{err_from_is_err_and}
use Rattle.df_lang.specs.DeclView.{decl_of, program_with}
use Rattle.df_ntree.specs.File.{file_of}
use Rattle.df_ntyping.proofs.ProgramWellTyped.{elaborated_is_well_typed}
use Rattle.df_ntdecl.proofs.FilesTold.{made_elaborates}
use Rattle.df_ntdecl.proofs.Elaborating.{stopped}
use Rattle.df_ntdecl.proofs.files.elaborate.Goals as goal

pub new-requires : goal.new-requires
new-requires c =
    let all = c.in_ok-decls.decls in
    let made = rw c.deref.ensures.value at c.in_ok-decls.ensures in
    elaborated_is_well_typed c.args.names.now (file_of c.args.file.now) (program_with all.items) c.requires.grammar.1
    (made_elaborates c.args.names.now (file_of c.args.file.now) c.args.table.now (map decl_of all.items) c.requires.grammar c.requires.table c.requires.named c.requires.texts made)

pub returns-clause-elaborated : goal.returns-clause-elaborated
returns-clause-elaborated c =
    let made = rw c.deref.ensures.value at c.in_ok-decls.ensures in
    made_elaborates c.args.names.now (file_of c.args.file.now) c.args.table.now (map decl_of c.new.result.decls.items) c.requires.grammar c.requires.table c.requires.named c.requires.texts
    (rw c.new.ensures made)

pub returns-in_err-decls-clause-refused : goal.returns-in_err-decls-clause-refused
returns-in_err-decls-clause-refused c =
    let told = rw c.deref.ensures.value at c.in_err-decls.ensures in
    let p = err_from_is_err_and c.from_residual.result c.from_residual.ensures.1 in
    rw (p.1, p.2) (stopped c.args.names.now (file_of c.args.file.now) c.args.table.now c.in_err-decls.field-0.0 c.requires.grammar c.requires.table c.requires.named c.requires.texts told)
