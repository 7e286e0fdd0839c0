use Rattle.std.proofs.lemmas.Result.{err_from_is_err_and, IfOk-weaker}
use Rattle.df_ntree.specs.File.{file_of}
use Rattle.df_nfront.proofs.InRange.{read_in_range}
use Rattle.df_nfront.proofs.Named.{read_have}
use Rattle.df_nfront.proofs.Refusals.{rule_told, rules_told}
use Rattle.df_nfront.proofs.reading.elaborated.Goals as goal

pub table-requires : goal.table-requires
table-requires c = c.in_ok-file.ensures.read.spelled.0

pub elaborate-requires-clause-grammar : goal.elaborate-requires-clause-grammar
elaborate-requires-clause-grammar c = read_in_range c.args.source.now _ (file_of c.in_ok-file.file) c.in_ok-file.ensures.read

pub elaborate-requires-clause-texts : goal.elaborate-requires-clause-texts
elaborate-requires-clause-texts c = read_have _ c.args.source.now (file_of c.in_ok-file.file) c.in_ok-file.ensures.read

pub returns-in_err-file-clause-refused : goal.returns-in_err-file-clause-refused
returns-in_err-file-clause-refused c =
    let p = err_from_is_err_and c.from_residual.result c.from_residual.ensures.1 in
    rw (p.1, p.2) c.in_err-file.ensures.refused

pub returns-in_err-table-clause-refused : goal.returns-in_err-table-clause-refused
returns-in_err-table-clause-refused c =
    let p = err_from_is_err_and c.from_residual-in_err-table.result c.from_residual-in_err-table.ensures.1 in
    rw (p.1, p.2) (rule_told c.args.source.now _ 0 (file_of c.in_ok-file.file) c.in_err-table.field-0.0 c.in_ok-file.ensures.read c.in_err-table.ensures.refused)

pub returns-clause-elaborated : goal.returns-clause-elaborated
returns-clause-elaborated c = IfOk-weaker c.elaborate.result _ _ (λ program h. record {
  file = file_of c.in_ok-file.file;
  read = c.in_ok-file.ensures.read;
  elaborates = h;
}) c.elaborate.ensures.elaborated

pub returns-clause-refused : goal.returns-clause-refused
returns-clause-refused c = rules_told c.args.source.now _ 1 (file_of c.in_ok-file.file) c.elaborate.result c.in_ok-file.ensures.read c.elaborate.ensures.refused
