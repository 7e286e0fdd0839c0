use Rattle.df_nback.proofs.Names.{named_by_number}
use Rattle.df_nback.proofs.law.methods_by_number_have_names.Goals as goal

pub returns : goal.returns
returns c program named = named_by_number program.decls named
