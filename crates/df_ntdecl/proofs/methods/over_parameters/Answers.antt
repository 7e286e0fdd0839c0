use Rattle.df_ntree.specs.File.{method_of}
use Rattle.df_ntdecl.proofs.Declaring.{parameters_made}
use Rattle.df_ntdecl.proofs.methods.over_parameters.Goals as goal

pub returns : goal.returns
returns c = parameters_made c.args.table.now (method_of c.args.tree.now) c.new-env.result c.declare_all.new.env c.deref.result.now c.new-env.ensures c.deref.ensures.value c.in_ok-declare_all.ensures
