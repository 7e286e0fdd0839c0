use Rattle.df_ntree.specs.File.{method_of}
use Rattle.df_ntdecl.proofs.Declaring.{both_made}
use Rattle.df_ntdecl.proofs.methods.over_both.Goals as goal

pub returns : goal.returns
returns c = both_made c.args.table.now (method_of c.args.tree.now) c.in_ok-env.env c.declare_results.new.env c.results_of.result.now c.in_ok-env.ensures c.results_of.ensures c.in_ok-declare_results.ensures
