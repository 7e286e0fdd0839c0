-- Results as they are declared, one after another: what private contracts cite.
use Rattle.std.specs.Prelude.{List, [], ◌∷◌}
use Rattle.df_ntree.specs.declared.file.Parameter.{Parameter}
use Rattle.df_ntyping.specs.Environment.{Environment}
use Rattle.df_nenv.specs.Environments.{with_result}

abbrev pub declare_results : Environment → List Parameter → Environment
declare_results env [] = env
declare_results env (result ∷ others) = declare_results (with_result env result.name.name) others
