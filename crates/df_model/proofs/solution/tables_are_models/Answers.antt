use Rattle.df_clause.proofs.Running.{grown_from}
use Rattle.df_model.proofs.TableModels.{table_is_model}
use Rattle.df_model.proofs.solution.tables_are_models.Goals as goal

pub returns : goal.returns
returns c = λ s g nodes known numbers table labels valid is begins filled solution whole agree. table_is_model s g is nodes (grown_from g.nodes nodes begins) known filled numbers labels solution table whole agree
