use Rattle.std.proofs.Common.{Bool, sym, ap, ◌∙◌}
use Rattle.std.specs.List.{list_all}
use Rattle.std.proofs.lemmas.List.Folds.{list_all-map}
use Rattle.df_form.specs.Clause.{clause_truth}
use Rattle.df_clause.specs.GroundClause.{GroundClause, ground_of}
use Rattle.df_table.specs.TableModel.{is_true}
use Rattle.df_table.proofs.model.is_set_true.Goals as goal

pub returns : goal.returns
returns c =
    let test : GroundClause → Bool = λ clause. clause_truth (is_true c.args.table.now) clause.literals in
    c.are_true.ensures ∙ sym (list_all-map test ground_of c.as_slice.result.now) ∙ ap (list_all test) c.as_slice.ensures
