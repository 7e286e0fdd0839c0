use Rattle.std.proofs.Common.{Bool, ◌&&◌, ◌==◌, length, sym, ap, ◌∙◌}
use Rattle.std.proofs.lemmas.Bool.Decides.{Decides-at}
use Rattle.std.proofs.lemmas.List.Folds.{list_all-map}
use Rattle.df_form.specs.Clause.{clause_truth}
use Rattle.df_clause.specs.GroundView.{literals_of, state_of}
use Rattle.df_table.specs.TableModel.{is_true}
use Rattle.df_table.specs.Testing.{is_congruent, are_exact, meets}
use Rattle.df_table.proofs.Deciding.{model-Decides}
use Rattle.df_table.proofs.model.is_model.Goals as goal

pub returns : goal.returns
returns c =
    let g = c.args.ground.now in
    let table = c.args.table.now in
    let same = list_all-map (clause_truth (is_true table)) literals_of g.clauses in
    Decides-at c.passes.result (meets (state_of g) table)
    (c.passes.ensures ∙ ap (λ (b : Bool). length table == length g.nodes && (is_congruent g.nodes table && (are_exact g.nodes table && b))) (sym same)) (model-Decides (state_of g) table)
