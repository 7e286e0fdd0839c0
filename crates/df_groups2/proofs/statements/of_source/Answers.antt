use Rattle.std.proofs.Common.{rules, ap, ◌∙◌, sym}
use Rattle.df_types.specs.StmtView.{source_of}
use Rattle.df_types.specs.Gathering.{gather_all, of_source}
use Rattle.df_types.specs.Calls.{called}
use Rattle.df_groups2.specs.Parts.{exprs_in, calls_in}
use Rattle.df_groups2.proofs.Gatherings.{all_calls, same_added}
use Rattle.df_groups2.proofs.statements.of_source.Goals as goal

pub returns-in-Results : goal.returns-in-Results
returns-in-Results c =
    same_added c.of_exprs.result c.args.callees.now.items c.of_exprs.new.callees.items (gather_all called (exprs_in c.in-Results.call.arguments.items)) (calls_in (of_source (source_of c.args.source.now)))
    (ap (λ s. calls_in (of_source (source_of s))) c.in-Results.is ∙ sym (all_calls (exprs_in c.in-Results.call.arguments.items))) (search rules)
