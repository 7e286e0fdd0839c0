use Rattle.std.proofs.Common.{map, rules, ap, ◌∙◌, sym}
use Rattle.std.specs.Option.{option_map}
use Rattle.df_types.specs.Expr.{exprs_of}
use Rattle.df_types.specs.ExprView.{expr_of}
use Rattle.df_types.specs.Gathering.{gather_all, of_elements}
use Rattle.df_types.specs.Calls.{called}
use Rattle.df_groups2.specs.Parts.{exprs_in, calls_in}
use Rattle.df_groups2.proofs.Gatherings.{all_calls, same_added}
use Rattle.df_groups2.proofs.statements.of_elements.Goals as goal

pub returns-in-Some : goal.returns-in-Some
returns-in-Some c =
    same_added c.of_exprs.result c.args.callees.now.items c.of_exprs.new.callees.items (gather_all called (exprs_in c.in-Some.elements.items)) (calls_in (of_elements (option_map (λ es. exprs_of (map expr_of es.items)) c.args.elements.now)))
    (ap (λ o. calls_in (of_elements (option_map (λ es. exprs_of (map expr_of es.items)) o))) c.in-Some.is ∙ sym (all_calls (exprs_in c.in-Some.elements.items))) (search rules)
