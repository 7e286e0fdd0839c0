use Rattle.std.proofs.Common.{◌≡◌, [], ◌∷◌, ◌++◌, map, rules, ap, ◌∙◌}
use Rattle.df_types.specs.declared.expr.Expr.TheFolds as folds
use Rattle.df_types.specs.declared.expr.Expr.TheViews as views
use Rattle.df_types.specs.Ty.{tys_of}
use Rattle.df_types.specs.TyView.{ty_of}
use Rattle.df_types.specs.Expr.{Junction, Chain, If, Let, Call}
use Rattle.df_types.specs.ExprView.{folded, binder_of, expr_of, extent_of}
use Rattle.df_types.specs.Gathering.{gather, gather_all, gather_links, gather_arms, gather_extent}
use Rattle.df_types.specs.Calls.{called}
use Rattle.df_groups2.specs.Parts.{operand_of, exprs_in, links_in, arms_in, operand_values, calls_in}
use Rattle.df_groups2.proofs.Gatherings.{folded_calls, both_added}
use Rattle.df_groups2.proofs.expressions.+expressions.Goals as goal

pub of_expr-returns-in_ok-of_expr-in-Fold : goal.of_expr-returns-in_ok-of_expr-in-Fold
of_expr-returns-in_ok-of_expr-in-Fold t c =
    let is : expr_of c.args.expr.now ≡ folded (expr_of c.in-Fold.first.value) (map operand_of c.in-Fold.rest.items) = search (rules, folds.the_lemmas, views.the_lemmas) in
    both_added c.of_operands.result c.args.callees.now.items c.of_expr.new.callees.items c.of_operands.new.callees.items (gather called (expr_of c.in-Fold.first.value)) (calls_in (operand_values c.in-Fold.rest.items)) (gather called (expr_of c.args.expr.now))
    (ap (gather called) is ∙ folded_calls (expr_of c.in-Fold.first.value) (map operand_of c.in-Fold.rest.items)) (search rules) (search rules)

pub of_expr-returns-in_ok-of_expr-in-Junction : goal.of_expr-returns-in_ok-of_expr-in-Junction
of_expr-returns-in_ok-of_expr-in-Junction t c =
    let is : expr_of c.args.expr.now ≡ Junction c.in-Junction.connective (expr_of c.in-Junction.first.value) (exprs_in c.in-Junction.rest.items) = search (rules, folds.the_lemmas, views.the_lemmas) in
    both_added c.of_exprs-in-Junction.result c.args.callees.now.items c.of_expr-in-Junction.new.callees.items c.of_exprs-in-Junction.new.callees.items (gather called (expr_of c.in-Junction.first.value)) (gather_all called (exprs_in c.in-Junction.rest.items))
    (gather called (expr_of c.args.expr.now)) (ap (gather called) is) (search rules) (search rules)

pub of_expr-returns-in_ok-of_expr-in-Chain : goal.of_expr-returns-in_ok-of_expr-in-Chain
of_expr-returns-in_ok-of_expr-in-Chain t c =
    let is : expr_of c.args.expr.now ≡ Chain (ty_of c.in-Chain.ty) (expr_of c.in-Chain.first.value) (links_in c.in-Chain.rest.items) = search (rules, folds.the_lemmas, views.the_lemmas) in
    both_added c.of_links.result c.args.callees.now.items c.of_expr-in-Chain.new.callees.items c.of_links.new.callees.items (gather called (expr_of c.in-Chain.first.value)) (gather_links called (links_in c.in-Chain.rest.items))
    (gather called (expr_of c.args.expr.now)) (ap (gather called) is) (search rules) (search rules)

pub of_expr-returns-in_ok-of_arms-in-If : goal.of_expr-returns-in_ok-of_arms-in-If
of_expr-returns-in_ok-of_arms-in-If t c =
    let is : expr_of c.args.expr.now ≡ If (ty_of c.in-If.ty) (arms_in c.in-If.arms.items) (expr_of c.in-If.otherwise.value) = search (rules, folds.the_lemmas, views.the_lemmas) in
    both_added c.of_expr-in-If.result c.args.callees.now.items c.of_arms.new.callees.items c.of_expr-in-If.new.callees.items (gather_arms called (arms_in c.in-If.arms.items)) (gather called (expr_of c.in-If.otherwise.value))
    (gather called (expr_of c.args.expr.now)) (ap (gather called) is) (search rules) (search rules)

pub of_expr-returns-in_ok-of_expr-in-Let : goal.of_expr-returns-in_ok-of_expr-in-Let
of_expr-returns-in_ok-of_expr-in-Let t c =
    let is : expr_of c.args.expr.now ≡ Let (binder_of c.in-Let.variable) c.in-Let.is_ghost (expr_of c.in-Let.value.value) (expr_of c.in-Let.body.value) = search (rules, folds.the_lemmas, views.the_lemmas) in
    both_added c.of_expr-in-Let-2.result c.args.callees.now.items c.of_expr-in-Let.new.callees.items c.of_expr-in-Let-2.new.callees.items (gather called (expr_of c.in-Let.value.value)) (gather called (expr_of c.in-Let.body.value))
    (gather called (expr_of c.args.expr.now)) (ap (gather called) is) (search rules) (search rules)

pub of_expr-returns-in_ok-push-in-Call : goal.of_expr-returns-in_ok-push-in-Call
of_expr-returns-in_ok-push-in-Call t c =
    let is : expr_of c.args.expr.now ≡ Call c.in-Call.callee (tys_of (map ty_of c.in-Call.types.items)) c.in-Call.pos (exprs_in c.in-Call.arguments.items) = search (rules, folds.the_lemmas, views.the_lemmas) in
    both_added c.of_exprs-in-Call.result c.args.callees.now.items c.push.new.self.items c.of_exprs-in-Call.new.callees.items (c.in-Call.callee ∷ []) (gather_all called (exprs_in c.in-Call.arguments.items))
    (gather called (expr_of c.args.expr.now)) (ap (gather called) is) (search rules) (search rules)

pub of_expr-returns-in_ok-of_extent-in-Quantify : goal.of_expr-returns-in_ok-of_extent-in-Quantify
of_expr-returns-in_ok-of_extent-in-Quantify t c =
    let is : gather called (expr_of c.args.expr.now) ≡ gather_extent called (extent_of c.in-Quantify.extent) ++ gather called (expr_of c.in-Quantify.body.value) = search (rules, folds.the_lemmas, views.the_lemmas) in
    both_added c.of_expr-in-Quantify.result c.args.callees.now.items c.of_extent.new.callees.items c.of_expr-in-Quantify.new.callees.items (gather_extent called (extent_of c.in-Quantify.extent)) (gather called (expr_of c.in-Quantify.body.value))
    (gather called (expr_of c.args.expr.now)) is (search rules) (search rules)
