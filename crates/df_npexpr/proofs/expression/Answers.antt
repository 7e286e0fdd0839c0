use Rattle.std.proofs.Common.{map, length, sym, ap, ◌∙◌}
use Rattle.std.proofs.lemmas.List.{length-map}
use Rattle.std.proofs.lemmas.Result.{err_from_is_err_and}
use Rattle.df_tok.specs.Token.{view}
use Rattle.df_ntree.specs.Expr.{expr_of}
use Rattle.df_ntree.specs.mirror.ExprReading.{expression_at}
use Rattle.df_npexpr.specs.Rest.{rest_of}
use Rattle.df_npexpr.proofs.Parts.{front, is_none, whole, fits, no_expression}
use Rattle.df_npexpr.proofs.expression.Goals as goal
use Rattle.df_ntree.specs.ExprSpelling.{height_limit}

pub returns-in_err-tree-clause-refused : goal.returns-in_err-tree-clause-refused
returns-in_err-tree-clause-refused c = λ r e tree after x.
    let p = err_from_is_err_and c.from_residual.result c.from_residual.ensures.1 in
    let f = front c.args.tokens.now.all.items c.as_slice-all.result.now c.new-cursor.result.rest.now c.args.start c.as_slice-all.ensures.value c.new-cursor.ensures in
    let none = is_none c.from_residual.result p.0 c.in_err-tree.field-0.0 r (expression_at height_limit (rest_of c.new-cursor.result)) c.in_err-tree.ensures p.1 p.2 e in
    no_expression (map view c.args.tokens.now.all.items) (rest_of c.new-cursor.result) c.args.start f none tree after x

pub overflow_sub-result : goal.overflow_sub-result
overflow_sub-result c =
    let f = front c.args.tokens.now.all.items c.as_slice-all.result.now c.new-cursor.result.rest.now c.args.start c.as_slice-all.ensures.value c.new-cursor.ensures in
    fits (map view c.args.tokens.now.all.items) (rest_of c.new-cursor.result) (rest_of c.expression.new.self) c.args.start (length c.as_slice-all.result.now) c.len.result (expr_of c.in_ok-tree.tree) f c.in_ok-tree.ensures (ap length c.as_slice-all.ensures.value ∙ sym (length-map c.args.tokens.now.all.items view)) c.len.ensures

pub returns-clause-expression : goal.returns-clause-expression
returns-clause-expression c =
    let f = front c.args.tokens.now.all.items c.as_slice-all.result.now c.new-cursor.result.rest.now c.args.start c.as_slice-all.ensures.value c.new-cursor.ensures in
    whole (map view c.args.tokens.now.all.items) (rest_of c.new-cursor.result) (rest_of c.expression.new.self) c.args.start (length c.as_slice-all.result.now) c.len.result (expr_of c.in_ok-tree.tree) f c.in_ok-tree.ensures (ap length c.as_slice-all.ensures.value ∙ sym (length-map c.args.tokens.now.all.items view)) c.len.ensures
