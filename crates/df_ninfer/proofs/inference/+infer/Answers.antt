use Rattle.std.proofs.Common.{rules, ◌≡◌, map, ap, ◌∙◌}
use Rattle.std.specs.List.{flat_map}
use Rattle.df_ntree.specs.declared.file.Statement.{the_lemmas}
use Rattle.df_ntree.specs.Expr.{expr_of}
use Rattle.df_ntree.specs.File.{While, statement_of, statements_of, clause_of, block_of}
use Rattle.df_ntyping.specs.LocalTypes.{used_in_clause}
use Rattle.df_ninfer.specs.Marks.{marked, behind_block}
use Rattle.df_ninfer.proofs.InferredStatements.{inferred_all_behind, statements_go, block_has, block_done, while_done}
use Rattle.df_ninfer.proofs.inference.+infer.Goals as goal

pub infer-returns-in-While : goal.infer-returns-in-While
infer-returns-in-While t c =
    let guard = expr_of c.in-While.guard in
    let clauses = map clause_of c.in-While.clauses.items in
    let body = block_of c.in-While.body in
    let whole : statement_of c.args.statement.now ≡ While c.in-While.pos guard clauses body.pos body.statements = search (rules, the_lemmas) in
    let told : c.mark_clauses.new.env ≡ marked c.mark-in-While.new.env (flat_map used_in_clause clauses) = c.mark_clauses.ensures ∙ ap (λ all. marked c.mark-in-While.new.env (flat_map used_in_clause (map clause_of all))) c.deref-in-While.ensures.value in
    while_done c.infer_block-in-While.result c.args.env.now c.mark-in-While.new.env c.mark_clauses.new.env c.infer_block-in-While.new.env (statement_of c.args.statement.now) c.in-While.pos guard clauses body.pos body.statements whole c.mark-in-While.ensures told c.infer_block-in-While.ensures

pub infer_all-loop-statement-preserved : goal.infer_all-loop-statement-preserved
infer_all-loop-statement-preserved t c =
    statements_go c.deref-statement-items.result.now c.loop-statement.statement-index c.statement-item.result c.loop-statement.env c.infer.new.env (inferred_all_behind c.args.env.now (statements_of (map statement_of c.deref-statement-items.result.now))) c.loop-statement-test.true c.statement-item.is
    c.in_ok-infer.ensures c.loop-statement.invariant

pub infer_block-leave-requires : goal.infer_block-leave-requires
infer_block-leave-requires t c =
    block_has c.args.env.now c.enter-mark.new.self c.infer_all.new.env (statements_of (map statement_of c.args.block.now.statements.items)) c.enter-mark.result.outer c.enter-mark.ensures.scope c.enter-mark.ensures.mark c.in_ok-infer_all.ensures

pub infer_block-returns : goal.infer_block-returns
infer_block-returns t c =
    let s = statements_of (map statement_of c.args.block.now.statements.items) in
    let same : s ≡ (block_of c.args.block.now).statements = search (rules, the_lemmas) in
    block_done c.args.env.now c.enter-mark.new.self c.infer_all.new.env c.leave.new.self s c.enter-mark.result.outer c.enter-mark.ensures.scope c.enter-mark.ensures.mark c.in_ok-infer_all.ensures c.leave.ensures ∙ ap (behind_block c.args.env.now) same
