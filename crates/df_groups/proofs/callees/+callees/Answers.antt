use Rattle.std.proofs.Common.{List, refl}
use Rattle.df_lang.specs.declared.stmt.Stmt as declared
use Rattle.df_lang.specs.StmtView.{stmt_of}
use Rattle.df_lang.specs.Groups.{callees, callees_of_all}
use Rattle.df_groups.specs.Parts.{stmts_in}
use Rattle.df_lemmas.proofs.Loops.{run_more}
use Rattle.df_groups.proofs.callees.+callees.Goals as goal

pub of_stmts-loop-stmt-preserved : goal.of_stmts-loop-stmt-preserved
of_stmts-loop-stmt-preserved t c =
    run_more (λ (l : List declared.Stmt). callees_of_all (stmts_in l)) (λ stmt. callees (stmt_of stmt)) (λ x xs. refl) c.deref-stmt-items.result.now c.loop-stmt.stmt-index
    c.stmt-item.result c.loop-stmt.callees.items c.of_stmt.new.callees.items _ c.loop-stmt-test.true c.stmt-item.is c.in_ok-of_stmt.ensures c.loop-stmt.invariant
