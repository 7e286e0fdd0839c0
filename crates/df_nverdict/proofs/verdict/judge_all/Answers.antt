use Rattle.std.proofs.Common.{List, map, subst}
use Rattle.df_lang.specs.DeclView.{decl_of}
use Rattle.df_lang.specs.declared.decl.Decl.{Decl}
use Rattle.df_lang.specs.View.{program_of}
use Rattle.df_nverdict.specs.Verdict.{AreJudged}
use Rattle.df_nverdict.specs.View.{outcomes_in, proofs_in}
use Rattle.df_nverdict.proofs.Methods.{decls_more, decls_all}
use Rattle.df_nverdict.proofs.verdict.judge_all.Goals as goal

pub loop-number-preserved : goal.loop-number-preserved
loop-number-preserved c =
    decls_more (program_of c.args.program.now) c.args.groups.now c.args.budget c.deref-decl-items.result.now c.loop-number.number c.decl-item.result
    (outcomes_in c.loop-number.judged) (outcomes_in c.judge_declaration.new.judged) (proofs_in c.loop-number.judged) (proofs_in c.judge_declaration.new.judged)
    c.loop-number-test.true c.decl-item.is c.loop-number.invariant c.in_ok-judge_declaration.ensures

pub returns : goal.returns
returns c =
    let program = program_of c.args.program.now in
    let outcomes = outcomes_in c.loop-number.judged in
    let logs = proofs_in c.loop-number.judged in
    subst (λ (decls : List Decl). AreJudged program c.args.groups.now c.args.budget 0 (map decl_of decls) outcomes logs) c.deref-decl-items.ensures.value
    (decls_all program c.args.groups.now c.args.budget c.deref-decl-items.result.now c.loop-number.number outcomes logs c.loop-number-test.false c.loop-number.invariant)
