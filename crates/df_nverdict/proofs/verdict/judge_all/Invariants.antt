use Rattle.std.proofs.Common.{map, take}
use Rattle.df_lang.specs.DeclView.{decl_of}
use Rattle.df_lang.specs.View.{program_of}
use Rattle.df_nverdict.specs.Verdict.{AreJudged}
use Rattle.df_nverdict.specs.View.{outcomes_in, proofs_in}
use Rattle.df_nverdict.proofs.verdict.judge_all.Given as goal

-- the declarations before this one are judged
abbrev pub invariant-loop-number : goal.invariant-loop-number
invariant-loop-number l = AreJudged (program_of l.program) l.groups l.budget 0 (map decl_of (take l.number l.decl-items)) (outcomes_in l.judged) (proofs_in l.judged)
