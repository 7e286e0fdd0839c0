use Rattle.std.proofs.Common.{rules}
use Rattle.df_ntop.proofs.Texts.{line_put, line_cut, on_err}
use Rattle.df_ntop.proofs.putting.put_lines.Goals as goal

pub returns-in_err-put-clause-cut : goal.returns-in_err-put-clause-cut
returns-in_err-put-clause-cut g c =
    on_err c.from_residual.result _ (line_cut c.put.result c.in_err-put.field-0.0 _ _ _ c.args.text.now c.loop-start.start _ c.loop-start.invariant.put (search rules) c.put.ensures.failed c.put.ensures.memory)

pub loop-start-preserved : goal.loop-start-preserved
loop-start-preserved g c = record {
  within = search rules;
  put = line_put _ _ _ c.args.text.now c.loop-start.start c.line_end-end.result c.line_end-end.ensures.0 c.loop-start.invariant.put c.in_ok-put.ensures.took;
  counted = search rules;
  stays = search rules;
}
