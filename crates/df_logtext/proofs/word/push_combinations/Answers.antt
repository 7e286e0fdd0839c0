use Rattle.df_form.specs.Log.{combination_of}
use Rattle.df_logtext.specs.HasText.{HasCombination}
use Rattle.df_logtext.specs.StepText.{combination_words}
use Rattle.df_logtext.proofs.EachWritten.{words_more}
use Rattle.df_logtext.proofs.word.push_combinations.Goals as goal

pub loop-combination-preserved : goal.loop-combination-preserved
loop-combination-preserved c =
    let l = c.loop-combination in
    words_more combination_of HasCombination c.args.combinations.now l.combination-index c.combination-item.result c.loop-combination-test.true c.combination-item.is _ _ _ combination_words 32 l.invariant c.in_ok-push_combination.ensures
