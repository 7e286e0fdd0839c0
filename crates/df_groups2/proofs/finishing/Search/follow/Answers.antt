use Rattle.std.proofs.Common.{◌≡◌, ◌+◌, List, [], ◌∷◌, ◌++◌, map, take, get_or, sym, ap, ◌∙◌, append_assoc}
use Rattle.std.proofs.lemmas.List.{take_more, map_push}
use Rattle.df_groups2.specs.declared.finishing.Step.{Step}
use Rattle.df_groups2.specs.declared.finishing.Step.TheVariants.{Enter}
use Rattle.df_groups2.proofs.finishing.Search.follow.Goals as goal

pub loop-target-preserved : goal.loop-target-preserved
loop-target-preserved c =
    let all = c.args.targets.now in
    let i = c.loop-target.target-index in
    let step : Step = Enter (get_or all i 0) in
    let old = c.args.self.now.steps.items in
    let next : map Enter (take (i + 1) all) ≡ map Enter (take i all) ++ step ∷ [] = ap (map Enter) (take_more all i 0 c.loop-target-test.true) ∙ map_push Enter (take i all) (get_or all i 0) in
    record {
      entered = c.loop-target.invariant.entered;
      finished = c.loop-target.invariant.finished;
      steps =
          c.in_ok-push.ensures.items ∙ ap (λ (l : List Step). l ++ step ∷ []) c.loop-target.invariant.steps ∙ append_assoc old (map Enter (take i all)) (step ∷ [])
          ∙ ap (λ (l : List Step). old ++ l) (sym next);
    }
