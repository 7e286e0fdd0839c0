use Rattle.std.proofs.Common.{◌≡◌, List, map, subst, arith, sym, ◌∙◌}
use Rattle.std.specs.Global.{Vec}
use Rattle.std.proofs.lemmas.List.{map-id}
use Rattle.std.proofs.lemmas.Iterator.Adapters.{YieldsList-from_vec}
use Rattle.std.proofs.lemmas.Iterator.Consumers.{YieldsList-end}
use Rattle.df_logtext.specs.View.{logs_of}
use Rattle.df_nverdict.specs.declared.judging.Proof.{Proof}
use Rattle.df_nproof.specs.Proofs.{logs_in}
use Rattle.df_nproof.proofs.Logs.{logs_added}
use Rattle.df_nproof.proofs.writing.logs.Goals as goal

pub loop-of_method-preserved : goal.loop-of_method-preserved
loop-of_method-preserved c =
    logs_added c.loop-of_method.logs.items c.add_logs.new.logs.items c.in-Some.of_method c.loop-of_method.yielded c.loop-of_method.invariant c.in_ok-add_logs.ensures

pub returns : goal.returns
returns c =
    let begun = c.into_iter-of_method-iterator.ensures.into_iter_gives in
    let all = c.args.proofs in
    let ended = YieldsList-end (YieldsList-from_vec all.items begun.0 (omega (arith, begun.1, all.ok.0, all.ok.1))) c.loop-of_method.yielded _ c.loop-of_method.yielded_by c.next.result c.next.new.self c.in-None.is c.next.ensures.steps in
    subst (λ (pss : List (Vec Proof)). logs_of c.loop-of_method.logs.items ≡ logs_in (map (λ of_method. of_method.items) pss)) (sym (map-id c.loop-of_method.yielded) ∙ ended.0) c.loop-of_method.invariant
