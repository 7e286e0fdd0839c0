use Rattle.std.proofs.Common.{◌≡◌, List, ◌++◌, map, subst, arith, append-nil, sym, ◌∙◌}
use Rattle.std.proofs.lemmas.List.{map-id}
use Rattle.std.proofs.lemmas.Iterator.Adapters.{YieldsList-from_vec}
use Rattle.std.proofs.lemmas.Iterator.Consumers.{YieldsList-end}
use Rattle.df_logtext.specs.View.{logs_of}
use Rattle.df_nverdict.specs.declared.judging.Proof.{Proof}
use Rattle.df_nproof.specs.Proofs.{log_in}
use Rattle.df_nproof.proofs.Logs.{log_added}
use Rattle.df_nproof.proofs.writing.add_logs.Goals as goal

pub loop-proof-init : goal.loop-proof-init
loop-proof-init c = sym (append-nil (logs_of c.args.logs.now.items))

pub loop-proof-preserved : goal.loop-proof-preserved
loop-proof-preserved c =
    log_added c.loop-proof.logs.items c.push.new.self.items c.in-Some.proof (logs_of c.args.logs.now.items) c.loop-proof.yielded c.loop-proof.invariant c.in_ok-push.ensures.items

pub returns : goal.returns
returns c =
    let begun = c.into_iter-proof-iterator.ensures.into_iter_gives in
    let all = c.args.proofs in
    let ended = YieldsList-end (YieldsList-from_vec all.items begun.0 (omega (arith, begun.1, all.ok.0, all.ok.1))) c.loop-proof.yielded _ c.loop-proof.yielded_by c.next.result c.next.new.self c.in-None.is c.next.ensures.steps in
    subst (λ (ps : List Proof). logs_of c.loop-proof.logs.items ≡ logs_of c.args.logs.now.items ++ map log_in ps) (sym (map-id c.loop-proof.yielded) ∙ ended.0) c.loop-proof.invariant
