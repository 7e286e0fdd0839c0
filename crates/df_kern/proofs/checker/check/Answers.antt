use Rattle.std.proofs.Common.{◌≡◌, map, ◌≤◌, length, arith}
use Rattle.std.proofs.lemmas.List.{length-map}
use Rattle.df_form.specs.Log.{step_of}
use Rattle.df_form.specs.SequentView.{sequent_of}
use Rattle.df_kern.proofs.Checks.{takes, fails, finishes, derives, is_taken, proves, step-at}
use Rattle.df_kern.proofs.checker.check.Goals as goal

pub returns-in-Err-clause-answers : goal.returns-in-Err-clause-answers
returns-in-Err-clause-answers c =
    let s = sequent_of c.args.sequent.now in
    let log = c.args.log.now in
    let at = step-at log c.loop-step.step-index c.step-item.result (omega arith) c.step-item.is in
    fails s (map step_of log) c.loop-step.step-index c.loop-step.checker c.loop-step.invariant c.take.new.self (step_of c.step-item.result) c.in-Err.fault at c.in-Err.ensures

pub loop-step-preserved : goal.loop-step-preserved
loop-step-preserved c =
    let s = sequent_of c.args.sequent.now in
    let log = c.args.log.now in
    let at = step-at log c.loop-step.step-index c.step-item.result (omega arith) c.step-item.is in
    takes s (map step_of log) c.loop-step.step-index c.loop-step.checker c.loop-step.invariant c.take.new.self (step_of c.step-item.result) at c.in-Ok.ensures

pub returns-clause-derives : goal.returns-clause-derives
returns-clause-derives c =
    let s = sequent_of c.args.sequent.now in
    let log = c.args.log.now in
    let past : length (map step_of log) ≤ c.loop-step.step-index = omega (arith, length-map log step_of) in
    derives s (map step_of log) c.loop-step.step-index c.loop-step.checker c.loop-step.invariant c.finish.result past c.finish.ensures.finishes

pub returns-clause-valid : goal.returns-clause-valid
returns-clause-valid c =
    let s = sequent_of c.args.sequent.now in
    let log = c.args.log.now in
    let past : length (map step_of log) ≤ c.loop-step.step-index = omega (arith, length-map log step_of) in
    proves s (map step_of log) c.loop-step.step-index c.loop-step.checker c.loop-step.invariant c.finish.result c.args.sequent.now.is_sequent past c.finish.ensures.finishes

pub returns-clause-answers : goal.returns-clause-answers
returns-clause-answers c =
    let s = sequent_of c.args.sequent.now in
    let log = c.args.log.now in
    let past : length (map step_of log) ≤ c.loop-step.step-index = omega (arith, length-map log step_of) in
    finishes s (map step_of log) c.loop-step.step-index c.loop-step.checker c.loop-step.invariant c.finish.result past c.finish.ensures.finishes

pub returns-clause-taken : goal.returns-clause-taken
returns-clause-taken c =
    let s = sequent_of c.args.sequent.now in
    let log = c.args.log.now in
    let all : length (map step_of log) ≡ c.loop-step.step-index = omega (arith, length-map log step_of) in
    is_taken s (map step_of log) c.loop-step.step-index c.loop-step.checker c.loop-step.invariant c.finish.result all c.finish.ensures.finishes
