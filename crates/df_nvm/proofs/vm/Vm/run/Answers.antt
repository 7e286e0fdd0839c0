use Rattle.std.proofs.Common.{◌≡◌, ◌+◌, ℕ, reverse, take, arith, rules, refl, ap, sym, subst, ◌∙◌}
use Rattle.df_nmach.specs.State.{Code, State}
use Rattle.df_nmach.specs.Step.{machine_step}
use Rattle.df_nmach.specs.View.{heap_of}
use Rattle.df_nvm.specs.Frames.{running_of, waiting_of}
use Rattle.df_nvm.specs.Stack.{operands_of}
use Rattle.df_nvm.specs.Runs.{HasRun}
use Rattle.df_nvm.specs.Vm.{machine_of, code_in, words_in, frames_in}
use Rattle.df_nvm.proofs.Ending.{finish_runs, goes_on_by, is_cut_by}
use Rattle.df_nvm.proofs.Reached.{reached_none, reached_more, reached_end, reached_run, reached_cut}
use Rattle.df_nvm.proofs.Stays.{step_more}
use Rattle.df_nvm.specs.Room.{step_stays}
use Rattle.df_nvm.proofs.vm.Vm.run.Goals as goal

pub loop-init : goal.loop-init
loop-init g c =
    let m = c.args.self.machine in
    record {
      reached = reached_none (code_in c.args.self) (heap_of m.heap) (running_of m) (waiting_of m) (g.S.Sink.taken c.args.sink.now);
      code = search rules;
      counted = search rules;
      words = search rules;
      frames = search rules;
      stays = search rules;
    }

pub loop-preserved : goal.loop-preserved
loop-preserved g c = record {
  reached =
      reached_more (code_in c.args.self) _ c.loop.counter (machine_of c.loop.self) (machine_of c.advance.new.self) _ _ _ c.loop.invariant.reached
      (goes_on_by _ _ _ _ _ _ c.loop.invariant.code c.in-On.ensures.advances);
  code = c.in-On.ensures.code ∙ c.loop.invariant.code;
  counted = search rules;
  words = search rules;
  frames = search rules;
  stays = search rules;
}

pub returns-in-Ended-clause-runs : goal.returns-in-Ended-clause-runs
returns-in-Ended-clause-runs g c =
    let last = c.in-Ended.ensures.advances in
    let results = reverse (take c.in-Ended.count (operands_of c.advance.new.self.machine.stack)) in
    let steps = ap (λ (code : Code). machine_step code (machine_of c.loop.self)) (sym c.loop.invariant.code) ∙ last.0 in
    finish_runs c.finish.result (code_in c.args.self) _ c.args.fuel results (heap_of c.loop.self.machine.heap) (heap_of c.advance.new.self.machine.heap) _ _ c.finish.ensures (ap (λ (s : State). s.heap) last.3)
    (reached_end (code_in c.args.self) _ c.loop.counter c.args.fuel (machine_of c.loop.self) _ _ _ results (heap_of c.loop.self.machine.heap) c.loop.invariant.reached c.loop-test.true last.2 steps)

pub returns-in-Write-clause-runs : goal.returns-in-Write-clause-runs
returns-in-Write-clause-runs g c =
    let m = c.loop.self.machine in (
      c.loop.counter,
      c.loop-test.true,
      reached_cut (code_in c.args.self) _ c.loop.counter (heap_of m.heap) (running_of m) (waiting_of m) _ _ _ c.loop.invariant.reached (is_cut_by _ _ _ _ _ c.loop.invariant.code c.in-Write.ensures.advances.0),
    )

pub returns-in-Memory-clause-within : goal.returns-in-Memory-clause-within
returns-in-Memory-clause-within g c bare within =
    let stays = within.each c.loop.counter _ c.loop-test.true c.loop.invariant.reached.runs in
    let here = step_more (code_in c.args.self) (words_in c.args.self) (words_in c.loop.self) (frames_in c.args.self) (frames_in c.loop.self) (machine_of c.loop.self) c.loop.invariant.words c.loop.invariant.frames stays in
    let refused = c.in-Memory.ensures.within (c.loop.invariant.stays ∙ bare) (ap (λ (code : Code). step_stays code (words_in c.loop.self) (frames_in c.loop.self) (machine_of c.loop.self)) c.loop.invariant.code ∙ here) in
    absurd (refused refl)

pub returns-clause-runs : goal.returns-clause-runs
returns-clause-runs g c =
    let all : c.loop.counter ≡ c.args.fuel = omega arith in
    let m = c.loop.self.machine in
    subst (λ (n : ℕ). HasRun (code_in c.args.self) (machine_of c.args.self) n (g.S.Sink.taken c.args.sink.now) (g.S.Sink.taken c.loop.sink)) all
    (reached_run (code_in c.args.self) _ c.loop.counter (heap_of m.heap) (running_of m) (waiting_of m) _ _ _ c.loop.invariant.reached (search rules))
