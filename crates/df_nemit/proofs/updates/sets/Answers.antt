use Rattle.std.proofs.Common.{◌≡◌, ◌+◌, ◌-◌, ◌++◌, ◌∷◌, [], ℕ, take, arith, rules, ap, sym, ◌∙◌}
use Rattle.df_nmach.specs.declared.instruction.Instruction.TheVariants as i
use Rattle.df_nemit.specs.Code.{sets_code}
use Rattle.df_nemit.proofs.Tail.{sets_on}
use Rattle.df_nemit.proofs.updates.sets.Goals as goal

pub loop-left-preserved : goal.loop-left-preserved
loop-left-preserved c =
    let s = c.args.scratch in
    let ts = c.args.targets.now.items in
    let n = c.loop-left.left - 1 in
    let back : c.loop-left.left ≡ n + 1 = omega arith in
    record {
      within = omega arith;
      longer = omega arith;
      rest = sets_on s ts n c.index.result.now c.loop-left.code.items c.put.new.code.items _ (omega arith) (search rules)
          (c.in_ok-put.ensures.ok ∙ ap (λ (k : ℕ). c.loop-left.code.items ++ i.Set k ∷ []) c.in_ok-number.ensures)
          (ap (λ (k : ℕ). c.loop-left.code.items ++ sets_code s (take k ts)) (sym back) ∙ c.loop-left.invariant.rest);
    }
