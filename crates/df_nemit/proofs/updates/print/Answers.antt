use Rattle.std.proofs.Common.{List, map, refl, arith, rules}
use Rattle.std.proofs.Math.Nat.{le_trans}
use Rattle.df_nplain.specs.declared.stmt.Operand.{Operand}
use Rattle.df_nplain.specs.StmtView.{operand_of}
use Rattle.df_nmach.specs.declared.instruction.Instruction.{Instruction}
use Rattle.df_nemit.specs.mirror.Emitting.{emit_operand, emit_operands}
use Rattle.df_nemit.proofs.Walk.{goes_on, is_done}
use Rattle.df_nemit.proofs.updates.print.Goals as goal

pub returns-in_err-operand-clause-longer : goal.returns-in_err-operand-clause-longer
returns-in_err-operand-clause-longer c = le_trans c.loop-one.invariant.longer c.operand.ensures.longer

pub loop-one-preserved : goal.loop-one-preserved
loop-one-preserved c =
    let s = c.args.scratch in
    let run : List Instruction → List Operand → List Instruction = λ code xs. emit_operands s code (map operand_of xs) in
    let step : List Instruction → Operand → List Instruction = λ code x. emit_operand s code (operand_of x) in
    record {
      longer = le_trans c.loop-one.invariant.longer c.operand.ensures.longer;
      rest = goes_on run step (λ code x xs. refl) (λ code. refl) c.args.operands.now.items _ c.loop-one.one-index c.loop-one.code.items c.operand.new.code.items c.one-item.result (omega arith) (search rules) c.in_ok-operand.ensures.ok c.loop-one.invariant.rest;
    }

pub returns-clause-ok : goal.returns-clause-ok
returns-clause-ok c =
    let s = c.args.scratch in
    let run : List Instruction → List Operand → List Instruction = λ code xs. emit_operands s code (map operand_of xs) in
    let step : List Instruction → Operand → List Instruction = λ code x. emit_operand s code (operand_of x) in
    is_done run step (λ code x xs. refl) (λ code. refl) c.args.operands.now.items _ c.loop-one.one-index c.loop-one.code.items (omega arith) c.loop-one.invariant.rest
