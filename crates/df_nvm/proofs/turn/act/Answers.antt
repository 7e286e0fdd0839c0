use Rattle.std.proofs.Common.{List, refl, ap, ◌∙◌, rules, to_z-of_z}
use Rattle.df_nmach.specs.declared.code.Shape.{Shape}
use Rattle.df_nvm.specs.mirror.Rows.{print_row}
use Rattle.df_nmach.specs.View.{heap_of, code_of, method_of}
use Rattle.df_nvm.specs.Frames.{running_of}
use Rattle.df_nvm.proofs.Acting.{acted, called, gave, put, number_effect, truth_effect, char_effect, jump_effect}
use Rattle.df_nvm.proofs.Effects.{set_effect, drop_effect, unary_effect, binary_effect, unless_effect, print_effect}
use Rattle.df_nvm.proofs.turn.act.Goals as goal

pub returns-in-Number-clause-turns : goal.returns-in-Number-clause-turns
returns-in-Number-clause-turns g c =
    acted c.push.result c.args.machine.now c.push.new.self _ _ (code_of c.args.code.now) (method_of c.args.method.now) _ c.args.instruction.now (number_effect (code_of c.args.code.now) (method_of c.args.method.now) (heap_of c.args.machine.now.heap) (running_of c.args.machine.now) c.in-Number.number) c.in-Number.is c.push.ensures.heap c.push.ensures.waiting (search (rules, to_z-of_z))

pub returns-in-Truth-clause-turns : goal.returns-in-Truth-clause-turns
returns-in-Truth-clause-turns g c =
    acted c.push-in-Truth.result c.args.machine.now c.push-in-Truth.new.self _ _ (code_of c.args.code.now) (method_of c.args.method.now) _ c.args.instruction.now (truth_effect (code_of c.args.code.now) (method_of c.args.method.now) (heap_of c.args.machine.now.heap) (running_of c.args.machine.now) c.in-Truth.truth) c.in-Truth.is c.push-in-Truth.ensures.heap c.push-in-Truth.ensures.waiting c.push-in-Truth.ensures.works

pub returns-in-Char-clause-turns : goal.returns-in-Char-clause-turns
returns-in-Char-clause-turns g c =
    acted c.push-in-Char.result c.args.machine.now c.push-in-Char.new.self _ _ (code_of c.args.code.now) (method_of c.args.method.now) _ c.args.instruction.now (char_effect (code_of c.args.code.now) (method_of c.args.method.now) (heap_of c.args.machine.now.heap) (running_of c.args.machine.now) c.in-Char.character) c.in-Char.is c.push-in-Char.ensures.heap c.push-in-Char.ensures.waiting c.push-in-Char.ensures.works

pub returns-in-Get-clause-turns : goal.returns-in-Get-clause-turns
returns-in-Get-clause-turns g c =
    acted c.get.result c.args.machine.now c.get.new.self _ _ (code_of c.args.code.now) (method_of c.args.method.now) _ c.args.instruction.now refl c.in-Get.is c.get.ensures.heap c.get.ensures.waiting c.get.ensures.works

pub returns-in-Set-clause-turns : goal.returns-in-Set-clause-turns
returns-in-Set-clause-turns g c =
    acted c.set.result c.args.machine.now c.set.new.self _ _ (code_of c.args.code.now) (method_of c.args.method.now) _ c.args.instruction.now (set_effect (code_of c.args.code.now) (method_of c.args.method.now) (heap_of c.args.machine.now.heap) (running_of c.args.machine.now) _) c.in-Set.is c.set.ensures.heap c.set.ensures.waiting c.set.ensures.works

pub returns-in-Drop-clause-turns : goal.returns-in-Drop-clause-turns
returns-in-Drop-clause-turns g c =
    acted c.discard.result c.args.machine.now c.discard.new.self _ _ (code_of c.args.code.now) (method_of c.args.method.now) _ c.args.instruction.now (drop_effect (code_of c.args.code.now) (method_of c.args.method.now) (heap_of c.args.machine.now.heap) (running_of c.args.machine.now)) c.in-Drop.is c.discard.ensures.heap c.discard.ensures.waiting c.discard.ensures.works

pub returns-in-Unary-clause-turns : goal.returns-in-Unary-clause-turns
returns-in-Unary-clause-turns g c =
    acted c.apply_unary.result c.args.machine.now c.apply_unary.new.self _ _ (code_of c.args.code.now) (method_of c.args.method.now) _ c.args.instruction.now (unary_effect (code_of c.args.code.now) (method_of c.args.method.now) (heap_of c.args.machine.now.heap) (running_of c.args.machine.now) _) c.in-Unary.is c.apply_unary.ensures.heap c.apply_unary.ensures.waiting c.apply_unary.ensures.works

pub returns-in-Binary-clause-turns : goal.returns-in-Binary-clause-turns
returns-in-Binary-clause-turns g c =
    acted c.apply_binary.result c.args.machine.now c.apply_binary.new.self _ _ (code_of c.args.code.now) (method_of c.args.method.now) _ c.args.instruction.now (binary_effect (code_of c.args.code.now) (method_of c.args.method.now) (heap_of c.args.machine.now.heap) (running_of c.args.machine.now) _) c.in-Binary.is c.apply_binary.ensures.heap c.apply_binary.ensures.waiting c.apply_binary.ensures.works

pub returns-in-Jump-clause-turns : goal.returns-in-Jump-clause-turns
returns-in-Jump-clause-turns g c =
    acted c.jump.result c.args.machine.now c.jump.new.self _ _ (code_of c.args.code.now) (method_of c.args.method.now) _ c.args.instruction.now (jump_effect (code_of c.args.code.now) (method_of c.args.method.now) (heap_of c.args.machine.now.heap) (running_of c.args.machine.now) _ c.len-count.result (search rules)) c.in-Jump.is c.jump.ensures.heap c.jump.ensures.waiting c.jump.ensures.works

pub returns-in-Unless-clause-turns : goal.returns-in-Unless-clause-turns
returns-in-Unless-clause-turns g c =
    acted c.jump_unless.result c.args.machine.now c.jump_unless.new.self _ _ (code_of c.args.code.now) (method_of c.args.method.now) _ c.args.instruction.now (unless_effect (code_of c.args.code.now) (method_of c.args.method.now) (heap_of c.args.machine.now.heap) (running_of c.args.machine.now) _ c.len-count.result (search rules)) c.in-Unless.is c.jump_unless.ensures.heap c.jump_unless.ensures.waiting c.jump_unless.ensures.works

pub returns-in-Sequence-clause-turns : goal.returns-in-Sequence-clause-turns
returns-in-Sequence-clause-turns g c =
    acted c.gather.result c.args.machine.now c.gather.new.self _ _ (code_of c.args.code.now) (method_of c.args.method.now) _ c.args.instruction.now refl c.in-Sequence.is c.gather.ensures.heap c.gather.ensures.waiting c.gather.ensures.works

pub returns-in-Call-clause-turns : goal.returns-in-Call-clause-turns
returns-in-Call-clause-turns g c = called c.call.result c.args.machine.now c.call.new.machine _ (code_of c.args.code.now) (method_of c.args.method.now) _ c.args.instruction.now c.in-Call.is c.call.ensures.heap c.call.ensures.enters

pub returns-in-Return-clause-turns : goal.returns-in-Return-clause-turns
returns-in-Return-clause-turns g c = gave c.give.result c.args.machine.now c.give.new.self _ (code_of c.args.code.now) (method_of c.args.method.now) _ c.args.instruction.now c.in-Return.is c.give.ensures.heap c.give.ensures.gives

pub returns-in-Print-clause-turns : goal.returns-in-Print-clause-turns
returns-in-Print-clause-turns g c =
    put c.print.result c.args.machine.now c.print.new.self _ _ _ (code_of c.args.code.now) (method_of c.args.method.now) _ c.args.instruction.now
    (ap (λ (l : List Shape). print_row l (heap_of c.args.machine.now.heap) (running_of c.args.machine.now) c.in-Print.shape) c.as_slice.ensures.value ∙ print_effect (code_of c.args.code.now) (method_of c.args.method.now) (heap_of c.args.machine.now.heap) (running_of c.args.machine.now) c.in-Print.shape)
    c.in-Print.is c.print.ensures.heap c.print.ensures.waiting c.print.ensures.puts
