use Rattle.std.proofs.Common.{arith}
use Rattle.slot_compiler.proofs.Building.{slots_step}
use Rattle.slot_compiler.proofs.rooms.slots_in.Goals as goal

pub loop-instruction-preserved : goal.loop-instruction-preserved
loop-instruction-preserved c =
    slots_step c.args.code.now c.loop-instruction.instruction-index _ c.loop-instruction.most c.in_ok-slots_of.field-0 c.larger-most.result (omega arith) c.loop-instruction.invariant c.in_ok-slots_of.ensures c.larger-most.ensures
