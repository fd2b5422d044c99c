use Rattle.std.proofs.Common.{arith}
use Rattle.c_typed.specs.Parts.{tree_of}
use Rattle.slot_compiler.specs.Growing.{built_of}
use Rattle.slot_compiler.proofs.Building.{order_step}
use Rattle.slot_compiler.proofs.programs.compiled.Goals as goal

pub loop-number-preserved : goal.loop-number-preserved
loop-number-preserved c = record {
  code = order_step (tree_of c.args.typed.now) c.args.order.now c.loop-number.number-index 0 (built_of c.loop-number.built) (built_of c.in_ok-built.built) _ (omega arith) c.loop-number.invariant.code c.in_ok-built.ensures.code;
  slots = c.in_ok-built.ensures.slots;
}
