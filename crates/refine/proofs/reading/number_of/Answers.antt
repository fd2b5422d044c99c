use Rattle.std.proofs.Common.{arith}
use Rattle.prop.specs.Trues.{listed}
use Rattle.refine.proofs.Stores.{number_room}
use Rattle.refine.proofs.reading.number_of.Goals.{then-literal, else-literal}
use Rattle.refine.proofs.reading.number_of.Goals as goal

pub overflow_mul-number : goal.overflow_mul-number
overflow_mul-number c =
    let r = number_room (listed c.args.found.now) c.args.bits.now c.loop-left.left c.loop-left.number c.loop-left-test.true c.loop-left.invariant.0 c.requires c.loop-left.invariant.1 in
    omega (arith, r)

pub overflow_add-number : goal.overflow_add-number
overflow_add-number c =
    let r = number_room (listed c.args.found.now) c.args.bits.now c.loop-left.left c.loop-left.number c.loop-left-test.true c.loop-left.invariant.0 c.requires c.loop-left.invariant.1 in
    elim c.if-literal.branch [
      | then-literal w ↦ omega (arith, r, w.bit-is)
      | else-literal w ↦ omega (arith, r, w.bit-is)
    ]
