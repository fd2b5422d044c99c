use Rattle.std.proofs.Common.{arith, refl}
use Rattle.slot_values.proofs.Rows.{bind_step, no_slots}
use Rattle.slot_values.proofs.pieces.add_binds.Goals as goal

pub returns-then-left-eq0 : goal.returns-then-left-eq0
returns-then-left-eq0 c = no_slots _ _ _ _ _ c.if-left-eq0.true c.loop-object.invariant

pub loop-object-preserved : goal.loop-object-preserved
loop-object-preserved c =
    bind_step c.args.parameters.now c.loop-object.object-index 0 c.loop-object.place c.in_ok-place.place c.loop-object.left _ c.loop-object.code.items c.add.new.code.items _
    (omega arith) (omega arith) refl c.in_ok-place.ensures.value c.in_ok-add.ensures c.loop-object.invariant
