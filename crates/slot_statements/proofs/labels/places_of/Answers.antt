use Rattle.std.proofs.Common.{arith, ◌-◌}
use Rattle.slot_statements.proofs.Marking.{found_more}
use Rattle.slot_statements.proofs.labels.places_of.Goals as goal

pub loop-left-preserved : goal.loop-left-preserved
loop-left-preserved c = record {
  left = omega (arith, c.loop-left.invariant.left);
  places = found_more c.args.marks.now (c.loop-left.left - 1) c.loop-left.left _ c.index-marks-left.result c.loop-left.places c.add_place.new.places
      (omega (arith, c.loop-left.invariant.left, c.loop-left-test.true)) (omega (arith, c.loop-left-test.true)) c.index-marks-left.is c.loop-left.invariant.places c.in_ok-add_place.ensures;
}
