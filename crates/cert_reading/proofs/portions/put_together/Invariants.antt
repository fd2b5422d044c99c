use Rattle.cert_reading.specs.Portions.{IsReadTo}
use Rattle.cert_reading.proofs.portions.put_together.Given as goal

abbrev pub invariant-loop-portion : goal.invariant-loop-portion
invariant-loop-portion l = (goal.iterator-loop-portion).can_next l.portion-iterator × (goal.iterator-loop-portion).is_finite l.portion-iterator × IsReadTo l.task.bytes.now l.whole
