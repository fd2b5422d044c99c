use Rattle.stored_text.specs.Reading.{head_fault}
use Rattle.stored_text.proofs.Steps.{head_short}
use Rattle.stored_text.proofs.reading.head_end.Goals as goal

pub returns-then-at-bytes-clause-value : goal.returns-then-at-bytes-clause-value
returns-then-at-bytes-clause-value c = head_short c.args.head.now c.args.bytes.now c.loop-at.at (head_fault c.args.head.now 0 c.args.bytes.now) c.loop-at-test.true c.if-at-bytes.true c.loop-at.invariant.rest
