use Rattle.source_reading.proofs.TreeLaws.{answers_read, fails_read}
use Rattle.source_reading.proofs.reading.tree.Goals as goal

pub returns-in-Ok-clause-tree : goal.returns-in-Ok-clause-tree
returns-in-Ok-clause-tree c = answers_read c.args.source.now c.deref.result.now c.parse.result (rw c.deref.ensures.value c.in-Ok.ensures.fits) c.parse.ensures.machine

pub returns-in-Err-clause-tree : goal.returns-in-Err-clause-tree
returns-in-Err-clause-tree c = fails_read c.args.source.now c.in-Err.fail c.in-Err.ensures.fits
