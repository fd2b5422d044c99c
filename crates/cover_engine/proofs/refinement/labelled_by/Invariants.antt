use Rattle.std.proofs.Common.{◌≡◌, ◌++◌, drop}
use Rattle.cover_engine.specs.Keeping.{labelled}
use Rattle.cover_engine.proofs.refinement.labelled_by.Given as goal

abbrev pub invariant-loop-label : goal.invariant-loop-label
invariant-loop-label l = l.numbers.items ++ labelled (drop l.label-index l.labels) ≡ labelled l.labels
