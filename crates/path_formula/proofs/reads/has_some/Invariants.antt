use Rattle.std.proofs.Common.{◌≡◌, ◌+◌, ◌-◌}
use Rattle.path_formula.specs.Reads.{cells_from, some_needed}
use Rattle.path_formula.proofs.reads.has_some.Given as goal

abbrev pub invariant-loop-k : goal.invariant-loop-k
invariant-loop-k l =
    some_needed l.needed.keys (cells_from l.first l.count) ≡ some_needed l.needed.keys (cells_from (l.first + l.k) (l.count - l.k))
