use Rattle.std.proofs.Common.{◌≡◌, ◌+◌, ◌-◌}
use Rattle.path_formula.specs.Reads.{cells_from, with_cells}
use Rattle.path_formula.proofs.reads.need_all.Given as goal

abbrev pub invariant-loop-k : goal.invariant-loop-k
invariant-loop-k l =
    with_cells l.initial.needed.keys (cells_from l.first l.count) ≡ with_cells l.needed.keys (cells_from (l.first + l.k) (l.count - l.k))
