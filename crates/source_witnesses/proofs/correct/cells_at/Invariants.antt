use Rattle.std.proofs.Common.{◌≡◌, ◌++◌, drop}
use Rattle.block_join.specs.Living.{live_at}
use Rattle.source_witnesses.specs.Witnesses.{shown_from, shown_cells}
use Rattle.source_witnesses.proofs.correct.cells_at.Given as goal

-- the cells so far, and those that are left, are all
abbrev pub invariant-loop-number : goal.invariant-loop-number
invariant-loop-number l =
    l.found.items ++ shown_from (live_at l.live l.node.0) l.number (drop l.number l.cells) ≡ shown_cells (live_at l.live l.node.0) l.cells
