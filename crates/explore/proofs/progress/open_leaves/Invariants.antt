use Rattle.std.proofs.Common.{◌≡◌, ◌≤◌}
use Rattle.explore.specs.Open.{open_below}
use Rattle.explore.proofs.progress.open_leaves.Given as goal

abbrev pub invariant-loop-number : goal.invariant-loop-number
invariant-loop-number l = record {
  counted : l.open ≡ open_below l.graph l.unwinding l.number;
  few : l.open ≤ l.number;
}
