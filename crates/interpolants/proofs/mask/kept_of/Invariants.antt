use Rattle.std.proofs.Common.{◌≡◌, ◌≤◌, length}
use Rattle.interpolants.specs.NamedCells.{IsMask}
use Rattle.interpolants.proofs.mask.kept_of.Given as goal

abbrev pub invariant-loop-number : goal.invariant-loop-number
invariant-loop-number l = record {
  few : l.number ≤ length l.bundles;
  long : length l.kept.items ≡ l.count;
  mask : IsMask l.bundles l.number l.kept.items;
}
