use Rattle.std.proofs.Common.{◌≡◌, ◌<◌, ◌≤◌, ℕ, true, false}
use Rattle.call_inline.specs.Sizes.{AreSizes, IsSettled, room}
use Rattle.call_inline.proofs.sizes.raise_all.Given as goal

abbrev pub invariant-loop-function : goal.invariant-loop-function
invariant-loop-function l = record {
  sizes : AreSizes l.graphs l.sizes.items;
  most : room l.sizes.items ≤ room l.initial.sizes.items;
  falls : l.raised ≡ true → room l.sizes.items < room l.initial.sizes.items;
  settled : l.raised ≡ false → (f : ℕ) → f < l.function → IsSettled l.graphs l.sizes.items f;
}
