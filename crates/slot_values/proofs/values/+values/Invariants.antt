use Rattle.std.proofs.Common.{◌≡◌, ◌+◌, ◌++◌, take}
use Rattle.c_typed.specs.View.{values_of}
use Rattle.slot_code.specs.Values.{number_of}
use Rattle.slot_values.specs.Seen as seen
use Rattle.slot_values.proofs.values.+values.Given as goal

-- the code of those so far, and the slot behind them
abbrev pub invariant-add_values-loop-value : goal.invariant-add_values-loop-value
invariant-add_values-loop-value l = record {
  code : l.code.items ≡ l.initial.code.items ++ seen.values_code l.scene l.slot (values_of (take l.value-index l.values));
  place : l.place ≡ l.slot + number_of (values_of (take l.value-index l.values));
}

-- the code of those so far
abbrev pub invariant-add_dropped-loop-value : goal.invariant-add_dropped-loop-value
invariant-add_dropped-loop-value l = l.code.items ≡ l.initial.code.items ++ seen.drops_code l.scene l.slot (values_of (take l.value-index l.values))
