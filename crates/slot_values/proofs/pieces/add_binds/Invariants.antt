use Rattle.std.proofs.Common.{◌≡◌, ◌++◌, drop}
use Rattle.slot_code.specs.Values.{bind_code}
use Rattle.slot_values.proofs.pieces.add_binds.Given as goal

-- what is there and the rest are the whole
abbrev pub invariant-loop-object : goal.invariant-loop-object
invariant-loop-object l = l.code.items ++ bind_code l.place (drop l.object-index l.parameters) l.left ≡ l.initial.code.items ++ bind_code l.slot l.parameters l.count
