use Rattle.std.proofs.Common.{◌≡◌, drop}
use Rattle.c_typed.specs.Parts.{tree_of}
use Rattle.slot_code.specs.Programs as p
use Rattle.slot_code.specs.Slots.{slots_in}
use Rattle.slot_compiler.specs.Growing.{built_of}
use Rattle.slot_compiler.proofs.programs.compiled.Given as goal

-- the functions so far and the rest are the whole, and the slots are counted
abbrev pub invariant-loop-number : goal.invariant-loop-number
invariant-loop-number l = record {
  code : p.code_behind (tree_of l.typed) (built_of l.built) (drop l.number-index l.order) ≡ p.code_of (tree_of l.typed) l.order;
  slots : l.built.slots ≡ slots_in l.built.instructions.items;
}
