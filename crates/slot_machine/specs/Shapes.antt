-- Code that fits the objects of a store.
use Rattle.std.specs.Prelude.{Bool, true, ◌&&◌, List, [], ◌∷◌, ℤ}
use Rattle.slot_code.specs.declared.flat.Instruction.{Instruction}
use Rattle.slot_board.specs.Seen.{fits}

-- each instruction that stores all values of an object has as many as the object has elements
abbrev pub all_fit : List (List ℤ) → List Instruction → Bool
all_fit store [] = true
all_fit store (x ∷ xs) = fits store x && all_fit store xs
