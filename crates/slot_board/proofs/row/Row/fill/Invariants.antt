use Rattle.std.proofs.Common.{◌≡◌, ℕ, List, ℤ, length, ◌-◌}
use Rattle.slot_board.specs.Seen.{state}
use Rattle.slot_board.proofs.Elements.{Drawing}
use Rattle.slot_board.proofs.row.Row.fill.Given as goal

-- the elements before are drawn
abbrev pub invariant-elements : goal.invariant-elements
invariant-elements l =
    (length l.self ≡ length l.initial.self)
    × ((store : List (List ℤ)) (turns : ℕ) → Drawing l.inputs l.model l.kind (length l.initial.self) l.index l.self (state store l.initial.taken turns) (state store l.taken turns))

abbrev pub decreases-elements : goal.decreases-elements
decreases-elements l = length l.self - l.index
