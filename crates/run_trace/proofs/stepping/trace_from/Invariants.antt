use Rattle.std.proofs.Common.{◌≡◌}
use Rattle.typed_range_laws.specs.Guards as guards
use Rattle.slot_code.specs.Machine as flat
use Rattle.slot_board.specs.Boards.{state_of, shape_of}
use Rattle.run_trace.specs.Runs.{follow_from}
use Rattle.run_trace.proofs.stepping.trace_from.Given as goal

-- what is left of the run, behind what was told, is all of it
abbrev pub invariant-steps : goal.invariant-steps
invariant-steps l =
    (follow_from l.model l.inputs l.code (flat.machine l.place l.board.slots.items (state_of l.board)) l.trail
    ≡ follow_from l.model l.inputs l.code (flat.machine l.start l.initial.board.slots.items (state_of l.initial.board)) l.initial.trail)
    × (shape_of l.board ≡ shape_of l.initial.board)

abbrev pub decreases-steps : goal.decreases-steps
decreases-steps l = flat.rank l.model (λ op kind x y. guards.guarded l.model op kind x y) l.inputs l.code (flat.machine l.place l.board.slots.items (state_of l.board))
