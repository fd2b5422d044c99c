use Rattle.std.proofs.Common.{◌≡◌, ◌++◌, ◌≤◌, List}
use Rattle.bv_term.specs.WellFormed.{Table}
use Rattle.lv_base.specs.declared.kind.Model.{Model}
use Rattle.code_moves.specs.Setting.{IsRoom}
use Rattle.code_moves.specs.Deeds.{Deed, AreDeeds}
use Rattle.code_moves.specs.Made as made
use Rattle.code_moves.specs.Moves.{draws_first}
use Rattle.code_moves.proofs.moves.draw_first.Given as goal

-- the elements so far
abbrev pub invariant-loop-element : goal.invariant-loop-element
invariant-loop-element l =
    ((model : Model) (table : Table) (deeds : List Deed) → IsRoom model l.room table.cells → l.count ≤ l.room.length → AreDeeds table l.initial.ops.items deeds → AreDeeds table l.ops.items (deeds ++ draws_first l.room l.kind l.element))
    × (l.ops.items ≡ made.draw_first l.initial.ops.items l.room l.kind l.element)
