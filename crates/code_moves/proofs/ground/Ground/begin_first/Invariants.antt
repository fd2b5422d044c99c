use Rattle.std.proofs.Common.{◌≡◌, ◌++◌, ◌≤◌, List}
use Rattle.code_moves.specs.Setting.{setting_of, Stands, IsRoom, site_of}
use Rattle.code_moves.specs.Deeds.{Deed, AreDeeds, Does}
use Rattle.code_moves.specs.Made as made
use Rattle.code_moves.specs.Moves.{begins_first}
use Rattle.code_moves.proofs.ground.Ground.begin_first.Given as goal

-- the elements so far
abbrev pub invariant-loop-element : goal.invariant-loop-element
invariant-loop-element l =
    ((deeds : List Deed) → Stands (setting_of l.self) l.initial.words → IsRoom l.self.model l.room l.initial.words.terms.cells → l.count ≤ l.room.length → AreDeeds l.initial.words.terms l.initial.ops.items deeds
    → Does l.initial.words l.words l.ops.items (deeds ++ begins_first (setting_of l.self) l.room l.slot l.values l.element))
    × ((l.words, l.ops.items) ≡ made.begin_first (site_of (setting_of l.self)) l.initial.words l.initial.ops.items l.slot l.room l.element l.values)
