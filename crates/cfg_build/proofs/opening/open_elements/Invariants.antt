use Rattle.std.proofs.Common.{◌≡◌, ◌++◌, List, slice_index}
use Rattle.lv_base.specs.Integers.{width_of}
use Rattle.bv_term.specs.WellFormed.{IsArray}
use Rattle.code_layout.specs.Layout.{elements_of}
use Rattle.code_moves.specs.Deeds.{Deed, AreDeeds, Does}
use Rattle.cfg_build.specs.Graphs.{first_sets}
use Rattle.cfg_build.specs.Openings as made
use Rattle.cfg_build.proofs.opening.open_elements.Given as goal

-- the elements so far
abbrev pub invariant-loop-element : goal.invariant-loop-element
invariant-loop-element l =
    ((deeds : List Deed) → IsArray l.initial.words.terms.cells l.first (elements_of l.object) → slice_index l.initial.words.terms.cells l.first ≡ width_of l.object.kind l.fn.model → AreDeeds l.initial.words.terms l.initial.ops.items deeds
    → Does l.initial.words l.words l.ops.items (deeds ++ first_sets l.first l.bits l.object l.element))
    × ((l.words, l.ops.items) ≡ made.open_first l.initial.words l.initial.ops.items l.first l.bits l.object l.element)
