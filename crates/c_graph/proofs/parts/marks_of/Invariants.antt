use Rattle.std.proofs.Common.{◌≡◌, length, take}
use Rattle.c_graph.specs.Parts.{AllMarked, AreMarks}
use Rattle.c_graph.proofs.parts.marks_of.Given as goal

abbrev pub invariant-loop-edge : goal.invariant-loop-edge
invariant-loop-edge l = AreMarks (take l.edge-index l.edges) l.marks.items × AllMarked l.nodes (take l.edge-index l.edges) l.marks.items × (length l.marks.items ≡ l.nodes)
