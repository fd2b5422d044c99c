use Rattle.std.proofs.Common.{◌≡◌, ◌+◌, length, map, drop, All}
use Rattle.path_formula.specs.Paths.{AreThere, IsStep}
use Rattle.path_formula.specs.Questions.{needed_along, planned, plans}
use Rattle.path_formula.proofs.path.steps_of.Given as goal

abbrev pub invariant-loop-left : goal.invariant-loop-left
invariant-loop-left l =
    (length l.steps.items + l.left ≡ length l.path) × All (IsStep l.graph) l.steps.items × AreThere l.graph.terms.cells l.needed.keys
    × (map planned l.steps.items ≡ plans l.graph (drop l.left l.path)) × (l.needed.keys ≡ needed_along l.graph (drop l.left l.path))

abbrev pub decreases-loop-left : goal.decreases-loop-left
decreases-loop-left l = l.left
