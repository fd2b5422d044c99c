-- Explorations with enough units.
use Rattle.std.specs.Prelude.{ℕ, ◌≤◌, List, length}
use Rattle.c_graph.specs.declared.graph.EdgeId.{EdgeId}
use Rattle.c_graph.specs.Shape.{Flow, IsFlow}
use Rattle.cover_engine.specs.Units.{Legal}
use Rattle.explore.specs.declared.strategy.Explored.{Explored}
use Rattle.explore.specs.declared.strategy.Explored.TheVariants.{Complete, Feasible, Units, Learned, Over, OverLog}
use Rattle.explore.specs.Ends.{IsExplored, unwinding_of}
use Rattle.journal_length_laws.specs.Laws.{AreAllPaths, most_units}

-- an exploration ended since its units were spent
abbrev pub IsForUnits : Explored → Type 0
IsForUnits (Complete u) = ⊥
IsForUnits (Feasible u values) = ⊥
IsForUnits (Units u) = Unit {0}
IsForUnits (Learned u log) = ⊥
IsForUnits (Over u n) = ⊥
IsForUnits (OverLog u log) = ⊥

abbrev pub EnoughUnitsAreNotSpent : Type 0
EnoughUnitsAreNotSpent =
    (g : Flow) (paths : List (List EdgeId)) (units learn : ℕ) (e : Explored) → IsFlow g → AreAllPaths g paths → most_units (length paths) ≤ units
    → Legal g (unwinding_of e) → IsExplored g units learn e → IsForUnits e → ⊥
