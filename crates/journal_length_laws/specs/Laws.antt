-- Journals are short where few paths begin at the entry.
use Rattle.std.specs.Prelude.{ℕ, ◌+◌, ◌*◌, ◌<◌, ◌≡◌, List, [], ◌∷◌, length, Contains, Some, slice_get}
use Rattle.c_graph.specs.declared.graph.NodeId.{NodeId}
use Rattle.c_graph.specs.declared.graph.EdgeId.{EdgeId}
use Rattle.c_graph.specs.declared.graph.Edge.{Edge}
use Rattle.c_graph.specs.Shape.{Flow, IsFlow}
use Rattle.cover_engine.specs.Unwindings.{Unwound}
use Rattle.cover_engine.specs.Units.{Legal}

-- edges of the graph that follow one another from a node on
abbrev pub IsPath : Flow → NodeId → List EdgeId → Type 0
IsPath g n [] = Unit {0}
IsPath g n (e ∷ es) = (edge : Edge) × (slice_get g.edges e.0 ≡ Some edge) × (edge.from ≡ n) × IsPath g edge.to es

-- each path that begins at the graph's entry is one of these. Where a cycle can be reached there are no such lists
abbrev pub AreAllPaths : Flow → List (List EdgeId) → Type 0
AreAllPaths g paths = (path : List EdgeId) → IsPath g g.entry path → Contains paths path

-- fewer units than this are made where so many paths begin at the entry
abbrev pub most_units : ℕ → ℕ
most_units p = p * p * p + p * p + 2 * p

abbrev pub JournalsAreShort : Type 0
JournalsAreShort =
    (g : Flow) (u : Unwound) (paths : List (List EdgeId)) → IsFlow g → AreAllPaths g paths → Legal g u → length u.journal < most_units (length paths)
