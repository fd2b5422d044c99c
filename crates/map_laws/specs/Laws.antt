-- A map that says the labels of a complete unwinding is inductive.
use Rattle.std.specs.Prelude.{◌≡◌, true}
use Rattle.bv_term.specs.WellFormed.{IsTable}
use Rattle.c_graph.specs.Shape.{Flow, IsFlow}
use Rattle.c_graph.specs.Runs.{Formulas, IsInductive, IsMapOf}
use Rattle.cover_engine.specs.Unwindings.{Unwound, is_complete}
use Rattle.cover_engine.specs.Units.{Legal}
use Rattle.invariant_map.specs.Labels.{SaysLabels}

abbrev pub ExtractedIsInductive : Type 0
ExtractedIsInductive =
    (g : Flow) (u : Unwound) (m : Formulas) → IsFlow g → IsTable u.terms → Legal g u → is_complete g u ≡ true
    → IsMapOf g m → SaysLabels g u m → IsInductive g m
