-- What an exploration keeps stays so as the table of terms grows.
use Rattle.std.proofs.Common.{◌≡◌, ◌∙◌, ◌+◌, ◌≤◌, ℕ, List, [], ◌∷◌, length, length-append, slice_index_or, ap}
use Rattle.bv_term.specs.Laws.{Extends}
use Rattle.c_graph.specs.Shape.{Flow}
use Rattle.cover_engine.specs.Unwindings.{Unwound}
use Rattle.cover_engine.specs.Units.{Legal}
use Rattle.reach_tree.specs.declared.vertex.VertexId.{VertexId}
use Rattle.cover_engine.specs.declared.unit.UnitDone.TheVariants.{Refine}
use Rattle.resolution_log.specs.declared.Chain.{Chain}
use Rattle.refine.specs.Refinements.{IsStrengthened, OnlyGrows}
use Rattle.refine.specs.Witnesses.{Known}
use Rattle.refine.proofs.Knowing.{known_stays}
use Rattle.explore.specs.Ends.{IsReady}

pub ready_grows : (g : Flow) (units : ℕ) (old new : Unwound) (ws : List Known) → Extends old.terms new.terms → Legal g new → length new.journal ≤ units
    → IsReady g units old ws → IsReady g units new ws
ready_grows g units old new ws e legal few r = record {
  legal = legal;
  few = few;
  cells = e.0 ∙ r.cells;
  known = λ k d lt. known_stays old.terms new.terms (slice_index_or ws k d) e (r.known k d lt);
}

-- where terms came alone there are as many units as before, and after a Refine one more
pub same_units : (old new : Unwound) → OnlyGrows old new → length new.journal ≡ length old.journal
same_units old new h = ap (λ (u : Unwound). length u.journal) h.others

pub one_unit : {log : List Chain} (g : Flow) (old new : Unwound) (v : VertexId) → IsStrengthened g old new v log → length new.journal ≡ length old.journal + 1
one_unit g old new v h =
    ap (λ (u : Unwound). length u.journal) h.made ∙ length-append h.grown.journal (Refine v h.formulas ∷ [])
    ∙ ap (λ (n : ℕ). n + 1) (same_units old h.grown h.grows)
