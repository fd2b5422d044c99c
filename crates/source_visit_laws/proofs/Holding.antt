-- What an inductive map says along runs.
use Rattle.std.proofs.Common.{ℕ, ℤ, sym, subst, List, [], ◌∷◌}
use Rattle.std.specs.Prelude.{take}
use Rattle.c_graph.specs.declared.graph.EdgeId.{EdgeId}
use Rattle.c_graph.specs.declared.graph.NodeId.{NodeId}
use Rattle.c_graph.specs.Shape.{Flow, IsFlow, widths_of}
use Rattle.c_graph.specs.Steps.{IsWhole}
use Rattle.c_graph.specs.Runs.{Formulas, HoldsAt, IsInductive, RunsAlong}
use Rattle.c_graph.proofs.Keeping.{edge-fits, leads-whole}
use Rattle.source_visit_laws.specs.Laws.{VisitsHoldThere}

module _ (g : Flow) (m : Formulas) (flow : IsFlow g) (i : IsInductive g m) where
  -- a whole store that meets the formula of a node
  abbrev Meets : NodeId → List ℕ → Type 0
  Meets v store = IsWhole (widths_of g.cells) store × HoldsAt m v store

  along : (path : List EdgeId) (v w : NodeId) (store after : List ℕ) (draws : List ℤ) → Meets v store → RunsAlong g path v store draws w after → Meets w after
  along [] v w store after draws meets (to, same, none) = subst (λ (x : NodeId). Meets x after) to (subst (λ (s : List ℕ). Meets v s) same meets)
  along (e ∷ path) v w store after draws meets (edge, is, from, (mid, first, rest, split, leads, run)) =
      let fits = edge-fits g e.0 edge flow is in
      let before : IsWhole g.terms.cells store = subst (λ (ws : List ℕ). IsWhole ws store) (sym flow.cells) meets.0 in
      let whole : IsWhole (widths_of g.cells) mid = subst (λ (ws : List ℕ). IsWhole ws mid) flow.cells (leads-whole g.terms edge store first mid flow.table fits.operations before leads) in
      let holds : HoldsAt m edge.from store = subst (λ (x : NodeId). HoldsAt m x store) (sym from) meets.1 in
      along path edge.to w mid after rest (whole, i.edges e.0 edge store first mid is meets.0 holds leads) run

pub visits-hold : VisitsHoldThere
visits-hold s p g m flow i follow inputs l values there visit =
    let (taken, after, run, shows) = follow inputs l values there visit in
    let (path, store, whole, runs) = run in
    let meets = along g m flow i path g.entry l.node store after (take taken inputs) (whole, i.entry store whole) runs in
    (after, meets.0, meets.1, shows)
