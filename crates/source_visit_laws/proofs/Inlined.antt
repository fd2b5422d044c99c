-- A visit of a loop goes by the flat code and the graphs of functions to the graph of the whole.
use Rattle.std.proofs.Common.{ℕ, sym, subst}
use Rattle.std.specs.Prelude.{take}
use Rattle.c_typed.specs.Parts.{tree_of}
use Rattle.c_graph.specs.declared.graph.NodeId.{NodeId}
use Rattle.c_graph.specs.Runs.{RunsTo}
use Rattle.inline_visit_laws.proofs.Copies.{inlined-spots-follow}
use Rattle.program_visits.specs.Visiting.{Visits}
use Rattle.loop_visit_laws.proofs.Following.{loop-visits-follow}
use Rattle.source_visit_laws.specs.Laws.{InlinedVisitsFollow}
use Rattle.source_visit_laws.proofs.Listing.{listed-turn, loops-are-mains}

pub inlined-visits-follow : InlinedVisitsFollow
inlined-visits-follow t order p g typed ordered flows f i inputs l values there visit =
    let (own, among, at, node) = loops-are-mains p g i l there in
    let own_visit : Visits (tree_of t) inputs own.at values = subst (λ (n : ℕ). Visits (tree_of t) inputs n values) (sym at) visit in
    let (taken, store, run, shows) = loop-visits-follow t order p inputs own values typed ordered flows f (listed-turn t order p f own among) own_visit in
    let inlined = inlined-spots-follow p g i (take taken inputs) own.node store run in
    (taken, store, subst (λ (v : NodeId). RunsTo g (take taken inputs) v store) (sym node) inlined, shows)
