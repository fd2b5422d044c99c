-- Where a run over functions stands among the copies, move by move.
use Rattle.std.proofs.Common.{◌≡◌, ℕ, ℤ, List, [], ◌∷◌, Option, Some, None, refl, sym, ap, ◌∙◌, subst, slice_get}
use Rattle.bv_term.specs.WellFormed.{Table}
use Rattle.c_graph.specs.declared.graph.NodeId.{NodeId}
use Rattle.c_graph.specs.declared.graph.EdgeId.{EdgeId}
use Rattle.c_graph.specs.declared.graph.Node.{Node}
use Rattle.c_graph.specs.declared.graph.Node.TheVariants.{Error, Call}
use Rattle.c_graph.specs.declared.graph.Edge.{Edge}
use Rattle.c_graph.specs.declared.graph.Cell.{Cell}
use Rattle.c_graph.specs.Shape.{Flow, widths_of}
use Rattle.c_graph.specs.Steps.{IsWhole, Leads}
use Rattle.c_graph.specs.Functions.{FnFlow, Flows}
use Rattle.c_graph.specs.Runs.{RunsAlong}
use Rattle.function_runs.specs.Runs.{Along, Into, Back, Move, Return, Spot, return_to, spot, node_in, node_at, MovesBy, RunsBy}
use Rattle.call_inline.specs.declared.numbers.Copied.{Copied}
use Rattle.call_inline.specs.Inlining.{Among, IsInlining, edges_in, edges_of, entry_in, entry_of, nodes_in, nodes_of, step}
use Rattle.inline_laws.specs.Following.{InlinedRunsFollow}

-- the copy goes on where the innermost open call does, in a copy of the calling function, and so on
abbrev pub Chained : List Copied → (Copied → NodeId → NodeId) → Copied → List Return → Type 0
Chained copies number c [] = Unit {0}
Chained copies number c (r ∷ rest) =
    (d : Copied) × Among copies d × (d.function ≡ r.function) × (c.back ≡ Some (number d r.node)) × Chained copies number d rest

-- a run stands in this copy
pub record Stands (copies : List Copied) (number : Copied → NodeId → NodeId) (c : Copied) (s : Spot) : Type 0 where
  pub there : Among copies c
  pub function : c.function ≡ s.function
  pub chained : Chained copies number c s.returns

-- an edge of the graph goes from the one spot to the other
pub record Steps (g : Flow) (number : Copied → NodeId → NodeId) (c d : Copied) (s t : Spot) (draws : List ℤ) : Type 0 where
  pub edge : Edge
  pub number_of_edge : ℕ
  pub is : slice_get g.edges number_of_edge ≡ Some edge
  pub from : edge.from ≡ number c s.node
  pub to : edge.to ≡ number d t.node
  pub leads : Leads g.terms edge s.store draws t.store

-- the run goes on in some copy
abbrev pub Goes : Flow → List Copied → (Copied → NodeId → NodeId) → Copied → Spot → List ℤ → Spot → Type 0
Goes g copies number c s draws t = (d : Copied) × Stands copies number d t × Steps g number c d s t draws

node_found : (o : Option FnFlow) (v : NodeId) (x : Node) → node_in o v ≡ Some x → slice_get (nodes_of o) v.0 ≡ Some x
node_found None v x h = absurd (cc)
node_found (Some f) v x h = h

node-at : (p : Flows) (c : Copied) (s : Spot) (x : Node) → c.function ≡ s.function → node_at p s ≡ Some x → slice_get (nodes_in p c.function) s.node.0 ≡ Some x
node-at p c s x same h =
    subst (λ k. slice_get (nodes_in p k) s.node.0 ≡ Some x) (sym same) (node_found (slice_get p.graphs s.function) s.node x h)

along : (p : Flows) (g : Flow) (i : IsInlining p g) (e : EdgeId) (c : Copied) (s t : Spot) (draws : List ℤ)
    → Stands i.copies i.number c s → MovesBy p (Along e) s draws t → Goes g i.copies i.number c s draws t
along p g i e c s t draws h (f, edge, graph, own, from, (after, leads, is)) =
    let mid : Spot = spot s.function edge.to s.returns after in
    let new : Edge = record { from = i.number c edge.from; to = i.number c edge.to; ops = edge.ops } in
    let list : edges_in p c.function ≡ f.edges = ap (edges_in p) h.function ∙ ap edges_of graph in
    let own2 : Among (edges_in p c.function) edge = (e.0, subst (λ es. slice_get es e.0 ≡ Some edge) (sym list) own) in
    let a : Among g.edges new = i.edges c edge h.there own2 in
    let stands : Stands i.copies i.number c mid = record { there = h.there; function = h.function; chained = h.chained } in
    let steps : Steps g i.number c c s mid draws = record {
      edge = new;
      number_of_edge = a.0;
      is = a.1;
      from = ap (i.number c) from;
      to = refl;
      leads = subst (λ (t : Table). Leads t edge s.store draws after) (sym i.terms) leads;
    } in
    subst (λ z. Goes g i.copies i.number c s draws z) (sym is) (c, stands, steps)

into : (p : Flows) (g : Flow) (i : IsInlining p g) (c : Copied) (s t : Spot) (draws : List ℤ)
    → Stands i.copies i.number c s → MovesBy p Into s draws t → Goes g i.copies i.number c s draws t
into p g i c s t draws h (callee, next, f, at, graph, none, is) =
    let mid : Spot = spot callee f.entry (return_to s.function next ∷ s.returns) s.store in
    let (d, there, function, back, a) = i.calls c s.node callee next h.there (node-at p c s (Call callee next) h.function at) in
    let stands : Stands i.copies i.number d mid = record { there = there; function = function; chained = (c, h.there, h.function, back, h.chained) } in
    let steps : Steps g i.number c d s mid [] = record {
      edge = step (i.number c s.node) (i.number d (entry_in p callee));
      number_of_edge = a.0;
      is = a.1;
      from = refl;
      to = ap (λ o. i.number d (entry_of o)) graph;
      leads = refl;
    } in
    subst (λ z. Goes g i.copies i.number c s draws z) (sym is) (subst (λ zs. Goes g i.copies i.number c s zs mid) (sym none) (d, stands, steps))

back : (p : Flows) (g : Flow) (i : IsInlining p g) (c : Copied) (s t : Spot) (draws : List ℤ)
    → Stands i.copies i.number c s → MovesBy p Back s draws t → Goes g i.copies i.number c s draws t
back p g i c s t draws h (r, rest, exit, open_calls, none, is) =
    let mid : Spot = spot r.function r.node rest s.store in
    let (d, there, function, goes, chained) = subst (Chained i.copies i.number c) open_calls h.chained in
    let exit2 : slice_get p.exits c.function ≡ Some s.node = subst (λ k. slice_get p.exits k ≡ Some s.node) (sym h.function) exit in
    let a = i.returns c s.node (i.number d r.node) h.there exit2 goes in
    let stands : Stands i.copies i.number d mid = record { there = there; function = function; chained = chained } in
    let steps : Steps g i.number c d s mid [] = record {
      edge = step (i.number c s.node) (i.number d r.node);
      number_of_edge = a.0;
      is = a.1;
      from = refl;
      to = refl;
      leads = refl;
    } in
    subst (λ z. Goes g i.copies i.number c s draws z) (sym is) (subst (λ zs. Goes g i.copies i.number c s zs mid) (sym none) (d, stands, steps))

one : (p : Flows) (g : Flow) (i : IsInlining p g) (m : Move) (c : Copied) (s t : Spot) (draws : List ℤ)
    → Stands i.copies i.number c s → MovesBy p m s draws t → Goes g i.copies i.number c s draws t
one p g i (Along e) c s t draws h m = along p g i e c s t draws h m
one p g i Into c s t draws h m = into p g i c s t draws h m
one p g i Back c s t draws h m = back p g i c s t draws h m

-- the moves of a run are the path of a run of the graph
abbrev pub Arrives : Flow → List Copied → (Copied → NodeId → NodeId) → Copied → Spot → List ℤ → Spot → Type 0
Arrives g copies number c s draws t =
    (d : Copied) × Stands copies number d t × ((path : List EdgeId) × RunsAlong g path (number c s.node) s.store draws (number d t.node) t.store)

all : (p : Flows) (g : Flow) (i : IsInlining p g) (moves : List Move) (c : Copied) (s t : Spot) (draws : List ℤ)
    → Stands i.copies i.number c s → RunsBy p moves s draws t → Arrives g i.copies i.number c s draws t
all p g i [] c s t draws h (same, none) =
    subst (λ z. Arrives g i.copies i.number c s draws z) same (c, h, ([], (refl, refl, none)))
all p g i (m ∷ moves) c s t draws h (mid, first, rest, split, move, run) =
    let (d, stands, steps) = one p g i m c s mid first h move in
    let (last, there, along_path) = all p g i moves d mid t rest stands run in
    let (path, tail) = along_path in
    let e : EdgeId = record { 0 = steps.number_of_edge } in
    let tail2 : RunsAlong g path steps.edge.to mid.store rest (i.number last t.node) t.store =
    subst (λ v. RunsAlong g path v mid.store rest (i.number last t.node) t.store) (sym steps.to) tail in
    (last, there, (e ∷ path, (steps.edge, steps.is, steps.from, (mid.store, first, rest, split, steps.leads, tail2))))

pub inlined_runs_follow : InlinedRunsFollow
inlined_runs_follow p g draws kind at i (t, (f, moves, store, graph, whole, run), error) =
    let (c, first, function, none, entry) = i.main in
    let start : Spot = spot p.main f.entry [] store in
    let stands : Stands i.copies i.number c start = record { there = (0, first); function = function; chained = tt } in
    let (d, there, along_path) = all p g i moves c start t draws stands run in
    let (path, tail) = along_path in
    let begins : i.number c f.entry ≡ g.entry = sym (ap (λ o. i.number c (entry_of o)) graph) ∙ sym entry in
    let tail2 : RunsAlong g path g.entry store draws (i.number d t.node) t.store =
    subst (λ v. RunsAlong g path v store draws (i.number d t.node) t.store) begins tail in
    let whole2 : IsWhole (widths_of g.cells) store = subst (λ (cells : List Cell). IsWhole (widths_of cells) store) (sym i.cells) whole in
    (i.number d t.node, (t.store, (path, store, whole2, tail2), i.errors d t.node kind at there.there (node-at p d t (Error kind at) there.function error)))
